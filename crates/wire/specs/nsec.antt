pub mod Nsec
