-- Laws of reading.
pub mod Zero
pub mod Owed
pub mod Gathered
pub mod Begun
pub mod Placed
pub mod Unrolled
