-- Laws of playing, and the theorems: the lines that playing shows, and the states that they are compared with.
pub mod Laws
pub mod Runs
