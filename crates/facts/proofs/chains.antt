-- Laws that belong to no one function. For the other modules: Table (what is noted), Walked (steps of a walk), Read (the sections of a message that was read).
pub mod Table
pub mod Walked
pub mod Read
