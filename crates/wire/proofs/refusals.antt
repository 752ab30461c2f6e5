-- A call's tests: what they come to, typed and as a number.
pub mod Tests
