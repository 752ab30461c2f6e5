-- Laws for callers: Times (a due time is exact, and within bounds), Keeping (which changes leave every kept time within bounds), Clear (a claim that sends
-- no probe before a time).
pub mod Times
pub mod Keeping
pub mod Clear
