-- Laws of stops and updates. For callers: Accepted (the tests that an accepted update has passed), Stops (a stop leaves both claims lost for good), Updates (what an
-- update does), Data (the data of a run, and the gaps between its updates).
mod Changing
pub mod Accepted
pub mod Stops
pub mod Updates
pub mod Data
