-- Laws of stops and updates. For callers: Stops (what a stop leaves, and what its goodbye has), Updates (what an update does to the claim and to the held queries,
-- and what every call but an update keeps of its time), Soon (two readings of the gap between updates).
pub mod Soon
pub mod Stops
pub mod Updates
