-- Laws of start, packet received and tick. For callers: Refusals (what an accepted call says of its tests, and that a refusal changes nothing), Closure
-- (an accepted call's state is never refused for what it keeps), Causes (a record is wanted exactly where it is due and has no cause), Replying (the first question of a message is for a name), Runs (of every run: a lost claim
-- stays lost, and probes are 250 ms apart).
mod Refusing
mod Sending
mod Settling
pub mod Refusals
pub mod Closure
pub mod Causes
pub mod Replying
pub mod Runs
