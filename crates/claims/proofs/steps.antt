-- Laws of a tick. For callers: Walk (how a property goes through the steps of a tick), Ticks (what every tick keeps, and the PTR reply at its step),
-- Spacing (a tick sends no probe too soon), Moves (what a tick does to one claim), Settles (after as many ticks at one time as there are steps nothing is due),
-- Holding (what a tick does to a held query).
pub mod Walk
pub mod Ticks
pub mod Spacing
pub mod Moves
pub mod Settles
pub mod Holding
