-- Laws that belong to no one function: the passes over a table, packets, refusals, and what a tick comes to.
mod Refusing
mod Asking
mod Finishing
mod Ticking
mod Stepping
mod Waiting
mod Witness
