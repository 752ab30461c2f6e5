-- Laws of a packet received. For callers: Causes (a record asked for is left out exactly for a cause of the specification), Receives (what every packet received
-- keeps), Asking (what a message asks for, and which are judged at once).
pub mod Causes
pub mod Asking
pub mod Receives
