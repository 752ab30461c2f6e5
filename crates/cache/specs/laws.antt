-- What the rules come to, in the order of the specification's section 'The cache': statements about the definitions of `entries`, for a cache of any
-- size. Each has the name of its theorem in its comment; the theorems are in proofs/laws.
pub mod Slots
pub mod Flush
pub mod Found
pub mod Evict
pub mod Counts
pub mod Order
pub mod Ttl
