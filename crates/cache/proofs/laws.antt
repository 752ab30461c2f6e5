-- The theorems that specs/laws states: Slots, Flush, Found, Whole (found after the whole message), Evict, Counts, Order, Ttl. Lemmas: Steps, Changes.
pub mod Slots
pub mod Steps
pub mod Changes
pub mod Flush
pub mod Found
pub mod Evict
pub mod Whole
pub mod Counts
pub mod Order
pub mod Ttl
