-- Laws that belong to no one function. For callers: Probes (what a probe is), Corner (the specification's probe).
pub mod Probes
pub mod Corner
