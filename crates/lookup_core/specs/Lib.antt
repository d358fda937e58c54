pub mod Halving
pub mod Probes
pub mod Probing
