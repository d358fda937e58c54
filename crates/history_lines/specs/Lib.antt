pub mod Lines
pub mod Cuts
