pub mod Text
pub mod Capacities
pub mod Cuts
