pub mod DeviceCapacities
pub mod DeviceDues
pub mod GreatestDivisors
pub mod Nodes
pub mod Matches
