pub mod HeldRows
pub mod CheckedPools
pub mod FoundDevices
pub mod DeviceAnswers
