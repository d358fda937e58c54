pub mod LabelSteps
pub mod FirstDevices
pub mod Merging
pub mod NextTables
pub mod Planning
