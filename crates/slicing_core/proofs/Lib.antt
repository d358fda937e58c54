pub mod Rows
pub mod DeviceRows
pub mod OwnerRows
pub mod Cutting
pub mod Pushing
pub mod Points
pub mod Fronts
