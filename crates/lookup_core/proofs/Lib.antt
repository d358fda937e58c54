pub mod HalvingSteps
pub mod Halves
pub mod PointLaws
pub mod ProbeSteps
pub mod Choosing
