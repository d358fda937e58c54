pub mod AppliedLines
pub mod OpenReadings
pub mod AdvancedLines
