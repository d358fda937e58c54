pub mod Steps
pub mod ExportedDemand3
pub mod Inhabited
pub mod Sentences
