pub mod Exports
pub mod ExportedDemand3
