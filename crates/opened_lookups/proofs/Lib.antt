pub mod OpenedPools
pub mod OpenedLookups
