pub mod RowNames
pub mod OpenPools
pub mod HalvedIds
