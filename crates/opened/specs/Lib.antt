pub mod OpenPools
pub mod RowsById
