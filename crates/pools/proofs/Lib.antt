pub mod PaddedRows
pub mod PoolLaws
pub mod ValidParts
pub mod ClosedPools
