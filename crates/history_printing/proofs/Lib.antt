pub mod Decimals
pub mod PutBehind
pub mod PrintedRows
