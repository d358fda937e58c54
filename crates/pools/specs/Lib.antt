pub mod Pools
pub mod Promises
