pub mod Opening
pub mod Promises
pub mod Finding
