pub mod Promises
pub mod OnImages
