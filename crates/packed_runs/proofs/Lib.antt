pub mod Words
pub mod Pushing
