pub mod Replay
pub mod Histories
pub mod Promises
