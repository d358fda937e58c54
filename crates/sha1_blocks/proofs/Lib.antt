pub mod Padding
pub mod Schedule
pub mod Rounds
