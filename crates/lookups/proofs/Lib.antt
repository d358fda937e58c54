pub mod Replies
pub mod Promised
pub mod CounterLists
pub mod CopyAnswers
