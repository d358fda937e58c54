pub mod HistoryLists
pub mod Sentences
