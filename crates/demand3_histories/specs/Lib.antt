pub mod HistoryLists
