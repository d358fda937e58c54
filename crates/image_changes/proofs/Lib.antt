pub mod MovedLists
