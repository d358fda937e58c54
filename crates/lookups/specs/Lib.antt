pub mod Counting
pub mod Copies
pub mod Promises
pub mod CounterLists
