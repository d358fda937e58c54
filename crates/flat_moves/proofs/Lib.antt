pub mod FlatLists
pub mod WrittenMoves
