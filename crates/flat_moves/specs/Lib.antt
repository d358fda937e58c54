pub mod FlatMoves
