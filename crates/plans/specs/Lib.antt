pub mod Labels
pub mod Plans
