pub mod Deciding
pub mod SameRows
pub mod RowSteps
pub mod HeldRuns
pub mod DealtTables
