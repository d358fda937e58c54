pub mod Dues
pub mod GreatestDivisors
pub mod Tournament
