pub mod Splitting
pub mod DigitWords
pub mod NumberWords
