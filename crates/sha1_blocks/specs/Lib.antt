pub mod Fips180
pub mod Sixteen
