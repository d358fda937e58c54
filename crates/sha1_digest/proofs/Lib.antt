pub mod Blocks
pub mod TwelveBytes
