pub mod Copy
pub mod LocalArrays
pub mod Locals
pub mod Plainly
pub mod While
