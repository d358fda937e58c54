pub mod ToldOwners
pub mod CopiedRows
pub mod CopiedCalls
