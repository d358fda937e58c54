pub mod Listing
pub mod Changes
