pub mod ImageSizes
pub mod ByteNumbers
pub mod Fronts
