pub mod LineShapes
pub mod LineLimits
pub mod TextParts
