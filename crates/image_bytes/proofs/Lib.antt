pub mod ImageRows
pub mod ReadColumns
pub mod RowFronts
pub mod WrittenImages
