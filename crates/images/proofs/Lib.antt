pub mod ImageLaws
pub mod PoolsRead
pub mod ReadAnswers
pub mod WriteAnswers
pub mod RoundTrips
pub mod OnImages
