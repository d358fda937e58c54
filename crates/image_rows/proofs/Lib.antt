pub mod ThreeNumbers
pub mod ToldPools
