pub mod PutNumbers
