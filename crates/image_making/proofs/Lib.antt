pub mod StoredPools
