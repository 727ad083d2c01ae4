pub mod Counting
pub mod Drained
pub mod Least
pub mod PoolCounts
pub mod Powers
pub mod Room
pub mod Sizes
