pub mod Cleaning
pub mod Emptied
pub mod Splitting
pub mod Rotation
pub mod Counted
pub mod KeyOrder
pub mod OneKey
pub mod RowsCleaned
