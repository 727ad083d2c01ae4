-- What the code's own contracts say, and by which rows an allocator's value is read from its table.
pub mod Buckets
pub mod Grow
pub mod Ids
pub mod KeyOf
pub mod OpenOrdinals
pub mod Releases
pub mod RunSteps
pub mod Serves
pub mod SetAt
pub mod Stored
pub mod Walk
