pub mod Caller
pub mod Inner
pub mod Model
