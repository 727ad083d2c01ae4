pub mod Inner
pub mod Scripted
pub mod Sessions
