pub mod Groups
pub mod Handles
pub mod Lists
pub mod Places
pub mod Sets
pub mod Slots
pub mod Tables
pub mod Users
