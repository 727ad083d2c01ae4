pub mod Errors
pub mod LayoutRegistries
pub mod Own
pub mod Managers
pub mod Stores
pub mod WholeSets
