pub mod FewPools
pub mod OwnDevice
pub mod OwnedAllocators
