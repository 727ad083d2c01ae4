pub mod HeldSets
pub mod NewAllocators
pub mod OneAgreement
pub mod Unchanged
pub mod WithoutPools
