pub mod ForeignPools
pub mod LedgerPools
pub mod NoneLost
pub mod Others
pub mod OthersStay
