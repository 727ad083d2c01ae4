-- The model: books and ledger, and what each call makes of them. Who doubts a claim reads this folder.
pub mod Agreement
pub mod Books
pub mod Cleanup
pub mod Foreign
pub mod FreshPools
pub mod Grants
pub mod Load
pub mod OneByOne
pub mod Outcomes
pub mod Promises
pub mod Release
pub mod Runs
pub mod Shares
