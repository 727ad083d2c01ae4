pub mod Exact
pub mod Readings
pub mod Rising
pub mod RowAt
pub mod TableBooks
pub mod Tables
