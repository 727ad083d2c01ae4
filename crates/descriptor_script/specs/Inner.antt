-- What the code's own contracts say, and what the public definitions are made of.
pub mod Counters
pub mod Live
pub mod Marks
pub mod Pools
pub mod Slots
pub mod Table
pub mod Taking
