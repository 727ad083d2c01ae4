-- The scripted devices: their raw values, their words, and what they owe.
pub mod Device
pub mod Raw
pub mod Script
