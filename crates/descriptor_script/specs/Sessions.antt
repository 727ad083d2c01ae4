-- Sessions: what one keeps, what a command does to it, runs, and the parts of the headline.
pub mod Headline
pub mod Session
pub mod SessionRun
pub mod Steps
pub mod Tickets
