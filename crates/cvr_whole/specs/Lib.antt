pub mod Runs
pub mod Volumes
pub mod Votes
pub mod Lines
pub mod Examples
