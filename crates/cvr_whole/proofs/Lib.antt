pub mod Runs
pub mod Statuses
pub mod Volumes
pub mod Lines
pub mod OneFile
