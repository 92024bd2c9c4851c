pub mod Cutting
pub mod Giving
pub mod Handling
pub mod Holding
pub mod Loosening
pub mod Responding
pub mod Volumes
