pub mod Contests
pub mod Keys
pub mod Rows
pub mod Text
pub mod Examples
