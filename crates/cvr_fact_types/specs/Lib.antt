pub mod Columns
pub mod Facts
pub mod Orders
pub mod Text
