pub mod Items
pub mod View
pub mod Whole
pub mod Next
pub mod Loops
pub mod Order
pub mod Written
