pub mod Greatest
pub mod Instants
pub mod Typed
pub mod Range
