pub mod Folding
pub mod Tokens
pub mod Beside
pub mod Laws
