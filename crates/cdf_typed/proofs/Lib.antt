pub mod ListedTexts
pub mod Moments
pub mod Headers
