pub mod Fronts
pub mod Lemmas
