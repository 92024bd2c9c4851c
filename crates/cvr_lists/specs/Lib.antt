pub mod AnyNames
pub mod NameRuns
pub mod Groups
pub mod Kept
pub mod ListLaws
pub mod SumLaws
