pub mod Lists
pub mod RowBounds
pub mod AddedSums
pub mod RecordWalk
