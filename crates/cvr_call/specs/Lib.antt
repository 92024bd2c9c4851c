pub mod Given
pub mod Handle
pub mod Held
pub mod Offices
pub mod Pieces
pub mod Responds
pub mod Left
pub mod Volume
