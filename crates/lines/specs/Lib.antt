pub mod Lines
pub mod Said
pub mod Pieces
pub mod Each
