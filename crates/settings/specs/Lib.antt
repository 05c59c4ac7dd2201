pub mod Headers
pub mod Settings
