pub mod Refusals
pub mod Bytes
