mod Digits
pub mod Cuts
