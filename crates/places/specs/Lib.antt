pub mod Words
pub mod Choices
pub mod Rules
pub mod DigitCounts
pub mod Meanings
pub mod Made
pub mod Laws
pub mod Powers
