pub mod Places
pub mod Shown
pub mod Answers
pub mod Outcomes
