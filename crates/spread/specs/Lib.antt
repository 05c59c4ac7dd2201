pub mod Spreads
pub mod Summaries
