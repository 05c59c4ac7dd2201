pub mod Blank
pub mod Names
pub mod NamesLemmas
