pub mod Builtins
pub mod Examples
pub mod BuiltinRuleLemmas
