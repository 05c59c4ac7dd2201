pub mod Laws
pub mod FlowTexts
pub mod FlowSpelledLemmas
