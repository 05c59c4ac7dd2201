pub mod Flows
pub mod FlowText
