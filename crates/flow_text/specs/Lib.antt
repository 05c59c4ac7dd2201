pub mod FlowText
