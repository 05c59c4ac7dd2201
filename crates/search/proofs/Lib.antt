pub mod Queuing
pub mod Spreading
pub mod Breadth
pub mod Walking
pub mod Bridging
pub mod Rooting
pub mod Flooded
