pub mod Queues
pub mod Scenes
pub mod Searches
pub mod Roads
