pub mod Shapes
pub mod Views
pub mod Looks
pub mod Promises
pub mod Tables
