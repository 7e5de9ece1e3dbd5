pub mod TreeNodes
pub mod Walks
pub mod Steps
pub mod Readings
pub mod Differing
