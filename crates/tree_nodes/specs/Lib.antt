pub mod Nodes
pub mod Blocks
