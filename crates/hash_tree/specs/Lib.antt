pub mod Leaves
pub mod Texts
pub mod Chunks
pub mod Blocks
pub mod Sizes
