pub mod Parts
pub mod Marks
pub mod Steps
pub mod Patches
pub mod Messages
