pub mod Lines
pub mod Answers
pub mod Parts
pub mod Script
pub mod Ends
pub mod Moves
