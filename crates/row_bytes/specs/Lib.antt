pub mod Rows
pub mod Reading
pub mod Outcome
pub mod Strips
