pub mod Reading
pub mod Trees
pub mod Commands
pub mod Faults
