pub mod Hints
pub mod Renewals
pub mod Counts
pub mod Waits
pub mod Sizes
