pub mod Trees
pub mod Jobs
pub mod Rehashes
