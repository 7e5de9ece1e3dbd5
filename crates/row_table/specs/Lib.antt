pub mod Hashes
pub mod Tables
