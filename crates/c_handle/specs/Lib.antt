pub mod Handles
pub mod Shares
