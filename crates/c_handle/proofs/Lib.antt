pub mod HandleLaws
pub mod LentLaws
mod LentSteps
mod Shares
mod Steps
mod Words
