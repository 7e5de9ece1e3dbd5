pub mod State
pub mod Handoff
pub mod Syncs
pub mod Homes
pub mod Slots
pub mod Offers
pub mod Acts
