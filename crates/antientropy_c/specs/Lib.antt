pub mod Calls
pub mod Makes
pub mod Offers
pub mod Portions
pub mod RenewalCalls
pub mod Handoff
pub mod SlotCalls
pub mod Exchanges
