pub mod Kind
pub mod Members
pub mod Order
pub mod Version
pub mod Sizes
