pub mod ListLaws
pub mod SetLaws
pub mod TextOrderLaws
pub mod OfferLemmas
pub mod SizeLaws
