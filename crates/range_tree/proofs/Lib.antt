pub mod RowTextLaws
pub mod TreeLaws
pub mod NodeLaws
pub mod CleaningLaws
