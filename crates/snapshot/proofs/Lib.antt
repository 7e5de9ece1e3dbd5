pub mod OrderLaws
pub mod RowLaws
pub mod ShownLaws
pub mod SizeLaws
