pub mod LargerLaws
pub mod TableLaws
