pub mod FieldLaws
pub mod OneText
pub mod TextLaws
