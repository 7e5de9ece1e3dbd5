pub mod PlaceLaws
pub mod PathLaws
pub mod DirtyLaws
pub mod ClearingLaws
pub mod TreeLaws
pub mod ReadyLaws
pub mod BlockLaws
pub mod CopyLaws
