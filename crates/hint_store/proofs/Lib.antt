pub mod HintLaws
pub mod RenewLaws
pub mod WaitLaws
pub mod SizeLaws
