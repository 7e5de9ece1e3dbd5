pub mod CallLaws
pub mod MakeLaws
pub mod HintCallLaws
pub mod ExchangeLaws
pub mod PortionLaws
pub mod Structs
