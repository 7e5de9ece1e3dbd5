pub mod EmptySnapshot
