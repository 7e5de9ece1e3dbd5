pub mod Answer
pub mod Bytes
pub mod Clock
pub mod Format
pub mod Outcome
pub mod Refusal
