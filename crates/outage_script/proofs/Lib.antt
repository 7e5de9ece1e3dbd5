pub mod Known
pub mod AnswerLemmas
pub mod LineLemmas
pub mod FeedLemmas
pub mod RunLemmas
