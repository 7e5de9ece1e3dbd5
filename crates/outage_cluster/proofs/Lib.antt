pub mod OutcomeSteps
pub mod ReplicaLaws
pub mod NodeLaws
pub mod SyncLaws
pub mod ListSteps
pub mod AnswerSteps
pub mod HandoffLaws
pub mod DeliveryLaws
