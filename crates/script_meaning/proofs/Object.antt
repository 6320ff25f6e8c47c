-- Objects.
pub mod CausalAnswers
pub mod CausalNodes
pub mod CausalRuns
pub mod DequeueRuns
pub mod Dequeuing
pub mod GetRuns
pub mod Getting
pub mod LaterNodes
pub mod ObjectAppends
pub mod ObjectKinds
pub mod ShardSets
