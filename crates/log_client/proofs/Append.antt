-- Appends.
pub mod Alone
pub mod AppendCases
pub mod AppendReplies
pub mod AppendsNothing
pub mod NextAnswers
pub mod NextReplies
pub mod OwnMore
pub mod RowCalls
pub mod RowReplies
pub mod Several
pub mod UnshownAppends
pub mod Wanting
