-- Appends.
pub mod AppendCases
pub mod AppendFinal
pub mod AppendNext
pub mod AppendOne
pub mod AppendRuns
pub mod AppendSeveral
pub mod AppendsBehind
pub mod BeginRow
pub mod FirstProposal
pub mod Points
