mod DecisionLaws
mod WaitingLemmas
mod DecidedLemmas
mod KnownLemmas
mod StayLemmas
mod RestLemmas
mod VerdictLemmas
mod AgreementLemmas
mod RuledLemmas
mod UndecidedLemmas
mod WorkedRows
pub mod CallerLemmas
