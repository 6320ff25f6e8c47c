mod Begins
mod Enough
mod MoreFacts
mod MoreReads
mod MoreAppends
mod MoreReplies
mod MoreRows
pub mod CallerLemmas
