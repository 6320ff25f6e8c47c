mod WriteLemmas
mod LatestWrites
mod LineLemmas
mod MapLines
mod MapReads
pub mod CallerLemmas
