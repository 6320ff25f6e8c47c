mod PathLaws
mod ChangeLaws
mod OrderLemmas
mod PlaceLemmas
mod EntryLemmas
mod TreeLemmas
mod MoveLemmas
mod ClosedLemmas
mod DoneLemmas
mod FoldLemmas
mod NamesLemmas
mod ListedLemmas
mod TextLemmas
pub mod CallerLemmas
