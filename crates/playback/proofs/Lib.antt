mod GoingFirst
mod NextRegions
mod Counting
mod PlayedTo
mod Whole
mod Playing
mod Shown
mod ShownNext
mod OneChain
mod Steps
mod Merged
mod MergedLines
pub mod CallerLemmas
