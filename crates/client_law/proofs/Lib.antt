mod Lists
mod Counting
mod Keeping
mod Events
mod AppendOne
mod Above
mod Rows
mod Several
mod Syncs
mod Pulls
mod Origins
mod Unshown
mod Pieces
mod StampedReads
mod Replies
pub mod CallerLemmas
