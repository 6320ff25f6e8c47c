-- Syncs and plays.
pub mod Greatest
pub mod PlayedOrders
pub mod PlayedPlaces
pub mod Playing
pub mod Plays
pub mod Shown
pub mod SyncAnswers
pub mod SyncCalls
pub mod SyncReplies
pub mod SyncingAll
