mod Shuffles
mod PlacesPlayed
mod CausalAnswers
mod PlayedNodes
mod GetAnswers
pub mod CallerLemmas
