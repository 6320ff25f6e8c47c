mod LaterPlays
mod ReadAmong
mod PlayerAnswers
mod MapAnswers
pub mod CallerLemmas
