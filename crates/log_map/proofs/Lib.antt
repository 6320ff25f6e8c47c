mod MapAnswers
pub mod CallerLemmas
