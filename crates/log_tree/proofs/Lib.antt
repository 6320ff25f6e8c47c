mod TreeAnswers
pub mod CallerLemmas
