mod QueueAnswers
pub mod CallerLemmas
