mod OwnNodes
mod ReadAnswers
mod TellAnswers
mod TxAnswers
pub mod CallerLemmas
