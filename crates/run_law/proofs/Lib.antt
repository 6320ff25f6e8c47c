mod HidingLemmas
mod JudgementLemmas
mod JudgingLaws
mod LeastLemmas
