mod PlaceLemmas
mod EventLemmas
mod WaitLemmas
mod NextLemmas
mod TrackLemmas
mod ClearLemmas
mod ClosingLemmas
