mod TableLemmas
mod SameCalls
mod MapLemmas
mod TxLemmas
mod PastLemmas
mod LatestLemmas
mod CausalLemmas
mod Versions
mod FoldLemmas
pub mod CallerLemmas
