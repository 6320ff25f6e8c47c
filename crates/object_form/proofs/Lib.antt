pub mod CallerLemmas
mod NumberLemmas
mod JoinLemmas
mod KeyLemmas
mod CutLemmas
mod PairLaws
mod VersionLaws
mod FormLaws
mod LengthLaws
