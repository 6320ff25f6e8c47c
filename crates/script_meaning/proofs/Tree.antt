-- Trees.
pub mod ChangeRuns
pub mod NameRuns
pub mod TreeLaws
