mod PartLemmas
mod Texts
