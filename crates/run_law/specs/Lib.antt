pub mod Judging
pub mod LeastOf
