mod OneVerdict
mod StartLemmas
mod VerdictLemmas
