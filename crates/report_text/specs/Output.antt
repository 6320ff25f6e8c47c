-- What an output has taken: pieces of a text one after another, some of which it may still hold back.
use Rattle.std.specs.Prelude.{◌≡◌, ℕ, Bool, true, false, List, ◌++◌, MatchResult}
use Rattle.std.specs.declared.option.Option.{Option}
use Rattle.std.specs.declared.result.Result.{Result}
use Rattle.std.specs.Io.KnownBytes.{Appends}
use Rattle.std.specs.Borrow.{GName}
use Rattle.fuzzy_io.specs.Causes.{Rose, AppendsFront}

-- an output: the sink under it, with what it holds and how often it failed, the bytes that are held back, and whether it has failed
pub record OutputState : Type 0 where
  pub sink : GName
  pub holds : Option (List ℕ)
  pub faults : ℕ
  pub pending : List ℕ
  pub failed : Bool

-- while nothing failed, what was sent and what is held back are the text; after a failure a front of it was sent
abbrev pub HasTakenBy : Bool → Option (List ℕ) → ℕ → List ℕ → OutputState → Type 0
HasTakenBy false holds faults text now =
    (sent : List ℕ) × Appends holds now.holds sent × (text ≡ sent ++ now.pending) × (now.faults ≡ faults)
HasTakenBy true holds faults text now = AppendsFront holds now.holds text × Rose faults now.faults

-- the same, by whether the output has failed
abbrev pub HasTaken : Option (List ℕ) → ℕ → List ℕ → OutputState → Type 0
HasTaken holds faults text now = HasTakenBy now.failed holds faults text now

-- the output took this piece after all that it had taken
pub record Adds (old new : OutputState) (piece : List ℕ) : Type 0 where
  pub same : new.sink ≡ old.sink
  pub more : (holds : Option (List ℕ)) (faults : ℕ) (text : List ℕ) → HasTaken holds faults text old → HasTaken holds faults (text ++ piece) new

-- all that was taken has been sent, or a front of it
pub record Ends {T E : Type 0} (old new : OutputState) (result : Result T E) : Type 0 where
  pub same : new.sink ≡ old.sink
  pub all : (holds : Option (List ℕ)) (faults : ℕ) (text : List ℕ) → HasTaken holds faults text old →
      MatchResult result (λ _. Appends holds new.holds text × (new.faults ≡ faults)) (λ _. AppendsFront holds new.holds text × Rose faults new.faults)
