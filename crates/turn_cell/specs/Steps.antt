-- What each step on a cell's table tells the pass that makes it, and how passes are cut and joined.
use Rattle.std.specs.Prelude.{◌≡◌, ◌≢◌, ℕ, ◌+◌, List, [], ◌∷◌, ◌++◌, length, Option, Some, None}
use Rattle.std.specs.List.{AllByRecursion}
use mathlib.Core.List.{IsPrefix}
use Rattle.atomic_table.specs.Table.{Me, Step, rest}
use Rattle.turn_cell.specs.declared.view.Maker.{Maker}
use Rattle.turn_cell.specs.declared.view.Stage.{Stage}
use Rattle.turn_cell.specs.declared.view.Stage.TheVariants.{Idle, Holds, Parted}
use Rattle.turn_cell.specs.declared.view.View.{View}
use Rattle.turn_cell.specs.Histories.{IsLonger, IsWhole, maker, with_entry, with_own}

-- a pass on the table: what it knows, and the slots that it has taken
abbrev pub Holding : Type 0 → Type 0 → Type 0 → Type 0
Holding S E T = Me (Option S) (View E T)

abbrev pub next_number : Option ℕ → Option ℕ
next_number None = None
next_number (Some n) = Some (n + 1)

abbrev pub new_maker : {E : Type 0} → Option ℕ → Option (Maker E)
new_maker None = None
new_maker (Some n) = Some (maker n [])

module _ {E T : Type 0} where
  -- one that has seen as much, and has no number
  abbrev pub listener : Option T → List E → View E T
  listener t es =
      record { stage = Idle; tag = t; seen = es; heard = []; own = None; met = []; free = None }

  -- what is left of a pass that was joined to another
  abbrev pub spent : View E T
  spent = listener None []

  -- one with no number, made of a pass
  abbrev pub told : View E T → View E T
  told v = listener v.tag v.seen

  -- the giver of numbers, once it gave its next one
  abbrev pub giver_after : View E T → View E T
  giver_after v = record v { free = next_number v.free }

  -- one with the giver's next number
  abbrev pub numbered : View E T → View E T
  numbered v = record (listener v.tag v.seen) { own = new_maker v.free }

  -- v once w was joined to it, before the two lists are compared
  abbrev pub joined : View E T → View E T → View E T
  joined v w = record v { heard = w.seen; met = v.met ++ with_own w.own w.met }

  abbrev pub at_stage : Stage → View E T → View E T
  at_stage stage v = record v { stage = stage }

  abbrev pub with_seen : List E → Stage → View E T → View E T
  with_seen es stage v = record v { stage = stage; seen = es; heard = [] }

  -- v once it made this entry
  abbrev pub with_new : E → View E T → View E T
  with_new e v = record v { seen = v.seen ++ e ∷ []; own = with_entry e v.own }

  -- the list has, of each number that the view has or has met, just what was made under it
  abbrev pub Balances : (E → ℕ) → List E → View E T → Type 0
  Balances by log v = ((m : Maker E) → v.own ≡ Some m → IsWhole by log m) × AllByRecursion (IsWhole by log) v.met

-- of the step, the pass before, the number found and the pass after
abbrev pub Tale : Type 0 → Type 0 → Type 0 → Type 1
Tale S E T = Step (Option S) → Holding S E T → ℕ → Holding S E T → Type 0

module _ {S E T : Type 0} where
  -- where the turn was free, the pass has the value, which stands for the whole history; else nothing changed
  abbrev pub Takes : (S → List E → Type 0) → (E → ℕ) → (S → T) → Tale S E T
  Takes stands by tag_of st m found m' =
      (found ≡ 0
      → (x : S)
      × (es : List E)
      × (m' ≡ (with_seen es Holds m.0, (0, Some x) ∷ m.1))
      × IsPrefix m.0.seen es
      × stands x es
      × ((t : T) → m.0.tag ≡ Some t → tag_of x ≡ t)
      × Balances by es m.0)
      × (found ≢ 0 → m' ≡ m)

  -- the newest entry of the value in the slot is then seen and made, at the place that was found
  abbrev pub Raises : (S → Option E) → Tale S E T
  Raises newest st m found m' =
      (found ≡ length m.0.seen)
      × (m'.1 ≡ m.1)
      × ((x : S) (e : E) → m.1 ≡ (0, Some x) ∷ rest m.1 → newest x ≡ Some e → m'.0 ≡ with_new e m.0)

  abbrev pub Frees : Tale S E T
  Frees st m found m' = m' ≡ (at_stage Idle m.0, rest m.1)

  abbrev pub Parts : Tale S E T
  Parts st m found m' = m' ≡ (at_stage Parted m.0, rest m.1)

  -- Of what was seen and what was heard the longer is then seen, and the other begins it. It begins a history that has
  -- of the pass's numbers just what was made under them.
  abbrev pub Compares : (E → ℕ) → Tale S E T
  Compares by st m found m' =
      (es : List E) × (m' ≡ (with_seen es m.0.stage m.0, m.1)) × IsLonger m.0.seen m.0.heard es
      × (log : List E) × IsPrefix es log × Balances by log m.0
