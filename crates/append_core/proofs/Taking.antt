-- Steps of a begun append in the column of a colour, and what a longer history has.
use Rattle.std.proofs.Common.{◌≡◌, ℕ, List, [], ◌∷◌, ◌++◌, true, refl, ap, sym, subst, inl, inr}
use Rattle.std.specs.List.{Contains}
use Rattle.std.proofs.lemmas.Bool.{or_left, or_right}
use mathlib.Core.List.{IsPrefix}
use Rattle.log_node.specs.declared.ids.Id.{Id}
use Rattle.log_node.specs.declared.node.At.{At}
use Rattle.log_node.specs.declared.node.At.TheVariants.{Event, Look}
use Rattle.log_node.specs.declared.node.Node.{Node}
use Rattle.log_node.specs.declared.marks.Mark.{Mark}
use Rattle.log_node.specs.declared.marks.Mark.TheVariants.{Number}
use Rattle.log_node.specs.declared.marks.Outcome.{Outcome}
use Rattle.log_node.specs.Order.{same_id}
use Rattle.log_node.specs.Seen.{BegunAppend}
use Rattle.log_node.specs.Sets.{has}
use Rattle.col_core.specs.declared.Entry.{Entry}
use Rattle.col_core.specs.History.{enters, has_entered}
use Rattle.col_core.proofs.CallerLemmas.{In, in_contains, entered_longer, same_id-refl}
use Rattle.stamp_board.specs.declared.view.Size.{Size}
use Rattle.stamp_board.specs.declared.view.View.{View}
use Rattle.chain_store.specs.declared.told.Told.{Told}
use Rattle.chain_store.specs.declared.hold.Hold.{Hold}
use Rattle.chain_store.specs.Histories.{entries_in}
use Rattle.chain_store.specs.Columns.{told_propose, told_settle}
use Rattle.chain_store.specs.Rows.{IsBegunRow}
use Rattle.chain_store.specs.Steps.{MatchAt}
use Rattle.chain_store.specs.Holds.{SameBut, MakesOneIn, LooksIn}
use Rattle.chain_store.specs.Going.{GoesOn}
use Rattle.append_core.specs.Helping.{IsStepIn}
use Rattle.chain_store.proofs.CallerLemmas.{looks_on, makes_on}

-- entries of a longer history

pub entries_split : (log more : List Told) → entries_in (log ++ more) ≡ entries_in log ++ entries_in more
entries_split [] more = refl
entries_split (t ∷ log) more = ap (λ (l : List Entry). t.entry ∷ l) (entries_split log more)

-- an id has entered that an entry of the history enters
pub entered_in : (log : List Told) (t : Told) (id : Id) → enters id t.entry.event ≡ true → In t log
    → has_entered id (entries_in log) ≡ true
entered_in [] t id it i = absurd i
entered_in (u ∷ log) t id it (inl is) =
    or_left (enters id u.entry.event) (has_entered id (entries_in log))
    (subst (λ (z : Told). enters id z.entry.event ≡ true) (sym is) it)
entered_in (u ∷ log) t id it (inr i) =
    or_right (enters id u.entry.event) (has_entered id (entries_in log)) (entered_in log t id it i)

-- so has the id of a node that was proposed
pub entered_proposed : (log : List Told) (colour by n : ℕ) (x : Node) (id : Id) → x.id ≡ id
    → Contains log (told_propose colour by x n) → has_entered id (entries_in log) ≡ true
entered_proposed log colour by n x id is there =
    entered_in log (told_propose colour by x n) id
    (subst (λ (i : Id). same_id i x.id ≡ true) is (same_id-refl x.id)) (in_contains log (told_propose colour by x n) there)

pub entered_more : (log more : List Told) (id : Id) → IsPrefix log more → has_entered id (entries_in log) ≡ true
    → has_entered id (entries_in more) ≡ true
entered_more log more id p e =
    subst (λ (l : List Told). has_entered id (entries_in l) ≡ true) p.1
    (subst (λ (l : List Entry). has_entered id l ≡ true) (sym (entries_split log p.0))
    (entered_longer (entries_in log) (entries_in p.0) id e))

-- steps of an append in one of its colours

module _ (g h : Hold) (b : BegunAppend) (k : ℕ) (coloured : has b.colours k ≡ true) (but : SameBut k g h) where
  pub proposed_on : (size : Size) (region : ℕ) (v : View) (mark : Mark) (at : At)
      → MatchAt at
      (λ _. (x : Node) × (n : ℕ) × IsBegunRow size region v b x × (mark ≡ Number n)
      × MakesOneIn k g h (told_propose k g.passes.number x n) at)
      (λ _. LooksIn k g h at)
      → GoesOn (IsStepIn b) g h
  proposed_on size region v mark (Event place) m =
      makes_on (IsStepIn b) k g h but (told_propose k g.passes.number m.0 m.1) (Event place) m.4 refl
      (coloured, sym m.2.of.id)
  proposed_on size region v mark (Look events) s = looks_on (IsStepIn b) k g h but s.0

  pub settled_on : (o : Outcome) (at : At)
      → MatchAt at (λ _. MakesOneIn k g h (told_settle g.passes.number b.id o) at) (λ _. LooksIn k g h at)
      → GoesOn (IsStepIn b) g h
  settled_on o (Event place) m =
      makes_on (IsStepIn b) k g h but (told_settle g.passes.number b.id o) (Event place) m refl (coloured, refl)
  settled_on o (Look events) s = looks_on (IsStepIn b) k g h but s.0
