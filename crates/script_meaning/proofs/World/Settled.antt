-- A node that waits in a marked colour no more is open there no more.
use Rattle.std.proofs.Common.{◌≡◌, ◌⊎◌, inl, inr, ℕ, List, [], ◌∷◌, Bool, true, false, Some, None, refl, ap, sym, subst, ◌∙◌}
use Rattle.std.specs.Prelude.{IsTrue, not, slice_get}
use Rattle.std.specs.List.{find}
use Rattle.std.proofs.lemmas.Bool.{ltb-true, and_parts}
use Rattle.log_node.specs.declared.ids.Id.{Id}
use Rattle.log_node.specs.declared.ids.Row.{Row}
use Rattle.log_node.specs.declared.node.Node.{Node}
use Rattle.log_node.specs.Order.{same_id}
use Rattle.log_node.specs.declared.marks.Why.{Why}
use Rattle.log_node.specs.declared.marks.Mark.{Mark}
use Rattle.log_node.specs.declared.marks.Mark.TheVariants as marks
use Rattle.log_node.specs.Outcomes.{is_missing}
use Rattle.log_node.specs.Standings.{Standing, is_open_id, open_entry}
use Rattle.col_core.specs.declared.Entry.{Entry}
use Rattle.col_core.specs.History.{entries, enters, has_entered}
use Rattle.col_core.specs.Log.{HasMark}
use Rattle.col_core.proofs.CallerLemmas.{by_test, apart, if_false, not_true, same_id-true, same_id-is, open_waits, In}
use Rattle.world_laws.specs.Worlds.{World, home_of, is_begun, row_of}
use Rattle.world_laws.specs.Laws.{IsReached, log_of}
use Rattle.world_laws.proofs.CallerLemmas.{slice_in, status_in, Held, entry_shown, is_waiting}
use Rattle.lawful_run.specs.Callers.{Caller}
use Rattle.lawful_run.specs.Appends.{IsSettledIn}
use Rattle.lawful_run.proofs.CallerLemmas.{settled_by_now}
use Rattle.script_meaning.proofs.World.Reached.{held_of, told_of}
use Rattle.script_meaning.proofs.Append.FirstProposal.{in_any}

find_none : {A : Type 0} (test : A → Bool) (xs : List A) → ((x : A) → In x xs → test x ≡ false) → find test xs ≡ None
find_none test [] h = refl
find_none test (x ∷ xs) h =
    if_false (test x) (Some x) (find test xs) (h x (inl refl)) ∙ find_none test xs (λ y i. h y (inr i))

-- an id that does not wait is not open
pub no_open : (w : World) → Held w → (r c : ℕ) (id : Id) → is_waiting (status_in (w.histories r c) id) ≡ false
    → open_entry id (entries (w.histories r c)) ≡ None
no_open w h r c id none = find_none (is_open_id id) (entries (w.histories r c)) each where
  each : (x : Standing) → In x (entries (w.histories r c)) → is_open_id id x ≡ false
  each x i =
      by_test _ (is_open_id id x)
      (λ t. let p = and_parts (not x.settled) (same_id x.key.id id) t in
      let same = same_id-true x.key.id id p.1 in
      let waits = open_waits x.key.id (status_in (w.histories r c) x.key.id) x (entry_shown w h r c x i)
      (not_true x.settled p.0) in
      absurd (apart _ (ap is_waiting (ap (status_in (w.histories r c)) (sym same) ∙ waits)) none))
      (λ f. f)

-- The node of a begun row, in a colour that has this mark.
module _ (w : World) (reached : IsReached w) (row : Row) (begun : is_begun w row ≡ true) (caller : Caller)
    (own_is : home_of w row.client ≡ caller.own) (node : Node) (id_is : (row_of w row).node.id ≡ node.id) (c : ℕ)
    (has_mark : HasMark (log_of w) node c ((row_of w row).marks c)) where
  -- it has entered, or never will
  for_good : (m : Mark) → (row_of w row).marks c ≡ m → is_missing m ≡ false
      → ((why : Why) × HasMark (log_of w) node c (marks.Fenced why))
      ⊎ IsTrue (has_entered node.id (w.histories caller.own c))
  for_good marks.None e set = absurd (let f : ⊥ = cc in f)
  for_good (marks.Fenced why) e set = inl (why, subst (HasMark (log_of w) node c) e has_mark)
  for_good (marks.Number s) e set =
      let p = ((told_of w reached).rows row.client row.number (ltb-true _ _ begun)).numbers c s e in
      let there : slice_get (w.histories caller.own c) p.0 ≡ Some p.1 =
      ap (λ (r : ℕ). slice_get (w.histories r c) p.0) (sym own_is) ∙ p.4 in
      let t : enters node.id p.1.event ≡ true =
      ap (enters node.id) p.5 ∙ same_id-is node.id (row_of w row).node.id (sym id_is) in
      inr (in_any (λ (x : Entry). enters node.id x.event) (w.histories caller.own c) p.1
      (slice_in (w.histories caller.own c) p.0 p.1 there) t)

  pub settled_in : is_missing ((row_of w row).marks c) ≡ false
      → is_waiting (status_in (w.histories caller.own c) node.id) ≡ false → IsSettledIn (log_of w) caller node c
  settled_in set none =
      settled_by_now (log_of w) caller node c (record {
        not_open = no_open w (held_of w reached) caller.own c node.id none;
        for_good = for_good ((row_of w row).marks c) refl set;
      })
