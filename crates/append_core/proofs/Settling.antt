-- One more colour of an append is settled.
use Rattle.std.proofs.Common.{◌≡◌, ◌≢◌, ℕ, ◌+◌, List, length, Option, Some, None, slice_get, refl, ap, sym, subst, ◌∙◌, arith, inl, inr}
use Rattle.std.proofs.lemmas.Bool.{cases_eq}
use Rattle.std.proofs.lemmas.Option.{slice_get_within}
use Rattle.log_node.specs.declared.node.At.{At}
use Rattle.log_node.specs.declared.node.At.TheVariants.{Event, Look}
use Rattle.log_node.specs.declared.node.Node.{Node}
use Rattle.log_node.specs.declared.marks.Outcome.{Outcome}
use Rattle.log_node.specs.declared.marks.Outcome.TheVariants.{Final}
use Rattle.log_node.specs.Sets.{members}
use Rattle.log_node.specs.Standings.{open_entry}
use Rattle.col_core.specs.History.{entries, entry_key, line}
use Rattle.col_core.specs.Ids.{IsFinal}
use Rattle.stamp_board.specs.Seats.{IsLater}
use Rattle.stamp_board.proofs.CallerLemmas.{Learns-from, outcome_learnt}
use Rattle.chain_store.specs.declared.told.Told.{Told}
use Rattle.chain_store.specs.declared.hold.Hold.{Hold}
use Rattle.chain_store.specs.declared.region.Region.{Region}
use Rattle.chain_store.specs.Columns.{told_settle}
use Rattle.chain_store.specs.Going.{GoesOn}
use Rattle.chain_store.specs.Histories.{entries_in}
use Rattle.chain_store.specs.Rows.{place_after}
use Rattle.chain_store.specs.Steps.{MatchAt}
use Rattle.chain_store.specs.Holds.{SameBut, MakesOneIn, LooksIn, entries_seen, view_of}
use Rattle.chain_store.proofs.CallerLemmas.{goes_then, goes_weaken, looks_on, makes_on}
use Rattle.append_core.specs.Settled.{HoldKnowsSettled}
use Rattle.append_core.specs.Several.{IsStepBefore, own_append, own_row}
use Rattle.append_core.specs.Inside.{AreSettled}
use Rattle.append_core.proofs.Keeping.{step_more, begun_on}
use Rattle.append_core.proofs.Marked.{marked_later, settled_at, settled_elsewhere}
use Rattle.append_core.proofs.Members.{members_once}
use Rattle.append_core.proofs.Placed.{key_placed}

-- the position after a settling with a final outcome
placed_now : (h : Hold) (x : Node) (c : ℕ) (o : Outcome) (place : Option ℕ) (q f : ℕ)
    → place ≡ place_after (entries_seen h c) x.id o → place ≡ Some q → o ≡ Final f
    → slice_get (line (entries_seen h c)) q ≡ Some (entry_key f x.id)
placed_now h x c o place q f is at final =
    key_placed (line (entries_seen h c)) (entry_key f x.id) q
    (sym (is ∙ ap (place_after (entries_seen h c) x.id) final) ∙ at)

module _ (r : Region) (g h k : Hold) (x : Node) (o : Outcome) (c n : ℕ) (at : At) (place : Option ℕ)
    (here : slice_get (members x.colours) n ≡ Some c) (but : SameBut c h k) (later : IsLater h.seat k.seat)
    (next : k.next ≡ h.next)
    (answers : MatchAt at (λ _. MakesOneIn c h k (told_settle h.passes.number x.id o) at) (λ _. LooksIn c h k at))
    (closed : open_entry x.id (entries (entries_seen k c)) ≡ None)
    (stands : (f : ℕ) → o ≡ Final f → IsFinal (entries_seen k c) x.id f)
    (placed : place ≡ place_after (entries_seen k c) x.id o) where
  goes_by : (a : At)
      → MatchAt a (λ _. MakesOneIn c h k (told_settle h.passes.number x.id o) a) (λ _. LooksIn c h k a)
      → GoesOn (IsStepBefore x (n + 1 + length (members x.colours) + 2)) h k
  goes_by (Event p) m =
      makes_on (IsStepBefore x (n + 1 + length (members x.colours) + 2)) c h k but
      (told_settle h.passes.number x.id o) (Event p) m refl (n, here, refl, omega arith)
  goes_by (Look seen) look =
      looks_on (IsStepBefore x (n + 1 + length (members x.colours) + 2)) c h k but look.0

  same_colour : (i d : ℕ) → i ≡ n → slice_get (members x.colours) i ≡ Some d → c ≡ d
  same_colour i d is e =
      let f : Some c ≡ Some d = sym here ∙ subst (λ (j : ℕ). slice_get (members x.colours) j ≡ Some d) is e in
      let g : c ≡ d = cc f in g

  other_colour : (i d : ℕ) → i ≢ n → slice_get (members x.colours) i ≡ Some d → d ≢ c
  other_colour i d ne e is = ne (members_once x.colours i n d c e here is)

  pub settled_next : (places new : List (Option ℕ))
      → ((i : ℕ) → i ≢ n → slice_get new i ≡ slice_get places i)
      → ((q : Option ℕ) → slice_get new n ≡ Some q → q ≡ place)
      → AreSettled r g h x o places n → AreSettled r g k x o new (n + 1)
  settled_next places new others is_new was =
      let more = n + 1 + length (members x.colours) + 2 in
      let few = n + length (members x.colours) + 2 in
      let goes = goes_by at answers in
      let b = own_append g x in
      let inside = slice_get_within (members x.colours) n c here in
      let marked : (i d : ℕ) → slice_get (members x.colours) i ≡ Some d → _ =
      λ i d e. marked_later (IsStepBefore x more) h k b goes later.grows d
      (was.steps.marked i d e (let lt = slice_get_within (members x.colours) i d e in omega (arith, lt))) in
      let now : HoldKnowsSettled k b o c = settled_at k b o c (marked n c here) closed stands in record {
        steps = record {
          begun = begun_on r g h k x later next was.steps.begun;
          marked = λ i d e lt. marked i d e;
          decided = λ le.
              let d = was.steps.decided (omega arith) in (
                d.0,
                d.1,
                outcome_learnt (view_of h) (view_of k) (own_row g) later.grows.size
                    (Learns-from (view_of h) (view_of k) later.grows) d.0 d.2,
              );
          settled = λ i d e lt. elim (cases_eq i n) [
            | inl is ↦ (o, subst (λ (j : ℕ). HoldKnowsSettled k b o j) (same_colour i d is e) now)
            | inr ne ↦
                let s = was.steps.settled i d e (omega (arith, lt, ne)) in
                (s.0, settled_elsewhere h k b s.0 c d but later.grows (other_colour i d ne e) s.1)
          ];
          goes = goes_then (IsStepBefore x more) g h k
              (goes_weaken (IsStepBefore x few) g h (IsStepBefore x more)
              (λ d e s. step_more x few more d e (omega arith) s) was.steps.goes) goes;
        };
        settled = λ i d lt e. elim (cases_eq i n) [
          | inl is ↦ subst (λ (j : ℕ). HoldKnowsSettled k b o j) (same_colour i d is e) now
          | inr ne ↦ settled_elsewhere h k b o c d but later.grows (other_colour i d ne e)
              (was.settled i d (omega (arith, lt, ne)) e)
        ];
        placed = λ i d q f lt e there final. elim (cases_eq i n) [
          | inl is ↦
              let one = is_new (Some q) (subst (λ (j : ℕ). slice_get new j ≡ Some (Some q)) is there) in
              subst (λ (j : ℕ). slice_get (line (entries_seen k j)) q ≡ Some (entry_key f x.id)) (same_colour i d is e)
              (placed_now k x c o place q f placed (sym one) final)
          | inr ne ↦ subst (λ (l : List Told). slice_get (line (entries_in l)) q ≡ Some (entry_key f x.id))
              (sym (but.others d (other_colour i d ne e)))
              (was.placed i d q f (omega (arith, lt, ne)) e (sym (others i ne) ∙ there) final)
        ];
      }
