-- An append stands by a hold that has seen as much.
use Rattle.std.proofs.Common.{◌≡◌, ◌⊎◌, inl, inr, ℕ, List, Some, ap, sym, subst, ◌∙◌}
use Rattle.std.specs.Prelude.{slice_get}
use mathlib.Core.List.{IsPrefix}
use Rattle.log_node.specs.declared.node.Node.{Node}
use Rattle.log_node.specs.declared.marks.Outcome.TheVariants.{Final}
use Rattle.col_core.specs.declared.Event.{Event as ColumnEvent}
use Rattle.col_core.specs.Appending.{StandsUnder}
use Rattle.turn_cell.specs.Histories.{made_by}
use Rattle.stamp_board.specs.Views.{Grows}
use Rattle.stamp_board.proofs.CallerLemmas.{Grows-trans, Learns-from, begun_learnt, outcome_learnt}
use Rattle.chain_store.specs.declared.told.Told.{Told}
use Rattle.chain_store.specs.declared.hold.Hold.{Hold}
use Rattle.chain_store.specs.declared.hold.ColumnPasses.{ColumnPasses}
use Rattle.chain_store.specs.declared.region.Region.{Region}
use Rattle.chain_store.specs.Histories.{entries_in, maker}
use Rattle.chain_store.specs.Columns.{told_single}
use Rattle.chain_store.specs.Going.{GoesOn}
use Rattle.chain_store.specs.Holds.{history_seen, seen_in, made_in, view_of}
use Rattle.chain_store.proofs.CallerLemmas.{goes_weaken, prefix_same}
use Rattle.append_core.specs.declared.stood.Stood.{Stood}
use Rattle.append_core.specs.Helping.{HelpsOpen, IsStepIn}
use Rattle.append_core.specs.Several.{HoldAppendsSeveral, own_append, own_row}
use Rattle.append_core.specs.Standing.{IsSingleOf, HoldAppendsOne}
use Rattle.append_core.proofs.CallerLemmas.{complete_later, enters_later}

module _ (g h k : Hold) (same : k.passes ≡ h.passes) (grows : Grows (view_of h) (view_of k)) where
  seen_same : (c : ℕ) → seen_in h c ≡ seen_in k c
  seen_same c = ap (λ (p : ColumnPasses). history_seen (slice_get p.items.items c)) (sym same)

  made_same : (c : ℕ) → made_in k c ≡ made_in h c
  made_same c = ap (λ (p : ColumnPasses). made_by maker p.number (history_seen (slice_get p.items.items c))) same

  more : (c : ℕ) → IsPrefix (seen_in h c) (seen_in k c)
  more c = prefix_same (seen_in h c) (seen_in k c) (sym (seen_same c))

  helps_same : (e : ColumnEvent) → HelpsOpen g h e → HelpsOpen g k e
  helps_same e m = (
    m.0,
    m.1,
    record {
      colour = m.2.colour;
      log = m.2.log;
      after = m.2.after;
      before = subst (IsPrefix m.2.log) (seen_same m.2.colour) m.2.before;
      opened = m.2.opened;
      unfenced = m.2.unfenced;
    },
    complete_later h k more grows.size (Learns-from (view_of h) (view_of k) grows) m.0 m.3,
  )

  -- what was made, beside what helped
  goes_by : (Own : ℕ → ColumnEvent → Type 0) → GoesOn (λ c e. Own c e ⊎ HelpsOpen g h e) g h
      → GoesOn (λ c e. Own c e ⊎ HelpsOpen g k e) g k
  goes_by Own goes = record {
    number = ap (λ (p : ColumnPasses). p.number) same ∙ goes.number;
    more = λ c. subst (IsPrefix (seen_in g c)) (seen_same c) (goes.more c);
    made = λ c. let m = (goes_weaken (λ i e. Own i e ⊎ HelpsOpen g h e) g h (λ i e. Own i e ⊎ HelpsOpen g k e)
        (λ i e p. elim p [ inl own ↦ inl own | inr helps ↦ inr (helps_same e helps) ]) goes).made c in
        (m.0, made_same c ∙ m.1, m.2);
  }

  -- in one colour
  pub stands_by : (x : Node) (colour : ℕ) (s : Stood) → HoldAppendsOne g h x colour s → HoldAppendsOne g k x colour s
  stands_by x colour s a = record {
    stamp = a.stamp;
    place = a.place;
    position = a.position;
    key = a.key;
    point = a.point;
    unseen = a.unseen;
    entered = subst (λ (l : List Told). slice_get l a.place ≡ Some (told_single colour g.passes.number x a.stamp))
        (seen_same colour) a.entered;
    stands = subst (λ (l : List Told). StandsUnder (entries_in l) x a.stamp a.position) (seen_same colour) a.stands;
    goes = goes_by (λ c e. (c ≡ colour) × IsSingleOf x.id e) a.goes;
  }

  -- in several
  pub stands_in_all_by : (r : Region) (x : Node) (s : Stood) → k.next ≡ h.next → k.seat.used ≡ h.seat.used
      → HoldAppendsSeveral r g h x s → HoldAppendsSeveral r g k x s
  stands_in_all_by r x s next used a = record {
    begun = record {
      row = a.begun.row;
      room = a.begun.room;
      knows = begun_learnt (view_of h) (view_of k) (own_row g) grows.size (Learns-from (view_of h) (view_of k) grows) x
          a.begun.knows;
      used = used ∙ a.begun.used;
      next = next ∙ a.begun.next;
      grows = Grows-trans (view_of g) (view_of h) (view_of k) a.begun.grows grows;
    };
    stamp = a.stamp;
    key = a.key;
    outcome = outcome_learnt (view_of h) (view_of k) (own_row g) grows.size (Learns-from (view_of h) (view_of k) grows)
        (Final a.stamp) a.outcome;
    colours = a.colours;
    each = λ n p at. let t = a.each n p at in record {
      entered = enters_later g h k x more grows p.colour p.at t.entered;
      stands = subst (λ (l : List Told). StandsUnder (entries_in l) x a.stamp p.position) (seen_same p.colour) t.stands;
    };
    goes = goes_by (IsStepIn (own_append g x)) a.goes;
  }
