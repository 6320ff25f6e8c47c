-- When an append is complete, and that it stays so.
use Rattle.std.proofs.Common.{◌≡◌, ◌≢◌, ℕ, true, List, None, refl, sym, subst, inl, inr}
use mathlib.Core.List.{IsPrefix}
use Rattle.log_node.specs.declared.ids.Colours.{Colours}
use Rattle.log_node.specs.declared.ids.Id.{Id}
use Rattle.log_node.specs.declared.ids.Row.{Row}
use Rattle.log_node.specs.declared.marks.Outcome.{Outcome}
use Rattle.log_node.specs.declared.marks.Outcome.TheVariants.{Open}
use Rattle.log_node.specs.Seen.{BegunAppend}
use Rattle.log_node.specs.Sets.{has}
use Rattle.log_node.specs.Standings.{open_entry}
use Rattle.col_core.specs.History.{entries, has_entered}
use Rattle.col_core.specs.Ids.{IsFinal}
use Rattle.stamp_board.specs.declared.view.Size.{Size}
use Rattle.stamp_board.specs.Rows.{IsRow}
use Rattle.stamp_board.specs.Views.{Grows, Learns, KnowsMark, KnowsOutcome}
use Rattle.stamp_board.proofs.CallerLemmas.{Learns-from, begun_learnt, outcome_learnt}
use Rattle.chain_store.specs.declared.told.Told.{Told}
use Rattle.chain_store.specs.declared.hold.Hold.{Hold}
use Rattle.chain_store.specs.declared.region.Region.{Region}
use Rattle.chain_store.specs.Beginning.{begun_for}
use Rattle.chain_store.specs.Histories.{entries_in}
use Rattle.chain_store.specs.Holds.{IsHold, KnowsAppend, seen_in, view_of}
use Rattle.chain_store.proofs.CallerLemmas.{prefix_same, prefix_then}
use Rattle.append_core.specs.Settled.{HoldKnowsSettledOver, HoldKnowsSettled, HoldKnewSettled, HoldKnowsComplete}
use Rattle.append_core.proofs.Marked.{over_learnt}

-- what is settled is so by its id and its row alone
over_named : (h : Hold) (a b : BegunAppend) (o : Outcome) (c : ℕ) (log : List Told) → a.id ≡ b.id → a.row ≡ b.row
    → HoldKnowsSettledOver h a o c log → HoldKnowsSettledOver h b o c log
over_named h a b o c log id row s = record {
  mark = s.mark;
  set = s.set;
  known = subst (λ (r : Row). KnowsMark (view_of h) r c s.mark) row s.known;
  closed = subst (λ (i : Id). open_entry i (entries (entries_in log)) ≡ None) id s.closed;
  done = elim s.done [
    | inl fenced ↦ inl fenced
    | inr entered ↦ inr (subst (λ (i : Id). has_entered i (entries_in log) ≡ true) id entered)
  ];
  final = λ f is. subst (λ (i : Id). IsFinal (entries_in log) i f) id (s.final f is);
}

-- an append that is decided, and settled in each of its colours, is complete
pub complete_by : (r : Region) (g h : Hold) (b : BegunAppend) (o : Outcome) → KnowsAppend r g b → IsHold r h
    → Grows (view_of g) (view_of h) → o ≢ Open → KnowsOutcome (view_of h) b.row o
    → ((c : ℕ) → has b.colours c ≡ true → HoldKnowsSettled h b o c) → HoldKnowsComplete h b.id
complete_by r g h b o knows is grows shut known settled =
    let x = knows.knows.0 in
    let of = knows.knows.1 in record {
      row = b.row;
      node = x;
      of_id = sym of.of.id;
      on_board = subst (λ (k : Size). IsRow k b.row) (sym is.seat.1) of.row;
      begun = begun_learnt (view_of g) (view_of h) b.row grows.size (Learns-from (view_of g) (view_of h) grows) x of.knows;
      outcome = o;
      shut = shut;
      known = known;
      settled = λ c it. record {
        log = seen_in h c;
        within = prefix_same (seen_in h c) (seen_in h c) refl;
        over = over_named h b (begun_for x b.row) o c (seen_in h c) of.of.id refl
            (settled c (subst (λ (s : Colours). has s c ≡ true) (sym of.of.colours) it));
      };
    }

-- for one who has seen more, and knows all that was known
module _ (g h : Hold) (more : (c : ℕ) → IsPrefix (seen_in g c) (seen_in h c))
    (size : (view_of h).size ≡ (view_of g).size) (learns : Learns (view_of g) (view_of h)) where
  there_learnt : (b : BegunAppend) (o : Outcome) (c : ℕ) → HoldKnewSettled g b o c → HoldKnewSettled h b o c
  there_learnt b o c s = record {
    log = s.log;
    within = prefix_then s.log (seen_in g c) (seen_in h c) s.within (more c);
    over = over_learnt g h size learns b o c s.log s.over;
  }

  pub complete_later : (id : Id) → HoldKnowsComplete g id → HoldKnowsComplete h id
  complete_later id is = record {
    row = is.row;
    node = is.node;
    of_id = is.of_id;
    on_board = subst (λ (k : Size). IsRow k is.row) (sym size) is.on_board;
    begun = begun_learnt (view_of g) (view_of h) is.row size learns is.node is.begun;
    outcome = is.outcome;
    shut = is.shut;
    known = outcome_learnt (view_of g) (view_of h) is.row size learns is.outcome is.known;
    settled = λ c it. there_learnt (begun_for is.node is.row) is.outcome c (is.settled c it);
  }
