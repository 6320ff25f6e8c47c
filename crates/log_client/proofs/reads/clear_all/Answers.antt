use Rattle.std.proofs.Common.{◌≡◌, ◌∙◌, ◌<◌, ℕ, List, [], refl, ap, sym, subst, inl}
use Rattle.std.proofs.lemmas.List.Elements.{All-contains}
use Rattle.log_node.specs.declared.ids.Key.{Key}
use Rattle.log_node.specs.Sets.{members}
use Rattle.col_core.specs.Ids.{open_below}
use Rattle.col_core.proofs.CallerLemmas.{contains_in}
use Rattle.std.specs.Prelude.{slice_get}
use Rattle.chain_store.specs.declared.hold.ColumnPasses.{ColumnPasses}
use Rattle.chain_store.specs.Holds.{entries_seen, history_seen}
use Rattle.chain_store.proofs.CallerLemmas.{goes_same, later_same, later_then}
use Rattle.append_core.specs.Helping.{HelpsOpen, IsUnderClock}
use Rattle.append_core.proofs.CallerLemmas.{helps_then, under_least}
use Rattle.log_client.proofs.Read.ClearedHolds.{ClearedFirst, all_cleared, cleared_next, next_of, none_cleared}
use Rattle.log_client.proofs.reads.clear_all.Goals as goal

pub loop-colour-init : goal.loop-colour-init
loop-colour-init g c =
    let h = c.args.hold.now in record {
      hold = c.requires.hold;
      seat = later_same h.seat;
      next = refl;
      goes = goes_same (λ i e. HelpsOpen h h e) h h refl;
      first = subst (λ (l : List ℕ). ClearedFirst h c.args.stamp l (members c.args.colours))
          (sym (c.into_iter-colour-iterator.ensures.into_iter_gives ∙ c.members-colour-items.ensures))
          (none_cleared h c.args.stamp (members c.args.colours) c.requires.reached);
    }

pub clear-requires-clause-hold : goal.clear-requires-clause-hold
clear-requires-clause-hold g c = c.loop-colour.invariant.hold

pub clear-requires-clause-colour : goal.clear-requires-clause-colour
clear-requires-clause-colour g c =
    let l = c.loop-colour in
    next_of (λ k. k < c.args.region.now.board.size.colours) l.hold c.args.stamp c.in-Some.colour c.next.new.self
    (members c.args.colours)
    (subst (λ (m : List ℕ). ClearedFirst l.hold c.args.stamp m (members c.args.colours)) c.in-Some.ensures.steps
    l.invariant.first) c.requires.colours

pub clear-requires-clause-under : goal.clear-requires-clause-under
clear-requires-clause-under g c =
    let l = c.loop-colour in
    let first = subst (λ (m : List ℕ). ClearedFirst l.hold c.args.stamp m (members c.args.colours)) c.in-Some.ensures.steps
    l.invariant.first in
    subst (λ (k : Key). IsUnderClock k (entries_seen l.hold c.in-Some.colour)) (sym c.key_above.ensures)
    (under_least c.args.stamp (entries_seen l.hold c.in-Some.colour) (first.reached c.in-Some.colour (inl refl)))

pub loop-colour-preserved : goal.loop-colour-preserved
loop-colour-preserved g c =
    let l = c.loop-colour in
    let i = l.invariant in
    let e = c.clear.ensures in
    let h = c.args.hold.now in
    let k = c.clear.new.hold in record {
      hold = e.hold;
      seat = later_then h.seat l.hold.seat k.seat i.seat e.seat;
      next = e.next ∙ i.next;
      goes = helps_then h l.hold k i.goes i.seat.grows e.goes e.seat.grows;
      first = cleared_next c.args.region.now l.hold k c.args.stamp c.in-Some.colour c.next.new.self (members c.args.colours)
          e.hold
          (λ m j. All-contains (λ n. n < c.args.region.now.board.size.colours) (members c.args.colours) m c.requires.colours
          (contains_in (members c.args.colours) m j)) e.goes.more
          (subst (λ (q : Key). open_below q (entries_seen k c.in-Some.colour) ≡ []) c.key_above.ensures e.none)
          (subst (λ (m : List ℕ). ClearedFirst l.hold c.args.stamp m (members c.args.colours)) c.in-Some.ensures.steps i.first);
    }

pub last-last-requires-clause-hold : goal.last-last-requires-clause-hold
last-last-requires-clause-hold g c = c.loop-colour.invariant.hold

pub returns-clause-seat : goal.returns-clause-seat
returns-clause-seat g c =
    later_then c.args.hold.now.seat c.loop-colour.hold.seat c.last-last.new.hold.seat c.loop-colour.invariant.seat
    c.last-last.ensures.seat

pub returns-clause-next : goal.returns-clause-next
returns-clause-next g c = c.last-last.ensures.same.1 ∙ c.loop-colour.invariant.next

pub returns-clause-goes : goal.returns-clause-goes
returns-clause-goes g c =
    let l = c.loop-colour.hold in
    let k = c.last-last.new.hold in
    helps_then c.args.hold.now l k c.loop-colour.invariant.goes c.loop-colour.invariant.seat.grows
    (goes_same (λ i e. HelpsOpen l k e) l k c.last-last.ensures.same.0) c.last-last.ensures.seat.grows

pub returns-clause-clear : goal.returns-clause-clear
returns-clause-clear g c =
    let l = c.loop-colour.hold in
    all_cleared l c.last-last.new.hold c.args.stamp (members c.args.colours)
    (λ m. ap (λ (p : ColumnPasses). history_seen (slice_get p.items.items m)) c.last-last.ensures.same.0)
    (subst (λ (m : List ℕ). ClearedFirst l c.args.stamp m (members c.args.colours)) c.in-None.ensures.steps.0
    c.loop-colour.invariant.first)

-- (the rest of a read)
