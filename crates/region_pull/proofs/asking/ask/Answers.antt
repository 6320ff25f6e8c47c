use Rattle.std.proofs.Common.{◌≡◌, ℕ, ap, subst, ◌∙◌, arith, Result, Ok, Err}
use Rattle.std.specs.Prelude.{IfOk, OnErr, slice_index}
use Rattle.log_node.specs.declared.ids.Counts.{Counts}
use Rattle.log_node.specs.declared.node.At.{At}
use Rattle.col_core.specs.Cuts.{held}
use Rattle.chain_store.specs.declared.hold.Hold.{Hold}
use Rattle.chain_store.specs.declared.region.Region.{Region}
use Rattle.chain_store.specs.Passes.{dated_in}
use Rattle.chain_store.specs.Moves.{held_in}
use Rattle.chain_store.specs.Holds.{IsHold, SameBut, SeesMoreIn, seen_in, GivesIn}
use Rattle.chain_store.specs.Regions.{tag_at}
use Rattle.chain_store.specs.Going.{GoesOnIn}
use Rattle.region_pull.specs.Stores.{AreOfOneStore}
use Rattle.region_pull.specs.Pulls.{GivesAlone}
use Rattle.region_pull.specs.Inside.{HasAsked}
use Rattle.region_pull.proofs.Steps.{goes_same, goes_then, asked_is, gives_none, gave_more, gave_once}
use Rattle.region_pull.proofs.asking.ask.Goals as goal

-- whatever the give answers, after a look that found so much held
module _ (from to : Region) (k : ℕ) (g g' h h' : Hold) (store : AreOfOneStore from to k) (is : IsHold from g)
    (now : IsHold from g') (but : SameBut k g g') (same : (g'.seat ≡ g.seat) × (g'.next ≡ g.next))
    (looks : SeesMoreIn k h h') (counts : Counts) (found : counts ≡ held to.number (dated_in (tag_at to k) (seen_in h' k)))
    (m region : ℕ) (mine : m ≡ from.number) (other : region ≡ to.number) where
  asks : slice_index counts.0 m ≡ held_in (tag_at to k) (seen_in h' k) from.number
  asks =
      let few = store.few in
      let low = store.from_number in
      ap (slice_index counts.0) mine ∙ asked_is to k from.number h' counts (omega (arith, few, low)) found

  here : (at : At) (lined : ℕ) → GivesIn k g g' region (slice_index counts.0 m) at lined
      → GivesIn k g g' to.number (slice_index counts.0 m) at lined
  here at lined = subst (λ (r : ℕ). GivesIn k g g' r (slice_index counts.0 m) at lined) other

  answer_goes : {E : Type 0} (r : Result (At × ℕ) E)
      → IfOk r (λ p. GivesIn k g g' region (slice_index counts.0 m) p.0 p.1) → OnErr r (SeesMoreIn k g g')
      → GoesOnIn from k g g'
  answer_goes (Ok p) ok err =
      goes_then from k g g g' (goes_same from k g is) now but same
      (gave_more from to k g g' h h' looks (slice_index counts.0 m) p.1 p.0 asks (here p.0 p.1 ok))
  answer_goes (Err e) ok err = goes_then from k g g g' (goes_same from k g is) now but same err.more

  answer_ok : {E : Type 0} (r : Result (At × ℕ) E)
      → IfOk r (λ p. GivesIn k g g' region (slice_index counts.0 m) p.0 p.1)
      → IfOk r (λ p. HasAsked from to k g g' h h' p.0 p.1)
  answer_ok (Ok p) ok =
      gave_once from to k g g' h h' looks (slice_index counts.0 m) p.1 p.0 asks (here p.0 p.1 ok)
  answer_ok (Err e) ok = tt

  answer_err : {E : Type 0} (r : Result (At × ℕ) E) → OnErr r (SeesMoreIn k g g')
      → OnErr r (GivesAlone from to k g g' h h')
  answer_err (Ok p) err = tt
  answer_err (Err e) err = gives_none from to k g g' h h' looks err

pub returns-clause-from_hold : goal.returns-clause-from_hold
returns-clause-from_hold g c =
    answer_goes c.args.from.now c.args.to.now c.args.colour c.args.from_hold.now c.give.new.hold c.args.to_hold.now
    c.held.new.hold c.requires.store c.requires.from_hold c.give.ensures.hold c.give.ensures.others c.give.ensures.same
    c.held.ensures.look.0 c.held.result.1 c.held.ensures.held c.number.result c.number-2.result c.number.ensures
    c.number-2.ensures c.give.result c.give.ensures.ok c.give.ensures.err

pub returns-clause-ok : goal.returns-clause-ok
returns-clause-ok g c =
    answer_ok c.args.from.now c.args.to.now c.args.colour c.args.from_hold.now c.give.new.hold c.args.to_hold.now
    c.held.new.hold c.requires.store c.requires.from_hold c.give.ensures.hold c.give.ensures.others c.give.ensures.same
    c.held.ensures.look.0 c.held.result.1 c.held.ensures.held c.number.result c.number-2.result c.number.ensures
    c.number-2.ensures c.give.result c.give.ensures.ok

pub returns-clause-err : goal.returns-clause-err
returns-clause-err g c =
    answer_err c.args.from.now c.args.to.now c.args.colour c.args.from_hold.now c.give.new.hold c.args.to_hold.now
    c.held.new.hold c.requires.store c.requires.from_hold c.give.ensures.hold c.give.ensures.others c.give.ensures.same
    c.held.ensures.look.0 c.held.result.1 c.held.ensures.held c.number.result c.number-2.result c.number.ensures
    c.number-2.ensures c.give.result c.give.ensures.err
