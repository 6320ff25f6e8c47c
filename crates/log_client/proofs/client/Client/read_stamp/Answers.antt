use Rattle.std.proofs.Common.{◌∙◌, ℕ, List, refl, sym, subst, arith}
use Rattle.log_node.specs.Sets.{members}
use Rattle.log_client.proofs.Read.Colours.{next_within}
use Rattle.log_client.proofs.Going.Explaining.{keeps_all_then, keeps_same, rests_same, rests_then}
use Rattle.log_client.proofs.Read.ReadStamps.{LookedFirst, all_above, all_chosen, looked_next, none_looked, stamp_within}
use Rattle.log_client.proofs.client.Client.read_stamp.Goals as goal

pub loop-colour-init : goal.loop-colour-init
loop-colour-init g c =
    let s = c.args.store.now in
    let x = c.args.self.now in record {
      rests = rests_same s x c.requires.client;
      tracks = refl;
      keeps = keeps_same s x;
      floor = omega arith;
      in_range = c.requires.client.floored;
      first = subst (λ (l : List ℕ). LookedFirst x x l (members c.args.colours) x.floor)
          (sym (c.into_iter-colour-iterator.ensures.into_iter_gives ∙ c.members-colour-items.ensures))
          (none_looked x (members c.args.colours));
    }

pub clock-requires-clause-client : goal.clock-requires-clause-client
clock-requires-clause-client g c = c.loop-colour.invariant.rests.client

pub clock-requires-clause-colour : goal.clock-requires-clause-colour
clock-requires-clause-colour g c =
    let i = c.loop-colour.invariant in
    let f = subst (λ (l : List ℕ). LookedFirst c.args.self.now c.loop-colour.self l (members c.args.colours) c.loop-colour.stamp)
    c.in-Some.ensures.steps i.first in
    next_within c.args.store.now c.args.colours c.requires.colours f.first c.in-Some.colour c.next.new.self f.apart

pub loop-colour-preserved : goal.loop-colour-preserved
loop-colour-preserved g c =
    let s = c.args.store.now in
    let x = c.args.self.now in
    let l = c.loop-colour in
    let i = l.invariant in
    let e = c.clock.ensures in
    let y = c.clock.new.self in
    let far = rests_then s x l.self y i.rests e.rests in
    let low = i.floor in
    let top = i.in_range in
    let is = c.max-stamp.ensures in
    let value = stamp_within s x y c.in-Some.colour c.clock.result far e.clock in record {
      rests = far;
      tracks = e.tracks ∙ i.tracks;
      keeps = keeps_all_then s x l.self y i.rests e.rests i.keeps e.keeps;
      floor = omega (arith, low, is);
      in_range = omega (arith, top, is, value);
      first = subst (LookedFirst x y c.next.new.self (members c.args.colours)) (sym is)
          (looked_next s x l.self y c.in-Some.colour c.next.new.self (members c.args.colours) l.stamp c.clock.result far e.rests
          e.clock
          (subst (λ (m : List ℕ). LookedFirst x l.self m (members c.args.colours) l.stamp) c.in-Some.ensures.steps i.first));
    }

pub returns-clause-above : goal.returns-clause-above
returns-clause-above g c =
    let l = c.loop-colour in
    all_above c.args.self.now l.self (members c.args.colours) l.stamp
    (subst (λ (m : List ℕ). LookedFirst c.args.self.now l.self m (members c.args.colours) l.stamp) c.in-None.ensures.steps.0
    l.invariant.first)

pub returns-clause-chosen : goal.returns-clause-chosen
returns-clause-chosen g c =
    let l = c.loop-colour in
    all_chosen c.args.self.now l.self (members c.args.colours) l.stamp
    (subst (λ (m : List ℕ). LookedFirst c.args.self.now l.self m (members c.args.colours) l.stamp) c.in-None.ensures.steps.0
    l.invariant.first)

pub returns-clause-rests : goal.returns-clause-rests
returns-clause-rests g c = c.loop-colour.invariant.rests

pub returns-clause-keeps : goal.returns-clause-keeps
returns-clause-keeps g c = c.loop-colour.invariant.keeps
