use Rattle.std.proofs.Common.{◌≡◌, ◌+◌, ◌<◌, ◌++◌, ◌∷◌, [], ℕ, List, Some, refl, length, slice_get, ap, sym, subst, ◌∙◌, arith, inl, inr, length-append}
use Rattle.std.proofs.lemmas.List.{map-id}
use Rattle.std.proofs.lemmas.List.Elements.{All-contains}
use Rattle.std.proofs.lemmas.Option.{slice_get-get_or, slice_get_within}
use Rattle.std.proofs.lemmas.Iterator.Adapters.{YieldsList-from_vec}
use Rattle.std.proofs.lemmas.Iterator.Consumers.{YieldsList-turn, YieldsList-end}
use Rattle.col_core.proofs.CallerLemmas.{contains_in, slice_in}
use Rattle.stamp_board.specs.declared.view.Size.{Size}
use Rattle.ring_ends.specs.declared.rings.Rings.{Rings}
use Rattle.chain_store.specs.declared.hold.Hold.{Hold}
use Rattle.chain_store.specs.declared.region.Region.{Region}
use Rattle.chain_store.specs.Opening.{size_of}
use Rattle.log_client.specs.declared.client.Client.{Client}
use Rattle.log_client.specs.declared.store.Store.{Store}
use Rattle.log_client.specs.Clients.{holds_of}
use Rattle.log_client.specs.Regions.{IsRegionOf, AreRegionsOf}
use Rattle.log_client.specs.Opening.{DealtHolds, HasNewHolds}
use Rattle.log_client.proofs.Lists.{got_end}
use Rattle.log_client.proofs.Dealing.{fresh_dealt, holds_dealt, is_new_client}
use Rattle.log_client.proofs.Joining.{HasEnds, new_ends, joined_new}
use Rattle.log_client.proofs.store.Store.open.Goals as goal

-- the ends are those of the next region
turn : (c : goal.After-len-number) → slice_get c.in_ok-rings.rings (length c.loop-ends.yielded) ≡ Some c.in-Some.ends
turn c =
    let items = c.into_vec-ends-items.result in
    let gives = c.into_iter-ends-iterator.ensures.into_iter_gives in
    let all = YieldsList-from_vec {s = c.into_iter-ends-iterator.result} items.items gives.0 (gives.1 ∙ items.ok.0) in
    let t = YieldsList-turn all c.loop-ends.yielded _ c.loop-ends.yielded_by _ c.next.new.self c.in-Some.ends c.in-Some.is
    c.next.ensures.steps in
    let n = length c.loop-ends.yielded in
    ap (λ (l : List (List Rings)). slice_get l n) (sym c.into_vec-ends-items.ensures)
    ∙ (slice_get-get_or items.items n c.in-Some.ends t.0 ∙ ap (λ (x : List Rings). Some x) (sym t.1))

pub open-requires-clause-region : goal.open-requires-clause-region
open-requires-clause-region c =
    let l = c.loop-ends in
    let inside = slice_get_within c.in_ok-rings.rings (length l.yielded) c.in-Some.ends (turn c) in
    let many = c.in_ok-rings.ensures.regions_of in
    let count = l.invariant.count in
    let here = c.len-number.ensures ∙ l.regions.ok.0 in
    omega (arith, inside, many, count, here)

pub open-requires-clause-ends : goal.open-requires-clause-ends
open-requires-clause-ends c =
    new_ends c.args.shape.now.regions c.args.shape.now.colours c.in_ok-rings.rings c.in_ok-rings.ensures
    (length c.loop-ends.yielded) c.in-Some.ends (turn c)

pub loop-ends-preserved : goal.loop-ends-preserved
loop-ends-preserved c =
    let l = c.loop-ends in
    let i = l.invariant in
    let e = c.in_ok-region.ensures in
    let r = c.in_ok-region.region in
    let more = c.in_ok-push.ensures.items in
    let dealt = subst (λ (hs : List Hold). DealtHolds l.clients.items c.deal.new.clients.items hs 0) c.into_vec.ensures
    c.in_ok-deal.ensures in
    record {
      fresh = fresh_dealt c.args.shape.now l.clients.items c.deal.new.clients.items c.in_ok-region.holds dealt i.fresh;
      holds = λ n d at. subst (λ (rs : List Region). HasNewHolds rs n (holds_of d)) (sym more)
          (holds_dealt l.regions.items r l.clients.items c.deal.new.clients.items c.in_ok-region.holds dealt e.holds i.holds n
          d at);
      count = ap length more ∙ (length-append l.regions.items (r ∷ [])
          ∙ (ap (λ (n : ℕ). n + 1) i.count ∙ sym (length-append l.yielded (c.in-Some.ends ∷ []))));
      each = λ n q at. elim (got_end l.regions.items r n q (ap (λ z. slice_get z n) (sym more) ∙ at)) [
        | inl old ↦ i.each n q old
        | inr last ↦
            subst (IsRegionOf (size_of c.args.shape.now) c.args.shape.now.regions n) last.1
            (record { number = e.region.0 ∙ (c.len-number.ensures ∙ (l.regions.ok.0 ∙ sym last.0)); regions = e.region.1; size = e.size })
      ];
      ends = λ n q ends at there.
          let count = i.count in
          elim (got_end l.regions.items r n q (ap (λ z. slice_get z n) (sym more) ∙ at)) [
            | inl old ↦ elim (got_end l.yielded c.in-Some.ends n ends there) [
              | inl before ↦ i.ends n q ends old before
              | inr last ↦
                  absurd (let lt = slice_get_within l.regions.items n q old in let is = last.0 in
                  let f : ⊥ = omega (arith, lt, is, count) in f)
            ]
            | inr last ↦ elim (got_end l.yielded c.in-Some.ends n ends there) [
              | inl before ↦
                  absurd (let lt = slice_get_within l.yielded n ends before in let is = last.0 in
                  let f : ⊥ = omega (arith, lt, is, count) in f)
              | inr also ↦
                  subst (λ (z : Region). HasEnds z ends) last.1
                  (subst (HasEnds r) also.1 e.rings)
            ]
          ];
    }

-- all ends were dealt
whole : (c : goal.After-into-2) → c.loop-ends.yielded ≡ c.in_ok-rings.rings
whole c =
    let items = c.into_vec-ends-items.result in
    let gives = c.into_iter-ends-iterator.ensures.into_iter_gives in
    let all = YieldsList-from_vec {s = c.into_iter-ends-iterator.result} items.items gives.0 (gives.1 ∙ items.ok.0) in
    let end = YieldsList-end all c.loop-ends.yielded _ c.loop-ends.yielded_by _ c.next.new.self c.in-None.is
    c.next.ensures.steps in
    sym (map-id c.loop-ends.yielded) ∙ (end.0 ∙ c.into_vec-ends-items.ensures)

-- so there are as many regions
many : (c : goal.After-into-2) → length c.loop-ends.regions.items ≡ c.args.shape.now.regions
many c = c.loop-ends.invariant.count ∙ (ap length (whole c) ∙ c.in_ok-rings.ensures.regions_of)

pub invariant_of-store : goal.invariant_of-store
invariant_of-store c =
    let i = c.loop-ends.invariant in
    let shape = c.args.shape.now in
    let rs = c.loop-ends.regions.items in
    let size : Size = record { clients = c.len.result; colours = shape.colours; rows = shape.rows } in
    let size_is : size_of shape ≡ size = λ j. record {
      clients = sym c.len.ensures j;
      colours = shape.colours;
      rows = shape.rows;
    } in
    let long = many c in
    let few = c.requires.regions in record {
      fit = subst (AreRegionsOf size) (sym c.into.ensures) (record {
        few = omega (arith, long, few);
        each = λ n r at.
            let is = i.each n r at in
            record { number = is.number; regions = is.regions ∙ sym long; size = is.size ∙ size_is };
        joined = joined_new shape.regions shape.colours c.in_ok-rings.rings c.in_ok-rings.ensures rs long
            (λ n r ends at there. i.ends n r ends at (ap (λ (l : List (List Rings)). slice_get l n) (whole c) ∙ there));
      });
    }

pub returns-clause-clients : goal.returns-clause-clients
returns-clause-clients c =
    let l = c.loop-ends in
    let i = l.invariant in
    let shape = c.args.shape.now in
    let items = c.into_vec-ends-items.result in
    let gives = c.into_iter-ends-iterator.ensures.into_iter_gives in
    let all = YieldsList-from_vec {s = c.into_iter-ends-iterator.result} items.items gives.0 (gives.1 ∙ items.ok.0) in
    let end = YieldsList-end all l.yielded _ l.yielded_by _ c.next.new.self c.in-None.is c.next.ensures.steps in
    let dealt = ap length (sym (map-id l.yielded) ∙ (end.0 ∙ c.into_vec-ends-items.ensures)) in
    let long : length l.regions.items ≡ shape.regions = i.count ∙ (dealt ∙ c.in_ok-rings.ensures.regions_of) in
    let regions = c.into.ensures in
    let count = ap length regions in
    let s : Store = record {
      size = record { clients = c.len.result; colours = shape.colours; rows = shape.rows };
      regions = c.into.result;
      fit = c.result-1.given.0;
    } in (
      ap length c.into-2.ensures ∙ i.fresh.0,
      λ n d at.
          let there = ap (λ (z : List Client). slice_get z n) (sym c.into-2.ensures) ∙ at in
          let fresh = i.fresh.1 n d there in
          let home = All-contains (λ (h : ℕ). h < shape.regions) shape.homes d.region c.requires.homes
          (contains_in shape.homes d.region (slice_in shape.homes n d.region fresh.home)) in
          is_new_client shape s n d fresh
          (subst (λ (rs : List Region). HasNewHolds rs n (holds_of d)) (sym regions) (i.holds n d there))
          (omega (arith, home, count, long)) refl,
    )
