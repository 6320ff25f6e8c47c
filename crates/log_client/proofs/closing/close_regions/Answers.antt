use Rattle.std.proofs.Common.{rules, ℕ, List, subst, sym, ◌≡◌, ◌+◌, ◌∷◌, [], length, map, slice_get, ap, ◌∙◌, arith, length-append}
use Rattle.chain_store.specs.declared.hold.Hold.{Hold}
use Rattle.chain_store.specs.Closing.{AreHoldsOf, Closed}
use Rattle.lawful_run.proofs.CallerLemmas.{get-append}
use Rattle.log_client.specs.Closing.{HasEnded}
use Rattle.log_client.specs.Leaving.{left_of}
use Rattle.log_client.proofs.Lists.{got_last}
use Rattle.log_client.proofs.End.Handing.{one_more, shrinks, of_last, are_holds, are_at, more_behind}
use Rattle.log_client.proofs.closing.close_regions.Goals as goal

pub gather-requires : goal.gather-requires
gather-requires g c =
    let rest = c.pop.new.self.items in
    let long = ap length c.in-Some.ensures.items ∙ length-append rest (c.in-Some.region ∷ []) in
    one_more c.args.clients.items c.loop-region.clients.items (length c.loop-region.regions.items) (length rest)
    c.loop-region.invariant.holds long

pub close-requires : goal.close-requires
close-requires g c =
    let rest = c.pop.new.self.items in
    let items = c.in-Some.ensures.items in
    let long = ap length items ∙ length-append rest (c.in-Some.region ∷ []) in
    let at = c.loop-region.invariant.regions (length rest) c.in-Some.region
    (ap (λ l. slice_get l (length rest)) items ∙ got_last rest c.in-Some.region) in
    let of = of_last c.args.clients.items c.loop-region.clients.items (length c.loop-region.regions.items) (length rest)
    c.loop-region.invariant.holds long c.gather.new.clients.items c.in_ok-holds.holds.items c.in_ok-holds.ensures in
    record {
      holds = subst (λ (ks : List Hold). AreHoldsOf c.in-Some.region ks) (sym c.into.ensures)
          (are_holds c.args.regions.items c.args.clients.items (length rest) c.in-Some.region c.in_ok-holds.holds.items
          c.requires at of);
    }

pub loop-region-preserved : goal.loop-region-preserved
loop-region-preserved g c =
    let i = c.loop-region.invariant in
    let rest = c.pop.new.self.items in
    let items = c.in-Some.ensures.items in
    let long : length c.loop-region.regions.items ≡ length rest + 1 =
    ap length items ∙ length-append rest (c.in-Some.region ∷ []) in
    let at = i.regions (length rest) c.in-Some.region
    (ap (λ l. slice_get l (length rest)) items ∙ got_last rest c.in-Some.region) in
    let of = of_last c.args.clients.items c.loop-region.clients.items (length c.loop-region.regions.items) (length rest)
    i.holds long c.gather.new.clients.items c.in_ok-holds.holds.items c.in_ok-holds.ensures in
    let new = c.in_ok-insert.ensures.items in
    let more = ap length new in
    let count = i.count in
    record {
      regions = λ k r e. i.regions k r (ap (λ l. slice_get l k) items ∙ get-append rest (c.in-Some.region ∷ []) k r e);
      count = omega (arith, more, count, long);
      holds = shrinks c.args.clients.items c.loop-region.clients.items (length c.loop-region.regions.items) (length rest)
          i.holds long c.gather.new.clients.items c.in_ok-holds.holds.items c.in_ok-holds.ensures;
      ended = more_behind (HasEnded (map left_of c.args.clients.items)) c.args.regions.items (length rest)
          (length c.loop-region.regions.items) c.in-Some.region c.in_ok-close.field-0 c.loop-region.ends.items
          c.insert.new.self.items long new at
          (record {
            ks = c.in_ok-holds.holds.items;
            are_at = are_at c.args.clients.items (length rest) c.in_ok-holds.holds.items of;
            are_of = are_holds c.args.regions.items c.args.clients.items (length rest) c.in-Some.region
                c.in_ok-holds.holds.items c.requires at of;
            closed = subst (λ (ks : List Hold). Closed c.in-Some.region ks c.in_ok-close.field-0) c.into.ensures
                c.in_ok-close.ensures;
          })
          i.ended;
    }

pub returns : goal.returns
returns g c =
    let i = c.loop-region.invariant in
    let none : length c.loop-region.regions.items ≡ 0 = search rules in
    let count = i.count in (
      omega (arith, count, none),
      λ n r e at eat.
          let z : length c.loop-region.regions.items + n ≡ n = omega (arith, none) in
          subst (λ (k : ℕ). HasEnded (map left_of c.args.clients.items) k r e) z
          (i.ended n r e (ap (slice_get c.args.regions.items) z ∙ at) eat),
    )
