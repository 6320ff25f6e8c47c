use Rattle.std.proofs.Common.{◌≡◌, ◌+◌, ◌<◌, ◌∷◌, [], ℕ, List, rules, refl, length, slice_get, Some, get_or, ap, sym, subst, ◌∙◌, length-append}
use Rattle.std.proofs.lemmas.Option.{slice_get-get_or}
use Rattle.log_client.specs.declared.client.Client.{Client}
use Rattle.log_client.specs.Opening.{IsFresh}
use Rattle.log_client.proofs.Dealing.{fresh_more, none_more}
use Rattle.log_client.proofs.opening.fresh_clients.Goals as goal

pub loop-number-preserved : goal.loop-number-preserved
loop-number-preserved c =
    let l = c.loop-number in
    let i = l.invariant in
    let e = c.in_ok-push.ensures.items in
    let d : Client = record {
      number = l.number;
      region = get_or c.as_slice.result.now l.number 0;
      holds = c.new.result;
      floor = 0;
      count = 0;
      tracks = c.in_ok-tracks.tracks;
      rows = c.new-in-loop-number.result;
    } in
    let near : l.number < length c.args.shape.now.homes = search rules in
    let home : slice_get c.args.shape.now.homes l.number ≡ Some d.region =
    slice_get-get_or c.args.shape.now.homes l.number 0 near
    ∙ ap (λ (h : List ℕ). Some (get_or h l.number 0)) (sym c.as_slice.ensures) in
    let fresh : IsFresh c.args.shape.now l.number d = record {
      number = refl;
      home = home;
      floor = refl;
      count = refl;
      rows = c.new-in-loop-number.ensures.items;
      tracks = c.in_ok-tracks.ensures;
    } in
    record {
      count = ap length e ∙ (length-append l.clients.items (d ∷ []) ∙ ap (λ (n : ℕ). n + 1) i.count);
      fresh = λ n x at. fresh_more c.args.shape.now l.clients.items l.number d i.count fresh i.fresh n x
          (subst (λ z. slice_get z n ≡ Some x) e at);
      none = λ n x at. none_more l.clients.items d c.new.ensures.items i.none n x
          (subst (λ z. slice_get z n ≡ Some x) e at);
    }
