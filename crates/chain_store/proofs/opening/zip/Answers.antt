use Rattle.std.proofs.Common.{◌≡◌, ◌+◌, ◌∷◌, [], refl, length, slice_get, ap, sym, ◌∙◌, arith, length-append}
use Rattle.chain_store.specs.declared.hold.Hold.{Hold}
use Rattle.chain_store.proofs.Entering.{get_last, get_old}
use Rattle.chain_store.proofs.Dealing.{zip_one}
use Rattle.chain_store.proofs.opening.zip.Goals as goal

pub loop-seat-preserved : goal.loop-seat-preserved
loop-seat-preserved c =
    let i = c.loop-seat.invariant in
    let rest = c.pop.new.self.items in
    let s = c.in-Some.seat in
    let e = c.in-Some.ensures.items in
    let left = c.pop-in-Some.new.self.items in
    let f = c.in-Some-pop.ensures.items in
    let b = c.in-Some-pop.client in
    let x : Hold = record { passes = b.passes; seat = s; next = 0; desks = b.desks } in
    let wide : length c.loop-seat.seats.items ≡ length rest + 1 = ap length e ∙ length-append rest (s ∷ []) in
    let many : length c.loop-seat.clients.items ≡ length left + 1 = ap length f ∙ length-append left (b ∷ []) in
    let new = c.in_ok-insert-in-Some-pop.ensures.items in
    let long = ap length new in
    let same = i.same in
    let count = i.count in
    let both : length left ≡ length rest = omega (arith, wide, many, same) in
    record {
      seats = λ n d here. i.seats n d (ap (λ l. slice_get l n) e ∙ get_old rest (s ∷ []) n d here);
      clients = λ n d here. i.clients n d (ap (λ l. slice_get l n) f ∙ get_old left (b ∷ []) n d here);
      same = both;
      count = omega (arith, wide, long, count);
      zipped = zip_one c.args.clients.items c.args.seats.items (length c.loop-seat.seats.items) (length rest) x
          c.loop-seat.holds.items c.insert.new.self.items wide new i.zipped
          (ap (slice_get c.args.clients.items) (sym both)
          ∙ i.clients (length left) b
          (ap (λ l. slice_get l (length left)) f ∙ get_last left b))
          (i.seats (length rest) s (ap (λ l. slice_get l (length rest)) e ∙ get_last rest s)) refl;
    }
