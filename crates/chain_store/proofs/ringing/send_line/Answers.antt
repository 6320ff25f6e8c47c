use Rattle.std.proofs.Common.{◌++◌, [], ◌∷◌, ◌∙◌, ap, length, append_assoc, length-append, arith, rules}
use Rattle.ring_ends.specs.Rings.{gone}
use Rattle.chain_store.proofs.RingsGrow.{next_more}
use Rattle.chain_store.proofs.ringing.send_line.Goals as goal

pub loop-preserved : goal.loop-preserved
loop-preserved c =
    let inv = c.loop.invariant in
    let more = inv.2.0 in
    let item = c.in_ok-item.item in
    let old = c.args.sends.now in (
      search rules,
      search rules,
      (
        more ++ item ∷ [],
        c.send.ensures.gone ∙ (ap (λ z. z ++ item ∷ []) inv.2.1 ∙ append_assoc _ more (item ∷ [])),
        next_more c.args.column.now (length (gone old)) c.sent-place.result more c.own_entered.result.0
            c.own_entered.result.1.now item
            (let e = c.sent-place.ensures in
            let l = ap length inv.2.1 in let a = length-append (gone old) more in omega (arith, e, l, a))
            c.own_entered.ensures.head c.own_entered.ensures.node c.in_ok-item.ensures inv.2.2,
      ),
    )
