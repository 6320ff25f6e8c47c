use Rattle.std.proofs.Common.{◌∷◌, [], ap, length, length-append, refl, sym, subst, ◌∙◌, arith}
use Rattle.atomic_map.specs.declared.line_writes.LineWrites.{LineWrites}
use Rattle.atomic_map.specs.Colours.{AreFew}
use Rattle.atomic_map.proofs.MapLines.{opens_more, opens_none, opens_same}
use Rattle.atomic_map.proofs.atomic.AtomicMap.open_lines.Goals as goal

pub loop-place-init : goal.loop-place-init
loop-place-init c = record { opens = opens_none c.args.self.now; many = let all = c.len-place.ensures in omega (arith, all) }

pub returns-in_err-push-clause-opens : goal.returns-in_err-push-clause-opens
returns-in_err-push-clause-opens c =
    let n = c.loop-place.self in
    opens_same c.args.self.now n (record { home = n.home; colours = n.colours; lines = c.push.new.self; last = n.last })
    (refl, refl, refl) c.in_err-push.ensures.items c.loop-place.invariant.opens

pub open-line-requires : goal.open-line-requires
open-line-requires c =
    subst AreFew
    (sym (c.from.ensures ∙ (c.in_ok-copy.ensures.items ∙ (c.as_slice.ensures ∙ c.loop-place.invariant.opens.same.1)))) c.requires

pub loop-place-preserved : goal.loop-place-preserved
loop-place-preserved c =
    let n = c.loop-place.self in
    let many = c.loop-place.invariant.many in
    let long = ap length c.in_ok-push.ensures.items in
    let more = length-append n.lines.items (c.new.result ∷ []) in record {
      opens = opens_more c.args.self.now n
          (record { home = n.home; colours = n.colours; lines = c.push.new.self; last = n.last }) c.new.result (refl, refl, refl)
          c.in_ok-push.ensures.items c.new.ensures.count
          (ap (λ (l : LineWrites). l.colours) c.new.ensures.state
          ∙ (c.open-line.ensures.colours ∙ (c.from.ensures ∙ (c.in_ok-copy.ensures.items ∙ c.as_slice.ensures))))
          (ap (λ (l : LineWrites). l.writes.entries) c.new.ensures.state ∙ c.open-line.ensures.empty) c.loop-place.invariant.opens;
      many = omega (arith, many, long, more);
    }
