use Rattle.std.proofs.Common.{◌≡◌, ◌∙◌, ◌+◌, ◌&&◌, ◌||◌, ◌==◌, ℕ, List, ap, sym, drop}
use Rattle.run_rules.specs.Printed.{printed_raises}
use Rattle.run_rules.specs.Telling.{is_among}
use Rattle.walk_law.specs.PlaceTables.{is_printed}
use Rattle.walk_law.proofs.PrintLemmas.{none_left, none_more, raises_left, rest_parts}
use Rattle.walk_law.proofs.printed.Printed.add_raises.Goals as goal

pub loop-raise-preserved : goal.loop-raise-preserved
loop-raise-preserved c = λ n r k p.
    let raises = c.args.raises.now in
    let at = c.loop-raise.raise-index in
    let m = c.args.client == n in
    let own = c.args.own in
    rest_parts m p _ (printed_raises own (drop (at + 1) raises) r k)
    (is_printed c.loop-raise.self n r k p) (is_printed c.add_at.new.self n r k p) (c.in_ok-add_at.ensures n r k p)
    ∙ (ap (λ (l : List ℕ). (m && is_among p l) || is_printed c.loop-raise.self n r k p)
    (sym (raises_left own raises at _ c.loop-raise-test.true r k))
    ∙ c.loop-raise.invariant n r k p)

pub returns : goal.returns
returns c = λ n r k p.
    sym (none_more (c.args.client == n) p (printed_raises c.args.own (drop c.loop-raise.raise-index c.args.raises.now) r k)
    (is_printed c.loop-raise.self n r k p) (none_left c.args.own c.args.raises.now c.loop-raise.raise-index c.loop-raise-test.false r k))
    ∙ c.loop-raise.invariant n r k p
