use Rattle.std.proofs.Common.{◌≡◌, ◌∙◌, ap, sym, arith, append-nil}
use Rattle.walk_law.proofs.ListedLemmas.{more_columns, more_rows, rows_to}
use Rattle.walk_law.proofs.listing.column_numbers.Goals as goal

pub loop-region-init : goal.loop-region-init
loop-region-init c = c.new-numbers.ensures.items

pub loop-colour-init : goal.loop-colour-init
loop-colour-init c = c.loop-region.invariant ∙ sym (append-nil (rows_to c.args.colours c.loop-region.region))

pub loop-colour-preserved : goal.loop-colour-preserved
loop-colour-preserved c =
    more_columns c.args.colours c.loop-region.region c.loop-colour.colour c.loop-colour.numbers.items
    c.push.new.self.items c.in_ok-push.ensures.items c.loop-colour.invariant

pub loop-region-preserved : goal.loop-region-preserved
loop-region-preserved c =
    more_rows c.args.colours c.loop-region.region c.loop-colour.colour c.loop-colour.numbers.items
    (omega (arith, c.loop-colour-test.false, c.loop-colour.auto.colour-end)) c.loop-colour.invariant

pub returns : goal.returns
returns c =
    c.loop-region.invariant
    ∙ ap (rows_to c.args.colours)
    (let e : c.loop-region.region ≡ c.args.regions = omega (arith, c.loop-region-test.false, c.loop-region.auto.region-end) in e)
