use Rattle.walk_law.proofs.ClosingLemmas.{lawful_told, makers_not, makers_so}
use Rattle.walk_law.proofs.journals.is_lawful.Goals as goal

pub returns-then-not-are_makers : goal.returns-then-not-are_makers
returns-then-not-are_makers c =
    makers_not c.args.script.now c.args.column.now c.as_slice.result.now c.len.result c.are_makers.result c.as_slice.ensures
    c.len.ensures c.are_makers.ensures c.if-not-are_makers.true

pub returns : goal.returns
returns c =
    lawful_told c.args.script.now c.args.column.now c.args.track.now c.requires c.agrees.ensures
    (makers_so c.args.script.now c.args.column.now c.as_slice.result.now c.len.result c.are_makers.result c.as_slice.ensures
    c.len.ensures c.are_makers.ensures c.if-not-are_makers.false)
    c.shows_closing.result c.shows_closing.ensures
