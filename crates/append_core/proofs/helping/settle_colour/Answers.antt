use Rattle.append_core.specs.Helping.{IsStepIn}
use Rattle.append_core.proofs.Taking.{settled_on}
use Rattle.append_core.proofs.Marked.{colour_within, marked_later, settled_at}
use Rattle.append_core.proofs.helping.settle_colour.Goals as goal

pub settle-requires-clause-colour : goal.settle-requires-clause-colour
settle-requires-clause-colour g c =
    colour_within c.args.region.now c.args.hold.now c.args.begun.now c.requires.begun c.args.colour c.requires.colour

pub returns-clause-goes : goal.returns-clause-goes
returns-clause-goes g c =
    settled_on c.args.hold.now c.settle.new.hold c.args.begun.now c.args.colour c.requires.colour c.settle.ensures.others
    c.args.outcome c.settle.result.at c.settle.ensures.at

pub returns-clause-settled : goal.returns-clause-settled
returns-clause-settled g c =
    let e = c.settle.ensures in
    let h = c.settle.new.hold in
    let goes = settled_on c.args.hold.now h c.args.begun.now c.args.colour c.requires.colour e.others c.args.outcome
    c.settle.result.at e.at in
    settled_at h c.args.begun.now c.args.outcome c.args.colour
    (marked_later (IsStepIn c.args.begun.now) c.args.hold.now h c.args.begun.now goes e.same.0.grows c.args.colour
    c.requires.marked)
    e.closed e.stands
