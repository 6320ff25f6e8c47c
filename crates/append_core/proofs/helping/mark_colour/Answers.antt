use Rattle.chain_store.specs.Holds.{view_of}
use Rattle.append_core.proofs.Taking.{proposed_on}
use Rattle.append_core.proofs.Marked.{colour_within, marked_at}
use Rattle.append_core.proofs.helping.mark_colour.Goals as goal

pub propose-requires-clause-colour : goal.propose-requires-clause-colour
propose-requires-clause-colour g c =
    colour_within c.args.region.now c.args.hold.now c.args.begun.now c.requires.begun c.args.colour c.requires.colour

pub returns-clause-goes : goal.returns-clause-goes
returns-clause-goes g c =
    let r = c.args.region.now in
    proposed_on c.args.hold.now c.propose.new.hold c.args.begun.now c.args.colour c.requires.colour
    c.propose.ensures.others r.board.size r.number (view_of c.propose.new.hold) c.propose.result.mark
    c.propose.result.at c.propose.ensures.at

pub returns-clause-marked : goal.returns-clause-marked
returns-clause-marked g c =
    marked_at c.args.region.now c.propose.new.hold c.args.begun.now c.args.colour c.propose.result.mark
    c.propose.ensures.set c.propose.ensures.known c.propose.ensures.entered
