use Rattle.std.proofs.Common.{ap, sym, ◌∙◌}
use Rattle.std.specs.Prelude.{not}
use Rattle.std.proofs.lemmas.Bool.{and_from, cond-true}
use Rattle.world_laws.specs.Worlds.{may_mark, may_propose}
use Rattle.world_code.specs.WorldView.{world_of}
use Rattle.world_code.proofs.world.World.propose_next.Goals as goal

pub returns-in-Ok-clause-ok : goal.returns-in-Ok-clause-ok
returns-in-Ok-clause-ok c =
    let now = world_of c.args.self.now in
    c.in-Ok.ensures.ok
    ∙ sym (cond-true (may_propose now c.args.row c.args.colour) _ _
    (and_from (may_mark now c.args.row c.args.colour) _ c.requires.may (ap not c.requires.stamp)))
