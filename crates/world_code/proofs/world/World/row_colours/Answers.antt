use Rattle.std.proofs.Common.{ap, sym, ◌∙◌}
use Rattle.std.proofs.lemmas.Option.{get_or_from_slice_get}
use Rattle.log_node.specs.declared.node.Node.{Node}
use Rattle.world_laws.specs.Worlds.{no_row}
use Rattle.world_code.specs.WorldView.{client_at}
use Rattle.world_code.proofs.world.World.row_colours.Goals as goal

pub returns : goal.returns
returns c =
    ap (λ (n : Node). n.colours)
    (c.deref.ensures
    ∙ sym (get_or_from_slice_get (client_at c.args.self.now c.args.row.client).begun c.args.row.number
    c.in-Some.node.now.value no_row.node c.in-Some.ensures.some.1))
