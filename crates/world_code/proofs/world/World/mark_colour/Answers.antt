use Rattle.std.proofs.Common.{ap, sym, ◌∙◌}
use Rattle.world_laws.specs.Worlds.{after, reply}
use Rattle.world_code.specs.WorldView.{WorldView, world_of}
use Rattle.world_laws.specs.declared.steps.Step.TheVariants.{Fence}
use Rattle.log_node.specs.declared.marks.Why.TheVariants.{Memory}
use Rattle.world_code.proofs.AllMarks.{proposed, fenced}
use Rattle.world_code.proofs.world.World.mark_colour.Goals as goal

pub returns-in-Ok : goal.returns-in-Ok
returns-in-Ok c =
    proposed (world_of c.args.self.now) c.args.by c.args.row c.args.colour _ _ (sym c.if-is_row_at_end.ensures)
    c.in-Ok.ensures.ok (c.placed_reply.ensures ∙ c.in-Ok.ensures.reply)

pub returns-in-Err : goal.returns-in-Err
returns-in-Err c =
    fenced (world_of c.args.self.now) c.args.by c.args.row c.args.colour _ _ (sym c.if-is_row_at_end.ensures)
    (c.fence-in-Err.ensures.world
    ∙ ap (λ (k : WorldView). after (world_of k) (Fence c.args.row c.args.colour Memory)) c.in-Err.ensures.err)
    (c.marked_reply-in-Err.ensures ∙ (c.fence-in-Err.ensures.reply
    ∙ ap (λ (k : WorldView). reply (world_of k) (Fence c.args.row c.args.colour Memory)) c.in-Err.ensures.err))
