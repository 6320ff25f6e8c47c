use Rattle.std.proofs.Common.{◌∙◌, map, ap, refl}
use Rattle.log_node.specs.declared.ids.Counts.{Counts}
use Rattle.log_node.specs.Sets.{members}
use Rattle.report_text.specs.declared.report.SyncPiece.{SyncPiece}
use Rattle.script_in_order.specs.Stamped.{no_look}
use Rattle.script_in_order.proofs.Sets.{made_first, made_next, made_all}
use Rattle.script_in_order.proofs.stamped.no_looks.Goals as goal

pub loop-colour-init : goal.loop-colour-init
loop-colour-init c =
    made_first no_look (map no_look (members c.args.colours)) c.new-syncs.result.items c.into_iter-colour-iterator.result
    (members c.args.colours) c.new-syncs.ensures.items
    (c.into_iter-colour-iterator.ensures.into_iter_gives ∙ c.members-colour-items.ensures) refl

pub loop-colour-preserved : goal.loop-colour-preserved
loop-colour-preserved c =
    let colour = c.in-Some.colour in
    made_next no_look (map no_look (members c.args.colours)) c.loop-colour.syncs.items c.push.new.self.items _ colour
    c.loop-colour.colour-iterator c.next.new.self c.in-Some.ensures.steps c.in_ok-push.ensures.items
    (ap (λ (v : Counts). let s : SyncPiece = record { colour = colour; events = 0; counts = v } in s) c.zeros.ensures)
    c.loop-colour.invariant

pub returns : goal.returns
returns c =
    made_all no_look (map no_look (members c.args.colours)) c.loop-colour.syncs.items c.loop-colour.colour-iterator
    c.in-None.ensures.steps.0 c.loop-colour.invariant
