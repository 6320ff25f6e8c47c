use Rattle.std.proofs.Common.{◌∙◌}
use Rattle.log_client.proofs.Append.Wanting.{wants_begin, wants_within, wants_next, wants_all}
use Rattle.log_client.proofs.client.Client.played_counts.Goals as goal

pub loop-colour-init : goal.loop-colour-init
loop-colour-init c =
    wants_begin c.args.self.now c.args.colours c.requires c.new-wants.result c.into_iter-colour-iterator.result
    c.new-wants.ensures (c.into_iter-colour-iterator.ensures.into_iter_gives ∙ c.members-colour-items.ensures)

pub snapshot-requires : goal.snapshot-requires
snapshot-requires c =
    wants_within c.args.self.now c.args.colours c.loop-colour.wants c.loop-colour.colour-iterator c.next.new.self
    c.in-Some.colour c.loop-colour.invariant c.in-Some.ensures.steps

pub loop-colour-preserved : goal.loop-colour-preserved
loop-colour-preserved c =
    wants_next c.args.self.now c.args.colours c.loop-colour.wants c.push.new.self c.loop-colour.colour-iterator
    c.next.new.self c.in-Some.colour c.snapshot.result.counts c.loop-colour.invariant c.in-Some.ensures.steps
    c.in_ok-push.ensures.ok c.snapshot.ensures.counts

pub returns : goal.returns
returns c =
    wants_all c.args.self.now c.args.colours c.loop-colour.wants c.loop-colour.colour-iterator c.loop-colour.invariant
    c.in-None.ensures.steps.0
