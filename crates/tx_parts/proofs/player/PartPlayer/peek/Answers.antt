use Rattle.std.proofs.Common.{List, ℕ, subst}
use Rattle.object_fold.specs.Nodes.{object_nodes}
use Rattle.log_client.specs.Clients.{own_line}
use Rattle.tx_parts.specs.Players.{Shows}
use Rattle.tx_parts.proofs.PlayerAnswers.{peeks}
use Rattle.tx_parts.proofs.player.PartPlayer.peek.Goals as goal

pub returns-in-Ok-shown-clause-ok : goal.returns-in-Ok-shown-clause-ok
returns-in-Ok-shown-clause-ok g c =
    let nodes = object_nodes (own_line c.play.new.client c.args.self.now.colour) in
    peeks c.args.store.now c.args.client.now c.play.new.client c.args.self.now c.play.new.self c.in-Ok.synced
    c.play.ensures.client c.play.ensures.same c.play.ensures.player c.in-Ok.ensures.played c.in-Ok.ensures.ok c.args.key.now
    c.in-Ok-shown.peek
    (subst (λ (k : List ℕ). Shows c.play.new.self.part.state.part k c.in-Ok-shown.peek nodes) c.as_bytes.ensures
    (c.in-Ok-shown.ensures nodes c.in-Ok.ensures.part))
