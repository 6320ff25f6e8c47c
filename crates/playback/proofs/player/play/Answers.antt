use Rattle.std.proofs.Common.{sym}
use Rattle.playback.proofs.Steps.{looked_from, looked_past, are_played}
use Rattle.playback.proofs.player.play.Goals as goal

pub taken_in_order-requires-clause-from : goal.taken_in_order-requires-clause-from
taken_in_order-requires-clause-from c =
    looked_from c.args.view c.args.player.now.played c.requires.from (sym c.if-not-is_within.ensures)

pub taken_in_order-requires-clause-start : goal.taken_in_order-requires-clause-start
taken_in_order-requires-clause-start c = looked_past c.args.view c.args.player.now.played c.requires.from

pub returns-clause-items : goal.returns-clause-items
returns-clause-items c =
    are_played c.args.view c.args.player.now.played c.in_ok-items.items
    (looked_from c.args.view c.args.player.now.played c.requires.from (sym c.if-not-is_within.ensures))
    c.requires.cut c.in_ok-items.ensures
