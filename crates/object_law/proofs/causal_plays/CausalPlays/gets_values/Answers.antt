use Rattle.std.proofs.Common.{rules, subst, sym, ℕ}
use Rattle.log_node.specs.Reach.{Reachable}
use Rattle.column_track.specs.Tracks.{Tells}
use Rattle.walk_law.specs.Playing.{lines_of}
use Rattle.object_law.specs.CausalPlays.{GetsByLines}
use Rattle.object_law.proofs.CausalNodes.{lines_reached, lines_told}
use Rattle.object_law.proofs.causal_plays.CausalPlays.gets_values.Goals as goal

pub returns-clause-told : goal.returns-clause-told
returns-clause-told c = λ low cut.
    let a = c.args in
    let walked = a.subject.now in
    let may = c.agrees.ensures.may in
    let own = c.own-own in
    let colour = c.play_of-play.ensures.colour in
    lines_told walked may.0 may.1 a.client a.sync own.result own.ensures.own own.ensures.within low (search rules) cut a.nodes.now
    a.key.now a.values.now c.in_ok-right.right
    (subst (λ (k : ℕ). Tells c.in_ok-right.right (GetsByLines walked a.nodes.now k a.sync.counts a.key.now a.values.now)) colour
    (c.in_ok-right.ensures.told (subst (λ (k : ℕ). Reachable (lines_of walked k) a.sync.counts) (sym colour)
    (lines_reached walked may.0 may.1 a.client a.sync own.result own.ensures.own own.ensures.within low (search rules) cut))))

pub returns-clause-plays : goal.returns-clause-plays
returns-clause-plays c =
    c.put.ensures c.args.subject.now c.args.nodes.now
    (c.play_of-play.ensures.play c.args.subject.now c.args.nodes.now c.requires.plays).1 c.in_ok-right.ensures.holds
