use Rattle.std.proofs.Common.{◌++◌, List, ap, refl, sym, ◌∙◌}
use Rattle.log_node.specs.Seen.{PlacedNode}
use Rattle.chain_store.specs.Regions.{tag_at}
use Rattle.chain_store.specs.Holds.{seen_in}
use Rattle.log_client.specs.declared.track.Track.{Track}
use Rattle.log_client.proofs.Sync.Plays.{view_on, within_view, plays_on}
use Rattle.log_client.proofs.syncs.play_on.Goals as goal

pub play-requires-clause-cut : goal.play-requires-clause-cut
play-requires-clause-cut g c =
    let track = c.args.track.now in
    let colour = track.snapshot.colour in
    let from = track.snapshot.counts in
    let on = c.in-Ok-On in
    let e = on.ensures in
    within_view c.args.region.now colour c.args.hold.now c.look_on.new.hold from on.view e.hold c.requires.colour e.sees.more
    (view_on (tag_at c.args.region.now colour) (seen_in c.look_on.new.hold colour) from on.field-0 on.view on.field-0-is e.looked)
    c.requires.track.reached

pub returns-in-Ok-extend-clause-ok : goal.returns-in-Ok-extend-clause-ok
returns-in-Ok-extend-clause-ok g c =
    let track = c.args.track.now in
    let colour = track.snapshot.colour in
    let from = track.snapshot.counts in
    let on = c.in-Ok-On in
    let e = on.ensures in
    let p = c.in-Ok-play.ensures in
    let shows = view_on (tag_at c.args.region.now colour) (seen_in c.look_on.new.hold colour) from on.field-0 on.view on.field-0-is e.looked in
    plays_on c.args.region.now c.look_on.new.hold track c.extend.new.track c.in-Ok-extend.answer.0 c.in-Ok-extend.answer.1
    on.view.events on.view c.in-Ok-play.played c.in-Ok.line c.requires.few e.hold c.requires.colour shows p.items p.snapshot
    (within_view c.args.region.now colour c.args.hold.now c.look_on.new.hold from on.view e.hold c.requires.colour e.sees.more
    shows c.requires.track.reached) p.trimmed refl c.in-Ok.ensures c.in-Ok-extend.ensures.ok

pub returns-in-Ok-extend-clause-nodes : goal.returns-in-Ok-extend-clause-nodes
returns-in-Ok-extend-clause-nodes g c shown =
    let e = c.in-Ok-extend.ensures in
    ap (λ (t : Track). t.nodes) e.ok.track ∙ ap (λ (l : List PlacedNode). c.args.track.now.nodes ++ l) (sym (e.nodes shown))
