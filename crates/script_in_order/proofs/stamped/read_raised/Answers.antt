use Rattle.std.proofs.Common.{◌≡◌, ◌∙◌, ◌<◌, ℕ, Option, map, ap, sym, subst}
use Rattle.std.specs.List.{All, fold}
use Rattle.log_node.specs.declared.ids.Key.{Key}
use Rattle.log_node.specs.declared.node.Shape.{Shape}
use Rattle.log_node.specs.Sets.{members}
use Rattle.report_text.specs.declared.report.SyncPiece.{SyncPiece}
use Rattle.world_code.specs.WorldView.{world_of}
use Rattle.world_laws.specs.Worlds.{base_after}
use Rattle.script_meaning.specs.Helping.{cleared}
use Rattle.script_meaning.specs.Stamped.{played}
use Rattle.script_in_order.specs.Helps.{HelpsLead}
use Rattle.script_in_order.specs.Stamped.{looked_in}
use Rattle.script_in_order.proofs.StampedWholes.{all_looked, looks_are, see_shape, reads_refused, reads_whole}
use Rattle.script_in_order.proofs.stamped.read_raised.Goals as goal

pub with_looks-syncs-requires-clause-within : goal.with_looks-syncs-requires-clause-within
with_looks-syncs-requires-clause-within c =
    subst (λ (s : Shape). All (λ (x : SyncPiece). x.colour < s.colours) c.args.syncs.items)
    (sym c.clear_all.ensures.shape)
    (all_looked c.args.world.now.shape.colours (members c.args.colours) c.args.syncs.items c.requires.looks
    c.requires.within)

pub returns-in-Some-clause-reads : goal.returns-in-Some-clause-reads
returns-in-Some-clause-reads c =
    let old = world_of c.args.world.now in
    let mid = world_of c.clear_all.new.world in
    let new = world_of c.play_all.new.world in
    let cs = members c.args.colours in
    reads_refused old mid new c.args.client c.args.stamp cs c.args.raises c.in-Some.colour c.base-base.result
    (subst (λ (key : Key). HelpsLead (λ grants h. fold (cleared grants c.args.client key) h cs) old mid)
    c.key_above.ensures c.clear_all.ensures.helps)
    c.in-Some.ensures.plays
    (c.base-base.ensures ∙ ap (λ (r : ℕ). base_after new.shape.regions r (new.histories r c.in-Some.colour))
    c.home.ensures.home)

pub returns-clause-reads : goal.returns-clause-reads
returns-clause-reads c =
    let old = world_of c.args.world.now in
    let mid = world_of c.clear_all.new.world in
    let last = world_of c.play_all.new.world in
    let cs = members c.args.colours in
    reads_whole old mid last (world_of c.see.new.self) c.args.client c.args.stamp cs c.args.raises
    c.with_looks-syncs.result
    (subst (λ (key : Key). HelpsLead (λ grants h. fold (cleared grants c.args.client key) h cs) old mid)
    c.key_above.ensures c.clear_all.ensures.helps)
    (subst (λ (o : Option ℕ). played c.args.client mid cs ≡ record { world = last; stopped = o }) c.in_default.is
    c.play_all.ensures.plays)
    c.see.ensures
    (c.with_looks-syncs.ensures ∙ (ap (map (looked_in mid c.args.client)) c.requires.looks
    ∙ looks_are mid c.args.client cs))

pub returns-clause-shape : goal.returns-clause-shape
returns-clause-shape c =
    see_shape (world_of c.play_all.new.world) (world_of c.see.new.self) c.args.client c.args.stamp c.see.ensures
    ∙ (c.play_all.ensures.shape ∙ c.clear_all.ensures.shape)
