use Rattle.std.proofs.Common.{◌≡◌, ◌∙◌, List, ap, sym, subst}
use Rattle.log_node.specs.declared.ids.Counts.{Counts}
use Rattle.log_node.specs.Seen.{PlacedNode}
use Rattle.log_node.specs.Vectors.{is_within, IsWithin}
use Rattle.log_node.specs.Reach.{Chains, Reachable}
use Rattle.playback.specs.declared.player.Player.{Player}
use Rattle.playback.specs.declared.player.Snapshot.{Snapshot}
use Rattle.playback.specs.Playing.{ShowsChains, ArePlayed, HasPlayCause}
use Rattle.world_laws.specs.Laws.{StaysWithinCuts}
use Rattle.world_laws.proofs.CallerLemmas.{of_reached}
use Rattle.world_code.specs.WorldView.{world_of}
use Rattle.script_meaning.specs.Moves.{synced}
use Rattle.report_text.specs.declared.report.Answer.TheVariants as answers
use Rattle.script_in_order.specs.Doing.{DoneBy}
use Rattle.script_in_order.proofs.SyncPlays.{are_played, plays_just, plays, refuses}
use Rattle.script_in_order.proofs.CommandKinds.{does_what}
use Rattle.script_in_order.proofs.syncs.sync.Goals as goal

pub play-requires-clause-cut : goal.play-requires-clause-cut
play-requires-clause-cut c =
    let w = world_of c.args.world.now in
    let client = c.args.command.now.client in
    let cuts = of_reached StaysWithinCuts c.stays_within_cuts.ensures w c.is_whole.ensures.reached in
    subst (λ (v : Counts). IsWithin v c.in_ok-view.view.cut)
    (sym (ap (λ (p : Player). p.played) c.player_of-player.ensures))
    (subst (IsWithin ((w.clients client).played c.args.colour)) (sym c.in_ok-view.ensures.cut)
    (cuts.played client c.args.colour))

pub returns-in-Some-clause-ok : goal.returns-in-Some-clause-ok
returns-in-Some-clause-ok c =
    let w = world_of c.args.world.now in
    let command = c.args.command.now in
    does_what c.args.objects.now c.args.command.now c.requires.asks (subst (λ (l : List PlacedNode). DoneBy (λ _ state. synced state command c.args.colour) command
    w w (answers.Trimmed c.args.colour c.in-Some.base) l) (sym c.requires.none)
    (refuses command w c.args.colour c.in-Some.base c.in-Some.ensures.some.0 c.in-Some.ensures.some.1))

pub returns-in-Err-Trimmed-clause-ok : goal.returns-in-Err-Trimmed-clause-ok
returns-in-Err-Trimmed-clause-ok c =
    let w = world_of c.args.world.now in
    let command = c.args.command.now in
    let look = c.in_ok-view.ensures in
    let cause = subst (HasPlayCause c.in_ok-view.view c.player_of-player.result.played) c.in-Err-Trimmed.field-0-is
    c.in-Err-Trimmed.ensures.cause in
    does_what c.args.objects.now c.args.command.now c.requires.asks (subst (λ (l : List PlacedNode). DoneBy (λ _ state. synced state command c.args.colour) command
    w w (answers.Trimmed c.args.colour c.in-Err-Trimmed.base) l) (sym c.requires.none)
    (refuses command w c.args.colour c.in-Err-Trimmed.base
    (plays_just w command.client c.args.colour c.in_ok-view.view.base c.requires.caller
    (c.is_whole.ensures.homes command.client 0 c.requires.caller) c.requires.within look.base
    ∙ (ap (λ (p : Player). is_within c.in_ok-view.view.base p.played) (sym c.player_of-player.ensures) ∙ cause.1))
    (cause.0 ∙ look.base)))

pub returns-in-Ok-clause-ok : goal.returns-in-Ok-clause-ok
returns-in-Ok-clause-ok c =
    let w = world_of c.args.world.now in
    let command = c.args.command.now in
    let view = c.in_ok-view.view in
    let look = c.in_ok-view.ensures in
    let from = (w.clients command.client).played c.args.colour in
    let mine : c.player_of-player.result.played ≡ from = ap (λ (p : Player). p.played) c.player_of-player.ensures in
    let low : IsWithin view.base from = subst (IsWithin view.base) mine c.in-Ok.ensures.trimmed in
    let shown : (chains : Chains) → ShowsChains view chains → Reachable chains view.cut
    → ArePlayed view chains from c.in-Ok.played.items =
    subst (λ (v : Counts). (chains : Chains) → ShowsChains view chains → Reachable chains view.cut
    → ArePlayed view chains v c.in-Ok.played.items) mine c.in-Ok.ensures.items in
    does_what c.args.objects.now c.args.command.now c.requires.asks (plays command w (world_of c.play-played.new.self) c.args.colour view.events c.len-plays.result
    c.in-Ok.played.snapshot.counts c.in-Ok.played.items
    (plays_just w command.client c.args.colour view.base c.requires.caller
    (c.is_whole.ensures.homes command.client 0 c.requires.caller) c.requires.within look.base ∙ low)
    (are_played w command.client c.args.colour view look low c.in-Ok.played.items shown) c.len-plays.ensures
    look.events (ap (λ (s : Snapshot). s.counts) c.in-Ok.ensures.snapshot ∙ look.cut) c.play-played.ensures.world)
