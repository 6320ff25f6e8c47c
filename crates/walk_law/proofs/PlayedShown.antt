-- The node lines of a sync, by the lines of regions.
use Rattle.std.proofs.Common.{◌≡◌, ◌∙◌, ap, subst, ℕ, ◌<◌, Bool, List, take, arith}
use Rattle.std.specs.List.{AllZip}
use Rattle.log_node.specs.declared.ids.Counts.{Counts}
use Rattle.log_node.specs.declared.node.Node.{Node}
use Rattle.log_node.specs.Seen.{PlacedNode}
use Rattle.log_node.specs.Vectors.{least}
use Rattle.col_core.specs.Computed.{dated}
use Rattle.col_core.specs.Cuts.{chain}
use Rattle.col_core.specs.Keeping.{Kept}
use Rattle.col_core.specs.Laws.{PlayOrderIsUnique}
use Rattle.col_core.specs.Legal.{IsColumnHistory}
use Rattle.column_track.specs.Tracks.{Tells, Tracked}
use Rattle.playback.specs.Laws.{PlayOrderIsLawful}
use Rattle.playback.specs.Orders.{play_order}
use Rattle.report_text.specs.declared.report.SyncPiece.{SyncPiece}
use Rattle.lawful_run.specs.Callers.{Caller, caller_of}
use Rattle.run_rules.specs.Telling.{log_of, replies_to}
use Rattle.run_rules.specs.Shown.{SyncsAsTold}
use Rattle.walk_law.specs.Keepings.{Counted, IsCounted, start_at}
use Rattle.walk_law.specs.Ninth.{PlaysShown, ShowsPlace}
use Rattle.walk_law.specs.Playing.{lines_of}
use Rattle.walk_law.specs.Walking.{MayWalk, Walked, journal_walked}
use Rattle.walk_law.proofs.ChainBeginnings.{begins}
use Rattle.walk_law.proofs.PlayOrders.{keys_told}
use Rattle.walk_law.proofs.ThirdLemmas.{few_colours}

module _ (walked : Walked) (tracks : List Tracked) (may : MayWalk walked.script walked.report tracks) (nodes : ℕ → List Node)
    (client : ℕ) (kept : Kept) (counted : Counted) (is : IsCounted (replies_to walked.report client) kept counted) (sync : SyncPiece)
    (unique : PlayOrderIsUnique) (lawful : PlayOrderIsLawful)
    (synced : SyncsAsTold (log_of walked.report nodes) (caller_of walked.script client) kept sync) where
  abbrev caller : Caller
  caller = caller_of walked.script client

  pub played_told : (own : ℕ) → own ≡ caller.own → own < walked.script.shape.regions → sync.colour < walked.script.shape.colours
      → IsColumnHistory own walked.script.shape.regions (dated own (journal_walked walked own sync.colour))
      → (start : Counts) → start ≡ start_at counted sync.colour → (from : Counts) → from ≡ least start sync.counts
      → (items : List PlacedNode) (b : Bool)
      → Tells b (AllZip (ShowsPlace (lines_of walked sync.colour)) (play_order (lines_of walked sync.colour) from sync.counts) items)
      → Tells b (PlaysShown (log_of walked.report nodes) caller kept sync.colour sync.events sync.counts items)
  played_told own e lt low legal start start_is from from_is items b told =
      let few = few_colours walked.script may.fitting in
      let began : start ≡ kept.starts sync.colour = start_is ∙ is.starts sync.colour (omega (arith, low, few)) in
      let home = subst (λ (o : ℕ). o < walked.script.shape.regions) e lt in
      let its = subst (λ (o : ℕ). IsColumnHistory o walked.script.shape.regions (dated o (journal_walked walked o sync.colour))) e legal in
      keys_told (chain caller.own (dated caller.own (take sync.events (journal_walked walked caller.own sync.colour))))
      (lines_of walked sync.colour) (kept.starts sync.colour) sync.counts synced.cut.reached
      (begins walked tracks may caller.own sync.colour home low its sync.events) unique lawful items b
      (subst (λ (v : Counts). Tells b (AllZip (ShowsPlace (lines_of walked sync.colour))
      (play_order (lines_of walked sync.colour) v sync.counts) items)) (from_is ∙ ap (λ (v : Counts). least v sync.counts) began) told)
