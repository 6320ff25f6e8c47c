-- What an answer shows, from what its parts are found to be.
use Rattle.std.proofs.Common.{◌≡◌, sym, subst, Bool, ℕ, List, length, map, Option}
use Rattle.std.specs.List.{All}
use Rattle.log_node.specs.Seen.{PlacedNode}
use Rattle.col_core.specs.Keeping.{Kept}
use Rattle.col_core.specs.Log.{Log}
use Rattle.script_text.specs.declared.commands.What.{What}
use Rattle.report_text.specs.declared.report.Answer.{Answer}
use Rattle.report_text.specs.declared.report.Ended.{Ended}
use Rattle.report_text.specs.declared.report.PointPiece.{PointPiece}
use Rattle.report_text.specs.declared.report.RaisePiece.{RaisePiece}
use Rattle.report_text.specs.declared.report.Report.{Report}
use Rattle.report_text.specs.declared.report.SyncPiece.{SyncPiece}
use Rattle.lawful_run.specs.Callers.{Caller, caller_of}
use Rattle.lawful_run.specs.Reads.{AreKeysRead, kept_after_piece}
use Rattle.run_rules.specs.Answering.{HasReads}
use Rattle.run_rules.specs.Told.{Untold, kept_after_append, kept_after_end, kept_after_read, kept_deciding, kept_told, stamp_told}
use Rattle.run_rules.specs.Telling.{no_nodes, replies_to}
use Rattle.run_rules.specs.Said.{nodes_shown}
use Rattle.run_rules.specs.Shown.{ReadsColours, SyncsAsTold}
use Rattle.run_rules.proofs.CallerLemmas.{stamp_one}
use Rattle.walk_law.specs.Keepings.{Counted}
use Rattle.walk_law.specs.Ninth.{IsTextFirst, PassesTo, PlaysShown, ShowsFirst, key_shown, log_shown}
use Rattle.walk_law.specs.Walking.{Walked, log_walked}

pub has_same : (colours : List ℕ) (raises given : List RaisePiece) (syncs taken : List SyncPiece) → given ≡ raises → taken ≡ syncs
    → HasReads colours raises syncs → HasReads colours given taken
has_same colours raises given syncs taken e f has =
    subst (λ (l : List RaisePiece). HasReads colours l taken) (sym e) (subst (HasReads colours raises) (sym f) has)

module _ (walked : Walked) (client : ℕ) (new : Counted) (b : Bool) where
  abbrev who : Caller
  who = caller_of walked.script client

  abbrev log : Log
  log = log_shown walked.script walked.report

  -- part of an answer passes to what is kept
  abbrev Passes : Type 0 → Kept → Type 0
  Passes Asked after = PassesTo (replies_to walked.report client) Asked after new b

  pub shows_of : (texts : Report) (untold : Untold) (kept : Kept) (what : What) (nodes : List PlacedNode) (answer is : Answer)
      → answer ≡ is
      → PassesTo (replies_to walked.report client) (ShowsFirst texts log untold who kept what nodes is)
      (kept_told (log_walked walked) untold who kept what is) new b
      → PassesTo (replies_to walked.report client) (ShowsFirst texts log untold who kept what nodes answer)
      (kept_told (log_walked walked) untold who kept what answer) new b
  shows_of texts untold kept what nodes answer is e passes =
      subst (λ (a : Answer). Passes (ShowsFirst texts log untold who kept what nodes a) (kept_told (log_walked walked) untold who kept what a))
      (sym e) passes

  pub played_same : (texts : Report) (kept : Kept) (sync : SyncPiece) (plays : ℕ) (nodes given : List PlacedNode) → given ≡ nodes
      → PassesTo (replies_to walked.report client) ((plays ≡ length given) × SyncsAsTold log who kept sync
      × PlaysShown log who kept sync.colour sync.events sync.counts given × All (IsTextFirst texts) given)
      (kept_after_piece log who kept sync) new b
      → PassesTo (replies_to walked.report client) ((plays ≡ length nodes) × SyncsAsTold log who kept sync
      × PlaysShown log who kept sync.colour sync.events sync.counts nodes × All (IsTextFirst texts) nodes)
      (kept_after_piece log who kept sync) new b
  played_same texts kept sync plays nodes given e passes =
      subst (λ (l : List PlacedNode). Passes ((plays ≡ length l) × SyncsAsTold log who kept sync
      × PlaysShown log who kept sync.colour sync.events sync.counts l × All (IsTextFirst texts) l) (kept_after_piece log who kept sync))
      e passes

  module _ (raises given : List RaisePiece) (syncs taken : List SyncPiece) (e : given ≡ raises) (f : taken ≡ syncs) where
    same_lists : (P : List RaisePiece → List SyncPiece → Type 0) → P given taken → P raises syncs
    same_lists P p = subst (λ (l : List RaisePiece). P l syncs) e (subst (P given) f p)

    pub reads_same : (kept : Kept) (colours : List ℕ) (stamp : ℕ)
        → PassesTo (replies_to walked.report client) (ReadsColours log who kept colours stamp given taken)
        (kept_after_read log who kept stamp given taken) new b
        → PassesTo (replies_to walked.report client) (ReadsColours log who kept colours stamp raises syncs)
        (kept_after_read log who kept stamp raises syncs) new b
    reads_same kept colours stamp =
        same_lists (λ r s. Passes (ReadsColours log who kept colours stamp r s) (kept_after_read log who kept stamp r s))

    pub scan_same : (texts : Report) (kept : Kept) (colours : List ℕ) (stamp count : ℕ) (nodes shown : List PlacedNode) → shown ≡ nodes
        → PassesTo (replies_to walked.report client) ((count ≡ length shown) × ReadsColours log who kept colours stamp given taken
        × AreKeysRead log who stamp taken (map key_shown shown) × All (IsTextFirst texts) shown)
        (kept_after_read log who kept stamp given taken) new b
        → PassesTo (replies_to walked.report client) ((count ≡ length nodes) × ReadsColours log who kept colours stamp raises syncs
        × AreKeysRead log who stamp syncs (map key_shown nodes) × All (IsTextFirst texts) nodes)
        (kept_after_read log who kept stamp raises syncs) new b
    scan_same texts kept colours stamp count nodes shown g passes =
        same_lists (λ r s. Passes ((count ≡ length nodes) × ReadsColours log who kept colours stamp r s
        × AreKeysRead log who stamp s (map key_shown nodes) × All (IsTextFirst texts) nodes) (kept_after_read log who kept stamp r s))
        (subst (λ (l : List PlacedNode). Passes ((count ≡ length l) × ReadsColours log who kept colours stamp given taken
        × AreKeysRead log who stamp taken (map key_shown l) × All (IsTextFirst texts) l) (kept_after_read log who kept stamp given taken)) g
        passes)

    pub behind_same : (untold : Untold) (kept : Kept) (colours : List ℕ) (stamp : ℕ) (row : Option ℕ) (points named : List PointPiece)
        → named ≡ points
        → PassesTo (replies_to walked.report client) (ReadsColours log who
        (kept_after_append untold who kept (stamp_told (log_walked walked) who kept row named) row named) colours stamp given taken)
        (kept_after_read log who (kept_after_append untold who kept (stamp_told (log_walked walked) who kept row named) row named) stamp
        given taken) new b
        → PassesTo (replies_to walked.report client) (ReadsColours log who
        (kept_after_append untold who kept (stamp_told log who kept row points) row points) colours stamp raises syncs)
        (kept_after_read log who (kept_after_append untold who kept (stamp_told (log_walked walked) who kept row points) row points) stamp
        raises syncs) new b
    behind_same untold kept colours stamp row points named g passes =
        let after : List PointPiece → Kept = λ ps.
        kept_after_append untold who kept (stamp_told (log_walked walked) who kept row ps) row ps in
        subst (λ (m : ℕ). Passes (ReadsColours log who (kept_after_append untold who kept m row points) colours stamp raises syncs)
        (kept_after_read log who (after points) stamp raises syncs))
        (stamp_one walked.report no_nodes (nodes_shown walked.script walked.report) who kept row points)
        (same_lists (λ r s. Passes (ReadsColours log who (after points) colours stamp r s) (kept_after_read log who (after points) stamp r s))
        (subst (λ (ps : List PointPiece). Passes (ReadsColours log who (after ps) colours stamp given taken)
        (kept_after_read log who (after ps) stamp given taken)) g passes))

    pub decided_same : (untold : Untold) (kept : Kept) (colours : List ℕ) (sync : SyncPiece) (stamp : ℕ) (ended : Ended)
        → PassesTo (replies_to walked.report client) (SyncsAsTold log who kept sync
        × ReadsColours log who (kept_after_piece log who kept sync) colours stamp given taken)
        (kept_after_end untold who (kept_deciding log who kept sync stamp given taken) ended) new b
        → PassesTo (replies_to walked.report client) (SyncsAsTold log who kept sync
        × ReadsColours log who (kept_after_piece log who kept sync) colours stamp raises syncs)
        (kept_after_end untold who (kept_deciding log who kept sync stamp raises syncs) ended) new b
    decided_same untold kept colours sync stamp ended =
        same_lists (λ r s. Passes (SyncsAsTold log who kept sync × ReadsColours log who (kept_after_piece log who kept sync) colours stamp r s)
        (kept_after_end untold who (kept_deciding log who kept sync stamp r s) ended))
