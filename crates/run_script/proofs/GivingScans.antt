-- What a client gives to a scan, by what its stamped read left.
use Rattle.std.proofs.Common.{◌≡◌, ℕ, List, [], length, map, refl, sym, subst, inl, inr}
use Rattle.std.specs.List.{AllZip}
use Rattle.log_node.specs.declared.ids.Colours.{Colours}
use Rattle.log_node.specs.declared.ids.Counts.{Counts}
use Rattle.log_node.specs.Seen.{PlacedNode}
use Rattle.log_node.specs.Sets.{members}
use Rattle.col_core.specs.Keeping.{Kept}
use Rattle.col_core.specs.Log.{Log}
use Rattle.script_text.specs.declared.commands.What.TheVariants as whats
use Rattle.report_text.specs.declared.report.Answer.{Answer}
use Rattle.report_text.specs.declared.report.Answer.TheVariants as answers
use Rattle.lawful_run.specs.Callers.{Caller}
use Rattle.lawful_run.specs.Explains.{Explains}
use Rattle.lawful_run.specs.Reads.{AreKeysRead, HidesRead, ReadsAt, RefusesRead}
use Rattle.log_client.specs.declared.store.Store.{Store}
use Rattle.log_client.specs.declared.client.Client.{Client}
use Rattle.log_client.specs.declared.answers.StampedRead.{StampedRead}
use Rattle.log_client.specs.declared.faults.SyncFault.TheVariants as sync_faults
use Rattle.log_client.specs.Fits.{HaveGoneOn}
use Rattle.log_client.specs.Growing.{HasGrown}
use Rattle.log_client.specs.Clients.{IsClient, Finished, holds_of}
use Rattle.log_client.specs.Calls.{IsExplained, IsSame}
use Rattle.log_client.specs.StampedReads.{ReadRefused, ReadsAll, ShowsItem, raise_piece, sync_piece}
use Rattle.log_client.proofs.CallerLemmas.{items_show}
use Rattle.run_script.specs.Serving.{ServesLog}
use Rattle.run_script.proofs.CommandAnswers.{scanned, scan_no_memory, scan_trimmed}
use Rattle.run_script.proofs.Giving.{gives_so}

module _ (s : Store) (c d : Client) (rests : IsClient s d) (same : IsSame c d)
    (goes : HaveGoneOn (holds_of c) (holds_of d)) (grows : HasGrown c d) (finished : Finished c → Finished d)
    (colours : Colours) where
  -- by a record that explains the answer; a scan may have helped
  given : (answer : Answer) (nodes : List PlacedNode) (Record : Log → Caller → Kept → Kept → Type 0)
      → IsExplained s c d Record
      → ((log : Log) (caller : Caller) (kept after : Kept) → Record log caller kept after
      → Explains log caller kept (whats.Scan colours) answer nodes after)
      → ServesLog s c d (whats.Scan colours) answer nodes
  given answer nodes Record =
      gives_so s c d rests same goes grows (whats.Scan colours) answer nodes Record refl (λ done. inl (finished done))
      (λ helps. inr refl)

  pub gives_scan : (read : StampedRead) (answer : Answer) (nodes : List PlacedNode)
      → answer
      ≡ answers.Scanned read.stamp (length read.items) (map raise_piece read.raises) (map sync_piece read.syncs)
      → nodes ≡ read.items → ReadsAll s c d (members colours) read → ServesLog s c d (whats.Scan colours) answer nodes
  gives_scan read answer nodes is are reads =
      subst (λ (a : Answer). ServesLog s c d (whats.Scan colours) a nodes) (sym is)
      (subst (λ (ns : List PlacedNode). ServesLog s c d (whats.Scan colours)
      (answers.Scanned read.stamp (length read.items) (map raise_piece read.raises) (map sync_piece read.syncs)) ns) (sym are)
      (given (answers.Scanned read.stamp (length read.items) (map raise_piece read.raises) (map sync_piece read.syncs))
      read.items
      (λ log caller kept after.
      ReadsAt log caller kept (members colours) read.stamp (map raise_piece read.raises) (map sync_piece read.syncs) after
      × AreKeysRead log caller read.stamp (map sync_piece read.syncs) reads.0
      × AllZip (ShowsItem log) reads.0 read.items)
      reads.2
      (λ log caller kept after r.
      scanned log caller kept after colours read.stamp (map raise_piece read.raises) (map sync_piece read.syncs) reads.0
      read.items r.0 r.1 (items_show log reads.0 read.items r.2))))

  pub gives_scan_trimmed : (colour : ℕ) (base : Counts)
      → ReadRefused s c d (members colours) (sync_faults.Trimmed colour base)
      → ServesLog s c d (whats.Scan colours) (answers.Trimmed colour base) []
  gives_scan_trimmed colour base is =
      given (answers.Trimmed colour base) []
      (λ log caller kept after. RefusesRead log caller kept (members colours) colour base after) is
      (λ log caller kept after r. scan_trimmed log caller kept after colours colour base r)

  pub gives_scan_without : ReadRefused s c d (members colours) sync_faults.NoMemory
      → ServesLog s c d (whats.Scan colours) answers.NoMemory []
  gives_scan_without is =
      given answers.NoMemory [] (λ log caller kept after. HidesRead log caller kept (members colours) after) is
      (λ log caller kept after r. scan_no_memory log caller kept after colours r)
