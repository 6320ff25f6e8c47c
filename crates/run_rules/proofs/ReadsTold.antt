-- What a stamped read names, and what is kept behind it.
use Rattle.std.proofs.Common.{◌≡◌, ◌∙◌, refl, ap, subst, ℕ, ◌≤◌, List, [], ◌∷◌, length, take}
use Rattle.log_node.specs.declared.node.At.{At}
use Rattle.log_node.specs.declared.node.At.TheVariants.{Event, Look}
use Rattle.col_core.specs.History.{line}
use Rattle.col_core.specs.Log.{Log}
use Rattle.col_core.specs.Keeping.{Kept, with_floor}
use Rattle.report_text.specs.declared.report.RaisePiece.{RaisePiece}
use Rattle.report_text.specs.declared.report.SyncPiece.{SyncPiece}
use Rattle.lawful_run.specs.Callers.{Caller}
use Rattle.lawful_run.specs.Reads.{Syncs, RaisesClock, Raises, ClearSyncs, ReadsAt, events_until, kept_after_place, kept_after_piece}
use Rattle.run_rules.specs.Told.{kept_after_raises, kept_after_syncs, kept_after_read}
use Rattle.run_rules.specs.Naming.{NamesPlace, NamesSync, NamesSyncs, NamesRaises, NamesRead, IsRaise}

module _ (log : Log) (caller : Caller) where
  told_raises : (stamp : ℕ) (kept : Kept) (raises : List RaisePiece) (after : Kept)
      → Raises log caller stamp kept raises after → after ≡ kept_after_raises caller kept raises
  told_raises stamp kept [] after e = e
  told_raises stamp kept (r ∷ rs) after e =
      told_raises stamp (kept_after_place kept caller.own r.colour r.at) rs after e.1

  told_syncs : (stamp : ℕ) (kept : Kept) (syncs : List SyncPiece) (after : Kept)
      → ClearSyncs log caller stamp kept syncs after → after ≡ kept_after_syncs log caller kept syncs
  told_syncs stamp kept [] after e = e
  told_syncs stamp kept (s ∷ ss) after e = told_syncs stamp (kept_after_piece log caller kept s) ss after e.2

  pub told_read : (kept : Kept) (colours : List ℕ) (stamp : ℕ) (raises : List RaisePiece) (syncs : List SyncPiece) (after : Kept)
      → ReadsAt log caller kept colours stamp raises syncs after
      → after ≡ kept_after_read log caller kept stamp raises syncs
  told_read kept colours stamp raises syncs after e =
      e.after_is
      ∙ ap (λ (k : Kept). with_floor k stamp)
      (told_syncs stamp e.raised syncs e.synced e.syncing
      ∙ ap (λ (k : Kept). kept_after_syncs log caller k syncs) (told_raises stamp kept raises e.raised e.raising))

  pub names_sync : (kept : Kept) (s : SyncPiece) → Syncs log caller kept s.colour s.events s.counts
      → NamesSync log caller kept s
  names_sync kept s e = ((e.unseen, e.there), e.within)

  names_place : (stamp : ℕ) (kept : Kept) (colour : ℕ) (at : At) → RaisesClock log caller kept stamp colour at
      → NamesPlace log caller kept caller.own colour IsRaise at
      × (kept.known colour ≤ length (line (take (events_until at) (log.histories caller.own colour))))
  names_place stamp kept colour (Event place) e = ((e.0, (_, e.2, refl, tt)), e.1)
  names_place stamp kept colour (Look events) e = ((e.0, e.1), e.2)

  names_raises : (stamp : ℕ) (kept : Kept) (raises : List RaisePiece) (after : Kept)
      → Raises log caller stamp kept raises after → NamesRaises log caller kept raises
  names_raises stamp kept [] after e = tt
  names_raises stamp kept (r ∷ rs) after e =
      let p = names_place stamp kept r.colour r.at e.0 in
      (p.0, p.1, names_raises stamp (kept_after_place kept caller.own r.colour r.at) rs after e.1)

  names_syncs : (stamp : ℕ) (kept : Kept) (syncs : List SyncPiece) (after : Kept)
      → ClearSyncs log caller stamp kept syncs after → NamesSyncs log caller kept syncs
  names_syncs stamp kept [] after e = tt
  names_syncs stamp kept (s ∷ ss) after e =
      (names_sync kept s e.0, names_syncs stamp (kept_after_piece log caller kept s) ss after e.2)

  pub names_read : (kept : Kept) (colours : List ℕ) (stamp : ℕ) (raises : List RaisePiece) (syncs : List SyncPiece) (after : Kept)
      → ReadsAt log caller kept colours stamp raises syncs after → NamesRead log caller kept raises syncs
  names_read kept colours stamp raises syncs after e = (
    names_raises stamp kept raises e.raised e.raising,
    subst (λ (k : Kept). NamesSyncs log caller k syncs) (told_raises stamp kept raises e.raised e.raising)
        (names_syncs stamp e.raised syncs e.synced e.syncing),
  )
