-- The beginning of the order of some colours of a region up to a stamp.
use Rattle.std.proofs.Common.{◌≡◌, subst, ℕ, ◌-◌, ◌^◌, ◌<◌, List, take, arith}
use Rattle.std.specs.List.{All, Contains}
use Rattle.std.proofs.lemmas.List.Elements.{All-contains}
use Rattle.log_node.specs.declared.ids.Key.{Key}
use Rattle.col_core.specs.declared.Entry.{Entry}
use Rattle.col_core.specs.Computed.{dated}
use Rattle.col_core.specs.History.{line}
use Rattle.col_core.specs.Laws.{RegionOrderIsUnique}
use Rattle.col_core.specs.Legal.{IsColumnHistory}
use Rattle.col_core.proofs.CallerLemmas.{In, contains_in, in_contains, in_map}
use Rattle.column_track.specs.Tracks.{Tracked}
use Rattle.playback.specs.Laws.{RegionOrderIsLawful}
use Rattle.playback.specs.Merging.{AreRising, region_order, up_to}
use Rattle.lawful_run.specs.Callers.{Caller, caller_of}
use Rattle.lawful_run.specs.Laws.{ReadItemsLast}
use Rattle.run_rules.specs.Rules.{IsLawfulColumn}
use Rattle.run_rules.specs.Telling.{journal_among, no_nodes}
use Rattle.object_law.specs.KeysRead.{whole_lines, whole_order}
use Rattle.walk_law.specs.Walking.{MayWalk, Walked, journal_walked, log_walked}
use Rattle.object_law.proofs.LineOrder.{line_rising}
use Rattle.walk_law.proofs.CallerLemmas.{by_place, journal_is}
use Rattle.object_law.proofs.ReadsWhole.{order_begins}

module _ (ordered : RegionOrderIsLawful) (walked : Walked) (tracks : List Tracked) (may : MayWalk walked.script walked.report tracks)
    (region : ℕ) (low : region < walked.script.shape.regions) (colours : List ℕ)
    (within : All (λ colour. colour < walked.script.shape.colours) colours) where
  abbrev lines : List (List Key)
  lines = whole_lines (log_walked walked) region colours

  lawful : (colour : ℕ) → In colour colours
      → IsColumnHistory region walked.script.shape.regions (dated region (journal_walked walked region colour))
  lawful colour i =
      by_place walked.script walked.report may.formed may.first.columns may.second no_nodes
      (λ r k. IsColumnHistory r walked.script.shape.regions (dated r (journal_among walked.report.columns r k)))
      (λ c j. subst (λ (h : List Entry). IsColumnHistory c.region walked.script.shape.regions (dated c.region h))
      (journal_is walked.script walked.report may.formed may.first.columns may.second no_nodes c j)
      (All-contains (IsLawfulColumn walked.script) walked.report.columns c may.second.each (contains_in walked.report.columns c j)).legal)
      region colour low (All-contains (λ (c : ℕ). c < walked.script.shape.colours) colours colour within (contains_in colours colour i))

  pub rising : (l : List Key) → Contains lines l → AreRising l
  rising l c =
      let m = in_map (λ colour. line (journal_walked walked region colour)) colours l (in_contains lines l c) in
      subst AreRising m.2 (line_rising region walked.script.shape.regions (journal_walked walked region m.0) (lawful m.0 m.1))

  pub order_rising : AreRising (whole_order (log_walked walked) region colours)
  order_rising = (ordered (2 ^ 64 - 1) lines rising).rising

  -- it is the order up to the stamp
  pub order_stamped : RegionOrderIsUnique → ReadItemsLast → (stamp n : ℕ) → stamp < 2 ^ 64
      → take n (whole_order (log_walked walked) region colours) ≡ up_to stamp (whole_order (log_walked walked) region colours)
      → take n (whole_order (log_walked walked) region colours) ≡ region_order stamp lines
  order_stamped unique last stamp n small same =
      let caller : Caller = record (caller_of walked.script 0) { own = region } in
      unique lines stamp (take n (whole_order (log_walked walked) region colours)) (region_order stamp lines)
      (order_begins (log_walked walked) caller stamp ordered last colours lawful n (omega (arith, small)) same)
      (ordered stamp lines rising)

  -- so does the order up to a stamp rise
  pub stamped_rising : (stamp : ℕ) → AreRising (region_order stamp lines)
  stamped_rising stamp = (ordered stamp lines rising).rising
