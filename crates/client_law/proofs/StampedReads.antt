-- Stamped reads.
use Rattle.std.proofs.Common.{◌≡◌, ℕ, ◌≤◌, List, [], ◌∷◌, ◌++◌, length, take, drop, refl, ap, sym, subst, ◌∙◌, inl, inr, arith, append_assoc, take-append-drop, length-take-le}
use Rattle.std.proofs.lemmas.List.{length-map}
use Rattle.std.proofs.lemmas.List.Elements.{All-weaker}
use mathlib.Core.List.{IsPrefix}
use Rattle.log_node.specs.declared.ids.Counts.{Counts}
use Rattle.log_node.specs.declared.node.At.{At}
use Rattle.log_node.specs.declared.node.At.TheVariants.{Event, Look}
use Rattle.log_node.specs.Vectors.{IsWithin}
use Rattle.log_node.specs.Reach.{IsGreatestReachable}
use Rattle.col_core.specs.declared.Entry.{Entry}
use Rattle.col_core.specs.History.{clock, line}
use Rattle.col_core.specs.Cuts.{chain, base}
use Rattle.col_core.specs.Computed.{dated}
use Rattle.col_core.specs.Legal.{IsColumnHistory}
use Rattle.col_core.specs.PlayOrder.{greatest_between}
use Rattle.col_core.specs.RegionOrder.{IsClearUpTo}
use Rattle.col_core.specs.Keeping.{Kept, kept_after_sync}
use Rattle.col_core.proofs.CallerLemmas.{clocks_rise, head_with, lawful_beginning}
use Rattle.report_text.specs.declared.report.RaisePiece.{RaisePiece}
use Rattle.report_text.specs.declared.report.SyncPiece.{SyncPiece}
use Rattle.lawful_run.specs.Callers.{Caller}
use Rattle.lawful_run.specs.Reads.{Syncs, kept_after_piece, RaisesClock, kept_after_place, Raises, ClearSyncs, IsReadStamp}
use Rattle.lawful_run.proofs.CallerLemmas.{get_within, prefix_get, prefix_length, prefix_take}
use Rattle.client_law.specs.Knowing.{Seen, Rest, log_seen, SeesOn}
use Rattle.client_law.specs.Kept.{IsKeptBy}
use Rattle.client_law.specs.StampedReads.{RaiseStands, RaisesOn, ClearSyncsOn, IsStampThere, ReadsStand, KeptWithFloor}
use Rattle.client_law.proofs.Keeping.{chain_later, own_chain}

-- a line is no longer than that of a longer lawful history
line_grows : (own regions : ℕ) (old new : List Entry) → IsPrefix old new → IsColumnHistory own regions (dated own new)
    → length (line old) ≤ length (line new)
line_grows own regions old new p lawful =
    let a = prefix_length (chain own (dated own old) own) (chain own (dated own new) own)
    (chain_later own regions old new p lawful own) in
    let b = ap length (own_chain own old) ∙ length-map (line old) (head_with (dated own old)) in
    let c = ap length (own_chain own new) ∙ length-map (line new) (head_with (dated own new)) in
    omega (arith, a, b, c)

-- a history is a beginning of all beginnings that are longer
begins_take : (old new : List Entry) (n : ℕ) → IsPrefix old new → length old ≤ n → n ≤ length new
    → IsPrefix old (take n new)
begins_take old new n p le there =
    shorter old (take n new) (drop n new) (p.0, p.1 ∙ sym (take-append-drop n new))
    (let l = length-take-le n new there in omega (arith, l, le)) where
      shorter : (xs ys more : List Entry) → IsPrefix xs (ys ++ more) → length xs ≤ length ys → IsPrefix xs ys
      shorter [] ys more p le = (ys, refl)
      shorter (x ∷ xs) [] more p le = absurd (let f : ⊥ = omega (arith, le) in f)
      shorter (x ∷ xs) (y ∷ ys) more p le =
          let e = p.1 in
          let head : x ≡ y = cc in
          let tail : xs ++ p.0 ≡ ys ++ more = ap (drop 1) e in
          let r = shorter xs ys more (p.0, tail) (omega (arith, le)) in
          (r.0, ap (λ (z : Entry). z ∷ (xs ++ r.0)) head ∙ ap (λ (l : List Entry). y ∷ l) r.1)

-- what was known stands in the line of each longer beginning of what is seen
known_then : (caller : Caller) (old new : Seen) (kept : Kept) → SeesOn caller old new → IsKeptBy old caller kept
    → (colour n : ℕ) → length (old caller.own colour) ≤ n → n ≤ length (new caller.own colour)
    → kept.known colour ≤ length (line (take n (new caller.own colour)))
known_then caller old new kept on k colour n le there =
    let h = new caller.own colour in
    let lawful : IsColumnHistory caller.own caller.regions (dated caller.own (take n h)) =
    lawful_beginning caller.own caller.regions (take n h) (drop n h)
    (subst (λ (x : List Entry). IsColumnHistory caller.own caller.regions (dated caller.own x))
    (sym (take-append-drop n h)) (on.lawful caller.own colour)) in
    let a = line_grows caller.own caller.regions (old caller.own colour) (take n h)
    (begins_take (old caller.own colour) h n (on.more caller.own colour) le there) lawful in
    let b = k.known_within colour in
    omega (arith, a, b)

pub raise_stands : RaiseStands
raise_stands old new rest caller kept stamp colour (Event place) on k r =
    let a = k.seen_within caller.own colour in
    let b = r.0 in
    let there = get_within (new caller.own colour) place _ r.1 in
    (omega (arith, a, b), known_then caller old new kept on k colour place r.0 (omega (arith, there)), r.1)
raise_stands old new rest caller kept stamp colour (Look seen) on k r =
    let a = k.seen_within caller.own colour in
    let b = r.0 in
    (omega (arith, a, b), r.1, known_then caller old new kept on k colour seen r.0 r.1, r.2)

-- LATER

module _ (old new : Seen) (rest : Rest) (caller : Caller) (on : SeesOn caller old new) where
  taken : (colour n : ℕ) → n ≤ length (old caller.own colour)
      → take n (new caller.own colour) ≡ take n (old caller.own colour)
  taken colour n le = prefix_take (old caller.own colour) (new caller.own colour) n (on.more caller.own colour) le

  still : (colour n : ℕ) → n ≤ length (old caller.own colour) → n ≤ length (new caller.own colour)
  still colour n le =
      let a = prefix_length (old caller.own colour) (new caller.own colour) (on.more caller.own colour) in
      omega (arith, a, le)

  raise_later : (kept : Kept) (stamp colour : ℕ) (at : At) → RaisesClock (log_seen old rest) caller kept stamp colour at
      → RaisesClock (log_seen new rest) caller kept stamp colour at
  raise_later kept stamp colour (Event place) r =
      let l = get_within (old caller.own colour) place _ r.2 in (
        r.0,
        subst (λ (h : List Entry). kept.known colour ≤ length (line h))
            (sym (taken colour place (omega (arith, l)))) r.1,
        prefix_get (old caller.own colour) (new caller.own colour) place _ (on.more caller.own colour) r.2,
      )
  raise_later kept stamp colour (Look seen) r = (
    r.0,
    still colour seen r.1,
    subst (λ (h : List Entry). kept.known colour ≤ length (line h)) (sym (taken colour seen r.1)) r.2,
    subst (λ (h : List Entry). stamp ≤ clock h) (sym (taken colour seen r.1)) r.3,
  )

  raises_later : (stamp : ℕ) (kept : Kept) (raises : List RaisePiece) (after : Kept)
      → Raises (log_seen old rest) caller stamp kept raises after → Raises (log_seen new rest) caller stamp kept raises after
  raises_later stamp kept [] after r = r
  raises_later stamp kept (raise ∷ raises) after r = (
    raise_later kept stamp raise.colour raise.at r.0,
    raises_later stamp (kept_after_place kept caller.own raise.colour raise.at) raises after r.1,
  )

  sync_later : (kept : Kept) (colour events : ℕ) (snapshot : Counts)
      → Syncs (log_seen old rest) caller kept colour events snapshot
      → Syncs (log_seen new rest) caller kept colour events snapshot
  sync_later kept colour events snapshot s = let same = sym (taken colour events s.there) in record {
    unseen = s.unseen;
    there = still colour events s.there;
    cut = subst (λ (h : List Entry). IsGreatestReachable (chain caller.own (dated caller.own h)) snapshot) same s.cut;
    not_trimmed = subst (λ (h : List Entry). IsWithin (base caller.own caller.regions (dated caller.own h))
        (kept.starts colour)) same s.not_trimmed;
    within = s.within;
  }

  piece_same : (kept : Kept) (sync : SyncPiece) → sync.events ≤ length (old caller.own sync.colour)
      → kept_after_piece (log_seen new rest) caller kept sync ≡ kept_after_piece (log_seen old rest) caller kept sync
  piece_same kept sync there =
      ap (kept_after_sync kept caller.own sync.colour sync.events sync.counts)
      (ap (λ (h : List Entry). greatest_between (chain caller.own (dated caller.own h)) (kept.starts sync.colour)
      sync.counts) (taken sync.colour sync.events there))

  clear_later : (stamp : ℕ) (kept : Kept) (syncs : List SyncPiece) (after : Kept)
      → ClearSyncs (log_seen old rest) caller stamp kept syncs after
      → ClearSyncs (log_seen new rest) caller stamp kept syncs after
  clear_later stamp kept [] after c = c
  clear_later stamp kept (sync ∷ syncs) after c = (
    sync_later kept sync.colour sync.events sync.counts c.0,
    subst (IsClearUpTo stamp) (sym (taken sync.colour sync.events c.0.there)) c.1,
    subst (λ (k : Kept). ClearSyncs (log_seen new rest) caller stamp k syncs after)
        (sym (piece_same kept sync c.0.there))
        (clear_later stamp (kept_after_piece (log_seen old rest) caller kept sync) syncs after c.2),
  )

raise_last : (seen : Seen) (rest : Rest) (caller : Caller) (stamp : ℕ) (kept middle : Kept) (raises : List RaisePiece)
    (raise : RaisePiece) → Raises (log_seen seen rest) caller stamp kept raises middle
    → RaisesClock (log_seen seen rest) caller middle stamp raise.colour raise.at
    → Raises (log_seen seen rest) caller stamp kept (raises ++ raise ∷ [])
    (kept_after_place middle caller.own raise.colour raise.at)
raise_last seen rest caller stamp kept middle [] raise e r =
    subst (λ (k : Kept). RaisesClock (log_seen seen rest) caller k stamp raise.colour raise.at
    × (kept_after_place middle caller.own raise.colour raise.at
    ≡ kept_after_place k caller.own raise.colour raise.at)) e (r, refl)
raise_last seen rest caller stamp kept middle (one ∷ raises) raise e r = (
  e.0,
  raise_last seen rest caller stamp (kept_after_place kept caller.own one.colour one.at) middle raises raise e.1 r,
)

pub raises_on : RaisesOn
raises_on old new rest caller stamp kept middle raises raise on before last =
    raise_last new rest caller stamp kept middle raises raise
    (raises_later old new rest caller on stamp kept raises middle before) last

sync_last : (seen : Seen) (rest : Rest) (caller : Caller) (stamp : ℕ) (kept middle : Kept) (syncs : List SyncPiece)
    (sync : SyncPiece) → ClearSyncs (log_seen seen rest) caller stamp kept syncs middle
    → Syncs (log_seen seen rest) caller middle sync.colour sync.events sync.counts
    → IsClearUpTo stamp (take sync.events (seen caller.own sync.colour))
    → ClearSyncs (log_seen seen rest) caller stamp kept (syncs ++ sync ∷ [])
    (kept_after_piece (log_seen seen rest) caller middle sync)
sync_last seen rest caller stamp kept middle [] sync e s clear =
    subst (λ (k : Kept). Syncs (log_seen seen rest) caller k sync.colour sync.events sync.counts
    × IsClearUpTo stamp (take sync.events (seen caller.own sync.colour))
    × (kept_after_piece (log_seen seen rest) caller middle sync ≡ kept_after_piece (log_seen seen rest) caller k sync)) e
    (s, clear, refl)
sync_last seen rest caller stamp kept middle (one ∷ syncs) sync e s clear = (
  e.0,
  e.1,
  sync_last seen rest caller stamp (kept_after_piece (log_seen seen rest) caller kept one) middle syncs sync e.2 s
      clear,
)

pub clear_syncs_on : ClearSyncsOn
clear_syncs_on old new rest caller stamp kept middle syncs sync on before last clear =
    sync_last new rest caller stamp kept middle syncs sync
    (clear_later old new rest caller on stamp kept syncs middle before) last clear

-- READS

-- the clock of a beginning is no greater
clock_then : (own regions : ℕ) (history : List Entry) (n stamp : ℕ) → IsColumnHistory own regions (dated own history)
    → clock history ≤ stamp → clock (take n history) ≤ stamp
clock_then own regions history n stamp lawful le =
    let whole = take-append-drop n history in
    let r = (clocks_rise own regions (take n history) (drop n history)
    (subst (λ (x : List Entry). IsColumnHistory own regions (dated own x)) (sym whole) lawful)).rises in
    let same = ap clock whole in
    omega (arith, r, same, le)

pub reads_stand : ReadsStand
reads_stand old middle new rest caller kept raised synced colours stamp raises syncs first then k r = record {
  raised_colours = r.raised_colours;
  synced_colours = r.synced_colours;
  above_floor = r.above_floor;
  above_clocks = All-weaker (λ colour. clock (old caller.own colour) ≤ stamp)
      (λ colour. (kept.seen caller.own colour ≤ length (new caller.own colour))
      × (clock (take (kept.seen caller.own colour) (new caller.own colour)) ≤ stamp)) above colours r.above_clocks;
  chosen = chosen r.chosen;
  raised = raised;
  raising = raises_later middle new rest caller then stamp kept raises raised r.raising;
  synced = synced;
  syncing = r.syncing;
  after_is = refl;
} where
  longer : (colour : ℕ) → IsPrefix (old caller.own colour) (new caller.own colour)
  longer colour =
      let p = first.more caller.own colour in
      let q = then.more caller.own colour in
      subst (λ (h : List Entry). IsPrefix (old caller.own colour) h) q.1
      (subst (λ (h : List Entry). IsPrefix (old caller.own colour) (h ++ q.0)) p.1
      (p.0 ++ q.0, sym (append_assoc (old caller.own colour) p.0 q.0)))

  above : (colour : ℕ) → clock (old caller.own colour) ≤ stamp
      → (kept.seen caller.own colour ≤ length (new caller.own colour))
      × (clock (take (kept.seen caller.own colour) (new caller.own colour)) ≤ stamp)
  above colour le =
      let h = old caller.own colour in
      let n = kept.seen caller.own colour in
      let p = longer colour in
      let a = prefix_length h (new caller.own colour) p in
      let b = k.seen_within caller.own colour in
      let lawful : IsColumnHistory caller.own caller.regions (dated caller.own h) =
      lawful_beginning caller.own caller.regions h p.0
      (subst (λ (x : List Entry). IsColumnHistory caller.own caller.regions (dated caller.own x)) (sym p.1)
      (then.lawful caller.own colour)) in (
        omega (arith, a, b),
        subst (λ (x : List Entry). clock x ≤ stamp) (sym (prefix_take h (new caller.own colour) n p b))
            (clock_then caller.own caller.regions h n stamp lawful le),
      )

  chosen : IsStampThere old new caller kept raises stamp → IsReadStamp (log_seen new rest) caller kept raises stamp
  chosen (inl e) = inl e
  chosen (inr (raise, among, events, since, until, is)) =
      let b = k.seen_within caller.own raise.colour in
      inr (raise, among, events, omega (arith, b, since), until, is)

pub kept_with_floor : KeptWithFloor
kept_with_floor seen caller kept stamp k = record {
  seen_within = k.seen_within;
  known_within = k.known_within;
  known_under = λ colour i key lt there. let a = k.known_under colour i key lt there in omega (arith, a);
  starts_under = λ colour i key lt there. let a = k.starts_under colour i key lt there in omega (arith, a);
  starts_reached = k.starts_reached;
  steps_made = k.steps_made;
}
