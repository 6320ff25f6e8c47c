-- What a client has played of a colour it keeps, whatever it does: it has seen no fewer events, and starts no lower.
use Rattle.std.proofs.Common.{◌≡◌, ℕ, zero, suc, ◌+◌, ◌≤◌, List, [], ◌∷◌, ◌++◌, length, take, drop, Option, Some, None, slice_get, refl, ap, sym, subst, ◌∙◌, inl, inr, arith}
use Rattle.std.specs.Prelude.{◌==◌, ◌≢◌, max, if◌then◌else◌}
use Rattle.std.specs.List.{All}
use Rattle.std.proofs.lemmas.List.Elements.{All-contains}
use Rattle.log_node.specs.declared.ids.Counts.{Counts}
use Rattle.log_node.specs.declared.node.At.{At}
use Rattle.log_node.specs.declared.node.At.TheVariants as ats
use Rattle.log_node.specs.declared.node.Node.{Node}
use Rattle.log_node.specs.Seen.{PlacedNode}
use Rattle.log_node.specs.Vectors.{IsWithin}
use Rattle.log_node.specs.Reach.{Reachable}
use Rattle.part_fold.specs.Decisions.{decision_text}
use Rattle.col_core.specs.Cuts.{Dated, chain}
use Rattle.col_core.specs.Computed.{dated}
use Rattle.col_core.specs.Legal.{IsColumnHistory}
use Rattle.col_core.specs.Log.{Log, first}
use Rattle.col_core.specs.Keeping.{Kept, updated, updated_at, seen_after, seen_past, kept_after_event, kept_after_look, kept_after_sync, kept_after_single, kept_after_point, with_made, with_floor, with_row, with_node}
use Rattle.col_core.proofs.CallerLemmas.{chains_grow, reachable_grows, within, within-at, later, dates_longer}
use Rattle.script_text.specs.declared.commands.What.{What}
use Rattle.script_text.specs.declared.script.Command.{Command}
use Rattle.report_text.specs.declared.report.Answer.{Answer}
use Rattle.report_text.specs.declared.report.Answer.TheVariants as answers
use Rattle.report_text.specs.declared.report.Ended.{Ended}
use Rattle.report_text.specs.declared.report.Ended.TheVariants as ended_as
use Rattle.report_text.specs.declared.report.PointPiece.{PointPiece}
use Rattle.report_text.specs.declared.report.RaisePiece.{RaisePiece}
use Rattle.report_text.specs.declared.report.SyncPiece.{SyncPiece}
use Rattle.report_text.specs.declared.report.ReplyLine.{ReplyLine}
use Rattle.lawful_run.specs.Callers.{Caller, node_of}
use Rattle.lawful_run.specs.Asks.{Manner, Appending, Guarding, Stopping, Syncing, Moving, Getting, Reading, Committing, Dequeuing, Deciding, rising}
use Rattle.lawful_run.specs.Deeds.{colours_synced, manner_of}
use Rattle.lawful_run.specs.Appends.{StandsAt, Appends, AppendsUnshown, one_unshown, several_unshown, kept_after_points, HasNoStamp, none_for_one, none_for_several}
use Rattle.lawful_run.specs.Parts.{EndsAs}
use Rattle.lawful_run.specs.Stops.{Stops, stopped_at_once, stopped_after}
use Rattle.lawful_run.proofs.AppendFacts.{enters_after}
use Rattle.lawful_run.specs.Reads.{Syncs, kept_after_piece, RaisesClock, kept_after_place, Raises, ClearSyncs, ReadsAt, HidesSync, not_played, played, HidesSyncs, HidesRead, RefusesRead}
use Rattle.lawful_run.specs.Moves.{CarriesNodes, Pulls, with_places, kept_after_pull}
use Rattle.lawful_run.specs.Refusals.{Hides, HidesDecide, Refuses, RefusesDecide, FindsNoMemory, nothing, gone, gave, hidden, kept_before}
use Rattle.lawful_run.specs.Explains.{Explains, Answers}
use Rattle.lawful_run.proofs.Replies.{contains_at}
use Rattle.lawful_run.proofs.Beginnings.{at_new, at_new_at, split, taken, front}
use Rattle.lawful_run.proofs.LettingGo.{before_is, behind_is}

-- a client that keeps this has seen so many events of its column of the colour, and starts past these counts
pub record Past (own colour events : ℕ) (counts : Counts) (kept : Kept) : Type 0 where
  pub seen : events ≤ kept.seen own colour
  pub starts : IsWithin counts (kept.starts colour)

pub within-self : (v : Counts) → IsWithin v v
within-self v = within v v (λ r lt. omega arith)

within-trans : (u v w : Counts) → IsWithin u v → IsWithin v w → IsWithin u w
within-trans u v w a b = within u w (λ r lt. let x = within-at u v a r lt in let y = within-at v w b r lt in omega
    (arith, x, y))

seen_past_more : (seen : ℕ) (places : List ℕ) → seen ≤ seen_past seen places
seen_past_more seen [] = omega arith
seen_past_more seen (place ∷ places) = let r = seen_past_more (max seen (place + 1)) places in omega (arith, r)

all_at : {A : Type 0} (P : A → Type 0) (xs : List A) → All P xs → (k : ℕ) (x : A) → slice_get xs k ≡ Some x → P x
all_at P xs a k x there = All-contains P xs x a (contains_at xs k x there)

module _ (log : Log) (caller : Caller) (colour : ℕ)
    (legal : IsColumnHistory caller.own caller.regions (dated caller.own (log.histories caller.own colour))) where
  abbrev IsPast : ℕ → Counts → Kept → Type 0
  IsPast events counts kept = Past caller.own colour events counts kept

  -- all that is past stays past
  abbrev pub Onward : Kept → Kept → Type 0
  Onward kept after =
      (events : ℕ) (counts : Counts) → events ≤ length (log.histories caller.own colour)
      → Reachable (chain caller.own (first log caller.own colour events)) counts → IsPast events counts kept
      → IsPast events counts after

  same : {kept after : Kept} → after.seen ≡ kept.seen → after.starts ≡ kept.starts → Onward kept after
  same {kept} {after} seen starts events counts there reached p = record {
    seen = subst (λ (f : ℕ → ℕ → ℕ). events ≤ f caller.own colour) (sym seen) p.seen;
    starts = subst (λ (f : ℕ → Counts). IsWithin counts (f colour)) (sym starts) p.starts;
  }

  then_on : {kept middle after : Kept} → Onward kept middle → Onward middle after → Onward kept after
  then_on a b events counts there reached p = b events counts there reached (a events counts there reached p)

  to_same : {kept : Kept} (other after : Kept) → after ≡ other → Onward kept other → Onward kept after
  to_same {kept} other after e o = subst (λ (k : Kept). Onward kept k) (sym e) o

  -- where no less is seen of the own column
  more_seen : {kept after : Kept} → kept.seen caller.own colour ≤ after.seen caller.own colour → after.starts
      ≡ kept.starts → Onward kept after
  more_seen {kept} {after} more starts events counts there reached p = record {
    seen = let s = p.seen in omega (arith, s, more);
    starts = subst (λ (f : ℕ → Counts). IsWithin counts (f colour)) (sym starts) p.starts;
  }

  event : (kept : Kept) (region c place : ℕ) → (region ≡ caller.own → kept.seen caller.own c ≤ place) → Onward kept
      (kept_after_event kept region c place)
  event kept region c place unseen =
      more_seen (at_new_at (λ n. kept.seen caller.own colour ≤ n) kept.seen region c (place + 1) caller.own colour
      (λ e f. let u = subst (λ d. kept.seen caller.own d ≤ place) (sym f) (unseen (sym e)) in omega (arith, u))
      (omega arith)) refl

  look : (kept : Kept) (c events : ℕ) → kept.seen caller.own c ≤ events → Onward kept
      (kept_after_look kept caller.own c events)
  look kept c events unseen =
      more_seen (at_new_at (λ n. kept.seen caller.own colour ≤ n) kept.seen caller.own c events caller.own colour
      (λ e f. subst (λ d. kept.seen caller.own d ≤ events) (sym f) unseen) (omega arith)) refl

  made : (kept : Kept) (places : ℕ → List ℕ) → Onward kept (with_made kept caller.own places)
  made kept places =
      more_seen (at_new (λ (g : ℕ → ℕ). kept.seen caller.own colour ≤ g colour) kept.seen caller.own
      (λ c. seen_past (kept.seen caller.own c) (places c)) caller.own
      (λ e. seen_past_more (kept.seen caller.own colour) (places colour)) (omega arith)) refl

  placed : (kept : Kept) (region c : ℕ) (places : List ℕ) → Onward kept (with_places kept region c places)
  placed kept region c places =
      more_seen (at_new_at (λ n. kept.seen caller.own colour ≤ n) kept.seen region c
      (seen_past (kept.seen region c) places) caller.own colour
      (λ e f. subst (λ n. n ≤ seen_past (kept.seen region c) places)
      (ap (λ d. kept.seen region d) (sym f) ∙ ap (λ r. kept.seen r colour) (sym e))
      (seen_past_more (kept.seen region c) places)) (omega arith)) refl

  -- a vector that could be reached is within the cut of later events
  pub reached_later : (events more : ℕ) (counts : Counts) → events ≤ more → more ≤ length
      (log.histories caller.own colour)
      → Reachable (chain caller.own (first log caller.own colour events)) counts → Reachable
      (chain caller.own (first log caller.own colour more)) counts
  reached_later events more counts le there reached =
      let h = log.histories caller.own colour in
      let shorter : take events h ++ drop events (take more h) ≡ take more h = taken h events more le in
      let whole : take more h ++ drop more h ≡ h = split h more in
      let legal' = front caller.own caller.regions (dated caller.own (take more h))
      (later caller.own (dated caller.own (take more h)) (drop more h))
      (subst (IsColumnHistory caller.own caller.regions)
      (ap (dated caller.own) (sym whole) ∙ dates_longer caller.own (take more h) (drop more h)) legal) in
      let dates : dated caller.own (take more h) ≡ first log caller.own colour events ++ later caller.own
      (first log caller.own colour events) (drop events (take more h)) =
      ap (dated caller.own) (sym shorter) ∙ dates_longer caller.own (take events h) (drop events (take more h)) in
      let longer : List Dated = first log caller.own colour events ++ later caller.own
      (first log caller.own colour events) (drop events (take more h)) in
      subst (λ (ds : List Dated). Reachable (chain caller.own ds) counts) (sym dates)
      (reachable_grows (chain caller.own (first log caller.own colour events)) (chain caller.own longer)
      (chains_grow caller.own caller.regions (first log caller.own colour events)
      (later caller.own (first log caller.own colour events) (drop events (take more h)))
      (subst (IsColumnHistory caller.own caller.regions) dates legal')) counts reached)

  -- a sync of a colour
  synced : (kept : Kept) (c events stamp : ℕ) (snapshot : Counts) → Syncs log caller kept c events snapshot
      → Onward kept (kept_after_sync kept caller.own c events snapshot stamp)
  synced kept c events stamp snapshot s before counts there reached p = record {
    seen = (look kept c events s.unseen before counts there reached p).seen;
    starts = at_new (λ (v : Counts). IsWithin counts v) kept.starts c snapshot colour (λ e. newer (sym e)) p.starts;
  } where
    newer : c ≡ colour → IsWithin counts snapshot
    newer e =
        let t = subst (λ d. Syncs log caller kept d events snapshot) e s in
        let seen = p.seen in
        let unseen = t.unseen in
        t.cut.greatest counts (reached_later before events counts (omega (arith, seen, unseen)) t.there reached)

  pieces : (stamp : ℕ) (kept : Kept) (syncs : List SyncPiece) (after : Kept)
      → ClearSyncs log caller stamp kept syncs after → Onward kept after
  pieces stamp kept [] after c = to_same kept after c (same refl refl)
  pieces stamp kept (sync ∷ syncs) after c =
      then_on (synced kept sync.colour sync.events _ sync.counts c.0)
      (pieces stamp (kept_after_piece log caller kept sync) syncs after c.2)

  raise : (kept : Kept) (stamp c : ℕ) (place : At) → RaisesClock log caller kept stamp c place → Onward kept
      (kept_after_place kept caller.own c place)
  raise kept stamp c (ats.Event place) r = event kept caller.own c place (λ _. r.0)
  raise kept stamp c (ats.Look events) r = look kept c events r.0

  raises : (stamp : ℕ) (kept : Kept) (up : List RaisePiece) (after : Kept) → Raises log caller stamp kept up after
      → Onward kept after
  raises stamp kept [] after r = to_same kept after r (same refl refl)
  raises stamp kept (piece ∷ up) after r =
      then_on (raise kept stamp piece.colour piece.at r.0)
      (raises stamp (kept_after_place kept caller.own piece.colour piece.at) up after r.1)

  read : (kept : Kept) (colours : List ℕ) (stamp : ℕ) (up : List RaisePiece) (syncs : List SyncPiece) (after : Kept)
      → ReadsAt log caller kept colours stamp up syncs after → Onward kept after
  read kept colours stamp up syncs after r =
      then_on (raises stamp kept up r.raised r.raising)
      (then_on (pieces stamp r.raised syncs r.synced r.syncing)
      (to_same (with_floor r.synced stamp) after r.after_is (same refl refl)))

  -- what answers do not show
  hidden_sync : (kept : Kept) (c : ℕ) (snapshot : Counts) (stamp : ℕ) → HidesSync log caller kept c snapshot stamp
      → Onward kept (record kept { floor = max kept.floor stamp; starts = updated kept.starts c snapshot })
  hidden_sync kept c snapshot stamp not_played before counts there reached p = record {
    seen = p.seen;
    starts = at_new (λ (v : Counts). IsWithin counts v) kept.starts c (kept.starts c) colour
        (λ e. subst (λ d. IsWithin counts (kept.starts d)) e p.starts) p.starts;
  }
  hidden_sync kept c snapshot stamp (played events v s) before counts there reached p = record {
    seen = p.seen;
    starts = (synced kept c events 0 v s before counts there reached p).starts;
  }

  hidden_syncs : (kept : Kept) (colours : List ℕ) (after : Kept) → HidesSyncs log caller kept colours after
      → Onward kept after
  hidden_syncs kept [] after h = to_same kept after h (same refl refl)
  hidden_syncs kept (c ∷ colours) after h =
      then_on (hidden_sync kept c h.0 h.1 h.2)
      (hidden_syncs (record kept { floor = max kept.floor h.1; starts = updated kept.starts c h.0 }) colours after h.3)

  hidden_read : (kept : Kept) (colours : List ℕ) (after : Kept) → HidesRead log caller kept colours after
      → Onward kept after
  hidden_read kept colours after h = then_on (hidden_syncs kept colours h.synced h.syncing) (elim h.after_is [
    | inl e ↦ to_same _ after e (made h.synced h.places)
    | inr e ↦ to_same _ after e (then_on {middle = with_floor h.synced h.stamp} (same refl refl)
        (made (with_floor h.synced h.stamp) h.places))
  ])

  hidden_decide : (kept : Kept) (colours : List ℕ) (after : Kept) → HidesDecide log caller kept colours after
      → Onward kept after
  hidden_decide kept [] after h = absurd h
  hidden_decide kept (first ∷ all) after h = then_on (hidden_syncs kept (first ∷ []) h.0 h.1) (elim h.2 [
    | inl e ↦ to_same h.0 after e (same refl refl)
    | inr r ↦ hidden_read h.0 all after r
  ])

  hides : (kept : Kept) (colours : List ℕ) (manner : Manner) (after : Kept) → Hides log caller kept colours manner after
      → Onward kept after
  hides kept colours Appending after h = to_same kept after h (same refl refl)
  hides kept colours Guarding after h = to_same kept after h (same refl refl)
  hides kept colours Stopping after h = to_same kept after h (same refl refl)
  hides kept colours Syncing after h = to_same kept after h (same refl refl)
  hides kept colours Moving after h = to_same kept after h (same refl refl)
  hides kept colours Getting after h = hidden_syncs kept colours after h
  hides kept colours Reading after h = hidden_read kept colours after h
  hides kept colours Committing after h = hidden_read kept colours after h
  hides kept colours Dequeuing after h = hidden_syncs kept colours after h
  hides kept colours Deciding after h = hidden_decide kept colours after h

  refused_read : (kept : Kept) (colours : List ℕ) (c : ℕ) (shown : Counts) (after : Kept)
      → RefusesRead log caller kept colours c shown after → Onward kept after
  refused_read kept colours c shown after r =
      then_on (raises r.stamp kept r.raises r.raised r.raising) (pieces r.stamp r.raised r.syncs after r.syncing)

  refused_decide : (kept : Kept) (colours : List ℕ) (c : ℕ) (shown : Counts) (after : Kept)
      → RefusesDecide log caller kept colours c shown after → Onward kept after
  refused_decide kept [] c shown after r = absurd r
  refused_decide kept (first ∷ all) c shown after r = elim r [
    | inl at_once ↦ to_same kept after at_once.2 (same refl refl)
    | inr behind ↦ then_on (hidden_syncs kept (first ∷ []) behind.0 behind.1)
        (refused_read behind.0 all c shown after behind.2)
  ]

  refuses : (kept : Kept) (colours : List ℕ) (manner : Manner) (c : ℕ) (shown : Counts) (after : Kept)
      → Refuses log caller kept colours manner c shown after → Onward kept after
  refuses kept colours Appending c shown after r = absurd r
  refuses kept colours Guarding c shown after r = absurd r
  refuses kept colours Stopping c shown after r = absurd r
  refuses kept colours Syncing c shown after r = to_same kept after r.2 (same refl refl)
  refuses kept colours Moving c shown after r = absurd r
  refuses kept colours Getting c shown after r = hidden_syncs kept colours after r.2
  refuses kept colours Reading c shown after r = refused_read kept colours c shown after r
  refuses kept colours Committing c shown after r = refused_read kept colours c shown after r
  refuses kept colours Dequeuing c shown after r = hidden_syncs kept colours after r.2
  refuses kept colours Deciding c shown after r = refused_decide kept colours c shown after r

  -- appends
  pointed : (kept : Kept) (node : Node) (stamp : ℕ) (middle : Kept) (points : List PointPiece) →
      ((p : PointPiece) (k : ℕ) → slice_get points k ≡ Some p → StandsAt log caller kept node stamp p)
      → kept.seen caller.own colour ≤ middle.seen caller.own colour → middle.starts ≡ kept.starts
      → (kept.seen caller.own colour ≤ (kept_after_points middle caller.own points).seen caller.own colour)
      × ((kept_after_points middle caller.own points).starts ≡ kept.starts)
  pointed kept node stamp middle [] each more starts = (more, starts)
  pointed kept node stamp middle (p ∷ ps) each more starts =
      pointed kept node stamp (kept_after_point middle caller.own p.colour p.at p.position) ps
      (λ q k there. each q (suc k) there)
      (at_new_at (λ n. kept.seen caller.own colour ≤ n) middle.seen caller.own p.colour
      (seen_after p.at) caller.own colour
      (λ e f. subst (λ d. kept.seen caller.own d ≤ seen_after p.at) (sym f)
      (enters_after (kept.seen caller.own p.colour) (log.histories caller.own p.colour) caller.client node p.colour p.at
      (each p zero refl).entered)) more) starts

  appended : (kept : Kept) (node : Node) (stamp : ℕ) (row : Option ℕ) (points : List PointPiece) (after : Kept)
      → Appends log caller kept node stamp row points after → Onward kept after
  appended kept node stamp None [] after a = absurd a
  appended kept node stamp None (p ∷ []) after a =
      to_same (kept_after_single kept caller.own p.colour a.1 stamp p.position) after a.4
      (then_on (event kept caller.own p.colour a.1 (λ _. a.3.unseen)) (same refl refl))
  appended kept node stamp None (p ∷ q ∷ points) after a = absurd a
  appended kept node stamp (Some number) points after a =
      let r = pointed kept node stamp kept points
      (λ p k there. all_at (StandsAt log caller kept node stamp) points a.2.each k p there) (omega arith) refl in
      to_same (with_made (with_row (with_floor (kept_after_points kept caller.own points) stamp)) caller.own a.1) after
      a.3
      (then_on {middle = kept_after_points kept caller.own points} (more_seen r.0 r.1)
      (then_on {middle = with_row (with_floor (kept_after_points kept caller.own points) stamp)} (same refl refl)
      (made (with_row (with_floor (kept_after_points kept caller.own points) stamp)) a.1)))

  unshown : (kept : Kept) (node : Node) (stamp : ℕ) (after : Kept) → AppendsUnshown log caller kept node stamp after
      → Onward kept after
  unshown kept node stamp after (one_unshown c place position only a) =
      then_on {middle = with_node (with_floor kept stamp)} (same refl refl)
      (made (with_node (with_floor kept stamp)) (λ d. if d == c then place ∷ [] else []))
  unshown kept node stamp after (several_unshown places begins outcome stand above) =
      then_on {middle = with_row (with_floor kept stamp)} (same refl refl)
      (made (with_row (with_floor kept stamp)) places)

  begun : (kept : Kept) (places : ℕ → List ℕ) → Onward kept (with_made (with_row kept) caller.own places)
  begun kept places = then_on {middle = with_row kept} (same refl refl) (made (with_row kept) places)

  no_stamp : (kept : Kept) (node : Node) (c : ℕ) (after : Kept) → HasNoStamp log caller kept node c after
      → Onward kept after
  no_stamp kept node c after (none_for_one only h) = same refl refl
  no_stamp kept node c after (none_for_several places g) = begun kept places

  stops : (kept : Kept) (node : Node) (steps : ℕ) (after : Kept) → Stops log caller kept node steps after
      → Onward kept after
  stops kept node steps after stopped_at_once = same refl refl
  stops kept node steps after (stopped_after n places s) = begun kept places

  -- pulls
  carried : (kept middle : Kept) (region c nodes : ℕ) (place : At) → CarriesNodes log caller kept region c nodes place
      → middle.seen caller.own c ≡ kept.seen caller.own c → Onward middle (kept_after_place middle caller.own c place)
  carried kept middle region c nodes (ats.Event place) r is = event middle caller.own c place
      (λ _. let l = r.0 in omega (arith, l, is))
  carried kept middle region c nodes (ats.Look events) r is = look middle c events (let l = r.0 in omega (arith, l, is))

  other_column : (f : ℕ → ℕ → ℕ) (region c x d : ℕ) → region ≢ caller.own → updated_at f region c x caller.own d
      ≡ f caller.own d
  other_column f region c x d ne = at_new_at (λ n. n ≡ f caller.own d) f region c x caller.own d
      (λ e _. absurd (ne (sym e))) refl

  pulled : (kept : Kept) (region c nodes place : ℕ) (carry : At) (too_low : List ℕ) (after : Kept)
      → Pulls log caller kept region c nodes place carry too_low
      → after ≡ kept_after_pull kept caller.own region c place carry too_low → Onward kept after
  pulled kept region c nodes place carry too_low after p e =
      let low = with_places kept region c too_low in
      let given = kept_after_event low region c place in
      to_same (kept_after_pull kept caller.own region c place carry too_low) after e
      (then_on {middle = low} (placed kept region c too_low)
      (then_on {middle = given} (event low region c place (λ own. absurd (p.another own)))
      (carried kept given region c nodes carry p.carries
      (other_column low.seen region c (place + 1) c p.another ∙ other_column kept.seen region c
      (seen_past (kept.seen region c) too_low) c p.another))))

  memory : (kept : Kept) (what : What) (after : Kept) → FindsNoMemory log caller kept what after → Onward kept after
  memory kept what after nothing = same refl refl
  memory kept what after (gone colours text places asks g) = begun kept places
  memory kept what after (gave region c looked too_low places is g) =
      let low = with_places kept region c too_low in
      let given = with_places low region c places in
      let same = other_column low.seen region c (seen_past (low.seen region c) places) c g.another
      ∙ other_column kept.seen region c (seen_past (kept.seen region c) too_low) c g.another in
      let unseen = g.unseen in
      then_on {middle = low} (placed kept region c too_low)
      (then_on {middle = given} (placed low region c places) (look given c looked (omega (arith, unseen, same))))
  memory kept what after (hidden later h) = hides kept (colours_synced caller what) (manner_of what) later h

  ends : (kept : Kept) (what : What) (said : List ℕ) (ended : Ended) (after : Kept)
      → EndsAs log caller kept what said ended after → Onward kept after
  ends kept what said (ended_as.Stood stamp point) after e =
      appended kept (node_of caller kept e.0 e.1) stamp None (point ∷ []) after e.3.1
  ends kept what said (ended_as.StampEnd c) after e = no_stamp kept (node_of caller kept e.0 e.1) c after e.3.1
  ends kept what said ended_as.NoMemory after e = to_same kept after e (same refl refl)

  explained : (kept : Kept) (what : What) (answer : Answer) (nodes : List PlacedNode) (after : Kept)
      → Explains log caller kept what answer nodes after → Onward kept after
  explained kept what answers.NoMemory nodes after e = memory kept what after e.1
  explained kept what (answers.Stood stamp row points) nodes after e = appended kept
      (node_of caller kept e.2.0 e.2.1) stamp row points after e.2.3
  explained kept what (answers.StampEnd c) nodes after e = no_stamp kept (node_of caller kept e.2.0 e.2.1) c after e.2.3
  explained kept what (answers.Full used) nodes after e = to_same kept after e.2 (same refl refl)
  explained kept what (answers.Stopped steps) nodes after e = stops kept (node_of caller kept e.1 e.2) steps after e.4
  explained kept what (answers.Synced sync plays) nodes after e = to_same _ after e.4
      (synced kept sync.colour sync.events _ sync.counts e.2)
  explained kept what (answers.Scanned stamp count raises syncs) nodes after e =
      read kept _ stamp raises syncs after e.3
  explained kept what (answers.Pulled count give carry) nodes after e =
      pulled kept e.1 e.2 count e.4 carry e.6 after e.7 e.8
  explained kept what answers.SameRegion nodes after e = to_same kept after e.1 (same refl refl)
  explained kept what (answers.Based shown base) nodes after e = to_same _ after e.6
      (event kept caller.own e.1 e.3 (λ _. e.5.unseen))
  explained kept what (answers.Got value sync) nodes after e = to_same _ after e.3
      (synced kept sync.colour sync.events _ sync.counts e.2)
  explained kept what (answers.GotMany values sync) nodes after e = to_same _ after e.7
      (synced kept sync.colour sync.events _ sync.counts e.5)
  explained kept what (answers.GotKeys stamp shown raises syncs) nodes after e =
      let t = e.2 in
      let before = read kept (colours_synced caller what) stamp raises syncs e.1 t.0 in
      elim t.5 [
        | inl g ↦ to_same e.1 after g.4 before
        | inr g ↦ to_same _ after g.4 (then_on {middle = e.1} before (same refl refl))
      ]
  explained kept what (answers.Ruled conflict stamp row points read_stamp raises syncs) nodes after e =
      let a = e.1.1 in
      let s = a.3 in
      then_on (appended kept (node_of caller kept a.0 a.1) s.0 row points s.1 s.2)
      (read s.1 _ read_stamp raises syncs after s.3.0)
  explained kept what (answers.Changed failed stamp row points read_stamp raises syncs) nodes after e =
      let a = e.1.1 in
      let s = a.3 in
      then_on (appended kept (node_of caller kept a.0 a.1) s.0 row points s.1 s.2)
      (read s.1 _ read_stamp raises syncs after s.3.0)
  explained kept what (answers.Listed names stamp raises syncs) nodes after e =
      read kept (colours_synced caller what) stamp raises syncs after e.4.0
  explained kept what (answers.Undecided stamp sync) nodes after e = to_same _ after e.3
      (synced kept sync.colour sync.events _ sync.counts e.2)
  explained kept what (answers.Decided commits stamp sync read_stamp raises syncs ended) nodes after e =
      let d = e.3 in
      then_on (synced kept sync.colour sync.events _ sync.counts d.synced)
      (then_on (read (kept_after_piece log caller kept sync) (rising e.1) read_stamp raises syncs d.read d.tells.0)
      (ends d.read what (decision_text (record { key = d.waits; commits = commits })) ended after d.ends))
  explained kept what (answers.Moved lined waiting c events) nodes after e =
      to_same (kept_after_look kept caller.own c events) after e.5 (look kept c events e.3.unseen)
  explained kept what answers.NoTx nodes after e = to_same kept after e.1 (same refl refl)
  explained kept what (answers.Took value point sync) nodes after e =
      let a = e.3 in
      let s = a.3 in
      then_on (appended kept (node_of caller kept a.0 a.1) s.0 None (point ∷ []) s.1 s.2)
      (to_same _ after s.5 (synced s.1 sync.colour sync.events _ sync.counts s.3))
  explained kept what (answers.UnreadTrimmed stamp c base) nodes after e =
      let a = e.2 in
      let s = a.3 in
      then_on (unshown kept (node_of caller kept a.0 a.1) stamp s.0 s.1) (refuses s.0 _ _ c base after s.2)
  explained kept what (answers.UnreadNoMemory stamp) nodes after e =
      let a = e.2 in
      let s = a.3 in
      then_on (unshown kept (node_of caller kept a.0 a.1) stamp s.0 s.1) (hides s.0 _ _ after s.2)
  explained kept what (answers.Trimmed c base) nodes after e = refuses kept _ _ c base after e.2
  explained kept what (answers.NotHome home) nodes after e = to_same kept after e.1 (same refl refl)

  -- a command leaves past what was past
  pub answered : (kept : Kept) (command : Command) (reply : ReplyLine) (after : Kept)
      → Answers log caller kept command reply after → Onward kept after
  answered kept command reply after a =
      then_on {middle = kept_before command.what kept}
      (before_is (Onward kept) command.what kept (same refl refl) (λ object. same refl refl))
      (then_on {middle = a.answered} (explained
      (kept_before command.what kept) command.what reply.answer reply.nodes a.answered a.explained)
      (to_same _ after a.after_is (behind_is (Onward a.answered) command.what a.answered (same refl refl)
      (λ object. same refl refl))))
