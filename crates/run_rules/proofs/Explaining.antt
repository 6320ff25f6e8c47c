-- A step that keeps all rules is explained.
use Rattle.std.proofs.Common.{◌≡◌, ◌∙◌, ℕ, zero, suc, ◌<◌, ◌≤◌, Bool, true, false, List, [], ◌∷◌, length, Option, Some, None, refl, ap, sym, subst, ◌⊎◌, inl, inr, arith}
use Rattle.std.specs.Prelude.{IsTrue, not}
use Rattle.std.specs.List.{All}
use Rattle.std.proofs.lemmas.Bool.{lt-ltb}
use Rattle.log_node.specs.declared.node.At.{At}
use Rattle.log_node.specs.declared.ids.Colours.{Colours}
use Rattle.log_node.specs.Seen.{PlacedNode}
use Rattle.log_node.specs.Sets.{members}
use Rattle.log_node.specs.declared.node.Node.{Node}
use Rattle.object_fold.specs.Maps.{Value}
use Rattle.part_fold.specs.declared.decision.Decision.{Decision}
use Rattle.part_fold.specs.Decisions.{decision_text}
use Rattle.col_core.specs.Log.{Log}
use Rattle.col_core.specs.Keeping.{Kept, kept_after_sync, kept_after_event}
use Rattle.script_text.specs.declared.script.Kind.{Kind}
use Rattle.script_text.specs.declared.script.Kind.TheVariants as kinds
use Rattle.script_text.specs.declared.commands.What.{What}
use Rattle.script_text.specs.declared.commands.What.TheVariants as whats
use Rattle.script_text.specs.Commands.{word_of}
use Rattle.report_text.specs.declared.report.Answer.{Answer}
use Rattle.report_text.specs.declared.report.Answer.TheVariants as answers
use Rattle.report_text.specs.declared.report.Ended.{Ended}
use Rattle.report_text.specs.declared.report.Ended.TheVariants as ends
use Rattle.report_text.specs.declared.report.PointPiece.{PointPiece}
use Rattle.report_text.specs.declared.report.SyncPiece.{SyncPiece}
use Rattle.lawful_run.specs.Callers.{Caller, node_of}
use Rattle.lawful_run.specs.Asks.{Manner, Appending, Guarding, Syncing, kind_asked, object_colours, rising}
use Rattle.lawful_run.specs.Deeds.{manner_of, colours_synced, AsksToAppend}
use Rattle.lawful_run.specs.Appends.{WasNext, none_for_one}
use Rattle.lawful_run.specs.Shapes.{AppendsBy}
use Rattle.lawful_run.specs.Appends.{Appends}
use Rattle.lawful_run.specs.Reads.{ReadsAt, events_until, kept_after_piece}
use Rattle.lawful_run.specs.Moves.{kept_after_pull}
use Rattle.lawful_run.specs.Parts.{AsksToDecide, EndsAs, OfNodesPlayed, OfPart, WaitsFor}
use Rattle.lawful_run.specs.Refusals.{Refuses}
use Rattle.lawful_run.specs.Explains.{Explains, MayStand}
use Rattle.run_rules.specs.Told.{Untold, kept_told, kept_pulled, kept_trimmed, kept_after_append, kept_after_end, kept_after_read, kept_deciding, colours_asked, is_several, stamp_told}
use Rattle.run_rules.specs.Answering.{CanGet}
use Rattle.run_rules.specs.Rules.{with_room, StandsAsTold, StandsAtEnd}
use Rattle.run_rules.specs.Shown.{is_row, begins_row, EndHasCause, GetsRight, OfMap, OfParts, SaysSo}
use Rattle.run_rules.specs.Keeping.{hides, is_sync}
use Rattle.run_rules.proofs.Deciding.{decide_own}
use Rattle.run_rules.proofs.Facts.{Facts, asked_colours}
use Rattle.run_rules.proofs.Room.{appends_with, stops_with, no_stamp_with}
use Rattle.lawful_run.proofs.CallerLemmas.{stamps_played}

-- a word of a sync is that of one
pub sync_manner : (what : What) → is_sync (word_of what) ≡ true → manner_of what ≡ Syncing
sync_manner (whats.Sync colour) e = refl
sync_manner _ e = absurd (let f : ⊥ = cc (e) in f)

-- a trim is told of a sync alone where nothing is hidden
pub shown_sync : (what : What) (b : Bool) → is_sync (word_of what) ≡ b → not b ≡ false → manner_of what ≡ Syncing
shown_sync what true e n = sync_manner what e
shown_sync what false e n = absurd (let f : ⊥ = cc (n) in f)

-- a value of a map, of a part, or of a decide
got_so : (log : Log) (caller : Caller) (what : What) (value : Value) (sync : SyncPiece) (kind : Option Kind)
    → CanGet caller what sync value kind → OfMap kind (GetsRight log caller what sync value)
    → OfParts kind (GetsRight log caller what sync value) → GetsRight log caller what sync value
got_so log caller what value sync (Some (kinds.Map home colours)) can right part = right
got_so log caller what value sync (Some (kinds.Parts home colours)) can right part = part
got_so log caller what value sync _ can right part = absurd can

-- how the append of a decision's node ended
ends_so : (log : Log) (caller : Caller) (untold : Untold) (kept : Kept) (what : What) (sync : SyncPiece) (own : List ℕ)
    → AsksToDecide caller what sync own → (decision : Decision) (ended : Ended) → StandsAtEnd log untold caller kept what ended
    → EndHasCause log caller kept what ended → SaysSo log caller kept (decision_text decision) ended
    → EndsAs log caller kept what (decision_text decision) ended (kept_after_end untold caller kept ended)
ends_so log caller untold kept what sync own asks decision (ends.Stood stamp point) stands caused says =
    let a = appends_with log (with_room caller kept) kept (node_of caller kept stands.0 stands.1) caller.rows stamp None
    (point ∷ []) (kept_after_append untold caller kept stamp None (point ∷ []))
    (λ t. absurd (let f : ⊥ = cc (t) in f)) stands.3 in
    let there = says.1 in
    let next = a.3.next in
    let same : says.0 ≡ node_of caller kept stands.0 stands.1 = one_node says.0 (node_of caller kept stands.0 stands.1)
    (sym there ∙ next) in
    (stands.0, stands.1, stands.2, (sym (ap (λ (n : Node). n.text) same) ∙ says.3, a)) where
      one_node : (m n : Node) → Some m ≡ Some n → m ≡ n
      one_node m n e = let f : m ≡ n = cc (e) in f
ends_so log caller untold kept what sync own asks decision (ends.StampEnd colour) stands caused says = (
  caused.0,
  decision_text decision,
  subst (λ (w : What). AsksToAppend caller kept w caused.0 (decision_text decision)) (sym asks.2)
      ((subst (λ (w : What). AsksToAppend caller kept w caused.0 caused.1) asks.2 caused.2).0, (decision, refl)),
  (refl, none_for_one caused.3.0 caused.3.1),
)
ends_so log caller untold kept what sync own asks decision ends.NoMemory stands caused says = refl

module _ (log : Log) (caller : Caller) (untold : Untold) (kept : Kept) (what : What) (nodes : List PlacedNode) where
  may : (points : List PointPiece) → (manner_of what ≡ Appending) ⊎ (manner_of what ≡ Guarding)
      → (manner_of what ≡ Guarding → All (WasNext log caller kept) points) → MayStand log caller kept what points
  may points (inl a) next = inl a
  may points (inr g) next = inr (g, next g)

  stood : (stamp : ℕ) (row : Option ℕ) (points : List PointPiece) → (IsTrue (is_row row) → kept.rows < caller.rows)
      → StandsAsTold log untold caller kept what stamp row points
      → AppendsBy caller kept what (λ colours text. Appends log caller kept (node_of caller kept colours text) stamp row points
      (kept_after_append untold caller kept stamp row points))
  stood stamp row points room s = (
    s.0,
    s.1,
    s.2,
    appends_with log (with_room caller kept) kept (node_of caller kept s.0 s.1) caller.rows stamp row points
        (kept_after_append untold caller kept stamp row points) room s.3,
  )

  several : (colours : Colours) (text : List ℕ) → AsksToAppend caller kept what colours text → 2 ≤ length (members colours)
      → is_several caller kept what ≡ true
  several colours text asks le =
      lt-ltb 1 (length (colours_asked caller kept what))
      (let e = ap length (asked_colours caller kept what colours text asks) in omega (arith, le, e))

  pub explained_so : (answer : Answer) → hides (word_of what) answer ≡ false
      → Facts log caller untold kept what nodes answer
      → Explains log caller kept what answer nodes (kept_told log untold caller kept what answer)
  explained_so answers.NoMemory n f = absurd (let g : ⊥ = cc (n) in g)
  explained_so (answers.Stood stamp row points) n f =
      (f.can.0, may points f.can.1 f.next, stood stamp row points f.room f.stands)
  explained_so (answers.StampEnd colour) n f =
      let c = f.caused.1 in (
        f.can.0,
        f.caused.0,
        (
          c.0,
          c.1,
          c.2,
          no_stamp_with log (with_room caller kept) kept (node_of caller kept c.0 c.1) caller.rows colour
              (kept_told log untold caller kept what (answers.StampEnd colour)) (λ le. f.room (several c.0 c.1 c.2 le)) c.3,
        ),
      )
  explained_so (answers.Full used) n f = (f.can.0, f.caused.0, refl, f.caused.1)
  explained_so (answers.Stopped steps) n f =
      let s = f.stops in (
        f.can.0,
        s.0,
        s.1,
        s.2,
        stops_with log (with_room caller kept) kept (node_of caller kept s.0 s.1) caller.rows steps
            (kept_told log untold caller kept what (answers.Stopped steps)) (begun steps f.room) s.3,
      ) where
        begun : (steps : ℕ) → (IsTrue (begins_row (is_several caller kept what) (answers.Stopped steps)) → kept.rows < caller.rows)
            → 0 < steps → kept.rows < caller.rows
        begun zero room lt = absurd (let g : ⊥ = omega (arith, lt) in g)
        begun (suc k) room lt = room refl
  explained_so (answers.Synced sync plays) n f = (
    f.can,
    f.shows.0,
    f.shows.1,
    f.shows.2,
    ap (kept_after_sync kept caller.own sync.colour sync.events sync.counts)
        (sym (stamps_played log caller kept sync.colour sync.events sync.counts nodes f.shows.2)),
  )
  explained_so (answers.Scanned stamp count raises syncs) n f = (
    f.can.0,
    f.can.1,
    f.shows.0,
    subst (λ (cs : List ℕ). ReadsAt log caller kept cs stamp raises syncs (kept_after_read log caller kept stamp raises syncs))
        (ap (colours_synced caller) f.can.1) f.shows.1,
    f.shows.2,
    f.shows.3,
    f.shows.4,
  )
  explained_so (answers.Pulled count give carry) n f =
      let s = f.shows in (
        f.can.0,
        s.0,
        s.1,
        s.2,
        s.3,
        s.4,
        untold.too_low,
        s.5,
        ap (λ (w : What). kept_pulled untold caller kept w give carry) s.2
            ∙ ap (λ (g : At). kept_after_pull kept caller.own s.0 s.1 (events_until g) carry untold.too_low) s.4,
      )
  explained_so answers.SameRegion n f = (f.can.0, refl, f.caused.0, f.caused.1)
  explained_so (answers.Based given base) n f =
      let s = f.shows in (
        f.can.0,
        s.0,
        s.1,
        s.2,
        s.3,
        s.4,
        ap (λ (w : What). kept_trimmed caller kept w given) s.1
            ∙ ap (λ (g : At). kept_after_event kept caller.own s.0 (events_until g)) s.3,
      )
  explained_so (answers.Got value sync) n f = (
    f.can.0,
    got_so log caller what value sync (kind_asked caller what) f.can.1 f.right f.part,
    f.shows,
    refl,
  )
  explained_so (answers.GotMany values sync) n f =
      let r = f.right in (f.can.0, r.0, r.1, r.2, r.3, f.shows, r.4, refl)
  explained_so (answers.GotKeys stamp shown raises syncs) n f =
      let r = f.right in
      (f.can.0, kept_after_read log caller kept stamp raises syncs, (f.shows, r.0, r.1, r.2, r.3, r.4))
  explained_so (answers.Ruled conflict stamp row points read_stamp raises syncs) n f =
      let own = stamp_told log caller kept row points in
      let s = stood own row points f.room f.stands in
      let r = f.right in (
        f.can.0,
        (
          f.can.1,
          (
            s.0,
            s.1,
            s.2,
            (own, kept_after_append untold caller kept own row points, s.3, (f.shows, r.0, r.1, r.2, r.3, r.4)),
          ),
        ),
      )
  explained_so (answers.Changed failed stamp row points read_stamp raises syncs) n f =
      let own = stamp_told log caller kept row points in
      let s = stood own row points f.room f.stands in
      let r = f.tree in (
        f.can.0,
        (
          f.can.1,
          (
            s.0,
            s.1,
            s.2,
            (own, kept_after_append untold caller kept own row points, s.3, (f.shows, r.0, r.1, r.2, r.3, r.4)),
          ),
        ),
      )
  explained_so (answers.Listed names stamp raises syncs) n f =
      let t = f.tree in let r = t.3 in (f.can.0, t.0, t.1, t.2, (f.shows, r.0, r.1, r.2, r.3, r.4))
  explained_so (answers.Undecided stamp sync) n f = (f.can.0, f.part, f.shows, refl)
  explained_so (answers.Decided commits stamp sync read_stamp raises syncs ended) n f =
      let colours = f.can.1 in
      let asks = f.can.2 in
      let own : object_colours (kind_asked caller what) ≡ colours = decide_own caller what sync colours asks in
      let piece = kept_after_piece log caller kept sync in
      let read = kept_deciding log caller kept sync read_stamp raises syncs in
      let p = f.part in
      let r = p.3 in (
        f.can.0,
        colours,
        asks,
        record {
          synced = f.shows.0;
          waits = p.0;
          stamp_is = p.1;
          waiting = subst (λ (cs : List ℕ). OfNodesPlayed log caller sync (OfPart cs sync.colour (WaitsFor (Some p.0)))) own p.2;
          read = read;
          tells = (
            subst (λ (cs : List ℕ). ReadsAt log caller piece (rising cs) read_stamp raises syncs read) own f.shows.1,
            r.0,
            r.1,
            r.2,
            r.3,
            r.4,
          );
          ends = ends_so log caller untold read what sync colours asks (record { key = p.0; commits = commits }) ended
              f.stands f.caused p.4;
        },
      )
  explained_so (answers.Moved lined waiting colour events) n f =
      let x = f.next in (f.can.0, x.0, x.1, x.2, x.3, refl)
  explained_so answers.NoTx n f = let c = f.caused in (f.can.0, refl, c.0, c.1, c.2, c.3, c.4)
  explained_so (answers.Took value point sync) n f =
      let own = stamp_told log caller kept None (point ∷ []) in
      let s = stood own None (point ∷ []) f.room f.stands in (
        f.can.0,
        f.can.1,
        f.can.3,
        (
          s.0,
          s.1,
          s.2,
          (own, kept_after_append untold caller kept own None (point ∷ []), s.3, f.shows, f.right, refl),
        ),
      )
  explained_so (answers.UnreadTrimmed stamp colour base) n f = absurd (let g : ⊥ = cc (n) in g)
  explained_so (answers.UnreadNoMemory stamp) n f = absurd (let g : ⊥ = cc (n) in g)
  explained_so (answers.Trimmed colour base) n f = (
    f.can.0,
    f.can.2,
    subst (λ (m : Manner). Refuses log caller kept (colours_synced caller what) m colour base kept)
        (sym (shown_sync what (is_sync (word_of what)) refl n)) (f.can.1, f.caused, refl),
  )
  explained_so (answers.NotHome home) n f = (f.can.0, refl, f.caused.0, f.caused.1)
