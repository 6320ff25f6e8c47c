-- A command begins one row at most, and none where it may begin none: so a client has begun no more rows than it has
-- asked commands that may begin one.
use Rattle.std.proofs.Common.{◌≡◌, ◌⊎◌, Bool, true, false, ℕ, nat_lt, ◌+◌, ◌≤◌, List, [], ◌∷◌, ◌++◌, length, Option, Some, None, inl, inr, refl, ap, sym, subst, ◌∙◌, arith, cond}
use Rattle.std.specs.Prelude.{◌||◌, not, if◌then◌else◌}
use Rattle.std.proofs.lemmas.List.Sums.{sum_by_push}
use Rattle.log_node.specs.declared.ids.Colours.{Colours}
use Rattle.log_node.specs.declared.ids.Counts.{Counts}
use Rattle.log_node.specs.declared.node.At.{At}
use Rattle.log_node.specs.declared.node.At.TheVariants.{Event, Look}
use Rattle.log_node.specs.declared.forms.Version.{Version}
use Rattle.log_node.specs.Seen.{PlacedNode}
use Rattle.log_node.specs.Sets.{members}
use Rattle.object_form.specs.Forms.{is_word}
use Rattle.part_fold.specs.Decisions.{decision_text}
use Rattle.tree_fold.specs.declared.change.Change.TheVariants.{Make}
use Rattle.tree_fold.specs.Paths.{Path}
use Rattle.tree_fold.specs.Readings.{path_of, below_root, make_of, remove_of}
use Rattle.col_core.specs.Log.{Log}
use Rattle.col_core.specs.Keeping.{Kept, kept_after_event}
use Rattle.script_text.specs.declared.script.Kind.{Kind}
use Rattle.script_text.specs.declared.commands.What.{What}
use Rattle.script_text.specs.declared.commands.What.TheVariants as whats
use Rattle.script_text.specs.declared.script.Command.{Command}
use Rattle.script_text.specs.Commands.{use_of}
use Rattle.report_text.specs.declared.report.Answer.{Answer}
use Rattle.report_text.specs.declared.report.Answer.TheVariants as answers
use Rattle.report_text.specs.declared.report.Ended.{Ended}
use Rattle.report_text.specs.declared.report.Ended.TheVariants as ends
use Rattle.report_text.specs.declared.report.PointPiece.{PointPiece}
use Rattle.report_text.specs.declared.report.RaisePiece.{RaisePiece}
use Rattle.report_text.specs.declared.report.ReplyLine.{ReplyLine}
use Rattle.report_text.specs.declared.report.SyncPiece.{SyncPiece}
use Rattle.lawful_run.proofs.CallerLemmas.{kept_after_hidden, before_is, behind_is, not_several, points_leave}
use Rattle.lawful_run.specs.Callers.{Caller, node_of}
use Rattle.lawful_run.specs.Asks.{object_colours, kind_asked, Manner, Appending, Guarding, Stopping, Syncing, Moving, Getting, Reading, Committing, Dequeuing, Deciding, rising}
use Rattle.lawful_run.specs.Deeds.{Reach, NoColours, Named, One, ShardsOf, Saying, says_change, saying_of, found_by, Reaches, SaysNode, AsksToAppend, colours_synced, manner_of}
use Rattle.lawful_run.specs.Appends.{Appends, AppendsUnshown, one_unshown, several_unshown, HasNoStamp, none_for_one, none_for_several}
use Rattle.lawful_run.specs.Moves.{with_places, kept_after_pull}
use Rattle.lawful_run.specs.Reads.{kept_after_place, kept_after_piece, Raises, ClearSyncs, ReadsAt, HidesSyncs, HidesRead, RefusesRead}
use Rattle.lawful_run.specs.Refusals.{Hides, HidesDecide, Refuses, RefusesDecide, FindsNoMemory, nothing, gone, gave, hidden, kept_before, kept_behind}
use Rattle.lawful_run.specs.Parts.{EndsAs}
use Rattle.lawful_run.specs.Stops.{Stops, stopped_at_once, stopped_after}
use Rattle.lawful_run.specs.Explains.{Explains, Answers, Explained, start, next}
use Rattle.script_beside.specs.Begins.{may_take_row, begins_in}

-- as many rows are begun
abbrev pub KeepsRows : Kept → Kept → Type 0
KeepsRows kept after = after.rows ≡ kept.rows

-- as many rows are begun, or one more by a command that may begin one
abbrev pub BeginsOne : What → Kept → Kept → Type 0
BeginsOne what kept after = KeepsRows kept after ⊎ ((may_take_row what ≡ true) × (after.rows ≡ kept.rows + 1))

same_rows : (kept middle after : Kept) → after ≡ middle → KeepsRows kept middle → KeepsRows kept after
same_rows kept middle after e r = ap (λ (k : Kept). k.rows) e ∙ r

-- no row is begun before a beginning, or after it
keeps_then : (what : What) (kept middle after : Kept) → KeepsRows kept middle → BeginsOne what middle after
    → BeginsOne what kept after
keeps_then what kept middle after r (inl s) = inl (s ∙ r)
keeps_then what kept middle after r (inr (may, one)) = inr (may, one ∙ ap (λ n. n + 1) r)

then_keeps : (what : What) (kept middle after : Kept) → BeginsOne what kept middle → KeepsRows middle after
    → BeginsOne what kept after
then_keeps what kept middle after (inl r) s = inl (s ∙ r)
then_keeps what kept middle after (inr (may, one)) s = inr (may, s ∙ one)

-- whether nodes of this reach may have several colours: those of one key have one, its shard's
abbrev reaches_several : Reach → Bool
reaches_several NoColours = false
reaches_several (Named colours) = nat_lt 1 (length (members colours))
reaches_several (One colour) = false
reaches_several (ShardsOf (key ∷ [])) = false
reaches_several _ = true

two_or_more : (n : ℕ) → 2 ≤ n → nat_lt 1 n ≡ true
two_or_more n two = grind (arith, two)

-- a node with several colours is of a reach that may have them
reached : (own : List ℕ) (reach : Reach) (colours : Colours) → Reaches own reach colours → 2 ≤ length (members colours)
    → reaches_several reach ≡ true
reached own NoColours colours is two = let e = ap length is in absurd (let f : ⊥ = omega (arith, two, e) in f)
reached own (Named asked) colours is two =
    subst (λ (c : Colours). nat_lt 1 (length (members c)) ≡ true) is (two_or_more (length (members colours)) two)
reached own (One colour) colours is two = let e = ap length is in absurd (let f : ⊥ = omega (arith, two, e) in f)
reached own (ShardsOf (key ∷ [])) colours is two = absurd (not_several own key (members colours) is two)
reached own _ colours is two = refl

-- whether a node that is said may have several colours
abbrev has_several : Option Saying → Bool
has_several None = false
has_several (Some saying) = reaches_several saying.reach

said_several : (own : List ℕ) (said : Option Saying) (colours : Colours) (text : List ℕ) → SaysNode own said colours text
    → 2 ≤ length (members colours) → has_several said ≡ true
said_several own None colours text says two = absurd says
said_several own (Some saying) colours text says two = reached own saying.reach colours says.0 two

-- a change of one path stands in the shard of its first name
make_alone : (path : Option Path) (value : List ℕ) → has_several (says_change (make_of (below_root path) value)) ≡ false
make_alone None value = refl
make_alone (Some []) value = refl
make_alone (Some (name ∷ names)) value = by (is_word value) where
  by : (b : Bool) → has_several (says_change (if b then Some (Make (name ∷ names) value) else None)) ≡ false
  by true = refl
  by false = refl

remove_alone : (path : Option Path) → has_several (says_change (remove_of (below_root path))) ≡ false
remove_alone None = refl
remove_alone (Some []) = refl
remove_alone (Some (name ∷ names)) = refl

or_not : (b : Bool) → (b || not b) ≡ true
or_not true = refl
or_not false = refl

first_of : (a b : Bool) → (a || not b) ≡ true → b ≡ true → a ≡ true
first_of true b e t = refl
first_of false true e t = e
first_of false false e t = t

-- a command whose node may have several colours may begin a row
begins_so : (kind : Option Kind) (found : Option (List Version)) (what : What)
    → (may_take_row what || not (has_several (saying_of kind found what))) ≡ true
begins_so kind found (whats.Append colours text) = or_not (nat_lt 1 (length (members colours)))
begins_so kind found (whats.Mk object path value) = ap not (make_alone (path_of path) value)
begins_so kind found (whats.Rm object path) = ap not (remove_alone (path_of path))
begins_so kind found _ = refl

-- a command that asks for a node of several colours may begin a row
pub several_may : (caller : Caller) (kept : Kept) (what : What) (colours : Colours) (text : List ℕ)
    → AsksToAppend caller kept what colours text → 2 ≤ length (members colours) → may_take_row what ≡ true
several_may caller kept what colours text asks two =
    let kind = kind_asked caller what in
    let found = found_by (use_of what) kept in
    first_of (may_take_row what) (has_several (saying_of kind found what)) (begins_so kind found what)
    (said_several (object_colours kind) (saying_of kind found what) colours text asks two)

-- READS
place_rows : (kept : Kept) (region colour : ℕ) (at : At) → KeepsRows kept (kept_after_place kept region colour at)
place_rows kept region colour (Event place) = refl
place_rows kept region colour (Look events) = refl

raises_rows : (log : Log) (caller : Caller) (stamp : ℕ) (kept : Kept) (raises : List RaisePiece) (after : Kept)
    → Raises log caller stamp kept raises after → KeepsRows kept after
raises_rows log caller stamp kept [] after r = same_rows kept kept after r refl
raises_rows log caller stamp kept (raise ∷ raises) after r =
    raises_rows log caller stamp (kept_after_place kept caller.own raise.colour raise.at) raises after r.1
    ∙ place_rows kept caller.own raise.colour raise.at

clears_rows : (log : Log) (caller : Caller) (stamp : ℕ) (kept : Kept) (syncs : List SyncPiece) (after : Kept)
    → ClearSyncs log caller stamp kept syncs after → KeepsRows kept after
clears_rows log caller stamp kept [] after r = same_rows kept kept after r refl
clears_rows log caller stamp kept (sync ∷ syncs) after r =
    clears_rows log caller stamp (kept_after_piece log caller kept sync) syncs after r.2

reads_rows : (log : Log) (caller : Caller) (kept : Kept) (colours : List ℕ) (stamp : ℕ) (raises : List RaisePiece)
    (syncs : List SyncPiece) (after : Kept) → ReadsAt log caller kept colours stamp raises syncs after
    → KeepsRows kept after
reads_rows log caller kept colours stamp raises syncs after r =
    ap (λ (k : Kept). k.rows) r.after_is
    ∙ (clears_rows log caller stamp r.raised syncs r.synced r.syncing
    ∙ raises_rows log caller stamp kept raises r.raised r.raising)

syncs_rows : (log : Log) (caller : Caller) (kept : Kept) (colours : List ℕ) (after : Kept)
    → HidesSyncs log caller kept colours after → KeepsRows kept after
syncs_rows log caller kept [] after h = same_rows kept kept after h refl
syncs_rows log caller kept (colour ∷ colours) after h =
    syncs_rows log caller (kept_after_hidden kept colour h.0 h.1) colours after h.3

hidden_rows : (log : Log) (caller : Caller) (kept : Kept) (colours : List ℕ) (after : Kept)
    → HidesRead log caller kept colours after → KeepsRows kept after
hidden_rows log caller kept colours after h =
    let synced = syncs_rows log caller kept colours h.synced h.syncing in
    elim h.after_is [
      | inl e ↦ same_rows kept _ after e synced
      | inr e ↦ same_rows kept _ after e synced
    ]

decides_rows : (log : Log) (caller : Caller) (kept : Kept) (colours : List ℕ) (after : Kept)
    → HidesDecide log caller kept colours after → KeepsRows kept after
decides_rows log caller kept [] after h = absurd h
decides_rows log caller kept (first ∷ all) after h =
    let synced = syncs_rows log caller kept (first ∷ []) h.0 h.1 in
    elim h.2 [
      | inl e ↦ same_rows kept h.0 after e synced
      | inr r ↦ hidden_rows log caller h.0 all after r ∙ synced
    ]

hides_rows : (log : Log) (caller : Caller) (kept : Kept) (colours : List ℕ) (manner : Manner) (after : Kept)
    → Hides log caller kept colours manner after → KeepsRows kept after
hides_rows log caller kept colours Appending after h = same_rows kept kept after h refl
hides_rows log caller kept colours Guarding after h = same_rows kept kept after h refl
hides_rows log caller kept colours Stopping after h = same_rows kept kept after h refl
hides_rows log caller kept colours Syncing after h = same_rows kept kept after h refl
hides_rows log caller kept colours Moving after h = same_rows kept kept after h refl
hides_rows log caller kept colours Getting after h = syncs_rows log caller kept colours after h
hides_rows log caller kept colours Reading after h = hidden_rows log caller kept colours after h
hides_rows log caller kept colours Committing after h = hidden_rows log caller kept colours after h
hides_rows log caller kept colours Dequeuing after h = syncs_rows log caller kept colours after h
hides_rows log caller kept colours Deciding after h = decides_rows log caller kept colours after h

refused_rows : (log : Log) (caller : Caller) (kept : Kept) (colours : List ℕ) (colour : ℕ) (shown : Counts) (after : Kept)
    → RefusesRead log caller kept colours colour shown after → KeepsRows kept after
refused_rows log caller kept colours colour shown after r =
    clears_rows log caller r.stamp r.raised r.syncs after r.syncing
    ∙ raises_rows log caller r.stamp kept r.raises r.raised r.raising

refused_decide_rows : (log : Log) (caller : Caller) (kept : Kept) (colours : List ℕ) (colour : ℕ) (shown : Counts)
    (after : Kept) → RefusesDecide log caller kept colours colour shown after → KeepsRows kept after
refused_decide_rows log caller kept [] colour shown after r = absurd r
refused_decide_rows log caller kept (first ∷ all) colour shown after r = elim r [
  | inl at_once ↦ same_rows kept kept after at_once.2 refl
  | inr behind ↦ refused_rows log caller behind.0 all colour shown after behind.2
      ∙ syncs_rows log caller kept (first ∷ []) behind.0 behind.1
]

refuses_rows : (log : Log) (caller : Caller) (kept : Kept) (colours : List ℕ) (manner : Manner) (colour : ℕ)
    (shown : Counts) (after : Kept) → Refuses log caller kept colours manner colour shown after → KeepsRows kept after
refuses_rows log caller kept colours Appending colour shown after r = absurd r
refuses_rows log caller kept colours Guarding colour shown after r = absurd r
refuses_rows log caller kept colours Stopping colour shown after r = absurd r
refuses_rows log caller kept colours Syncing colour shown after r = same_rows kept kept after r.2 refl
refuses_rows log caller kept colours Moving colour shown after r = absurd r
refuses_rows log caller kept colours Getting colour shown after r = syncs_rows log caller kept colours after r.2
refuses_rows log caller kept colours Reading colour shown after r =
    refused_rows log caller kept colours colour shown after r
refuses_rows log caller kept colours Committing colour shown after r =
    refused_rows log caller kept colours colour shown after r
refuses_rows log caller kept colours Dequeuing colour shown after r = syncs_rows log caller kept colours after r.2
refuses_rows log caller kept colours Deciding colour shown after r =
    refused_decide_rows log caller kept colours colour shown after r

-- APPENDS
module _ (log : Log) (caller : Caller) (kept : Kept) (what : What) (colours : Colours) (text : List ℕ)
    (asks : AsksToAppend caller kept what colours text) where
  appends_begin : (stamp : ℕ) (row : Option ℕ) (points : List PointPiece) (after : Kept)
      → Appends log caller kept (node_of caller kept colours text) stamp row points after → BeginsOne what kept after
  appends_begin stamp None [] after a = absurd a
  appends_begin stamp None (p ∷ []) after a = inl (same_rows kept _ after a.4 refl)
  appends_begin stamp None (p ∷ q ∷ points) after a = absurd a
  appends_begin stamp (Some number) points after a =
      inr (
        several_may caller kept what colours text asks a.2.begins.several,
        ap (λ (k : Kept). k.rows) a.3 ∙ ap (λ n. n + 1) (points_leave caller.own kept points).rows,
      )

  unshown_begins : (stamp : ℕ) (after : Kept)
      → AppendsUnshown log caller kept (node_of caller kept colours text) stamp after → BeginsOne what kept after
  unshown_begins stamp after (one_unshown colour place position only a) = inl refl
  unshown_begins stamp after (several_unshown places begins outcome stand above) =
      inr (several_may caller kept what colours text asks begins.several, refl)

  no_stamp_begins : (colour : ℕ) (after : Kept)
      → HasNoStamp log caller kept (node_of caller kept colours text) colour after → BeginsOne what kept after
  no_stamp_begins colour after (none_for_one only h) = inl refl
  no_stamp_begins colour after (none_for_several places g) =
      inr (several_may caller kept what colours text asks g.begins.several, refl)

  stop_begins : (steps : ℕ) (after : Kept) → Stops log caller kept (node_of caller kept colours text) steps after
      → BeginsOne what kept after
  stop_begins steps after stopped_at_once = inl refl
  stop_begins steps after (stopped_after n places s) =
      inr (several_may caller kept what colours text asks s.begins.several, refl)

ended_begins : (log : Log) (caller : Caller) (kept : Kept) (what : What) (said : List ℕ) (ended : Ended) (after : Kept)
    → EndsAs log caller kept what said ended after → BeginsOne what kept after
ended_begins log caller kept what said (ends.Stood stamp point) after e =
    appends_begin log caller kept what e.0 e.1 e.2 stamp None (point ∷ []) after e.3.1
ended_begins log caller kept what said (ends.StampEnd colour) after e =
    no_stamp_begins log caller kept what e.0 e.1 e.2 colour after e.3.1
ended_begins log caller kept what said ends.NoMemory after e = inl (same_rows kept kept after e refl)

module _ (log : Log) (caller : Caller) (kept : Kept) (what : What) where
  memory_begins : (after : Kept) → FindsNoMemory log caller kept what after → BeginsOne what kept after
  memory_begins after nothing = inl refl
  memory_begins after (gone colours text places asks g) =
      inr (several_may caller kept what colours text asks g.begins.several, refl)
  memory_begins after (gave region colour looked too_low gives is g) = inl refl
  memory_begins after (hidden other h) =
      inl (hides_rows log caller kept (colours_synced caller what) (manner_of what) other h)

  -- Whatever an answer says, the command began one row at most, and none where it may begin none.
  pub explained_begins : (answer : Answer) (nodes : List PlacedNode) (after : Kept)
      → Explains log caller kept what answer nodes after → BeginsOne what kept after
  explained_begins answers.NoMemory nodes after e = memory_begins after e.1
  explained_begins (answers.Stood stamp row points) nodes after e =
      appends_begin log caller kept what e.2.0 e.2.1 e.2.2 stamp row points after e.2.3
  explained_begins (answers.StampEnd colour) nodes after e =
      no_stamp_begins log caller kept what e.2.0 e.2.1 e.2.2 colour after e.2.3
  explained_begins (answers.Full used) nodes after e = inl (same_rows kept kept after e.2 refl)
  explained_begins (answers.Stopped steps) nodes after e =
      stop_begins log caller kept what e.1 e.2
      (subst (λ (w : What). AsksToAppend caller kept w e.1 e.2) (sym e.3) (refl, refl)) steps after e.4
  explained_begins (answers.Synced sync plays) nodes after e = inl (same_rows kept _ after e.4 refl)
  explained_begins (answers.Scanned stamp count raises syncs) nodes after e =
      inl (reads_rows log caller kept (members e.0) stamp raises syncs after e.3)
  explained_begins (answers.Pulled count give carry) nodes after e =
      inl
      (same_rows kept (kept_after_pull kept caller.own e.1 e.2 e.4 carry e.6) after e.8
      (place_rows (kept_after_event (with_places kept e.1 e.2 e.6) e.1 e.2 e.4) caller.own e.2 carry))
  explained_begins answers.SameRegion nodes after e = inl (same_rows kept kept after e.1 refl)
  explained_begins (answers.Based at base) nodes after e = inl (same_rows kept _ after e.6 refl)
  explained_begins (answers.Got value sync) nodes after e = inl (same_rows kept _ after e.3 refl)
  explained_begins (answers.GotMany values sync) nodes after e = inl (same_rows kept _ after e.7 refl)
  explained_begins (answers.GotKeys stamp shown raises syncs) nodes after e =
      let t = e.2 in
      let read = reads_rows log caller kept (colours_synced caller what) stamp raises syncs e.1 t.0 in
      elim t.5 [
        | inl g ↦ inl (same_rows kept e.1 after g.4 read)
        | inr g ↦ inl (same_rows kept _ after g.4 read)
      ]
  explained_begins (answers.Ruled conflict stamp row points read_stamp raises syncs) nodes after e =
      let a = e.1.1 in
      let s = a.3 in
      then_keeps what kept s.1 after (appends_begin log caller kept what a.0 a.1 a.2 s.0 row points s.1 s.2)
      (reads_rows log caller s.1 (colours_synced caller what) read_stamp raises syncs after s.3.0)
  explained_begins (answers.Changed failed stamp row points read_stamp raises syncs) nodes after e =
      let a = e.1.1 in
      let s = a.3 in
      then_keeps what kept s.1 after (appends_begin log caller kept what a.0 a.1 a.2 s.0 row points s.1 s.2)
      (reads_rows log caller s.1 (colours_synced caller what) read_stamp raises syncs after s.3.0)
  explained_begins (answers.Listed names stamp raises syncs) nodes after e =
      inl (reads_rows log caller kept (colours_synced caller what) stamp raises syncs after e.4.0)
  explained_begins (answers.Undecided stamp sync) nodes after e = inl (same_rows kept _ after e.3 refl)
  explained_begins (answers.Decided commits stamp sync read_stamp raises syncs ended) nodes after e =
      let d = e.3 in
      keeps_then what kept d.read after
      (reads_rows log caller (kept_after_piece log caller kept sync) (rising e.1) read_stamp raises syncs d.read d.tells.0)
      (ended_begins log caller d.read what (decision_text (record { key = d.waits; commits = commits })) ended after d.ends)
  explained_begins (answers.Moved lined waiting colour events) nodes after e = inl (same_rows kept _ after e.5 refl)
  explained_begins answers.NoTx nodes after e = inl (same_rows kept kept after e.1 refl)
  explained_begins (answers.Took value point sync) nodes after e =
      let s = e.3.3 in
      then_keeps what kept s.1 after
      (appends_begin log caller kept what e.3.0 e.3.1 e.3.2 s.0 None (point ∷ []) s.1 s.2)
      (same_rows s.1 _ after s.5 refl)
  explained_begins (answers.UnreadTrimmed stamp colour base) nodes after e =
      let s = e.2.3 in
      then_keeps what kept s.0 after (unshown_begins log caller kept what e.2.0 e.2.1 e.2.2 stamp s.0 s.1)
      (refuses_rows log caller s.0 (colours_synced caller what) (manner_of what) colour base after s.2)
  explained_begins (answers.UnreadNoMemory stamp) nodes after e =
      let s = e.2.3 in
      then_keeps what kept s.0 after (unshown_begins log caller kept what e.2.0 e.2.1 e.2.2 stamp s.0 s.1)
      (hides_rows log caller s.0 (colours_synced caller what) (manner_of what) after s.2)
  explained_begins (answers.Trimmed colour base) nodes after e =
      inl (refuses_rows log caller kept (colours_synced caller what) (manner_of what) colour base after e.2)
  explained_begins (answers.NotHome home) nodes after e = inl (same_rows kept kept after e.1 refl)

pub before_rows : (what : What) (kept : Kept) → KeepsRows kept (kept_before what kept)
before_rows what kept = before_is (KeepsRows kept) what kept refl (λ _. refl)

behind_rows : (what : What) (kept : Kept) → KeepsRows kept (kept_behind what kept)
behind_rows what kept = behind_is (KeepsRows kept) what kept refl (λ _. refl)

answer_begins : (log : Log) (caller : Caller) (kept : Kept) (command : Command) (reply : ReplyLine) (after : Kept)
    → Answers log caller kept command reply after → BeginsOne command.what kept after
answer_begins log caller kept command reply after a =
    then_keeps command.what kept a.answered after
    (keeps_then command.what kept (kept_before command.what kept) a.answered (before_rows command.what kept)
    (explained_begins log caller (kept_before command.what kept) command.what reply.answer reply.nodes a.answered
    a.explained))
    (same_rows a.answered _ after a.after_is (behind_rows command.what a.answered))

-- COMMANDS
one_more : (commands : List Command) (command : Command)
    → begins_in (commands ++ command ∷ []) ≡ begins_in commands + cond (may_take_row command.what) 1 0
one_more commands command = sum_by_push (λ (c : Command). cond (may_take_row c.what) 1 0) commands command

-- a command that may begin a row is one more
pub one_that_begins : (commands : List Command) (command : Command) → may_take_row command.what ≡ true
    → begins_in (commands ++ command ∷ []) ≡ begins_in commands + 1
one_that_begins commands command may =
    one_more commands command ∙ ap (λ b. begins_in commands + cond b 1 0) may

pub no_fewer : (commands : List Command) (command : Command)
    → begins_in commands ≤ begins_in (commands ++ command ∷ [])
no_fewer commands command = let total = one_more commands command in omega (arith, total)

-- a client has begun no more rows than it has asked commands that may begin one
pub begun_rows : {log : Log} {caller : Caller} {commands : List Command} {replies : List ReplyLine} {kept : Kept}
    → Explained log caller commands replies kept → kept.rows ≤ begins_in commands
begun_rows start = omega arith
begun_rows {log} {caller} (next {commands} {replies} {kept} {after} command reply before answers) =
    let r = begun_rows before in
    elim (answer_begins log caller kept command reply after answers) [
      | inl s ↦ let more = no_fewer commands command in omega (arith, r, more, s)
      | inr s ↦ let more = one_that_begins commands command s.0 in let one = s.1 in omega (arith, r, more, one)
    ]
