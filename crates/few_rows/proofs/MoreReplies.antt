-- What a log explains to a client that may begin few rows, it explains too where the client may begin more, if a row
-- was left for each command that may begin one.
use Rattle.std.proofs.Common.{◌≡◌, Bool, true, ℕ, ◌<◌, ◌≤◌, List, [], ◌∷◌, Option, Some, None, inl, inr, sym, subst, ◌∙◌, arith}
use Rattle.log_node.specs.declared.ids.Colours.{Colours}
use Rattle.log_node.specs.declared.ids.Counts.{Counts}
use Rattle.log_node.specs.declared.ids.Key.{Key}
use Rattle.log_node.specs.declared.node.At.{At}
use Rattle.log_node.specs.declared.node.At.TheVariants.{Event, Look}
use Rattle.log_node.specs.Seen.{PlacedNode}
use Rattle.log_node.specs.Sets.{members}
use Rattle.object_fold.specs.Maps.{Value}
use Rattle.object_fold.specs.Nodes.{ObjectNode}
use Rattle.part_fold.specs.Decisions.{decision_text}
use Rattle.col_core.specs.History.{entry_key}
use Rattle.col_core.specs.Log.{Log}
use Rattle.col_core.specs.Keeping.{Kept}
use Rattle.script_text.specs.declared.script.Kind.{Kind}
use Rattle.script_text.specs.declared.script.Kind.TheVariants as kinds
use Rattle.script_text.specs.declared.commands.What.{What}
use Rattle.script_text.specs.declared.script.Command.{Command}
use Rattle.report_text.specs.declared.report.Answer.{Answer}
use Rattle.report_text.specs.declared.report.Answer.TheVariants as answers
use Rattle.report_text.specs.declared.report.Ended.{Ended}
use Rattle.report_text.specs.declared.report.Ended.TheVariants as ends
use Rattle.report_text.specs.declared.report.PointPiece.{PointPiece}
use Rattle.report_text.specs.declared.report.RaisePiece.{RaisePiece}
use Rattle.report_text.specs.declared.report.ReplyLine.{ReplyLine}
use Rattle.report_text.specs.declared.report.SyncPiece.{SyncPiece}
use Rattle.lawful_run.specs.Callers.{Caller, node_of}
use Rattle.lawful_run.specs.Asks.{rising}
use Rattle.lawful_run.specs.Deeds.{AsksToAppend, colours_synced, manner_of}
use Rattle.lawful_run.specs.Appends.{HasNoRowLeft}
use Rattle.lawful_run.specs.Reads.{kept_after_piece}
use Rattle.lawful_run.specs.Moves.{CarriesNodes, Pulls, OnlyGives, Trims}
use Rattle.lawful_run.specs.Objects.{GetsValues, TakesFront}
use Rattle.lawful_run.specs.Parts.{AnswersGet, AsksOf, Decides, EndsAs, IsRuledAs}
use Rattle.lawful_run.specs.Shapes.{TellsBehind, TellsRead}
use Rattle.lawful_run.specs.Refusals.{Hides, Refuses, FindsNoMemory, nothing, gone, gave, hidden, kept_before}
use Rattle.lawful_run.specs.Explains.{Explains, Answers, Explained, AnswersKeys, ShowsVerdict, ShowsChange, ShowsNames, start, next}
use Rattle.script_beside.specs.Begins.{may_take_row, begins_in}
use Rattle.few_rows.proofs.Begins.{several_may, before_rows, one_that_begins, no_fewer, begun_rows}
use Rattle.few_rows.proofs.MoreFacts.{limited, home_same, synced_same, asks_more, away_fewer}
use Rattle.few_rows.proofs.MoreReads.{syncs_more, played_more, read_more, hides_more, refuses_more}
use Rattle.few_rows.proofs.MoreAppends.{append_more, unshown_more, has_no_stamp_more, stops_more, for_memory_more, so_long_more, may_stand_more}

module _ (log : Log) (caller : Caller) (rows : ℕ) (few : rows ≤ caller.rows) where
  carries_more : (kept : Kept) (region colour nodes : ℕ) (at : At)
      → CarriesNodes log (limited caller rows) kept region colour nodes at
      → CarriesNodes log caller kept region colour nodes at
  carries_more kept region colour nodes (Event place) c = c
  carries_more kept region colour nodes (Look events) c = c

  pulls_more : (kept : Kept) (region colour nodes place : ℕ) (carry : At) (too_low : List ℕ)
      → Pulls log (limited caller rows) kept region colour nodes place carry too_low
      → Pulls log caller kept region colour nodes place carry too_low
  pulls_more kept region colour nodes place carry too_low p = record {
    another = p.another;
    made_again = p.made_again;
    unseen = p.unseen;
    from = p.from;
    gives = p.gives;
    asks = p.asks;
    carries = carries_more kept region colour nodes carry p.carries;
    holds = p.holds;
  }

  only_gives_more : (kept : Kept) (region colour looked : ℕ) (too_low gives : List ℕ)
      → OnlyGives log (limited caller rows) kept region colour looked too_low gives
      → OnlyGives log caller kept region colour looked too_low gives
  only_gives_more kept region colour looked too_low gives g = record {
    another = g.another;
    unseen = g.unseen;
    there = g.there;
    made_again = g.made_again;
    once = g.once;
    given = g.given;
  }

  trims_more : (kept : Kept) (colour place : ℕ) (shown : Counts)
      → Trims log (limited caller rows) kept colour place shown → Trims log caller kept colour place shown
  trims_more kept colour place shown t = record { unseen = t.unseen; trimmed = t.trimmed; is_base = t.is_base }

  -- OBJECTS
  asks_of_more : (what : What) (sync : SyncPiece) (kind : Option Kind) (key : List ℕ)
      → AsksOf (limited caller rows) what sync kind key → AsksOf caller what sync kind key
  asks_of_more what sync kind key a = (a.0, a.1, a.2, sym (synced_same caller rows what) ∙ a.3)

  gets_more : (what : What) (sync : SyncPiece) (value : Value) (nodes : List ObjectNode)
      → AnswersGet (limited caller rows) what sync value nodes → AnswersGet caller what sync value nodes
  gets_more what sync value nodes g = elim g [
    | inl a ↦ inl (a.0, a.1, asks_of_more what sync a.0 a.1 a.2, a.3)
    | inr a ↦ inr a
  ]

  gets_values_more : (sync : SyncPiece) (key : List ℕ) (values : List (List ℕ))
      → GetsValues log (limited caller rows) sync key values → GetsValues log caller sync key values
  gets_values_more sync key values g = record { nodes = g.nodes; played = g.played; answer = g.answer }

  takes_more : (point : PointPiece) (value : Value) → TakesFront log (limited caller rows) point value
      → TakesFront log caller point value
  takes_more point value t = record { nodes = t.nodes; before = t.before; value_is = t.value_is }

  -- ANSWERS
  -- where a row is left for what may begin one, no append finds that all are begun
  never_full : (kept : Kept) (what : What) (colours : Colours) (text : List ℕ) (used : ℕ)
      → (may_take_row what ≡ true → kept.rows < rows) → AsksToAppend (limited caller rows) kept what colours text
      → HasNoRowLeft (limited caller rows) kept colours used → ⊥
  never_full kept what colours text used left asks full =
      let l = left (several_may (limited caller rows) kept what colours text asks full.several) in
      let all = full.all in
      omega (arith, l, all)

  hidden_more : (kept : Kept) (what : What) (after : Kept)
      → Hides log (limited caller rows) kept (colours_synced (limited caller rows) what) (manner_of what) after
      → Hides log caller kept (colours_synced caller what) (manner_of what) after
  hidden_more kept what after h =
      subst (λ (colours : List ℕ). Hides log caller kept colours (manner_of what) after) (synced_same caller rows what)
      (hides_more log caller rows kept (colours_synced (limited caller rows) what) (manner_of what) after h)

  refused_more : (kept : Kept) (what : What) (colour : ℕ) (base : Counts) (after : Kept)
      → Refuses log (limited caller rows) kept (colours_synced (limited caller rows) what) (manner_of what) colour base after
      → Refuses log caller kept (colours_synced caller what) (manner_of what) colour base after
  refused_more kept what colour base after r =
      subst (λ (colours : List ℕ). Refuses log caller kept colours (manner_of what) colour base after)
      (synced_same caller rows what)
      (refuses_more log caller rows kept (colours_synced (limited caller rows) what) (manner_of what) colour base after r)

  memory_more : (kept : Kept) (what : What) (after : Kept) → FindsNoMemory log (limited caller rows) kept what after
      → FindsNoMemory log caller kept what after
  memory_more kept what after nothing = nothing
  memory_more kept what after (gone colours text places asks g) =
      gone colours text places (asks_more caller rows kept what colours text asks)
      (for_memory_more log caller rows few kept (node_of caller kept colours text) places g)
  memory_more kept what after (gave region colour looked too_low gives is g) =
      gave region colour looked too_low gives is (only_gives_more kept region colour looked too_low gives g)
  memory_more kept what after (hidden then h) = hidden then (hidden_more kept what then h)

  -- what a stamped read tells
  tells_read_more : (kept : Kept) (colours : List ℕ) (stamp : ℕ) (raises : List RaisePiece) (syncs : List SyncPiece)
      (Says : List ObjectNode → Type 0) (after : Kept)
      → TellsRead log (limited caller rows) kept colours stamp raises syncs Says after
      → TellsRead log caller kept colours stamp raises syncs Says after
  tells_read_more kept colours stamp raises syncs Says after t =
      (read_more log caller rows kept colours stamp raises syncs after t.0, t.1, t.2, t.3, t.4, t.5)

  -- of the colours that a command syncs
  tells_synced_more : (kept : Kept) (what : What) (stamp : ℕ) (raises : List RaisePiece) (syncs : List SyncPiece)
      (Says : List ObjectNode → Type 0) (after : Kept)
      → TellsRead log (limited caller rows) kept (colours_synced (limited caller rows) what) stamp raises syncs Says after
      → TellsRead log caller kept (colours_synced caller what) stamp raises syncs Says after
  tells_synced_more kept what stamp raises syncs Says after t =
      subst (λ (colours : List ℕ). TellsRead log caller kept colours stamp raises syncs Says after)
      (synced_same caller rows what)
      (tells_read_more kept (colours_synced (limited caller rows) what) stamp raises syncs Says after t)

  -- and one behind an append
  tells_behind_more : (kept : Kept) (what : What) (row : Option ℕ) (points : List PointPiece) (read_stamp : ℕ)
      (raises : List RaisePiece) (syncs : List SyncPiece) (Says : Key → List ObjectNode → Type 0) (after : Kept)
      → TellsBehind log (limited caller rows) kept what row points read_stamp raises syncs Says after
      → TellsBehind log caller kept what row points read_stamp raises syncs Says after
  tells_behind_more kept what row points read_stamp raises syncs Says after t =
      let a = t.1 in
      let s = a.3 in (
        t.0,
        (
          a.0,
          a.1,
          asks_more caller rows kept what a.0 a.1 a.2,
          (
            s.0,
            s.1,
            append_more log caller rows few kept (node_of caller kept a.0 a.1) s.0 row points s.1 s.2,
            tells_synced_more s.1 what read_stamp raises syncs
                (Says (entry_key s.0 (node_of caller kept a.0 a.1).id)) after s.3,
          ),
        ),
      )

  -- decisions
  ends_more : (kept : Kept) (what : What) (said : List ℕ) (ended : Ended) (after : Kept)
      → EndsAs log (limited caller rows) kept what said ended after → EndsAs log caller kept what said ended after
  ends_more kept what said (ends.Stood stamp point) after e = (
    e.0,
    e.1,
    asks_more caller rows kept what e.0 e.1 e.2,
    (
      e.3.0,
      append_more log caller rows few kept (node_of caller kept e.0 e.1) stamp None (point ∷ []) after e.3.1,
    ),
  )
  ends_more kept what said (ends.StampEnd colour) after e = (
    e.0,
    e.1,
    asks_more caller rows kept what e.0 e.1 e.2,
    (e.3.0, has_no_stamp_more log caller rows few kept (node_of caller kept e.0 e.1) colour after e.3.1),
  )
  ends_more kept what said ends.NoMemory after e = e

  decides_more : (kept : Kept) (what : What) (colours : List ℕ) (commits : Bool) (stamp : ℕ) (sync : SyncPiece)
      (read_stamp : ℕ) (raises : List RaisePiece) (syncs : List SyncPiece) (ended : Ended) (after : Kept)
      → Decides log (limited caller rows) kept what colours commits stamp sync read_stamp raises syncs ended after
      → Decides log caller kept what colours commits stamp sync read_stamp raises syncs ended after
  decides_more kept what colours commits stamp sync read_stamp raises syncs ended after d = record {
    synced = syncs_more log caller rows kept sync.colour sync.events sync.counts d.synced;
    waits = d.waits;
    stamp_is = d.stamp_is;
    waiting = d.waiting;
    read = d.read;
    tells = tells_read_more (kept_after_piece log caller kept sync) (rising colours) read_stamp raises syncs
        (IsRuledAs d.waits commits) d.read d.tells;
    ends = ends_more d.read what (decision_text (record { key = d.waits; commits = commits })) ended after d.ends;
  }

  explains_more : (kept : Kept) (what : What) (answer : Answer) (nodes : List PlacedNode) (after : Kept)
      → (may_take_row what ≡ true → kept.rows < rows)
      → Explains log (limited caller rows) kept what answer nodes after
      → Explains log caller kept what answer nodes after
  explains_more kept what answers.NoMemory nodes after left e = (e.0, memory_more kept what after e.1)
  explains_more kept what (answers.Stood stamp row points) nodes after left e = (
    e.0,
    may_stand_more log caller rows few kept what points e.1,
    (
      e.2.0,
      e.2.1,
      asks_more caller rows kept what e.2.0 e.2.1 e.2.2,
      append_more log caller rows few kept (node_of caller kept e.2.0 e.2.1) stamp row points after e.2.3,
    ),
  )
  explains_more kept what (answers.StampEnd colour) nodes after left e = (
    e.0,
    e.1,
    (
      e.2.0,
      e.2.1,
      asks_more caller rows kept what e.2.0 e.2.1 e.2.2,
      has_no_stamp_more log caller rows few kept (node_of caller kept e.2.0 e.2.1) colour after e.2.3,
    ),
  )
  explains_more kept what (answers.Full used) nodes after left e =
      absurd (never_full kept what e.3.0 e.3.1 used left e.3.2 e.3.3)
  explains_more kept what (answers.Stopped steps) nodes after left e =
      (e.0, e.1, e.2, e.3, stops_more log caller rows few kept (node_of caller kept e.1 e.2) steps after e.4)
  explains_more kept what (answers.Synced sync plays) nodes after left e = (
    e.0,
    e.1,
    syncs_more log caller rows kept sync.colour sync.events sync.counts e.2,
    played_more log caller rows kept sync.colour sync.events sync.counts nodes e.3,
    e.4,
  )
  explains_more kept what (answers.Scanned stamp count raises syncs) nodes after left e = (
    e.0,
    e.1,
    e.2,
    read_more log caller rows kept (members e.0) stamp raises syncs after e.3,
    e.4,
    e.5,
    e.6,
  )
  explains_more kept what (answers.Pulled count give carry) nodes after left e =
      (e.0, e.1, e.2, e.3, e.4, e.5, e.6, pulls_more kept e.1 e.2 count e.4 carry e.6 e.7, e.8)
  explains_more kept what answers.SameRegion nodes after left e = e
  explains_more kept what (answers.Based shown base) nodes after left e =
      (e.0, e.1, e.2, e.3, e.4, trims_more kept e.1 e.3 base e.5, e.6)
  explains_more kept what (answers.Got value sync) nodes after left e = (
    e.0,
    (e.1.0, e.1.1, gets_more what sync value e.1.0 e.1.2),
    syncs_more log caller rows kept sync.colour sync.events sync.counts e.2,
    e.3,
  )
  explains_more kept what (answers.GotMany values sync) nodes after left e = (
    e.0,
    e.1,
    e.2,
    e.3,
    e.4,
    syncs_more log caller rows kept sync.colour sync.events sync.counts e.5,
    gets_values_more sync e.2 values e.6,
    e.7,
  )
  explains_more kept what (answers.GotKeys stamp shown raises syncs) nodes after left e =
      (e.0, e.1, tells_synced_more kept what stamp raises syncs (AnswersKeys caller what shown e.1 after) e.1 e.2)
  explains_more kept what (answers.Ruled conflict stamp row points read_stamp raises syncs) nodes after left e =
      (e.0, tells_behind_more kept what row points read_stamp raises syncs (ShowsVerdict conflict stamp) after e.1)
  explains_more kept what (answers.Changed failed stamp row points read_stamp raises syncs) nodes after left e =
      (e.0, tells_behind_more kept what row points read_stamp raises syncs (ShowsChange failed stamp) after e.1)
  explains_more kept what (answers.Listed names stamp raises syncs) nodes after left e =
      (e.0, e.1, e.2, e.3, tells_synced_more kept what stamp raises syncs (ShowsNames e.2 names) after e.4)
  explains_more kept what (answers.Undecided stamp sync) nodes after left e =
      let p = e.1 in
      let u = p.2 in (
        e.0,
        (p.0, p.1, (u.0, u.1, u.2, asks_of_more what sync (Some (kinds.Parts u.0 u.1)) u.2 u.3, u.4, u.5, u.6)),
        syncs_more log caller rows kept sync.colour sync.events sync.counts e.2,
        e.3,
      )
  explains_more kept what (answers.Decided commits stamp sync read_stamp raises syncs ended) nodes after left e =
      (e.0, e.1, e.2, decides_more kept what e.1 commits stamp sync read_stamp raises syncs ended after e.3)
  explains_more kept what (answers.Moved lined waiting colour events) nodes after left e =
      (e.0, e.1, e.2, so_long_more log caller rows few kept colour events lined waiting e.3, e.4, e.5)
  explains_more kept what answers.NoTx nodes after left e = e
  explains_more kept what (answers.Took value point sync) nodes after left e =
      let a = e.3 in
      let s = a.3 in (
        e.0,
        e.1,
        e.2,
        (
          a.0,
          a.1,
          asks_more caller rows kept what a.0 a.1 a.2,
          (
            s.0,
            s.1,
            append_more log caller rows few kept (node_of caller kept a.0 a.1) s.0 None (point ∷ []) s.1 s.2,
            syncs_more log caller rows s.1 sync.colour sync.events sync.counts s.3,
            takes_more point value s.4,
            s.5,
          ),
        ),
      )
  explains_more kept what (answers.UnreadTrimmed stamp colour base) nodes after left e =
      let a = e.2 in
      let s = a.3 in (
        e.0,
        e.1,
        (
          a.0,
          a.1,
          asks_more caller rows kept what a.0 a.1 a.2,
          (
            s.0,
            unshown_more log caller rows few kept (node_of caller kept a.0 a.1) stamp s.0 s.1,
            refused_more s.0 what colour base after s.2,
          ),
        ),
      )
  explains_more kept what (answers.UnreadNoMemory stamp) nodes after left e =
      let a = e.2 in
      let s = a.3 in (
        e.0,
        e.1,
        (
          a.0,
          a.1,
          asks_more caller rows kept what a.0 a.1 a.2,
          (
            s.0,
            unshown_more log caller rows few kept (node_of caller kept a.0 a.1) stamp s.0 s.1,
            hidden_more s.0 what after s.2,
          ),
        ),
      )
  explains_more kept what (answers.Trimmed colour base) nodes after left e = (
    e.0,
    e.1,
    refused_more kept what colour base after e.2,
  )
  explains_more kept what (answers.NotHome home) nodes after left e =
      (e.0, e.1, sym (home_same caller rows what) ∙ e.2, e.3)

  answers_more : (kept : Kept) (command : Command) (reply : ReplyLine) (after : Kept)
      → (may_take_row command.what ≡ true → kept.rows < rows)
      → Answers log (limited caller rows) kept command reply after → Answers log caller kept command reply after
  answers_more kept command reply after left a = record {
    line = a.line;
    word = a.word;
    answered = a.answered;
    explained = explains_more (kept_before command.what kept) command.what reply.answer reply.nodes a.answered
        (λ may. let l = left may in let same = before_rows command.what kept in omega (arith, l, same)) a.explained;
    after_is = a.after_is;
    away = λ away. a.away (away_fewer caller rows command.what away);
  }

  -- what is explained stays so, where there are as many rows as commands that may begin one
  pub explained_more : {commands : List Command} {replies : List ReplyLine} {kept : Kept}
      → begins_in commands ≤ rows → Explained log (limited caller rows) commands replies kept
      → Explained log caller commands replies kept
  explained_more enough start = start
  explained_more enough (next {commands} {replies} {kept} {after} command reply before last) =
      let fewer = no_fewer commands command in
      let begun = begun_rows before in
      next command reply (explained_more (omega (arith, enough, fewer)) before)
      (answers_more kept command reply after
      (λ may. let more = one_that_begins commands command may in omega (arith, enough, more, begun)) last)
