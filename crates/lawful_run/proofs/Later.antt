-- What a log explains, a later log explains as well.
use Rattle.std.proofs.Common.{ℕ, ◌+◌, ◌<◌, ◌≤◌, List, [], ◌∷◌, length, take, None, ap, sym, subst, ◌∙◌, arith}
use Rattle.std.specs.Prelude.{Bool, Option, Some, min}
use Rattle.log_node.specs.declared.node.At.{At}
use Rattle.log_node.specs.declared.node.At.TheVariants.{Event, Look}
use Rattle.log_node.specs.declared.ids.Key.{Key}
use Rattle.log_node.specs.declared.ids.Counts.{Counts}
use Rattle.log_node.specs.declared.node.Node.{Node}
use Rattle.log_node.specs.Seen.{PlacedNode}
use Rattle.log_node.specs.Sets.{members}
use Rattle.log_node.specs.Vectors.{at}
use Rattle.col_core.specs.declared.Entry.{Entry}
use Rattle.col_core.specs.History.{entry_key, line}
use Rattle.col_core.specs.Cuts.{Dated, chain, base}
use Rattle.col_core.specs.PlayOrder.{Place, Stands}
use Rattle.col_core.specs.Log.{Log, IsLater, first}
use Rattle.col_core.specs.Keeping.{Kept, seen_after}
use Rattle.script_text.specs.declared.commands.What.{What}
use Rattle.script_text.specs.declared.script.Command.{Command}
use Rattle.report_text.specs.declared.report.Answer.{Answer}
use Rattle.report_text.specs.declared.report.Answer.TheVariants as answers
use Rattle.report_text.specs.declared.report.ReplyLine.{ReplyLine}
use Rattle.report_text.specs.declared.report.PointPiece.{PointPiece}
use Rattle.report_text.specs.declared.report.RaisePiece.{RaisePiece}
use Rattle.report_text.specs.declared.report.SyncPiece.{SyncPiece}
use Rattle.report_text.specs.declared.report.Ended.{Ended}
use Rattle.report_text.specs.declared.report.Ended.TheVariants as ends
use Rattle.object_fold.specs.Maps.{Value}
use Rattle.object_fold.specs.Causal.{ChainNode}
use Rattle.object_fold.specs.Nodes.{ObjectNode}
use Rattle.part_fold.specs.Decisions.{decision_text}
use Rattle.lawful_run.specs.Callers.{Caller, node_of}
use Rattle.lawful_run.specs.Asks.{rising}
use Rattle.lawful_run.specs.Deeds.{colours_synced, manner_of}
use Rattle.lawful_run.specs.Appends.{Appends}
use Rattle.lawful_run.specs.Reads.{ShowsKey, events_until, kept_after_piece}
use Rattle.lawful_run.specs.Moves.{GivesFrom, AsksFor, GivesHeld, GivesTooLow, CarriesNodes, Pulls, OnlyGives, Trims}
use Rattle.lawful_run.specs.Objects.{AreObjectNodes, own_played, TakesFront, places_within, IsChainNode, GetsValues}
use Rattle.lawful_run.specs.Parts.{AnswersGet, AnswersUndecided, Decides, EndsAs, IsRuledAs, OfNodesPlayed, OfPart, WaitsFor}
use Rattle.lawful_run.specs.Shapes.{TellsBehind, TellsRead}
use Rattle.lawful_run.specs.Refusals.{FindsNoMemory, nothing, gone, gave, hidden, kept_before}
use Rattle.lawful_run.specs.Explains.{Explains, Answers, Explained, AnswersKeys, ShowsVerdict, ShowsChange, ShowsNames, start, next}
use Rattle.lawful_run.proofs.Prefixes.{prefix_take, get_within}
use Rattle.lawful_run.proofs.LaterFacts.{all_zip_of, all_of, first_same, taken_same, still_there, entry_later, place_there, text_later, objects_later}
use Rattle.lawful_run.proofs.LaterAppends.{append_later, unshown_later, has_no_stamp_later, stops_later, for_memory_later, so_long_later, may_stand_later}
use Rattle.lawful_run.proofs.LaterReads.{syncs_later, played_later, piece_same, read_later, keys_later, shows_key_later, hides_later, refuses_later}

module _ (old new : Log) (later : IsLater old new) (caller : Caller) where
  gives_later : (region colour place from : ℕ) → GivesFrom old caller region colour place from
      → GivesFrom new caller region colour place from
  gives_later region colour place from g = entry_later old new later region colour place _ g

  asks_later : (region colour seen until place from : ℕ) → place ≤ length (old.histories region colour)
      → until ≤ length (old.histories caller.own colour) → AsksFor old caller region colour seen until place from
      → AsksFor new caller region colour seen until place from
  asks_later region colour seen until place from there within a =
      let le = a.2 in (
        a.0,
        a.1,
        a.2,
        a.3
            ∙ (ap (λ (h : List Entry). min (length (line h))
            (length (chain caller.own (first old caller.own colour a.0) region)))
            (sym (taken_same old new later region colour place there))
            ∙ ap (λ (h : List Dated). min (length (line (take place (new.histories region colour))))
            (length (chain caller.own h region)))
            (sym (first_same old new later caller.own colour a.0 (omega (arith, le, within))))),
      )

  held_later : (region colour seen until : ℕ) → until ≤ length (old.histories caller.own colour) → (place : ℕ)
      → GivesHeld old caller region colour seen until place → GivesHeld new caller region colour seen until place
  held_later region colour seen until within place g =
      let l = place_there old new later region colour place _ g.1 in (
        g.0,
        gives_later region colour place g.0 g.1,
        asks_later region colour seen until place g.0 (omega (arith, l)) within g.2,
      )

  too_low_later : (region colour seen until : ℕ) → until ≤ length (old.histories caller.own colour) → (place : ℕ)
      → GivesTooLow old caller region colour seen until place → GivesTooLow new caller region colour seen until place
  too_low_later region colour seen until within place g =
      let l = place_there old new later region colour place _ g.1 in (
        g.0,
        gives_later region colour place g.0 g.1,
        asks_later region colour seen until place g.0 (omega (arith, l)) within g.2,
        subst
            (λ (h : List Dated). g.0 < at (base region caller.regions h) region)
            (sym (first_same old new later region colour place (omega (arith, l)))) g.3,
      )

  carries_later : (kept : Kept) (region colour nodes : ℕ) (at : At)
      → CarriesNodes old caller kept region colour nodes at → CarriesNodes new caller kept region colour nodes at
  carries_later kept region colour nodes (Event place) c =
      (c.0, c.1, c.2, entry_later old new later caller.own colour place _ c.3, c.4)
  carries_later kept region colour nodes (Look events) c =
      (c.0, still_there old new later caller.own colour events c.1, c.2)

  -- what a carry looked at, and what it has seen, were there
  carry_there : (kept : Kept) (region colour nodes : ℕ) (at : At) → CarriesNodes old caller kept region colour nodes at
      → (events_until at ≤ length (old.histories caller.own colour))
      × (seen_after at ≤ length (old.histories caller.own colour))
  carry_there kept region colour nodes (Event place) c =
      let l = place_there old new later caller.own colour place _ c.3 in (omega (arith, l), omega (arith, l))
  carry_there kept region colour nodes (Look events) c = (c.1, c.1)

  pulls_later : (kept : Kept) (region colour nodes place : ℕ) (carry : At) (too_low : List ℕ)
      → Pulls old caller kept region colour nodes place carry too_low
      → Pulls new caller kept region colour nodes place carry too_low
  pulls_later kept region colour nodes place carry too_low p =
      let l = place_there old new later region colour place _ p.gives in
      let c = carry_there kept region colour nodes carry p.carries in
      let line_same = taken_same old new later region colour place (omega (arith, l)) in
      record {
        another = p.another;
        made_again = all_of (GivesTooLow old caller region colour (kept.seen caller.own colour) (events_until carry))
            (GivesTooLow new caller region colour (kept.seen caller.own colour) (events_until carry))
            (too_low_later region colour (kept.seen caller.own colour) (events_until carry) c.0) too_low p.made_again;
        unseen = p.unseen;
        from = p.from;
        gives = gives_later region colour place p.from p.gives;
        asks = asks_later region colour (kept.seen caller.own colour) (events_until carry) place p.from
            (omega (arith, l)) c.0 p.asks;
        carries = carries_later kept region colour nodes carry p.carries;
        holds = subst (λ (h : List Dated). length (line (take place (new.histories region colour))) ≤ length
            (chain caller.own h region))
            (sym (first_same old new later caller.own colour (seen_after carry) c.1))
            (subst (λ (h : List Entry). length (line h) ≤ length
            (chain caller.own (first old caller.own colour (seen_after carry)) region)) (sym line_same) p.holds);
      }

  only_gives_later : (kept : Kept) (region colour looked : ℕ) (too_low gives : List ℕ)
      → OnlyGives old caller kept region colour looked too_low gives
      → OnlyGives new caller kept region colour looked too_low gives
  only_gives_later kept region colour looked too_low gives g =
      let seen = kept.seen caller.own colour in
      record {
        another = g.another;
        unseen = g.unseen;
        there = still_there old new later caller.own colour looked g.there;
        made_again = all_of (GivesTooLow old caller region colour seen looked)
            (GivesTooLow new caller region colour seen looked) (too_low_later region colour seen looked g.there) too_low
            g.made_again;
        once = g.once;
        given = all_of (GivesHeld old caller region colour seen looked) (GivesHeld new caller region colour seen looked)
            (held_later region colour seen looked g.there) gives g.given;
      }

  trims_later : (kept : Kept) (colour place : ℕ) (shown : Counts) → Trims old caller kept colour place shown
      → Trims new caller kept colour place shown
  trims_later kept colour place shown t =
      let l = place_there old new later caller.own colour place _ t.trimmed in record {
        unseen = t.unseen;
        trimmed = entry_later old new later caller.own colour place _ t.trimmed;
        is_base = t.is_base ∙ ap (base caller.own caller.regions)
            (sym (first_same old new later caller.own colour (place + 1) (omega (arith, l))));
      }

  -- OBJECTS
  nodes_played_later : (sync : SyncPiece) (Says : List ObjectNode → Type 0)
      → sync.events ≤ length (old.histories caller.own sync.colour)
      → OfNodesPlayed old caller sync Says → OfNodesPlayed new caller sync Says
  nodes_played_later sync Says there p = (
    p.0,
    subst (λ (h : List Entry). AreObjectNodes new (take (at sync.counts caller.own) (line h)) p.0)
        (sym (taken_same old new later caller.own sync.colour sync.events there))
        (objects_later old new later (own_played old caller sync) p.0 p.1),
    p.2,
  )

  chain_node_later : (sync : SyncPiece) → sync.events ≤ length (old.histories caller.own sync.colour)
      → (place : Place) (node : ChainNode)
      → IsChainNode old (chain caller.own (first old caller.own sync.colour sync.events)) place node
      → IsChainNode new (chain caller.own (first new caller.own sync.colour sync.events)) place node
  chain_node_later sync there place node n = record {
    head = n.head;
    stands = subst (λ (h : List Dated). Stands (chain caller.own h) place n.head)
        (sym (first_same old new later caller.own sync.colour sync.events there)) n.stands;
    region_is = n.region_is;
    position_is = n.position_is;
    needs_are = n.needs_are;
    text = text_later old new later _ _ n.text;
  }

  gets_values_later : (sync : SyncPiece) (key : List ℕ) (values : List (List ℕ))
      → sync.events ≤ length (old.histories caller.own sync.colour)
      → GetsValues old caller sync key values → GetsValues new caller sync key values
  gets_values_later sync key values there g = record {
    nodes = g.nodes;
    played = all_zip_of _ _ (chain_node_later sync there) (places_within sync.counts) g.nodes g.played;
    answer = g.answer;
  }

  takes_later : (point : PointPiece) (value : Value)
      → point.position ≤ length (line (old.histories caller.own point.colour)) → TakesFront old caller point value
      → TakesFront new caller point value
  takes_later point value there t = record {
    nodes = t.nodes;
    before = subst (λ (keys : List Key). AreObjectNodes new keys t.nodes)
        (sym (prefix_take _ _ point.position (later.lines caller.own point.colour) there))
        (objects_later old new later (take point.position
        (line (old.histories caller.own point.colour))) t.nodes t.before);
    value_is = t.value_is;
  }

  -- a point's position is within its line
  point_there : (kept : Kept) (node : Node) (stamp : ℕ) (point : PointPiece) (after : Kept)
      → Appends old caller kept node stamp None (point ∷ []) after
      → point.position ≤ length (line (old.histories caller.own point.colour))
  point_there kept node stamp point after a = let l =
      get_within (line (old.histories caller.own point.colour)) point.position _ a.3.stands in omega (arith, l)

  memory_later : (kept : Kept) (what : What) (after : Kept) → FindsNoMemory old caller kept what after
      → FindsNoMemory new caller kept what after
  memory_later kept what after nothing = nothing
  memory_later kept what after (gone colours text places asks g) =
      gone colours text places asks (for_memory_later old new later caller kept
      (node_of caller kept colours text) places g)
  memory_later kept what after (gave region colour looked too_low gives is g) =
      gave region colour looked too_low gives is (only_gives_later kept region colour looked too_low gives g)
  memory_later kept what after (hidden then h) = hidden then
      (hides_later old new later caller kept (colours_synced caller what) (manner_of what) then h)

  -- what a stamped read tells
  tells_read_later : (kept : Kept) (colours : List ℕ) (stamp : ℕ) (raises : List RaisePiece) (syncs : List SyncPiece)
      (Says : List ObjectNode → Type 0) (after : Kept) → TellsRead old caller kept colours stamp raises syncs Says after
      → TellsRead new caller kept colours stamp raises syncs Says after
  tells_read_later kept colours stamp raises syncs Says after t = (
    read_later old new later caller kept colours stamp raises syncs after t.0,
    t.1,
    keys_later old new later caller kept colours stamp raises syncs after t.1 t.0 t.2,
    t.3,
    objects_later old new later t.1 t.3 t.4,
    t.5,
  )

  -- and one behind an append
  tells_behind_later : (kept : Kept) (what : What) (row : Option ℕ) (points : List PointPiece) (read_stamp : ℕ)
      (raises : List RaisePiece) (syncs : List SyncPiece) (Says : Key → List ObjectNode → Type 0) (after : Kept)
      → TellsBehind old caller kept what row points read_stamp raises syncs Says after
      → TellsBehind new caller kept what row points read_stamp raises syncs Says after
  tells_behind_later kept what row points read_stamp raises syncs Says after t =
      let a = t.1 in
      let s = a.3 in (
        t.0,
        (
          a.0,
          a.1,
          a.2,
          (
            s.0,
            s.1,
            append_later old new later caller kept (node_of caller kept a.0 a.1) s.0 row points s.1 s.2,
            tells_read_later s.1 (colours_synced caller what) read_stamp raises syncs
                (Says (entry_key s.0 (node_of caller kept a.0 a.1).id)) after s.3,
          ),
        ),
      )

  -- decisions
  ends_later : (kept : Kept) (what : What) (said : List ℕ) (ended : Ended) (after : Kept)
      → EndsAs old caller kept what said ended after → EndsAs new caller kept what said ended after
  ends_later kept what said (ends.Stood stamp point) after e = (
    e.0,
    e.1,
    e.2,
    (
      e.3.0,
      append_later old new later caller kept (node_of caller kept e.0 e.1) stamp None (point ∷ []) after e.3.1,
    ),
  )
  ends_later kept what said (ends.StampEnd colour) after e = (
    e.0,
    e.1,
    e.2,
    (e.3.0, has_no_stamp_later old new later caller kept (node_of caller kept e.0 e.1) colour after e.3.1),
  )
  ends_later kept what said ends.NoMemory after e = e

  decides_later : (kept : Kept) (what : What) (colours : List ℕ) (commits : Bool) (stamp : ℕ) (sync : SyncPiece)
      (read_stamp : ℕ) (raises : List RaisePiece) (syncs : List SyncPiece) (ended : Ended) (after : Kept)
      → Decides old caller kept what colours commits stamp sync read_stamp raises syncs ended after
      → Decides new caller kept what colours commits stamp sync read_stamp raises syncs ended after
  decides_later kept what colours commits stamp sync read_stamp raises syncs ended after d = record {
    synced = syncs_later old new later caller kept sync.colour sync.events sync.counts d.synced;
    waits = d.waits;
    stamp_is = d.stamp_is;
    waiting = nodes_played_later sync (OfPart colours sync.colour (WaitsFor (Some d.waits))) d.synced.there d.waiting;
    read = d.read;
    tells = subst
        (λ (k : Kept). TellsRead new caller k (rising colours) read_stamp raises syncs (IsRuledAs d.waits commits) d.read)
        (sym (piece_same old new later caller kept sync d.synced.there))
        (tells_read_later (kept_after_piece old caller kept sync) (rising colours) read_stamp raises syncs
        (IsRuledAs d.waits commits) d.read d.tells);
    ends = ends_later d.read what (decision_text (record { key = d.waits; commits = commits })) ended after d.ends;
  }

  explains_later : (kept : Kept) (what : What) (answer : Answer) (nodes : List PlacedNode) (after : Kept)
      → Explains old caller kept what answer nodes after → Explains new caller kept what answer nodes after
  explains_later kept what answers.NoMemory nodes after e = (e.0, memory_later kept what after e.1)
  explains_later kept what (answers.Stood stamp row points) nodes after e = (
    e.0,
    may_stand_later old new later caller kept what points e.1,
    (
      e.2.0,
      e.2.1,
      e.2.2,
      append_later old new later caller kept
          (node_of caller kept e.2.0 e.2.1) stamp row points after e.2.3,
    ),
  )
  explains_later kept what (answers.StampEnd colour) nodes after e = (
    e.0,
    e.1,
    (
      e.2.0,
      e.2.1,
      e.2.2,
      has_no_stamp_later old new later caller kept
          (node_of caller kept e.2.0 e.2.1) colour after e.2.3,
    ),
  )
  explains_later kept what (answers.Full used) nodes after e = e
  explains_later kept what (answers.Stopped steps) nodes after e =
      (e.0, e.1, e.2, e.3, stops_later old new later caller kept (node_of caller kept e.1 e.2) steps after e.4)
  explains_later kept what (answers.Synced sync plays) nodes after e =
      (e.0, e.1, syncs_later old new later caller kept sync.colour sync.events sync.counts e.2, played_later old new later caller kept sync.colour sync.events sync.counts nodes e.2.there e.3, e.4)
  explains_later kept what (answers.Scanned stamp count raises syncs) nodes after e = (
    e.0,
    e.1,
    e.2,
    read_later old new later caller kept (members e.0) stamp raises syncs after e.3,
    e.4,
    keys_later old new later caller kept (members e.0) stamp raises syncs after e.4 e.3 e.5,
    all_zip_of (ShowsKey old) (ShowsKey new) (shows_key_later old new later caller) e.4 nodes e.6,
  )
  explains_later kept what (answers.Pulled count give carry) nodes after e =
      (e.0, e.1, e.2, e.3, e.4, e.5, e.6, pulls_later kept e.1 e.2 count e.4 carry e.6 e.7, e.8)
  explains_later kept what answers.SameRegion nodes after e = e
  explains_later kept what (answers.Based shown base) nodes after e =
      (e.0, e.1, e.2, e.3, e.4, trims_later kept e.1 e.3 base e.5, e.6)
  explains_later kept what (answers.Got value sync) nodes after e = (
    e.0,
    nodes_played_later sync (AnswersGet caller what sync value) e.2.there e.1,
    syncs_later old new later caller kept sync.colour sync.events sync.counts e.2,
    e.3 ∙ sym (piece_same old new later caller kept sync e.2.there),
  )
  explains_later kept what (answers.GotMany values sync) nodes after e = (
    e.0,
    e.1,
    e.2,
    e.3,
    e.4,
    syncs_later old new later caller kept sync.colour sync.events sync.counts e.5,
    gets_values_later sync e.2 values e.5.there e.6,
    e.7 ∙ sym (piece_same old new later caller kept sync e.5.there),
  )
  explains_later kept what (answers.GotKeys stamp shown raises syncs) nodes after e =
      (e.0, e.1, tells_read_later kept (colours_synced caller what) stamp raises syncs (AnswersKeys caller what shown e.1 after) e.1 e.2)
  explains_later kept what (answers.Ruled conflict stamp row points read_stamp raises syncs) nodes after e =
      (e.0, tells_behind_later kept what row points read_stamp raises syncs (ShowsVerdict conflict stamp) after e.1)
  explains_later kept what (answers.Changed failed stamp row points read_stamp raises syncs) nodes after e =
      (e.0, tells_behind_later kept what row points read_stamp raises syncs (ShowsChange failed stamp) after e.1)
  explains_later kept what (answers.Listed names stamp raises syncs) nodes after e =
      (e.0, e.1, e.2, e.3, tells_read_later kept (colours_synced caller what) stamp raises syncs (ShowsNames e.2 names) after e.4)
  explains_later kept what (answers.Undecided stamp sync) nodes after e = (
    e.0,
    nodes_played_later sync (AnswersUndecided caller what sync stamp) e.2.there e.1,
    syncs_later old new later caller kept sync.colour sync.events sync.counts e.2,
    e.3 ∙ sym (piece_same old new later caller kept sync e.2.there),
  )
  explains_later kept what (answers.Decided commits stamp sync read_stamp raises syncs ended) nodes after e =
      (e.0, e.1, e.2, decides_later kept what e.1 commits stamp sync read_stamp raises syncs ended after e.3)
  explains_later kept what (answers.Moved lined waiting colour events) nodes after e =
      (e.0, e.1, e.2, so_long_later old new later caller kept colour events lined waiting e.3, e.4, e.5)
  explains_later kept what answers.NoTx nodes after e = e
  explains_later kept what (answers.Took value point sync) nodes after e =
      let a = e.3 in
      let s = a.3 in (
        e.0,
        e.1,
        e.2,
        (
          a.0,
          a.1,
          a.2,
          (
            s.0,
            s.1,
            append_later old new later caller kept (node_of caller kept a.0 a.1) s.0 None (point ∷ []) s.1 s.2,
            syncs_later old new later caller s.1 sync.colour sync.events sync.counts s.3,
            takes_later point value (point_there kept (node_of caller kept a.0 a.1) s.0 point s.1 s.2) s.4,
            s.5 ∙ sym (piece_same old new later caller s.1 sync s.3.there),
          ),
        ),
      )
  explains_later kept what (answers.UnreadTrimmed stamp colour base) nodes after e =
      let a = e.2 in
      let s = a.3 in (
        e.0,
        e.1,
        (
          a.0,
          a.1,
          a.2,
          (
            s.0,
            unshown_later old new later caller kept (node_of caller kept a.0 a.1) stamp s.0 s.1,
            refuses_later old new later caller s.0 (colours_synced caller what) (manner_of what) colour base after s.2,
          ),
        ),
      )
  explains_later kept what (answers.UnreadNoMemory stamp) nodes after e =
      let a = e.2 in
      let s = a.3 in (
        e.0,
        e.1,
        (
          a.0,
          a.1,
          a.2,
          (
            s.0,
            unshown_later old new later caller kept (node_of caller kept a.0 a.1) stamp s.0 s.1,
            hides_later old new later caller s.0 (colours_synced caller what) (manner_of what) after s.2,
          ),
        ),
      )
  explains_later kept what (answers.Trimmed colour base) nodes after e = (
    e.0,
    e.1,
    refuses_later old new later caller kept (colours_synced caller what) (manner_of what) colour base after e.2,
  )
  explains_later kept what (answers.NotHome home) nodes after e = e

answers_later : (old new : Log) → IsLater old new → (caller : Caller) (kept : Kept) (command : Command)
    (reply : ReplyLine) (after : Kept) → Answers old caller kept command reply after
    → Answers new caller kept command reply after
answers_later old new later caller kept command reply after a = record {
  line = a.line;
  word = a.word;
  answered = a.answered;
  explained = explains_later old new later caller
      (kept_before command.what kept) command.what reply.answer reply.nodes a.answered a.explained;
  after_is = a.after_is;
  away = a.away;
}

-- what is explained stays so when the log grows
pub explained_later : (old new : Log) → IsLater old new
    → (caller : Caller) {commands : List Command} {replies : List ReplyLine} {kept : Kept}
    → Explained old caller commands replies kept → Explained new caller commands replies kept
explained_later old new later caller start = start
explained_later old new later caller (next command reply before last) =
    next command reply (explained_later old new later caller before)
    (answers_later old new later caller _ command reply _ last)
