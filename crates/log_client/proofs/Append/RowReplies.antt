-- What an append of a client to several colours leaves that has begun its row, and what explains its answer.
use Rattle.std.proofs.Common.{◌≡◌, ◌≢◌, ◌⊎◌, inl, inr, ℕ, suc, true, ◌+◌, ◌-◌, ◌<◌, ◌≤◌, List, [], ◌∷◌, ◌++◌, length, map, Some, None, Option, Ok, Err, Result, refl, ap, sym, subst, ◌∙◌, arith, eq-eqb, length-append}
use Rattle.std.specs.Prelude.{IsTrue, IfOk, MatchResult, replicate, slice_get, max, ◌==◌}
use Rattle.std.specs.Vec.{with_item}
use Rattle.std.proofs.lemmas.List.{length-map}
use Rattle.std.proofs.lemmas.Option.{same_Some}
use mathlib.Core.List.{IsPrefix}
use Rattle.log_node.specs.declared.ids.Id.{Id}
use Rattle.log_node.specs.declared.ids.Counts.{Counts}
use Rattle.log_node.specs.declared.ids.Key.{Key}
use Rattle.log_node.specs.declared.ids.Row.{Row}
use Rattle.log_node.specs.declared.ids.Colours.{Colours}
use Rattle.log_node.specs.declared.limits.TheConstants.{MAX_STAMP}
use Rattle.log_node.specs.declared.node.Head.{Head}
use Rattle.log_node.specs.declared.node.Node.{Node}
use Rattle.log_node.specs.Seen.{BegunAppend}
use Rattle.log_node.specs.declared.marks.Mark.TheVariants.{Fenced}
use Rattle.log_node.specs.declared.marks.Outcome.{Outcome}
use Rattle.log_node.specs.declared.marks.Outcome.TheVariants.{Open, Gone, Final}
use Rattle.log_node.specs.declared.marks.Why.TheVariants.{Memory, StampEnd}
use Rattle.log_node.specs.Sets.{has, members}
use Rattle.log_node.specs.Standings.{open_entry}
use Rattle.col_core.specs.declared.Event as event_types
use Rattle.col_core.specs.declared.Event.TheVariants as events
use Rattle.col_core.specs.declared.Entry.{Entry}
use Rattle.col_core.specs.Ids.{IsStepOf}
use Rattle.col_core.specs.History.{entries, entry_key, has_entered, line}
use Rattle.col_core.specs.Cuts.{chain}
use Rattle.col_core.specs.Computed.{dated}
use Rattle.col_core.specs.Legal.{IsColumnHistory}
use Rattle.col_core.specs.Rows.{BegunRow}
use Rattle.col_core.specs.Log.{is_own, IsBegunFor, HasOutcome}
use Rattle.col_core.specs.Keeping.{Kept, with_made, with_row, with_floor}
use Rattle.col_core.proofs.CallerLemmas.{contains_in, entries_dated, head_with, if_true}
use Rattle.script_text.specs.declared.script.Object.{Object}
use Rattle.stamp_board.specs.declared.view.Size.{Size}
use Rattle.stamp_board.specs.Rows.{AreColours}
use Rattle.stamp_board.specs.Views.{KnowsBegun, KnowsMark, KnowsOutcome}
use Rattle.stamp_board.proofs.CallerLemmas.{begun_learnt}
use Rattle.chain_store.specs.declared.hold.Hold.{Hold}
use Rattle.chain_store.specs.declared.region.Region.{Region}
use Rattle.chain_store.specs.Going.{GoesOn}
use Rattle.chain_store.specs.Owning.{row_of}
use Rattle.chain_store.specs.Rows.{OneNode}
use Rattle.chain_store.specs.Holds.{IsHold, entries_seen, seen_in, view_of}
use Rattle.chain_store.proofs.CallerLemmas.{goes_same, goes_weaken, lawful_seen, member_at, member_has, own_stamped}
use Rattle.append_core.specs.declared.stood.Point.{Point}
use Rattle.append_core.specs.declared.stood.Stood.{Stood}
use Rattle.append_core.specs.declared.several.MultiFault.{MultiFault}
use Rattle.append_core.specs.declared.several.MultiFault.TheVariants as faults
use Rattle.append_core.specs.Helping.{IsStepIn, HelpsOpen}
use Rattle.append_core.specs.Settled.{HoldKnowsComplete, HoldKnowsSettled}
use Rattle.append_core.specs.Several as core
use Rattle.append_core.proofs.CallerLemmas.{helped_complete, stands_closed}
use Rattle.report_text.specs.declared.report.PointPiece.{PointPiece}
use Rattle.lawful_run.specs.Callers.{Caller, node_of}
use Rattle.lawful_run.specs.Appends.{Appends, HasNoStamp, IsGoneForMemory, none_for_several, kept_after_points}
use Rattle.lawful_run.specs.Lawful.{IsHelp}
use Rattle.lawful_run.specs.Stops.{Stops, StopsAfter, stopped_after}
use Rattle.lawful_run.proofs.CallerLemmas.{points_leave}
use Rattle.client_law.specs.Knowing.{Rest, log_seen, SeesOn}
use Rattle.client_law.specs.Making.{MakesAtHome}
use Rattle.client_law.specs.Appends.{SeesBegun, SeesSettled, SeesSeveral, steps_since}
use Rattle.client_law.proofs.CallerLemmas.{gone_at_end, gone_for_memory, kept_after_row, kept_after_several, several_stand, stops_stand}
use Rattle.log_client.specs.declared.store.Store.{Store}
use Rattle.log_client.specs.declared.client.Client.{Client}
use Rattle.log_client.specs.declared.track.Track.{Track}
use Rattle.log_client.specs.declared.answers.Appended.{Appended}
use Rattle.log_client.specs.Fits.{FitsHolds}
use Rattle.log_client.specs.Ending.{IsNoMove}
use Rattle.log_client.specs.Clients.{holds_of, seen_of, nodes_of_rows, tracks_of, caller_of, counts_in, IsClient, IsRowClosed, IsClosedIn, AllClosed, AreBegunRows, Keeps, Finished, Helps}
use Rattle.log_client.specs.Appends.{next_node, piece_of, AppendsAs, AppendRefused, HasNoRow, AppendStopped}
use Rattle.log_client.specs.Calls.{IsExplained}
use Rattle.log_client.specs.Inside.{CallsAppend}
use Rattle.log_client.proofs.Lists.{got, got_end, mapped, unmapped}
use Rattle.log_client.proofs.Known.Steps.{made_at_home}
use Rattle.log_client.proofs.Append.OwnMore.{own_nodes_row, step_no_single}
use Rattle.log_client.proofs.Known.Foreign.{Accounted, goes_accounted, foreign_but}
use Rattle.log_client.proofs.Append.Several.{begun_so, ends_at_colour, settled_everywhere, settled_outcome, settled_begun, stops_begun, stops_there, stand_in_all, stand_so}
use Rattle.log_client.proofs.Going.AtHome.{ChangesHome, gone_same, have_gone_on, home_after, others_after, sees_after, client_after}
use Rattle.log_client.proofs.Going.Helping.{helped_at_home, helps_at_home, idle_at_home, idle_on, idle_same}
use Rattle.log_client.proofs.Going.Growing.{grown_same}
use Rattle.log_client.proofs.Going.Looked.{IsPlain, client_looked, did_nothing, finished_stays, lawful_after, pulls_stay, tracks_stay}
use Rattle.log_client.proofs.Append.AppendReplies.{replicated, step_moves}
use Rattle.log_client.proofs.Append.AppendsNothing.{finds_nothing, no_memory_stays}
use Rattle.log_client.proofs.Going.Staying.{all_closed_longer}
use Rattle.log_client.proofs.Going.NextNodes.{number_is, used_is, on_board, id_listed, node_is, id_kept, floor_kept, rows_kept}

-- a key of a lawful line has a stamp that there is
line_in_range : (own regions : ℕ) (history : List Entry) → IsColumnHistory own regions (dated own history)
    → (position : ℕ) (key : Key) → slice_get (line history) position ≡ Some key → key.stamp ≤ MAX_STAMP
line_in_range own regions history lawful position key at =
    let is : chain own (dated own history) own ≡ map (head_with (dated own history)) (line history) =
    if_true (own == own) _ _ (eq-eqb own own refl)
    ∙ ap (λ (h : List Entry). map (head_with (dated own history)) (line h)) (entries_dated own history) in
    own_stamped own regions history lawful position (head_with (dated own history) key)
    (ap (λ (l : List Head). slice_get l position) is
    ∙ mapped (head_with (dated own history)) (line history) position key at)

-- what an append of several colours made are steps of ids
steps_in : (b : BegunAppend) (k : ℕ) (e : event_types.Event) → IsStepIn b k e → (id : Id) × IsStepOf id e
steps_in b k e m = (b.id, m.1)

steps_before : (x : Node) (steps k : ℕ) (e : event_types.Event) → core.IsStepBefore x steps k e → (id : Id) × IsStepOf id e
steps_before x steps k e m = (x.id, m.2)

steps_helping : (g h : Hold) (x : Node) (k : ℕ) (e : event_types.Event)
    → IsStepIn (core.own_append g x) k e ⊎ HelpsOpen g h e → (id : Id) × IsStepOf id e
steps_helping g h x k e (inl own) = (x.id, own.1)
steps_helping g h x k e (inr helps) = (helps.0, helps.1)

-- a client's own step helps nobody
own_no_help : (client : ℕ) (id : Id) (e : event_types.Event) → IsStepOf id e → id.client ≡ client → IsHelp client e → ⊥
own_no_help client id (events.Single other floor wants) step own help = step
own_no_help client id (events.Propose other floor wants) step own help =
    help (subst (λ (i : Id). i.client ≡ client) (sym step) own)
own_no_help client id (events.Settle other outcome) step own help =
    help (subst (λ (i : Id). i.client ≡ client) (sym step) own)
own_no_help client id (events.Raise to) step own help = step
own_no_help client id (events.Give region from) step own help = step
own_no_help client id (events.Carry region start heads) step own help = step
own_no_help client id (events.Trim counts) step own help = step

-- the client with its hold of its region, with the nodes of its rows that e has, with this floor, and one node more
abbrev pub after_row : Client → Client → Hold → ℕ → Client
after_row c e h floor =
    record c { holds = with_item c.holds c.region h; rows = e.rows; floor = floor; count = c.count + 1 }

module _ (s : Store) (c e : Client) (r : Region) (g h : Hold) (colours : Colours) (text : List ℕ) (stop : Option ℕ)
    (x : Node) (floor : ℕ) (is : IsClient s c) (there : slice_get s.regions c.region ≡ Some r)
    (at_g : slice_get (holds_of c) c.region ≡ Some g) (x_is : x ≡ next_node c colours text)
    (are : AreColours s.size colours) (now : IsHold r h) (b : core.HoldBegins r g h x)
    (same : h.passes.number ≡ g.passes.number) (more : (k : ℕ) → IsPrefix (seen_in g k) (seen_in h k))
    (rows : nodes_of_rows e ≡ nodes_of_rows c ++ x ∷ []) where
  abbrev after : Client
  after = after_row c e h floor

  changed : ChangesHome s c after r g h
  changed = record {
    number = refl;
    region = refl;
    there = there;
    before = at_g;
    changed = refl;
    rests = now;
    on = record {
      number = same;
      more = more;
      size = b.grows.size;
      learns = record { known = b.grows.known; begun = b.grows.begun };
    };
  }

  at_h : slice_get (holds_of after) c.region ≡ Some h
  at_h = home_after s c after r g h is changed

  number : g.passes.number ≡ c.number
  number = number_is s c r g colours text x is there at_g x_is

  used : length (nodes_of_rows c) ≡ g.seat.used
  used = used_is s c r g colours text x is there at_g x_is

  several : 2 ≤ length (members x.colours)
  several = subst (λ (y : Node). 2 ≤ length (members y.colours)) (sym x_is) are.many

  -- the row is the one of the client behind those that it had
  row_is : core.own_row g ≡ row_of c.number (length (nodes_of_rows c))
  row_is = λ i. record { client = number i; number = sym used i }

  own_id : x.id.client ≡ c.number
  own_id = ap (λ (y : Node). y.id.client) x_is

  rows_then : AreBegunRows c.number h (nodes_of_rows after)
  rows_then = record {
    many =
        let long = ap length rows ∙ length-append (nodes_of_rows c) (x ∷ []) in
        let begun = b.used in
        let before = used in
        omega (arith, long, begun, before);
    begun = λ j y at. by_place j y (got_end (nodes_of_rows c) x j y (ap (λ (l : List Node). slice_get l j) (sym rows) ∙ at));
  } where
    by_place : (j : ℕ) (y : Node) → (slice_get (nodes_of_rows c) j ≡ Some y) ⊎ ((j ≡ length (nodes_of_rows c)) × (x ≡ y))
        → KnowsBegun (view_of h) (row_of c.number j) y
    by_place j y (inl old) =
        begun_learnt (view_of g) (view_of h) (row_of c.number j) changed.on.size changed.on.learns y
        ((is.home g at_g).rows.begun j y old)
    by_place j y (inr last) =
        subst (KnowsBegun (view_of h) (row_of c.number j)) last.1
        (subst (λ (w : Row). KnowsBegun (view_of h) w x)
        (row_is ∙ (λ i. record { client = c.number; number = sym last.0 i })) b.knows)

  -- it has finished where this append is closed
  finished_then : IsRowClosed h (length (nodes_of_rows c)) x → Finished c → Finished after
  finished_then closed finished l at =
      subst (λ (z : Hold). AllClosed z (nodes_of_rows after)) (same_Some h l (sym at_h ∙ at))
      (λ j y there. by_place j y (got_end (nodes_of_rows c) x j y (ap (λ (l : List Node). slice_get l j) (sym rows) ∙ there))) where
        by_place : (j : ℕ) (y : Node) → (slice_get (nodes_of_rows c) j ≡ Some y) ⊎ ((j ≡ length (nodes_of_rows c)) × (x ≡ y))
            → IsRowClosed h j y
        by_place j y (inl old) =
            all_closed_longer c.region (length s.regions) g h (nodes_of_rows c) changed.on
            (lawful_after s c after r g h is changed) (finished g at_g) j y old
        by_place j y (inr last) =
            subst (IsRowClosed h j) last.1 (subst (λ (n : ℕ). IsRowClosed h n x) (sym last.0) closed)

  -- a row was left
  has_row : (taken : ℕ) → HasNoRow s c colours stop taken → ⊥
  has_row taken none =
      let room = b.room in
      let all = none.all in
      let before = used in
      let size = ap (λ (z : Size). z.rows) (s.fit.each c.region r there).size in
      omega (arith, room, all, before, size)

  on : (objects : List Object) → SeesOn (caller_of s c objects) (seen_of c) (seen_of after)
  on = sees_after s c after r g h is changed

  home : MakesAtHome c.number c.region (seen_of c) (seen_of after)
  home = made_at_home (holds_of c) (holds_of after) c.number c.region (others_after s c after r g h is changed)

  -- THE CLIENT

  module _ (Made : ℕ → event_types.Event → Type 0) (goes : GoesOn Made g h)
      (steps : (k : ℕ) (ev : event_types.Event) → Made k ev → (id : Id) × IsStepOf id ev)
      (whole : (k : ℕ) (ev : event_types.Event) → Made k ev → IsHelp c.number ev → (id : Id) → IsStepOf id ev
      → HoldKnowsComplete h id) (raised : c.floor ≤ floor) (in_range : floor ≤ MAX_STAMP) where
    row_client : IsClient s after
    row_client =
        let before = is.home g at_g in
        let counted = before.counted in
        let begun = b.used in
        let next = b.next in
        let at = ap (λ (y : Node). y.id.count) x_is in
        client_after s c after r g h is changed
        (record {
          next = omega (arith, next, at);
          counted = omega (arith, counted, begun, raised);
          rows = rows_then;
          tracks = tracks_stay s c after r g h is changed refl;
        })
        in_range is.colours (is.nodes ++ x ∷ [])
        (length-append is.nodes (x ∷ []) ∙ ap (λ (n : ℕ). n + 1) is.nodes_count)
        (own_nodes_row c.number c.region (holds_of c) (holds_of after) g h is.nodes x at_g at_h
        (others_after s c after r g h is changed) changed.on (id_listed s c r g colours text x is there at_g x_is)
        is.own_nodes Made goes (λ k ev id m single. let w = steps k ev m in step_no_single w.0 id ev w.1 single)
        b.used number b.knows)
        (pulls_stay s c after r g h is changed
        (goes_weaken Made g h (λ k ev. IsNoMove ev) (λ k ev m. let w = steps k ev m in step_moves w.0 ev w.1) goes))
        (helps_at_home s c after r g h is changed Made goes whole)

    calls : (result : Result Appended MultiFault) → ((taken : ℕ) → result ≢ Err (faults.Full taken))
        → (Finished c → Finished after ⊎ AppendStopped result) → (stop ≢ None → Helps after → Helps c)
        → MatchResult result (λ a. (stop ≡ None) × IsExplained s c after (AppendsAs colours text a))
        (AppendRefused s c after colours text stop)
        → IfOk result (λ a. map (λ (p : Point). p.colour) a.stood.points ≡ members colours)
        → CallsAppend s c after colours text stop result
    calls result not_full finished idle answer points = record {
      client = row_client;
      same = (refl, refl);
      goes = have_gone_on s c after r g h is changed;
      grows = grown_same c after refl;
      plays = refl;
      finished = finished;
      idle = idle;
      answer = answer;
      points = points;
      full = λ taken. (λ full. absurd (not_full taken full), λ none. absurd (has_row taken none));
    }

  -- all that is made is of the client's own append
  own_whole : (k : ℕ) (ev : event_types.Event) → IsStepOf x.id ev → IsHelp c.number ev → (id : Id) → IsStepOf id ev
      → HoldKnowsComplete h id
  own_whole k ev step help id other = absurd (own_no_help c.number x.id ev step own_id help)

  -- and so helps nobody
  own_idle : (Made : ℕ → event_types.Event → Type 0) → GoesOn Made g h
      → ((k : ℕ) (ev : event_types.Event) → Made k ev → IsStepOf x.id ev) → Helps after → Helps c
  own_idle Made goes own =
      helped_at_home s c after r g h is changed
      (idle_on Made c.number g h changed.on goes (λ k ev m help. own_no_help c.number x.id ev (own k ev m) own_id help))

  -- WHAT IS KEPT

  module _ (objects : List Object) (kept : Kept) (keeps : Keeps s c objects kept) where
    abbrev caller : Caller
    caller = caller_of s c objects

    same_node : node_of caller kept colours text ≡ x
    same_node = node_is s c r g colours text x is there at_g x_is objects kept keeps

    of_id : x.id ≡ record { client = c.number; count = kept.ids }
    of_id = id_kept s c r g colours text x is there at_g x_is objects kept keeps

    of_floor : x.floor ≡ kept.floor
    of_floor = floor_kept s c r g colours text x is there at_g x_is objects kept keeps

    of_rows : kept.rows ≡ g.seat.used
    of_rows = rows_kept s c r g colours text x is there at_g x_is objects kept keeps

    size_is : caller.rows ≡ r.board.size.rows
    size_is = ap (λ (z : Size). z.rows) (sym (s.fit.each c.region r there).size)

    abbrev places : ℕ → List ℕ
    places = steps_since caller (seen_of c) (seen_of after)

    -- where its floor stays
    abbrev kept_then : Kept
    kept_then = with_made (with_row kept) c.region places

    keeps_then : floor ≡ c.floor → Keeps s after objects kept_then
    keeps_then still = record {
      by = kept_after_row (seen_of c) (seen_of after) caller kept (on objects) home keeps.by;
      floor = keeps.floor ∙ sym still;
      ids = ap (λ (n : ℕ). n + 1) keeps.ids;
      rows =
          let was = keeps.rows in
          let long = ap length rows ∙ length-append (nodes_of_rows c) (x ∷ []) in
          omega (arith, was, long);
      starts = keeps.starts;
    }

  -- IT IS SETTLED, AND DOES NOT STAND

  module _ (o : Outcome) (shut : o ≢ Open) (a : core.HoldSettlesAll r g h x o) (still : floor ≡ c.floor) where
    settled_closed : IsRowClosed h (length (nodes_of_rows c)) x
    settled_closed = record {
      outcome = o;
      shut = shut;
      known = subst (λ (w : Row). KnowsOutcome (view_of h) w o) row_here a.outcome;
      in_colours = λ k of. by_end k (a.settled k of);
    } where
      row_here : core.own_row g ≡ row_of h.passes.number (length (nodes_of_rows c))
      row_here = λ i. record { client = sym same i; number = sym used i }

      by_end : (k : ℕ) → HoldKnowsSettled h (core.own_append g x) o k → IsClosedIn h (length (nodes_of_rows c)) x k
      by_end k t = elim t.done [
        | inl fenced ↦ inl (
          fenced.0,
          subst (λ (w : Row). KnowsMark (view_of h) w k (Fenced fenced.0)) row_here
              (subst (KnowsMark (view_of h) (core.own_row g) k) fenced.1 t.known),
        )
        | inr entered ↦ inr (entered, t.closed)
      ]

    settled_calls : (fault : MultiFault) → ((taken : ℕ) → fault ≢ faults.Full taken)
        → AppendRefused s c after colours text stop fault → CallsAppend s c after colours text stop (Err fault)
    settled_calls fault not_full why =
        calls (IsStepIn (core.own_append g x)) a.goes (steps_in (core.own_append g x))
        (λ k ev m. own_whole k ev m.1) (omega (arith, still)) (let low = is.floored in omega (arith, low, still)) (Err fault)
        (λ taken e. not_full taken (cc e)) (λ finished. inl (finished_then settled_closed finished))
        (λ stops. own_idle (IsStepIn (core.own_append g x)) a.goes (λ k ev m. m.1)) why tt

    module _ (objects : List Object) (kept : Kept) (keeps : Keeps s c objects kept) (rest : Rest)
        (fits : FitsHolds (holds_of after) rest) where
      settled_row : SeesBegun (seen_of c) (seen_of after) rest (caller_of s c objects) kept x
      settled_row =
          settled_begun (holds_of c) (holds_of after) (caller_of s c objects) r g h at_g at_h number now (on objects) x
          (ap (λ (y : Node). y.region) x_is) same rest fits o a kept (of_id objects kept keeps) several
          (of_rows objects kept keeps) (size_is objects kept keeps) (keeps.by.seen_within c.region)

      settled_all : SeesSettled (seen_of after) rest (caller_of s c objects) x
      settled_all =
          settled_everywhere (holds_of c) (holds_of after) (caller_of s c objects) r g h at_g at_h number now (on objects) x
          (ap (λ (y : Node). y.region) x_is) same rest fits o a

      settled_so : HasOutcome (log_seen (seen_of after) rest) x o
      settled_so =
          settled_outcome (holds_of c) (holds_of after) (caller_of s c objects) r g h at_g at_h number now (on objects) x
          (ap (λ (y : Node). y.region) x_is) same rest fits o a

  -- the stamps' end
  pub row_ended : (k : ℕ) → core.HoldEndsAt r g h x k → stop ≡ None → floor ≡ c.floor
      → CallsAppend s c after colours text stop (Err (faults.StampEnd k))
  row_ended k a none still =
      settled_calls (Gone StampEnd) (λ e. let f : ⊥ = cc (e) in f) a.all still (faults.StampEnd k)
      (λ taken e. let f : ⊥ = cc (e) in f) (
        none,
        λ objects kept finished keeps. (
          kept_then objects kept keeps,
          keeps_then objects kept keeps still,
          λ rest fits.
              subst (λ (y : Node). HasNoStamp (log_seen (seen_of after) rest) (caller_of s c objects) kept y k
              (kept_then objects kept keeps)) (sym (same_node objects kept keeps))
              (none_for_several (places objects kept keeps)
              (gone_at_end (seen_of c) (seen_of after) rest (caller_of s c objects) kept x k (on objects)
              (settled_row (Gone StampEnd) (λ e. let f : ⊥ = cc (e) in f) a.all still objects kept keeps rest fits)
              (ends_at_colour (holds_of c) (holds_of after) (caller_of s c objects) r g h at_g at_h number now (on objects) x
              (ap (λ (y : Node). y.region) x_is) same rest fits k a)
              (settled_all (Gone StampEnd) (λ e. let f : ⊥ = cc (e) in f) a.all still objects kept keeps rest fits))),
        ),
      )

  -- want of memory
  pub row_refused : core.HoldEndsForMemory r g h x → stop ≡ None → floor ≡ c.floor
      → CallsAppend s c after colours text stop (Err faults.NoMemory)
  row_refused a none still =
      settled_calls (Gone Memory) (λ e. let f : ⊥ = cc (e) in f) a still faults.NoMemory
      (λ taken e. let f : ⊥ = cc (e) in f)
      (λ objects kept finished keeps. (
        kept_then objects kept keeps,
        keeps_then objects kept keeps still,
        λ rest fits. inr (
          none,
          places objects kept keeps,
          subst (λ (y : Node). IsGoneForMemory (log_seen (seen_of after) rest) (caller_of s c objects) kept y
              (places objects kept keeps)) (sym (same_node objects kept keeps))
              (gone_for_memory (seen_of c) (seen_of after) rest (caller_of s c objects) kept x (on objects)
              (settled_row (Gone Memory) (λ e. let f : ⊥ = cc (e) in f) a still objects kept keeps rest fits)
              (settled_so (Gone Memory) (λ e. let f : ⊥ = cc (e) in f) a still objects kept keeps rest fits)
              (settled_all (Gone Memory) (λ e. let f : ⊥ = cc (e) in f) a still objects kept keeps rest fits)),
          refl,
        ),
      ))

  -- IT STOPPED

  pub row_stopped : (steps : ℕ) → core.HoldStopsAfter r g h x steps → 0 < steps → stop ≡ Some steps → floor ≡ c.floor
      → CallsAppend s c after colours text stop (Err (faults.Stopped steps))
  row_stopped steps a some asked still =
      calls (core.IsStepBefore x steps) a.goes (steps_before x steps) (λ k ev m. own_whole k ev m.2) (omega (arith, still))
      (let low = is.floored in omega (arith, low, still)) (Err (faults.Stopped steps))
      (λ taken e. let f : ⊥ = cc (e) in f) (λ finished. inr (steps, some, refl))
      (λ stops. own_idle (core.IsStepBefore x steps) a.goes (λ k ev m. m.2)) (
        asked,
        λ objects kept finished keeps. (
          kept_then objects kept keeps,
          keeps_then objects kept keeps still,
          λ rest fits.
              subst (λ (y : Node). Stops (log_seen (seen_of after) rest) (caller_of s c objects) kept y steps
              (kept_then objects kept keeps)) (sym (same_node objects kept keeps))
              (stops_so objects kept keeps rest steps some
              (stops_stand (seen_of c) (seen_of after) rest (caller_of s c objects) kept x steps (on objects)
              (stops_begun (holds_of c) (holds_of after) (caller_of s c objects) r g h at_g at_h number now (on objects) x
              (ap (λ (y : Node). y.region) x_is) same rest fits steps a kept (of_id objects kept keeps) several
              (of_rows objects kept keeps) (size_is objects kept keeps) (keeps.by.seen_within c.region))
              (stops_there (holds_of c) (holds_of after) (caller_of s c objects) r g h at_g at_h number now (on objects) x
              (ap (λ (y : Node). y.region) x_is) same rest fits steps a))),
        ),
      ) tt where
        stops_so : (objects : List Object) (kept : Kept) (keeps : Keeps s c objects kept) (rest : Rest) (n : ℕ) → 0 < n
            → StopsAfter (log_seen (seen_of after) rest) (caller_of s c objects) kept x n (places objects kept keeps)
            → Stops (log_seen (seen_of after) rest) (caller_of s c objects) kept x n (kept_then objects kept keeps)
        stops_so objects kept keeps rest n lt stops =
            let up : n - 1 + 1 ≡ n = omega (arith, lt) in
            subst (λ (m : ℕ). Stops (log_seen (seen_of after) rest) (caller_of s c objects) kept x m
            (kept_then objects kept keeps)) up
            (stopped_after (n - 1) (places objects kept keeps)
            (subst (λ (m : ℕ). StopsAfter (log_seen (seen_of after) rest) (caller_of s c objects) kept x m
            (places objects kept keeps)) (sym up) stops))

  -- IT STANDS

  module _ (st : Stood) (a : core.HoldAppendsSeveral r g h x st) (one : (row : Row) → OneNode (view_of h) row)
      (raised : floor ≡ max st.key.stamp c.floor) where
    stamp_is : st.key.stamp ≡ a.stamp
    stamp_is = ap (λ (q : Key). q.stamp) a.key

    stands_whole : (k : ℕ) (ev : event_types.Event) → IsStepIn (core.own_append g x) k ev ⊎ HelpsOpen g h ev
        → IsHelp c.number ev → (id : Id) → IsStepOf id ev → HoldKnowsComplete h id
    stands_whole k ev (inl own) help id step = own_whole k ev own.1 help id step
    stands_whole k ev (inr helps) help id step = helped_complete g h ev helps id step

    -- the colours are those of the region
    within : (k : ℕ) → has x.colours k ≡ true → k < r.board.size.colours
    within = (on_board s c r g colours text x is there at_g x_is are).within

    stands_closed_in : IsRowClosed h (length (nodes_of_rows c)) x
    stands_closed_in = record {
      outcome = Final a.stamp;
      shut = λ e. let f : ⊥ = cc (e) in f;
      known = subst (λ (w : Row). KnowsOutcome (view_of h) w (Final a.stamp))
          (λ i. record { client = sym same i; number = sym used i }) a.outcome;
      in_colours = λ k of. inr (
          let n = member_at x.colours k (let lt = within k of in let few = r.board.is_size.few_colours in omega (arith, lt, few)) of in
          let p = unmapped (λ (q : Point). q.colour) st.points n.0 k
          (ap (λ (l : List ℕ). slice_get l n.0) a.colours ∙ n.1) in
          subst (λ (m : ℕ). (has_entered x.id (entries_seen h m) ≡ true)
          × (open_entry x.id (entries (entries_seen h m)) ≡ None)) p.2
          (stands_closed r g h x a.stamp p.0 now (subst (λ (m : ℕ). m < r.board.size.colours) (sym p.2) (within k of))
          (a.each n.0 p.0 p.1)));
    }

    -- the stamp is one that there is
    in_range : a.stamp ≤ MAX_STAMP
    in_range =
        let two = several in
        let many = ap length a.colours ∙ refl in
        let long = length-map st.points (λ (q : Point). q.colour) in
        let p = got st.points 0 (omega (arith, two, many, long)) in
        line_in_range r.number r.regions (entries_seen h p.0.colour)
        (lawful_seen r h p.0.colour now (colour_in 0 p.0 p.1)) p.0.position (entry_key a.stamp x.id)
        (a.each 0 p.0 p.1).stands where
          colour_in : (n : ℕ) (p : Point) → slice_get st.points n ≡ Some p → p.colour < r.board.size.colours
          colour_in n p at =
              within p.colour (member_has x.colours n p.colour
              (ap (λ (l : List ℕ). slice_get l n) (sym a.colours) ∙ mapped (λ (q : Point). q.colour) st.points n p at))

    -- of its own steps all are of this append, where it had finished
    abbrev Apart : ℕ → event_types.Event → Type 0
    Apart k ev = (IsStepIn (core.own_append g x) k ev ⊎ HelpsOpen g h ev) × Accounted r g h now ev

    goes_apart : GoesOn Apart g h
    goes_apart = goes_accounted r g h now (λ k ev. IsStepIn (core.own_append g x) k ev ⊎ HelpsOpen g h ev) a.goes

    own_steps : Finished c → (k : ℕ) (ev : event_types.Event) → Apart k ev → IsTrue (is_own c.number ev) → IsStepOf x.id ev
    own_steps finished k ev m own = elim m.0 [
      | inl mine ↦ mine.1
      | inr helps ↦
          foreign_but r g h now changed.on one (nodes_of_rows c)
          (subst (λ (n : ℕ). AreBegunRows n g (nodes_of_rows c)) (sym (same ∙ number)) (is.home g at_g).rows) (finished g at_g) x b.used
          b.knows ev helps m.1 (subst (λ (n : ℕ). IsTrue (is_own n ev)) (sym (same ∙ number)) own)
    ]

    module _ (objects : List Object) (kept : Kept) (finished : Finished c) (keeps : Keeps s c objects kept) where
      abbrev points : List PointPiece
      points = map piece_of st.points

      abbrev kept_stood : Kept
      kept_stood = with_made (with_row (with_floor (kept_after_points kept c.region points) a.stamp)) c.region
          (places objects kept keeps)

      -- with any nodes and rows that have its own
      abbrev some_row : BegunRow
      some_row = record { row = core.own_row g; node = x; marks = []; last = Final a.stamp }

      abbrev some_rest : Rest
      some_rest = record { nodes = λ _. replicate (suc kept.ids) x; rows = λ _. some_row ∷ [] }

      for_it : IsBegunFor (log_seen (seen_of after) some_rest) x some_row
      for_it = record { begun = contains_in (some_row ∷ []) some_row (inl refl); of_node = refl }

      stands_with_some : SeesSeveral (seen_of c) (seen_of after) some_rest (caller_of s c objects) kept x a.stamp points
      stands_with_some =
          stand_so (holds_of c) (holds_of after) (caller_of s c objects) r g h at_g at_h number x st a some_rest kept
          (begun_so (holds_of c) (holds_of after) (caller_of s c objects) r g h at_g at_h number x b (on objects) Apart
          goes_apart (own_steps finished) some_rest some_row for_it kept (replicated x kept.ids) several
          (of_rows objects kept keeps) (size_is objects kept keeps) (keeps.by.seen_within c.region))
          (of_floor objects kept keeps) (some_row, for_it, refl)

      keeps_stood : Keeps s after objects kept_stood
      keeps_stood =
          let l = points_leave c.region kept points in
          let floor_then = l.floor in
          let ids_then = l.ids in
          let rows_later = l.rows in
          let low = keeps.floor in
          let stamp = stamp_is in
          let ids = keeps.ids in
          let was = keeps.rows in
          let long = ap length rows ∙ length-append (nodes_of_rows c) (x ∷ []) in
          record {
            by = kept_after_several (seen_of c) (seen_of after) some_rest (caller_of s c objects) kept x a.stamp points
                (on objects) home keeps.by stands_with_some;
            floor = omega (arith, floor_then, low, stamp, raised);
            ids = omega (arith, ids_then, ids);
            rows = omega (arith, rows_later, was, long);
            starts = λ k. ap (λ (f : ℕ → Counts). f k) l.starts ∙ keeps.starts k;
          }

      stood_so : (number : ℕ) → number ≡ g.seat.used → (rest : Rest) → FitsHolds (holds_of after) rest
          → AppendsAs colours text (record { id = x.id; row = Some number; stood = st }) (log_seen (seen_of after) rest)
          (caller_of s c objects) kept kept_stood
      stood_so n n_is rest fits = (
        ap (λ (y : Node). y.id) (sym (same_node objects kept keeps)),
        ap (λ (q : Key). q.id) a.key,
        subst (λ (y : Node). Appends (log_seen (seen_of after) rest) (caller_of s c objects) kept y st.key.stamp (Some n) points
            kept_stood) (sym (same_node objects kept keeps))
            (subst (λ (z : ℕ). Appends (log_seen (seen_of after) rest) (caller_of s c objects) kept x z (Some n) points
            kept_stood) (sym stamp_is) (
              n_is ∙ sym (of_rows objects kept keeps),
              places objects kept keeps,
              several_stand (seen_of c) (seen_of after) rest (caller_of s c objects) kept x a.stamp points (on objects)
                  keeps.by
                  (stand_in_all (holds_of c) (holds_of after) (caller_of s c objects) r g h at_g at_h number now (on objects) x
                  (ap (λ (y : Node). y.region) x_is) same rest fits st a Apart goes_apart (own_steps finished) kept
                  (of_id objects kept keeps) (of_floor objects kept keeps) several (of_rows objects kept keeps)
                  (size_is objects kept keeps) (keeps.by.seen_within c.region)),
              refl,
            )),
      )

    pub row_stood : (id : Id) → id ≡ x.id → (n : ℕ) → n ≡ g.seat.used → stop ≡ None
        → CallsAppend s c after colours text stop (Ok (record { id = id; row = Some n; stood = st }))
    row_stood id id_is n n_is none =
        calls (λ k ev. IsStepIn (core.own_append g x) k ev ⊎ HelpsOpen g h ev) a.goes (steps_helping g h x) stands_whole
        (omega (arith, raised))
        (let low = is.floored in let stamp = stamp_is in let top = in_range in omega (arith, raised, stamp, top, low))
        (Ok (record { id = id; row = Some n; stood = st })) (λ taken e. let f : ⊥ = cc (e) in f)
        (λ finished. inl (finished_then stands_closed_in finished)) (λ stops. absurd (stops none)) (
          none,
          subst (λ (i : Id). IsExplained s c after (AppendsAs colours text (record { id = i; row = Some n; stood = st })))
              (sym id_is) (λ objects kept finished keeps. (
                kept_stood objects kept finished keeps,
                keeps_stood objects kept finished keeps,
                stood_so objects kept finished keeps n n_is,
              )),
        )
        (a.colours ∙ ap (λ (y : Node). members y.colours) x_is)

-- where no row was begun, nothing was done
module _ (s : Store) (c : Client) (r : Region) (g : Hold) (colours : Colours) (text : List ℕ) (stop : Option ℕ)
    (is : IsClient s c) (there : slice_get s.regions c.region ≡ Some r) (at_g : slice_get (holds_of c) c.region ≡ Some g)
    (room : g.seat.used < r.board.size.rows) where
  left_rows : (taken : ℕ) → HasNoRow s c colours stop taken → ⊥
  left_rows taken none =
      let all = none.all in
      let many = (is.home g at_g).rows.many in
      let size = ap (λ (z : Size). z.rows) (s.fit.each c.region r there).size in
      omega (arith, room, all, many, size)

  -- no memory was left for its node, or for the place of its row's node
  pub no_node : CallsAppend s c c colours text stop (Err faults.NoMemory)
  no_node = no_memory_stays s c colours text stop is left_rows

  module _ (d : Client) (ch : ChangesHome s c d r g g) (floor : d.floor ≡ c.floor) (count : d.count ≡ c.count)
      (rows : nodes_of_rows d ≡ nodes_of_rows c) (tracks : tracks_of d ≡ tracks_of c) where
    pub row_not_begun : CallsAppend s c d colours text stop (Err faults.NoMemory)
    row_not_begun = record {
      client = client_looked s c d r g g is ch (goes_same (λ k ev. IsPlain ev) g g refl) refl refl (omega (arith, floor))
          (let low = is.floored in omega (arith, floor, low)) count rows (ap length tracks)
          (tracks_stay s c d r g g is ch tracks) (idle_at_home s c d r g g is ch (idle_same c.number g));
      same = (ch.number, ch.region);
      goes = have_gone_on s c d r g g is ch;
      grows = grown_same c d tracks;
      plays = tracks;
      finished = λ finished. inl (finished_stays s c d r g g is ch rows finished);
      idle = λ stops. helped_at_home s c d r g g is ch (idle_same c.number g);
      answer = finds_nothing s c d colours text stop (did_nothing s c d r g g is ch (λ k. refl) floor count rows
          (λ k. ap (λ (l : List Track). counts_in (slice_get l k)) tracks));
      points = tt;
      full = λ taken. (λ full. absurd (let f : ⊥ = cc (full) in f), λ none. absurd (left_rows taken none));
    }

-- WHY IT DOES NOT STAND

module _ (s : Store) (c e : Client) (r : Region) (g h : Hold) (colours : Colours) (text : List ℕ) (stop : Option ℕ)
    (x : Node) (is : IsClient s c) (there : slice_get s.regions c.region ≡ Some r)
    (at_g : slice_get (holds_of c) c.region ≡ Some g) (x_is : x ≡ next_node c colours text)
    (are : AreColours s.size colours) (now : IsHold r h) where
  -- its row was begun
  module _ (begun : g.seat.used < h.seat.used) (rows : nodes_of_rows e ≡ nodes_of_rows c ++ x ∷ []) where
    same_hold : h ≡ g → ⊥
    same_hold same = let used = ap (λ (z : Hold). z.seat.used) same in omega (arith, begun, used)

    pub row_left : (fault : MultiFault) → core.HoldLeaves r g h x stop fault
        → CallsAppend s c (after_row c e h c.floor) colours text stop (Err fault)
    row_left (faults.Full taken) why = absurd why
    row_left (faults.StampEnd k) why =
        row_ended s c e r g h colours text stop x c.floor is there at_g x_is are now why.1.all.begun why.1.all.goes.number
        why.1.all.goes.more rows k why.1 why.0 refl
    row_left (faults.Stopped steps) why = elim why.1 [
      | inl none ↦ absurd (same_hold none.1)
      | inr some ↦
          row_stopped s c e r g h colours text stop x c.floor is there at_g x_is are now some.1.begun some.1.goes.number
          some.1.goes.more rows steps some.1 some.0 why.0 refl
    ]
    row_left faults.NoMemory why = elim why [
      | inl none ↦ absurd (same_hold none)
      | inr some ↦
          row_refused s c e r g h colours text stop x c.floor is there at_g x_is are now some.1.begun some.1.goes.number
          some.1.goes.more rows some.1 some.0 refl
    ]

  -- it was not begun
  module _ (none_begun : g.seat.used < h.seat.used → ⊥) (not_at_once : stop ≢ Some 0)
      (room : g.seat.used < r.board.size.rows) (rows : nodes_of_rows e ≡ nodes_of_rows c) where
    abbrev unchanged : Client
    unchanged = record c { holds = with_item c.holds c.region h; rows = e.rows }

    not_begun : core.HoldBegins r g h x → ⊥
    not_begun b = let used = b.used in none_begun (omega (arith, used))

    as_it_was : h ≡ g → ChangesHome s c unchanged r g g
    as_it_was same = record {
      number = refl;
      region = refl;
      there = there;
      before = at_g;
      changed = ap (λ (z : Hold). holds_of (record c { holds = with_item c.holds c.region z })) same;
      rests = subst (IsHold r) same now;
      on = gone_same g;
    }

    pub row_kept : (fault : MultiFault) → core.HoldLeaves r g h x stop fault
        → CallsAppend s c unchanged colours text stop (Err fault)
    row_kept (faults.Full taken) why = absurd why
    row_kept (faults.StampEnd k) why = absurd (not_begun why.1.all.begun)
    row_kept (faults.Stopped steps) why = elim why.1 [
      | inl none ↦ absurd (not_at_once (why.0 ∙ ap Some none.0))
      | inr some ↦ absurd (not_begun some.1.begun)
    ]
    row_kept faults.NoMemory why = elim why [
      | inl none ↦
          row_not_begun s c r g colours text stop is there at_g room unchanged (as_it_was none) refl refl rows refl
      | inr some ↦ absurd (not_begun some.1.begun)
    ]
