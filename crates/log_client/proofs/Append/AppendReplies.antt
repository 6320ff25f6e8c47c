-- What an append of a client to one colour leaves, and what explains its answer.
use Rattle.std.proofs.Common.{◌≡◌, ◌≢◌, ◌⊎◌, inl, inr, ℕ, zero, suc, true, ◌+◌, ◌<◌, ◌≤◌, List, [], ◌∷◌, ◌++◌, length, map, take, Some, None, Ok, Err, refl, ap, sym, subst, ◌∙◌, arith, length-append}
use Rattle.std.specs.Prelude.{IsTrue, replicate, slice_get, slice_index_or, max}
use Rattle.std.specs.List.{range_with_len}
use Rattle.std.specs.Vec.{with_item}
use Rattle.log_node.specs.declared.ids.Id.{Id}
use Rattle.log_node.specs.declared.ids.Key.{Key}
use Rattle.log_node.specs.declared.ids.Row.{Row}
use Rattle.log_node.specs.declared.ids.Colours.{Colours}
use Rattle.log_node.specs.declared.limits.TheConstants.{MAX_COLOURS, MAX_STAMP}
use Rattle.log_node.specs.declared.node.At.TheVariants.{Event}
use Rattle.log_node.specs.declared.node.Node.{Node}
use Rattle.log_node.specs.Sets.{has, members}
use Rattle.col_core.specs.declared.Event as event_types
use Rattle.col_core.specs.declared.Event.TheVariants as events
use Rattle.col_core.specs.declared.Entry.{Entry}
use Rattle.col_core.specs.History.{IsAtEnd, line}
use Rattle.col_core.specs.Computed.{dated}
use Rattle.col_core.specs.Cuts.{entries_of}
use Rattle.col_core.specs.Ids.{IsStepOf}
use Rattle.col_core.specs.Rows.{node_wants}
use Rattle.col_core.specs.Log.{is_own}
use Rattle.col_core.specs.Keeping.{Kept, kept_after_single}
use Rattle.col_core.specs.Legal.{MayEnter}
use Rattle.col_core.proofs.CallerLemmas.{In, contains_in, in_filter}
use Rattle.column.specs.declared.faults.ColumnFault.TheVariants as faults
use Rattle.script_text.specs.declared.script.Object.{Object}
use Rattle.stamp_board.specs.Seats.{IsLater}
use Rattle.chain_store.specs.declared.hold.Hold.{Hold}
use Rattle.chain_store.specs.declared.region.Region.{Region}
use Rattle.chain_store.specs.Going.{GoesOn}
use Rattle.chain_store.specs.Histories.{FitsColumn}
use Rattle.chain_store.specs.Columns.{told_single}
use Rattle.chain_store.specs.Rows.{OneNode}
use Rattle.chain_store.specs.Steps.{HasSingleCause}
use Rattle.chain_store.specs.Holds.{IsHold, SameBut, SeesMoreIn, entries_seen, view_of}
use Rattle.chain_store.proofs.CallerLemmas.{goes_weaken}
use Rattle.append_core.specs.declared.stood.Stood.{Stood}
use Rattle.append_core.specs.declared.stood.Point.{Point}
use Rattle.append_core.specs.declared.several.MultiFault.{MultiFault}
use Rattle.append_core.specs.declared.several.MultiFault.TheVariants as append_faults
use Rattle.append_core.specs.Helping.{HelpsOpen}
use Rattle.append_core.specs.Settled.{HoldKnowsComplete}
use Rattle.append_core.specs.Standing.{IsSingleOf, HoldAppendsOne}
use Rattle.append_core.proofs.CallerLemmas.{helped_complete}
use Rattle.lawful_run.specs.Callers.{Caller, node_of}
use Rattle.lawful_run.specs.Appends.{Appends, HasNoStamp, none_for_one}
use Rattle.lawful_run.specs.Lawful.{IsHelp}
use Rattle.client_law.specs.Knowing.{Rest, log_seen}
use Rattle.client_law.specs.Making.{MakesOnly}
use Rattle.client_law.specs.Appends.{SeesOne}
use Rattle.client_law.proofs.CallerLemmas.{appends_stand, kept_after_append, lawful_at, no_stamp_was_left}
use Rattle.log_client.specs.declared.store.Store.{Store}
use Rattle.log_client.specs.declared.client.Client.{Client}
use Rattle.log_client.specs.declared.answers.Appended.{Appended}
use Rattle.log_client.specs.Fits.{FitsHolds}
use Rattle.log_client.specs.Ending.{IsNoMove}
use Rattle.log_client.specs.Clients.{holds_of, seen_of, nodes_of_rows, caller_of, IsClient, AreBegunRows, Keeps, Finished}
use Rattle.log_client.specs.Appends.{next_node, piece_of, AppendsAs, AppendRefused}
use Rattle.log_client.specs.Calls.{IsExplained}
use Rattle.log_client.specs.Inside.{CallsAppend}
use Rattle.log_client.proofs.Known.Seeing.{seen_there}
use Rattle.log_client.proofs.Append.Alone.{seen_long, seen_at, stands_alone, alone_makes_only}
use Rattle.log_client.proofs.Append.OwnMore.{own_nodes_single, step_no_single}
use Rattle.log_client.proofs.Known.Foreign.{Accounted, goes_accounted, foreign}
use Rattle.log_client.proofs.Going.AtHome.{ChangesHome, gone_looked, have_gone_on, home_after, others_after, sees_after, client_after}
use Rattle.log_client.proofs.Going.Looked.{lawful_after, rows_stay, finished_stays, pulls_stay, tracks_stay, made_looked, keeps_stay}
use Rattle.log_client.proofs.Going.Helping.{helps_at_home}
use Rattle.log_client.proofs.Going.Growing.{grown_same}
use Rattle.log_client.proofs.Trim.TrimReplies.{look_client, look_goes, look_finished, look_nothing}
use Rattle.log_client.proofs.Going.NextNodes.{hold_read, number_is, counts_on, appends_next, fits_column, id_listed, node_is, id_kept, floor_kept, wants_kept}
use Rattle.log_client.proofs.Append.AppendsNothing.{one_takes_none, finds_nothing}

-- what it made moves no nodes between regions
single_moves : (id : Id) (e : event_types.Event) → IsSingleOf id e → IsNoMove e
single_moves id (events.Single other floor wants) s = tt
single_moves id (events.Propose other floor wants) s = absurd s
single_moves id (events.Settle other outcome) s = absurd s
single_moves id (events.Raise to) s = absurd s
single_moves id (events.Give region from) s = absurd s
single_moves id (events.Carry region start heads) s = absurd s
single_moves id (events.Trim counts) s = absurd s

pub step_moves : (id : Id) (e : event_types.Event) → IsStepOf id e → IsNoMove e
step_moves id (events.Single other floor wants) s = absurd s
step_moves id (events.Propose other floor wants) s = tt
step_moves id (events.Settle other outcome) s = tt
step_moves id (events.Raise to) s = absurd s
step_moves id (events.Give region from) s = absurd s
step_moves id (events.Carry region start heads) s = absurd s
step_moves id (events.Trim counts) s = absurd s

pub replicated : {A : Type 0} (x : A) (n : ℕ) → slice_get (replicate (suc n) x) n ≡ Some x
replicated x zero = refl
replicated x (suc n) = replicated x n

-- an append to one colour
module _ (s : Store) (c : Client) (r : Region) (g : Hold) (k : ℕ) (colours : Colours) (text : List ℕ) (x : Node)
    (is : IsClient s c) (lt : k < s.size.colours) (one_colour : members colours ≡ k ∷ [])
    (there : slice_get s.regions c.region ≡ Some r) (hold : g ≡ slice_index_or c.holds.items c.region g)
    (x_is : x ≡ next_node c colours text) where
  at_g : slice_get (holds_of c) c.region ≡ Some g
  at_g = hold_read s c g is hold

  number : g.passes.number ≡ c.number
  number = number_is s c r g colours text x is there at_g x_is

  pub single_counts_on : c.count + 1 < 9223372036854775808
  single_counts_on = counts_on s c r g colours text x is there at_g x_is

  pub single_next : (x.id.client ≡ g.passes.number) × (g.next ≤ x.id.count)
  single_next = appends_next s c r g colours text x is there at_g x_is

  has_it : has colours k ≡ true
  has_it = (in_filter (has colours) k (range_with_len 0 MAX_COLOURS) (subst (In k) (sym one_colour) (inl refl))).1

  pub single_fits : FitsColumn r.number k x
  single_fits = fits_column s c r g colours text x is there at_g x_is k has_it

  -- IT STANDS

  module _ (h : Hold) (st : Stood) (a : HoldAppendsOne g h x k st) (later : IsLater g.seat h.seat)
      (next : h.next ≡ x.id.count + 1) (now : IsHold r h) (floor : ℕ) (raised : floor ≡ max st.key.stamp c.floor) where
    abbrev pub after : Client
    after = record c { holds = with_item c.holds c.region h; floor = floor; count = c.count + 1 }

    pub changed : ChangesHome s c after r g h
    changed = record {
      number = refl;
      region = refl;
      there = there;
      before = at_g;
      changed = refl;
      rests = now;
      on = record {
        number = a.goes.number;
        more = a.goes.more;
        size = later.grows.size;
        learns = record { known = later.grows.known; begun = later.grows.begun };
      };
    }

    at_h : slice_get (holds_of after) c.region ≡ Some h
    at_h = home_after s c after r g h is changed

    stamp_is : st.key.stamp ≡ a.stamp
    stamp_is = ap (λ (q : Key). q.stamp) a.key

    pub entered : slice_get (seen_of after c.region k) a.place ≡ Some (told_single k g.passes.number x a.stamp).entry
    entered = seen_at (holds_of after) c.region h at_h k a.place (told_single k g.passes.number x a.stamp) a.entered

    lawful : MayEnter (entries_of (take a.place (dated c.region (entries_seen h k)))) x.id x.floor a.stamp
    lawful = lawful_at c.region (length s.regions) (entries_seen h k) a.place (told_single k g.passes.number x a.stamp).entry
        (lawful_after s c after r g h is changed k)
        (ap (λ (l : List Entry). slice_get l a.place) (sym (seen_there (holds_of after) c.region h at_h k)) ∙ entered)

    above : c.floor < a.stamp
    above =
        let stamped = lawful.stamped in
        let low = ap (λ (y : Node). y.floor) x_is in
        omega (arith, stamped, low)

    in_range : a.stamp ≤ MAX_STAMP
    in_range = lawful.in_range

    used : h.seat.used ≡ g.seat.used
    used = later.used

    still : GoesOn (λ i e. IsNoMove e) g h
    still = goes_weaken (λ i e. ((i ≡ k) × IsSingleOf x.id e) ⊎ HelpsOpen g h e) g h (λ i e. IsNoMove e)
        (λ i e m. elim m [ inl own ↦ single_moves x.id e own.1 | inr helps ↦ step_moves helps.0 e helps.1 ]) a.goes

    whole : (i : ℕ) (e : event_types.Event) → ((i ≡ k) × IsSingleOf x.id e) ⊎ HelpsOpen g h e → IsHelp c.number e
        → (id : Id) → IsStepOf id e → HoldKnowsComplete h id
    whole i e (inl own) help id step = absurd (step_no_single id x.id e step own.1)
    whole i e (inr helps) help id step = helped_complete g h e helps id step

    pub single_client : IsClient s after
    single_client =
        let before = is.home g at_g in
        let counted = before.counted in
        let up = above in
        let within = in_range in
        let low = is.floored in
        let stamp = stamp_is in
        let same = used in
        let at = ap (λ (y : Node). y.id.count) x_is in
        client_after s c after r g h is changed
        (record {
          next = omega (arith, next, at);
          counted = omega (arith, counted, up, stamp, raised, same);
          rows = rows_stay s c after r g h is changed refl used;
          tracks = tracks_stay s c after r g h is changed refl;
        })
        (omega (arith, raised, stamp, within, low)) is.colours (is.nodes ++ x ∷ [])
        (length-append is.nodes (x ∷ []) ∙ ap (λ (n : ℕ). n + 1) is.nodes_count)
        (own_nodes_single c.number c.region (holds_of c) (holds_of after) g h is.nodes x at_g at_h
        (others_after s c after r g h is changed) changed.on (id_listed s c r g colours text x is there at_g x_is) is.own_nodes r k st now
        (subst (λ z. k < z.colours) (sym (s.fit.each c.region r there).size) lt) used a)
        (pulls_stay s c after r g h is changed still)
        (helps_at_home s c after r g h is changed (λ i e. ((i ≡ k) × IsSingleOf x.id e) ⊎ HelpsOpen g h e) a.goes whole)

    -- WHAT EXPLAINS IT

    -- where all else that it made is not its own
    module _ (Foreign : event_types.Event → Type 0) (goes : GoesOn (λ i e. ((i ≡ k) × IsSingleOf x.id e) ⊎ Foreign e) g h)
        (none_own : Finished c → (e : event_types.Event) → Foreign e → IsTrue (is_own c.number e) → ⊥) where
      module _ (objects : List Object) (kept : Kept) (finished : Finished c) (keeps : Keeps s c objects kept) where
        abbrev caller : Caller
        caller = caller_of s c objects

        wants_there : node_wants x k ≡ kept.starts k
        wants_there = wants_kept s c r g colours text x is there at_g x_is objects kept keeps k
            (contains_in (members colours) k (subst (In k) (sym one_colour) (inl refl)))

        same_node : node_of caller kept colours text ≡ x
        same_node = node_is s c r g colours text x is there at_g x_is objects kept keeps

        of_id : x.id ≡ record { client = c.number; count = kept.ids }
        of_id = id_kept s c r g colours text x is there at_g x_is objects kept keeps

        of_floor : x.floor ≡ kept.floor
        of_floor = floor_kept s c r g colours text x is there at_g x_is objects kept keeps

        abbrev some_rest : Rest
        some_rest = record { nodes = λ _. replicate (suc kept.ids) x; rows = λ _. [] }

        stands_with : (rest : Rest) → slice_get (rest.nodes c.number) kept.ids ≡ Some x
            → SeesOne (seen_of c) (seen_of after) rest caller kept x k a.stamp a.place a.position
        stands_with rest listed = record {
          next = listed;
          unseen = let e = seen_long (holds_of c) c.region g at_g k in let le = a.unseen in omega (arith, e, le);
          entered = entered ∙ (λ i. Some (record {
            by = number i;
            event = events.Single x.id (of_floor i) (wants_there i);
            stamp = a.stamp;
          }));
          stands = ap (λ (l : List Entry). slice_get (line l) a.position) (seen_there (holds_of after) c.region h at_h k)
              ∙ a.stands;
        }

        only : MakesOnly c.number c.region k 1 (seen_of c) (seen_of after)
        only = alone_makes_only (holds_of c) (holds_of after) caller g h at_g at_h number x k st a Foreign
            (sees_after s c after r g h is changed objects) (others_after s c after r g h is changed) goes
            (none_own finished)

        abbrev kept_then : Kept
        kept_then = kept_after_single kept c.region k a.place a.stamp a.position

        keeps_then : Keeps s after objects kept_then
        keeps_then = record {
          by = kept_after_append (seen_of c) (seen_of after) some_rest caller kept x k a.stamp a.place a.position
              (sees_after s c after r g h is changed objects) keeps.by (stands_with some_rest (replicated x kept.ids)) only;
          floor =
              let low = keeps.floor in
              let stamp = stamp_is in
              omega (arith, low, stamp, raised);
          ids = ap (λ (n : ℕ). n + 1) keeps.ids;
          rows = keeps.rows;
          starts = keeps.starts;
        }

        abbrev answer : Appended
        answer = record { id = x.id; row = None; stood = st }

        record_then : (rest : Rest) → FitsHolds (holds_of after) rest
            → AppendsAs colours text answer (log_seen (seen_of after) rest) caller kept kept_then
        record_then rest fits = (
          ap (λ (y : Node). y.id) (sym same_node),
          ap (λ (q : Key). q.id) a.key,
          subst (λ (y : Node). Appends (log_seen (seen_of after) rest) caller kept y st.key.stamp None (map piece_of st.points)
              kept_then) (sym same_node)
              (subst (λ (l : List Point). Appends (log_seen (seen_of after) rest) caller kept x st.key.stamp None (map piece_of l)
              kept_then) (sym a.point)
              (subst (λ (z : ℕ). Appends (log_seen (seen_of after) rest) caller kept x z None
              (record { colour = k; at = Event a.place; position = a.position } ∷ []) kept_then) (sym stamp_is) (
                ap (λ (y : Node). members y.colours) x_is ∙ one_colour,
                a.place,
                refl,
                appends_stand (seen_of c) (seen_of after) rest caller kept x k a.stamp a.place a.position
                    (sees_after s c after r g h is changed objects) keeps.by
                    (stands_alone (holds_of c) (holds_of after) caller g h at_g at_h number x k st a rest kept fits of_id
                    of_floor wants_there),
                refl,
              ))),
        )

      pub explained_so : IsExplained s c after (AppendsAs colours text (record { id = x.id; row = None; stood = st }))
      explained_so objects kept finished keeps =
          (kept_then objects kept finished keeps, keeps_then objects kept finished keeps, record_then objects kept finished keeps)

    -- where each row that it knows is of one node
    module _ (one : (row : Row) → OneNode (view_of h) row) where
      abbrev Others : event_types.Event → Type 0
      Others e = HelpsOpen g h e × Accounted r g h now e

      goes_apart : GoesOn (λ i e. ((i ≡ k) × IsSingleOf x.id e) ⊎ Others e) g h
      goes_apart =
          goes_weaken (λ i e. (((i ≡ k) × IsSingleOf x.id e) ⊎ HelpsOpen g h e) × Accounted r g h now e) g h
          (λ i e. ((i ≡ k) × IsSingleOf x.id e) ⊎ Others e)
          (λ i e m. elim m.0 [ inl own ↦ inl own | inr helps ↦ inr (helps, m.1) ])
          (goes_accounted r g h now (λ i e. ((i ≡ k) × IsSingleOf x.id e) ⊎ HelpsOpen g h e) a.goes)

      none_own : Finished c → (e : event_types.Event) → Others e → IsTrue (is_own c.number e) → ⊥
      none_own finished e made own =
          foreign r g h now changed.on one (nodes_of_rows c)
          (subst (λ (z : ℕ). AreBegunRows z g (nodes_of_rows c)) (sym (a.goes.number ∙ number)) (is.home g at_g).rows)
          (finished g at_g) used e made.0 made.1
          (subst (λ (z : ℕ). IsTrue (is_own z e)) (sym (a.goes.number ∙ number)) own)

      pub single_stands : (id : Id) → id ≡ x.id
          → CallsAppend s c after colours text None (Ok (record { id = id; row = None; stood = st }))
      single_stands id same = record {
        client = single_client;
        same = (refl, refl);
        goes = have_gone_on s c after r g h is changed;
        grows = grown_same c after refl;
        plays = refl;
        finished = λ finished. inl (finished_stays s c after r g h is changed refl finished);
        idle = λ stops. absurd (stops refl);
        answer = (
          refl,
          subst (λ (i : Id). IsExplained s c after (AppendsAs colours text (record { id = i; row = None; stood = st })))
              (sym same) (explained_so Others goes_apart none_own),
        );
        points = ap (map (λ (p : Point). p.colour)) a.point ∙ sym one_colour;
        full = λ used. (λ e. absurd (let f : ⊥ = cc (e) in f), λ no_row. absurd (one_takes_none s c colours k None used one_colour no_row));
      }

  -- IT IS REFUSED

  module _ (h : Hold) (now : IsHold r h) (but : SameBut k g h) (same : (h.seat ≡ g.seat) × (h.next ≡ g.next))
      (sees : SeesMoreIn k g h) where
    abbrev pub left : Client
    left = record c { holds = with_item c.holds c.region h }

    pub looked : ChangesHome s c left r g h
    looked = record {
      number = refl;
      region = refl;
      there = there;
      before = at_g;
      changed = refl;
      rests = now;
      on = gone_looked k g h but sees.more same.0;
    }

    left_with : (fault : MultiFault) → ((used : ℕ) → fault ≢ append_faults.Full used)
        → AppendRefused s c left colours text None fault → CallsAppend s c left colours text None (Err fault)
    left_with fault not_full why = record {
      client = look_client s c r g h k is there hold now but same sees;
      same = (refl, refl);
      goes = look_goes s c r g h k is there hold now but same sees;
      grows = grown_same c left refl;
      plays = refl;
      finished = λ finished. inl (look_finished s c r g h k is there hold now but same sees finished);
      idle = λ stops. absurd (stops refl);
      answer = why;
      points = tt;
      full = λ used. (λ e. absurd (not_full used (cc e)), λ no_row. absurd (one_takes_none s c colours k None used one_colour no_row));
    }

    -- no stamp was left
    pub ended_so : IsAtEnd (entries_seen h k) x.floor
        → IsExplained s c left (λ log caller kept after. HasNoStamp log caller kept (node_of caller kept colours text) k after)
    ended_so ended objects kept finished keeps = (
      kept,
      keeps_stay s c left r g h is looked (made_looked k g h but sees) refl refl refl (λ m. refl) objects kept keeps,
      λ rest fits. none_for_one one_colour
          (no_stamp_was_left (seen_of c) (seen_of left) rest (caller_of s c objects) kept k
          (sees_after s c left r g h is looked objects) keeps.by
          (subst (λ (l : List Entry). IsAtEnd l kept.floor)
          (sym (seen_there (holds_of left) c.region h (home_after s c left r g h is looked) k))
          (subst (IsAtEnd (entries_seen h k)) (ap (λ (y : Node). y.floor) x_is ∙ sym keeps.floor) ended))),
    )

    pub single_ended : (clock : ℕ) → HasSingleCause (entries_seen h k) x.floor (faults.StampEnd clock)
        → CallsAppend s c left colours text None (Err (append_faults.StampEnd k))
    single_ended clock cause =
        left_with (append_faults.StampEnd k) (λ used e. let f : ⊥ = cc (e) in f) (refl, ended_so cause.1)

    pub single_refused : CallsAppend s c left colours text None (Err append_faults.NoMemory)
    single_refused = left_with append_faults.NoMemory (λ used e. let f : ⊥ = cc (e) in f)
        (finds_nothing s c left colours text None (look_nothing s c r g h k is there hold now but same sees))
