-- After a decide there holds what held before.
use Rattle.std.proofs.Common.{◌≡◌, ℕ, ◌<◌, List, [], ◌∷◌, ◌++◌, length, map, take, Bool, Option, Some, None, cond, true, false, inl, inr, refl, ap, sym, subst, ◌∙◌, arith}
use Rattle.std.specs.Prelude.{◌==◌, ◌&&◌, nat_lt, slice_index}
use Rattle.std.specs.List.{list_any}
use Rattle.std.specs.Option.{option_map}
use Rattle.log_node.specs.declared.ids.Colours.{Colours}
use Rattle.log_node.specs.declared.ids.Counts.{Counts}
use Rattle.log_node.specs.declared.ids.Key.{Key}
use Rattle.log_node.specs.declared.limits.TheConstants.{MAX_COLOURS}
use Rattle.log_node.specs.declared.node.Shape.{Shape}
use Rattle.log_node.specs.Sets.{members, set_of}
use Rattle.log_node.specs.Vectors.{at}
use Rattle.log_node.proofs.CallerLemmas.{members-one}
use Rattle.object_fold.specs.Nodes.{ObjectNode, shard_of}
use Rattle.part_fold.specs.Decisions.{decision_text}
use Rattle.part_fold.specs.Parts.{Part, place_of, undecided_after}
use Rattle.col_core.specs.declared.Entry.{Entry}
use Rattle.col_core.specs.History.{line}
use Rattle.col_core.specs.Keeping.{Kept}
use Rattle.col_core.specs.Log.{IsLater, Log}
use Rattle.col_core.proofs.CallerLemmas.{choice, if_true, In}
use Rattle.world_laws.specs.declared.steps.Step.TheVariants.{Play}
use Rattle.world_laws.specs.Laws.{IsReached, log_of}
use Rattle.world_laws.specs.Worlds.{World, home_of, home_history, next_id, is_client, is_column, may_single, single_stamp, may_play, played_cut, after, after_play}
use Rattle.script_text.specs.declared.script.Kind.{Kind}
use Rattle.script_text.specs.declared.script.Kind.TheVariants as kinds
use Rattle.script_text.specs.declared.script.Object.{Object}
use Rattle.script_text.specs.declared.script.Command.{Command}
use Rattle.script_text.specs.declared.script.Script.{Script}
use Rattle.script_text.specs.declared.commands.What.{What}
use Rattle.script_text.specs.declared.commands.What.TheVariants as whats
use Rattle.script_text.specs.Apart.{is_parts}
use Rattle.script_text.specs.Fitting.{AreObjectColours, HasObject}
use Rattle.report_text.specs.declared.report.Answer.{Answer}
use Rattle.report_text.specs.declared.report.Answer.TheVariants as answers
use Rattle.report_text.specs.declared.report.Ended.{Ended}
use Rattle.report_text.specs.declared.report.Ended.TheVariants as ends
use Rattle.report_text.specs.declared.report.PointPiece.{PointPiece}
use Rattle.report_text.specs.declared.report.RaisePiece.{RaisePiece}
use Rattle.report_text.specs.declared.report.SyncPiece.{SyncPiece}
use Rattle.lawful_run.specs.Appends.{HasNoStamp}
use Rattle.lawful_run.specs.Asks.{colours_of_object, object_colours, rising}
use Rattle.lawful_run.specs.Callers.{Caller, node_of}
use Rattle.lawful_run.specs.Deeds.{AsksToAppend}
use Rattle.lawful_run.specs.Explains.{Explains}
use Rattle.lawful_run.specs.Objects.{AreObjectNodes, own_played}
use Rattle.lawful_run.specs.Parts.{EndsAs, IsRuledAs}
use Rattle.lawful_run.specs.Reads.{HidesRead, HidesSyncs, ReadsAt, RefusesRead, AreKeysRead, kept_after_piece, played}
use Rattle.lawful_run.proofs.CallerLemmas.{explains_settled, explains_decided, explains_decide_refused, explains_decide_hidden, hides_syncs_later, keys_later, objects_later, one_shard, piece_same, read_later, syncs_later, taken_same}
use Rattle.script_meaning.specs.States.{State, Grants, answered, kind_in}
use Rattle.script_meaning.specs.Appends.{point_in, with_single}
use Rattle.script_meaning.specs.Stamped.{read_stamp, ReadEnd, Whole, Refused, Unraised, StampedRead, stamped_read, ended_so}
use Rattle.script_meaning.specs.Objects.{caller_in}
use Rattle.script_meaning.specs.Dequeues.{object_node_at, sync_now, base_now}
use Rattle.script_meaning.specs.Parts.{part_of, nodes_now, commits_among, decided_in, decided_by, decided}
use Rattle.script_meaning.proofs.Append.AppendOne as one
use Rattle.script_meaning.proofs.Append.AppendOne.{caller_same}
use Rattle.script_meaning.proofs.Append.AppendsBehind as behind
use Rattle.script_meaning.proofs.Client.Kept.{IsKeptBy, KeptAfter, Does, later_log}
use Rattle.script_meaning.proofs.Client.Refusing.{did_end_one}
use Rattle.script_meaning.proofs.Object.Dequeuing.{can_sync, hidden, hidden_keeps, is_trimmed, listed_objects, same_log, shown, shown_keeps}
use Rattle.script_meaning.proofs.Object.GetRuns.{played_now}
use Rattle.script_meaning.proofs.Object.LaterNodes.{line_low}
use Rattle.script_meaning.proofs.Object.ObjectKinds.{object_has, parts_of}
use Rattle.script_meaning.proofs.Object.ShardSets.{rising_below, rising_in, shard_below, shard_in, shard_there}
use Rattle.script_meaning.proofs.Part.Leading.{Leads, leads_to, leads_nowhere, leads_by_play, leads_by_append, leads_on}
use Rattle.script_meaning.proofs.Part.PartVerdicts.{ruled_among, waiting}
use Rattle.script_meaning.proofs.Read.AfterScan.{filtered_distinct}
use Rattle.script_meaning.proofs.Read.StampedEnds.{DidRead, Ends, EndsWhole, KeepsHidden, KeepsRead, did_read}
use Rattle.script_meaning.proofs.Read.StampedPlays.{MayLook}
use Rattle.script_meaning.proofs.Read.StampedRaises.{AreDistinct}
use Rattle.script_meaning.proofs.Run.FitCommands as fits
use Rattle.script_meaning.proofs.Run.Invariant.{IsStopped, Runs, IsFit, runs_done, free}
use Rattle.script_meaning.proofs.World.Clearing.{Finished}

module _ (script : Script) (commands : List Command) (state : State) (command : Command) (grants : Grants)
    (runs : Runs script commands state) (fit : IsFit script commands command) (object home : ℕ) (key : List ℕ)
    (asked : command.what ≡ whats.Decide object key) (has : HasObject script.objects object is_parts)
    (of_parts : kind_in script.objects object
    ≡ Some (kinds.Parts home (colours_of_object (caller_in state.world script.objects command.client) object))) where
  abbrev u : ℕ
  u = command.client

  abbrev w : World
  w = state.world

  abbrev S : ℕ → Type 0
  S = IsStopped commands state.replies

  abbrev Goal : State → Type 0
  Goal = Runs script (commands ++ command ∷ [])

  abbrev caller : Caller
  caller = caller_in w script.objects u

  abbrev its : List ℕ
  its = colours_of_object caller object

  abbrev what : What
  what = whats.Decide object key

  abbrev cs : List ℕ
  cs = rising its

  abbrev c : ℕ
  c = shard_of its key

  abbrev part : Part
  part = part_of its key

  abbrev sync : SyncPiece
  sync = sync_now w u c

  abbrev line_nodes : List ObjectNode
  line_nodes = nodes_now w u c

  going : S u → ⊥
  going = free script commands state command runs fit

  own : AreObjectColours script.shape.colours its
  own = object_has script.objects script.shape.regions script.shape.colours fit.kinds object is_parts has

  low : c < script.shape.colours
  low = shard_below script.shape.colours its own.some own.below key

  small : c < MAX_COLOURS
  small = let a = low in let b = fit.few_colours in omega (arith, a, b)

  in_cs : In c cs
  in_cs = rising_in its c (shard_in its own.some key) small

  distinct : AreDistinct cs
  distinct = filtered_distinct (λ d. list_any (λ e. e == d) its) MAX_COLOURS 0

  few : home_of w u < 4
  few = fits.own_few script commands state command runs fit

  client_ok : is_client w u ≡ true
  client_ok = fits.client_ok script commands state command runs fit

  column_ok : (d : ℕ) → d < script.shape.colours → is_column w (home_of w u) d ≡ true
  column_ok = fits.column_ok script commands state command runs fit

  -- steps lead there, and the answer is explained then
  done : (w' : World) (answer : Answer) → Leads S u what w w'
      → ((kept : Kept) → IsKeptBy w u kept
      → (after : Kept) × IsKeptBy w' u after × Explains (log_of w') caller kept what answer [] after)
      → Goal (answered state command w' answer [])
  done w' answer to says =
      runs_done script commands state command runs fit w' answer []
      (subst (λ (x : What). Does script.objects u x w w' answer []) (sym asked) (record {
        steps = to.steps;
        run = to.run;
        shape = to.shape;
        others = to.others;
        adds = to.adds;
        keeps = λ kept k. let a = says kept k in record {
          after = a.0;
          keeps = a.1;
          explains = subst (λ (x : Caller). Explains (log_of w') x kept what answer [] a.0)
              (sym (caller_same w w' script.objects u to.shape)) a.2;
        };
      })) to.finished

  -- a node that it has not played is trimmed
  refused : may_play w u c ≡ false → Goal (answered state command w (answers.Trimmed c (base_now w u c)) [])
  refused none = done w (answers.Trimmed c (base_now w u c)) (leads_nowhere S u what w runs.finished) (λ kept k. (
    kept,
    k,
    explains_decide_refused (log_of w) caller kept object key c (base_now w u c) kept
        (inl (refl, is_trimmed script.objects w runs.reached u c few client_ok (column_ok c low) kept k none, refl)),
  ))

  module _ (ok : may_play w u c ≡ true) where
    abbrev v : World
    v = after_play w u c

    to_v : Leads S u what w v
    to_v = leads_by_play S u what w c runs.finished ok

    reached_v : IsReached v
    reached_v = leads_to S u what w v runs.reached to_v

    -- what the client keeps of its sync
    module _ (kept : Kept) (k : IsKeptBy w u kept) where
      abbrev seen : Kept
      seen = shown script.objects w runs.reached u c few client_ok (column_ok c low) kept k ok

      seen_keeps : IsKeptBy v u seen
      seen_keeps = shown_keeps script.objects w runs.reached u c few client_ok (column_ok c low) kept k ok

      -- and where no answer tells of it
      abbrev unseen : Kept
      unseen = hidden script.objects w runs.reached u c few client_ok (column_ok c low) kept k ok

      unseen_keeps : IsKeptBy v u unseen
      unseen_keeps = hidden_keeps script.objects w runs.reached u c few client_ok (column_ok c low) kept k ok

      hides : HidesSyncs (log_of w) caller kept (c ∷ []) unseen
      hides = (
        played_cut w u c,
        _,
        played (length (home_history w u c)) (played_cut w u c)
            (can_sync script.objects w runs.reached u c few client_ok (column_ok c low) kept k ok),
        refl,
      )

    -- nothing waits for a decision
    settled : undecided_after part line_nodes ≡ None → Goal (answered state command v (answers.Got None sync) [])
    settled none = done v (answers.Got None sync) to_v (λ kept k. (
      seen kept k,
      seen_keeps kept k,
      subst (λ (l : Log). Explains l caller kept what (answers.Got None sync) [] (seen kept k))
          (sym (same_log script.objects w runs.reached u c few client_ok (column_ok c low)))
          (explains_settled (log_of w) caller kept object home its key (place_of (length its) key) sync line_nodes of_parts
          refl (shard_there its own.some key)
          (can_sync script.objects w runs.reached u c few client_ok (column_ok c low) kept k ok)
          (played_now script.objects w runs.reached u c) none),
    ))

    -- A TRANSACTION WAITS

    module _ (waits : Key) (is : undecided_after part line_nodes ≡ Some waits) where
      look : MayLook script.objects S u (read_stamp v u cs) v cs
      look = record {
        reached = reached_v;
        few = few;
        caller = client_ok;
        columns = λ d i. column_ok d (rising_below script.shape.colours fit.few_colours its own d i);
      }

      abbrev read_grants : Grants
      read_grants = record grants { helps = grants.read_helps }

      abbrev x : World
      x = (stamped_read read_grants v u cs).world

      did : DidRead script.objects S what refl v reached_v to_v.finished u going cs distinct look c in_cs
          (stamped_read read_grants v u cs)
      did = did_read script.objects S what refl v reached_v to_v.finished u going cs distinct look c in_cs read_grants

      to_x : Leads S u what w x
      to_x = leads_on S u what w v x runs.reached to_v (record {
        steps = did.to.steps;
        run = did.to.run;
        shape = did.to.shape;
        others = did.to.others;
        adds = did.to.adds;
        finished = did.to.finished;
      })

      reached_x : IsReached x
      reached_x = leads_to S u what w x runs.reached to_x

      called : caller_in x script.objects u ≡ caller
      called = caller_same w x script.objects u to_x.shape

      hides_in : (kept : Kept) (k : IsKeptBy w u kept) → HidesSyncs (log_of x) caller kept (c ∷ []) (unseen kept k)
      hides_in kept k =
          hides_syncs_later (log_of w) (log_of x) (later_log w x to_x.steps runs.reached to_x.run) caller kept (c ∷ [])
          (unseen kept k) (hides kept k)

      -- the read found no memory
      no_memory : ((kept : Kept) → IsKeptBy v u kept
          → KeepsHidden script.objects S what refl v reached_v to_v.finished u going cs distinct look c in_cs x kept)
          → Goal (answered state command x answers.NoMemory [])
      no_memory keeps = done x answers.NoMemory to_x (λ kept k.
          let h = keeps (unseen kept k) (unseen_keeps kept k) in (
            h.after,
            h.keeps,
            explains_decide_hidden (log_of x) caller kept object key h.after (
              unseen kept k,
              hides_in kept k,
              inr (subst (λ (d : Caller). HidesRead (log_of x) d (unseen kept k) cs h.after) called h.hides),
            ),
          ))

      -- THE READ IS WHOLE

      module _ (stamp : ℕ) (raises : List RaisePiece) (syncs : List SyncPiece) (keys : List Key)
          (ended : EndsWhole script.objects S what refl v reached_v to_v.finished u going cs distinct look c in_cs x stamp
          raises syncs keys) where
        abbrev nodes : List ObjectNode
        nodes = map (object_node_at x) keys

        abbrev commits : Bool
        commits = commits_among nodes waits

        abbrev said : List ℕ
        said = decision_text (record { key = waits; commits = commits })

        abbrev told : Ended → Answer
        told = answers.Decided commits waits.stamp sync stamp raises syncs

        abbrev set : Colours
        set = set_of (c ∷ [])

        -- the transaction is among the nodes read
        ruled : IsRuledAs waits commits nodes
        ruled =
            let there = (waiting w runs.reached u c part waits is).there in
            ruled_among w runs.reached u c part waits is x (record { steps = to_x.steps; run = to_x.run }) keys
            (ended.has c in_cs waits there (line_low v reached_v u c cs in_cs waits there))

        asks : (y : World) (kept : Kept) → AsksToAppend (caller_in y script.objects u) kept what set said
        asks y kept =
            (members-one c small ∙ sym (one_shard its key small), (record { key = waits; commits = commits }, refl))

        module _ (kept : Kept) (k : IsKeptBy w u kept) where
          abbrev read : KeepsRead script.objects S what refl v reached_v to_v.finished u going cs distinct look c in_cs x raises
              syncs (seen kept k)
          read = ended.kept (seen kept k) (seen_keeps kept k)

          reads : ReadsAt (log_of x) caller (seen kept k) cs stamp raises syncs read.after
          reads =
              subst (λ (d : Caller). ReadsAt (log_of x) d (seen kept k) cs stamp raises syncs read.after) called
              (subst (λ (n : ℕ). ReadsAt (log_of x) (caller_in x script.objects u) (seen kept k) cs n raises syncs read.after)
              (sym ended.is) read.reads)

          are_read : AreKeysRead (log_of x) caller stamp syncs keys
          are_read =
              subst (λ (d : Caller). AreKeysRead (log_of x) d stamp syncs keys) called
              (subst (λ (n : ℕ). AreKeysRead (log_of x) (caller_in x script.objects u) n syncs keys) (sym ended.is)
              ended.read)

          -- however the append of the decision ended
          explained : (y : World) → Leads S u what x y → (last : Ended) (after : Kept)
              → EndsAs (log_of y) caller read.after what said last after
              → Explains (log_of y) caller kept what (told last) [] after
          explained y to last after so =
              let all = leads_on S u what w x y runs.reached to_x to in
              let log = log_of y in
              let first : IsLater (log_of w) log = later_log w y all.steps runs.reached all.run in
              let then : IsLater (log_of x) log = later_log x y to.steps reached_x to.run in
              let synced = can_sync script.objects w runs.reached u c few client_ok (column_ok c low) kept k ok in
              explains_decided log caller kept object home its key (place_of (length its) key) sync line_nodes waits commits
              stamp raises syncs read.after keys nodes last after of_parts refl (shard_there its own.some key)
              (syncs_later (log_of w) log first caller kept c sync.events sync.counts synced)
              (subst (λ (h : List Entry). AreObjectNodes log (take (at sync.counts caller.own) (line h)) line_nodes)
              (sym (taken_same (log_of w) log first caller.own c sync.events synced.there))
              (objects_later (log_of w) log first (own_played (log_of w) caller sync) line_nodes
              (played_now script.objects w runs.reached u c)))
              is
              (subst (λ (b : Kept). ReadsAt log caller b cs stamp raises syncs read.after)
              (sym (piece_same (log_of w) log first caller kept sync synced.there))
              (read_later (log_of x) log then caller (seen kept k) cs stamp raises syncs read.after reads))
              (keys_later (log_of x) log then caller (seen kept k) cs stamp raises syncs read.after keys reads are_read)
              (objects_later (log_of x) log then keys nodes (listed_objects x reached_x keys ended.nodes))
              ruled so

        -- no memory for the node
        without : Goal (answered state command x (told ends.NoMemory) [])
        without = done x (told ends.NoMemory) to_x (λ kept k. (
          (read kept k).after,
          (read kept k).keeps,
          explained kept k x (leads_nowhere S u what x to_x.finished) ends.NoMemory (read kept k).after refl,
        ))

        few_x : home_of x u < 4
        few_x = subst (λ (s : Shape). slice_index s.homes u < 4) (sym to_x.shape) few

        client_x : is_client x u ≡ true
        client_x = subst (λ (s : Shape). nat_lt u (length s.homes) ≡ true) (sym to_x.shape) client_ok

        column_x : is_column x (home_of x u) c ≡ true
        column_x = subst (λ (s : Shape). (nat_lt (slice_index s.homes u) s.regions && nat_lt c s.colours) ≡ true)
            (sym to_x.shape) (column_ok c low)

        -- no stamp is left for it
        no_stamp : may_single x u c ≡ false → Goal (answered state command x (told (ends.StampEnd c)) [])
        no_stamp none = done x (told (ends.StampEnd c)) to_x (λ kept k.
            let a = at_end.keeps (read kept k).after (read kept k).keeps in (
              a.after,
              a.keeps,
              explained kept k x (leads_nowhere S u what x to_x.finished) (ends.StampEnd c) a.after
                  (subst (λ (d : Caller). EndsAs (log_of x) d (read kept k).after what said (ends.StampEnd c) a.after) called
                  (shows_end (read kept k).after a)),
            )) where
              at_end : Does script.objects u (whats.Append set said) x x (answers.StampEnd c) []
              at_end = did_end_one script.objects u c set said x (members-one c small) client_x column_x none

              shows_end : (kept : Kept) (a : KeptAfter x script.objects u kept (whats.Append set said) (answers.StampEnd c) [])
                  → EndsAs (log_of x) (caller_in x script.objects u) kept what said (ends.StampEnd c) a.after
              shows_end kept a =
                  let here = caller_in x script.objects u in
                  let e = a.explains.2 in (
                    set,
                    said,
                    asks x kept,
                    (
                      refl,
                      subst (λ (s : Colours). HasNoStamp (log_of x) here kept (node_of here kept s said) c a.after) e.2.0
                          (subst (λ (t : List ℕ). HasNoStamp (log_of x) here kept (node_of here kept e.0 t) c a.after) e.2.1
                          e.3),
                    ),
                  )

        -- it stands
        module _ (room : may_single x u c ≡ true) where
          abbrev y : World
          y = with_single grants x u said c

          abbrev own_stamp : ℕ
          own_stamp = single_stamp x u c

          abbrev own_point : PointPiece
          own_point = point_in x y u (next_id x u) c

          appended : Does script.objects u (whats.Append set said) x y (answers.Stood own_stamp None (own_point ∷ [])) []
          appended = one.does script.objects S grants x reached_x to_x.finished u c said going room set (members-one c small)
              refl

          finished_y : Finished S y
          finished_y = subst (Finished S)
              (sym (one.after_is script.objects S grants x reached_x to_x.finished u c said going room))
              (one.finished2 script.objects S grants x reached_x to_x.finished u c said going room)

          to_y : Leads S u what x y
          to_y = leads_by_append S script.objects u what refl set said x y (answers.Stood own_stamp None (own_point ∷ [])) []
              appended finished_y

          stood : Goal (answered state command y (told (ends.Stood own_stamp own_point)) [])
          stood = done y (told (ends.Stood own_stamp own_point)) (leads_on S u what w x y runs.reached to_x to_y)
              (λ kept k.
              let r = read kept k in
              let a = behind.shown script.objects x y reached_x u set said own_stamp None (own_point ∷ []) appended r.after
              r.keeps in (
                a.after,
                a.keeps,
                explained kept k y to_y (ends.Stood own_stamp own_point) a.after
                    (subst (λ (d : Caller). EndsAs (log_of y) d r.after what said (ends.Stood own_stamp own_point) a.after)
                    (caller_same w y script.objects u (to_y.shape ∙ to_x.shape)) (
                      set,
                      said,
                      asks y r.after,
                      (
                        refl,
                        behind.appends script.objects x y reached_x u set said own_stamp None (own_point ∷ []) appended
                            r.after r.keeps,
                      ),
                    )),
              ))

        runs_ended : Goal (decided_in grants state command waits sync x stamp raises syncs keys)
        runs_ended =
            let y = with_single grants x u said c in
            let stands : State = answered state command y
            (told (ends.Stood (single_stamp x u c) (point_in x y u (next_id x u) c))) [] in
            let none : State = answered state command x (told (ends.StampEnd c)) [] in
            choice Goal grants.own (cond (may_single x u c) stands none)
            (answered state command x (told ends.NoMemory) [])
            (λ _. choice Goal (may_single x u c) stands none stood no_stamp) (λ _. without)

      by_end : (e : ReadEnd)
          → Ends script.objects S what refl v reached_v to_v.finished u going cs distinct look c in_cs x e
          → Goal (ended_so grants state command (decided_in grants state command waits sync x) x e)
      by_end (Whole stamp raises syncs keys) ended =
          choice Goal grants.items (decided_in grants state command waits sync x stamp raises syncs keys)
          (answered state command x answers.NoMemory [])
          (λ _. runs_ended stamp raises syncs keys ended) (λ _. no_memory ended.hidden)
      by_end (Refused colour base) ended = done x (answers.Trimmed colour base) to_x (λ kept k.
          let h = ended (unseen kept k) (unseen_keeps kept k) in (
            h.after,
            h.keeps,
            explains_decide_refused (log_of x) caller kept object key colour base h.after (inr (
              unseen kept k,
              hides_in kept k,
              subst (λ (d : Caller). RefusesRead (log_of x) d (unseen kept k) cs colour base h.after) called h.refuses,
            )),
          ))
      by_end Unraised ended = no_memory ended

    by_waits : (o : Option Key) → undecided_after part line_nodes ≡ o → Goal (decided_by grants state command its sync v o)
    by_waits None is = settled is
    by_waits (Some waits) is =
        by_end waits is (stamped_read (record grants { helps = grants.read_helps }) v u cs).ends (did waits is).ends

  pub runs_decided : Goal (decided script.objects grants state command object key)
  runs_decided =
      let waits = undecided_after part line_nodes in
      choice Goal (may_play w u c) (decided_by grants state command its sync (after w (Play u c)) waits)
      (answered state command w (answers.Trimmed c (base_now w u c)) [])
      (λ ok. subst (λ (y : World). Goal (decided_by grants state command its sync y waits))
      (sym (if_true (may_play w u c) (after_play w u c) w ok)) (by_waits ok waits refl)) refused

-- the same, whichever the home and the colours of its object are
pub runs_decide : (script : Script) (commands : List Command) (state : State) (command : Command) (grants : Grants)
    → Runs script commands state → IsFit script commands command → (object : ℕ) (key : List ℕ)
    → command.what ≡ whats.Decide object key → HasObject script.objects object is_parts
    → Runs script (commands ++ command ∷ []) (decided script.objects grants state command object key)
runs_decide script commands state command grants runs fit object key asked has =
    let p = parts_of has.found.kind has.kind in
    let is : kind_in script.objects object ≡ Some (kinds.Parts p.0 p.1) =
    ap (option_map (λ (o : Object). o.kind)) has.there ∙ ap Some p.2 in
    let its : colours_of_object (caller_in state.world script.objects command.client) object ≡ p.1 =
    ap object_colours is in
    runs_decided script commands state command grants runs fit object p.0 key asked has
    (is ∙ ap (λ (l : List ℕ). Some (kinds.Parts p.0 l)) (sym its))
