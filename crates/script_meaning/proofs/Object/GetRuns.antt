-- After a get or a peek of a map there holds what held before.
use Rattle.std.proofs.Common.{◌≡◌, ℕ, ◌<◌, List, [], ◌∷◌, ◌++◌, length, map, take, Option, Some, None, refl, ap, sym, subst, ◌∙◌, inl, inr, arith}
use Rattle.std.specs.Prelude.{◌==◌, if◌then◌else◌}
use Rattle.std.specs.List.{list_any}
use Rattle.std.specs.Option.{option_map}
use Rattle.std.proofs.lemmas.List.{take_all}
use Rattle.log_node.specs.Vectors.{at}
use Rattle.log_node.specs.declared.ids.Key.{Key}
use Rattle.log_node.specs.declared.limits.TheConstants.{MAX_COLOURS}
use Rattle.object_fold.specs.Nodes.{ObjectNode, shard_of}
use Rattle.object_fold.specs.Maps.{Value, value_among}
use Rattle.part_fold.specs.Parts.{Part, place_of, part_value, undecided_after}
use Rattle.col_core.specs.declared.Entry.{Entry}
use Rattle.col_core.specs.History.{line}
use Rattle.col_core.specs.Keeping.{Kept}
use Rattle.col_core.specs.RegionOrder.{IsClearUpTo}
use Rattle.col_core.proofs.CallerLemmas.{choice, In}
use Rattle.world_laws.specs.declared.steps.Step.TheVariants.{Play}
use Rattle.world_laws.specs.Worlds.{World, home_of, home_history, after, after_play, may_play, played_cut}
use Rattle.world_laws.specs.Laws.{IsReached, log_of}
use Rattle.world_laws.proofs.CallerLemmas.{played_client}
use Rattle.script_text.specs.declared.script.Kind.{Kind}
use Rattle.script_text.specs.declared.script.Kind.TheVariants as kinds
use Rattle.script_text.specs.declared.script.Object.{Object}
use Rattle.script_text.specs.declared.commands.What.TheVariants as whats
use Rattle.script_text.specs.declared.script.Command.{Command}
use Rattle.script_text.specs.declared.script.Script.{Script}
use Rattle.script_text.specs.Apart.{is_parts}
use Rattle.script_text.specs.Fitting.{AreObjectColours, HasObject, is_map, is_any_map}
use Rattle.report_text.specs.declared.report.Answer.{Answer}
use Rattle.report_text.specs.declared.report.Answer.TheVariants as answers
use Rattle.report_text.specs.declared.report.KeyAnswer.{KeyAnswer}
use Rattle.report_text.specs.declared.report.RaisePiece.{RaisePiece}
use Rattle.report_text.specs.declared.report.SyncPiece.{SyncPiece}
use Rattle.lawful_run.specs.Callers.{Caller}
use Rattle.lawful_run.specs.Asks.{Getting, object_colours, colours_of_object, shards}
use Rattle.lawful_run.specs.Deeds.{AsksForKey, manner_of, colours_synced}
use Rattle.lawful_run.specs.Explains.{Explains}
use Rattle.lawful_run.specs.Objects.{AreObjectNodes, own_played}
use Rattle.lawful_run.specs.Reads.{Syncs, ReadsAt, kept_after_piece}
use Rattle.lawful_run.proofs.CallerLemmas.{explains_get, explains_peek, explains_undecided, key_gets, key_synced, one_shard}
use Rattle.script_meaning.specs.States.{State, Grants, answered, kind_in}
use Rattle.script_meaning.specs.Stamped.{read_stamp, keys_read, stamped_read}
use Rattle.script_meaning.specs.Dequeues.{object_node_at, sync_now, base_now}
use Rattle.script_meaning.specs.Gets.{value_now, got_value, got, value_up_to, key_answers, keys_answer, got_keys}
use Rattle.script_meaning.specs.Parts.{part_of, nodes_now, peek_answer, peeked}
use Rattle.script_meaning.proofs.Run.FitCommands as fits
use Rattle.script_meaning.proofs.Read.AfterRead.{EndsTold, read_reached, after_read}
use Rattle.script_meaning.proofs.Read.AfterScan.{filtered_distinct}
use Rattle.script_meaning.proofs.World.Clearing.{Finished}
use Rattle.script_meaning.proofs.Object.Dequeuing.{are_objects, listed_objects}
use Rattle.script_meaning.proofs.Object.Getting.{did_get, did_refuse_get}
use Rattle.script_meaning.proofs.Run.Invariant.{IsStopped, Runs, IsFit, runs_done, free}
use Rattle.script_meaning.proofs.Client.Kept.{caller_in, IsKeptBy, KeptAfter}
use Rattle.script_meaning.proofs.Object.ObjectKinds.{object_has, parts_of}
use Rattle.script_meaning.proofs.Client.OwnEvents.{finished_client}
use Rattle.script_meaning.proofs.Object.ShardSets.{shard_below, shard_there, shards_below, key_in}
use Rattle.script_meaning.proofs.Read.ShardReads.{value_read}
use Rattle.script_meaning.proofs.Read.StampedPlays.{MayLook}
use Rattle.script_meaning.proofs.Read.StampedRaises.{AreDistinct}

-- keys with their values
pub answered_keys : (value_of : List ℕ → Value) (keys : List (List ℕ))
    → map (λ (k : KeyAnswer). k.key) (key_answers value_of keys) ≡ keys
answered_keys value_of [] = refl
answered_keys value_of (key ∷ keys) = ap (λ (l : List (List ℕ)). key ∷ l) (answered_keys value_of keys)

pub answered_values : (value_of : List ℕ → Value) (keys : List (List ℕ))
    → map (λ (k : KeyAnswer). k.value) (key_answers value_of keys) ≡ map value_of keys
answered_values value_of [] = refl
answered_values value_of (key ∷ keys) = ap (λ (l : List Value). value_of key ∷ l) (answered_values value_of keys)

map_same : (f g : List ℕ → Value) (keys : List (List ℕ)) → ((key : List ℕ) → In key keys → f key ≡ g key)
    → map f keys ≡ map g keys
map_same f g [] each = refl
map_same f g (key ∷ keys) each =
    ap (λ (v : Value). v ∷ map f keys) (each key (inl refl))
    ∙ ap (λ (l : List Value). g key ∷ l) (map_same f g keys (λ k i. each k (inr i)))

-- the nodes that the snapshot of a sync counts
pub played_now : (objects : List Object) (w : World) → IsReached w → (u c : ℕ)
    → AreObjectNodes (log_of w) (own_played (log_of w) (caller_in w objects u) (sync_now w u c)) (nodes_now w u c)
played_now objects w reached u c =
    let h = home_history w u c in
    let count = at (played_cut w u c) (home_of w u) in
    subst (λ (x : List Entry). AreObjectNodes (log_of w) (take count (line x)) (nodes_now w u c))
    (sym (take_all (length h) h (omega arith))) (are_objects w reached (home_of w u) c count)

module _ (script : Script) (commands : List Command) (state : State) (command : Command) (grants : Grants)
    (runs : Runs script commands state) (fit : IsFit script commands command) where
  abbrev u : ℕ
  u = command.client

  abbrev w : World
  w = state.world

  abbrev S : ℕ → Type 0
  S = IsStopped commands state.replies

  abbrev commands' : List Command
  commands' = commands ++ command ∷ []

  abbrev caller : Caller
  caller = caller_in w script.objects u

  -- a get that syncs a colour, whatever answer the sync explains
  pub runs_get_by : (c : ℕ) → c < script.shape.colours → manner_of command.what ≡ Getting
      → colours_synced caller command.what ≡ c ∷ [] → (answer : Answer)
      → ((kept : Kept) → Syncs (log_of w) caller kept c (length (home_history w u c)) (played_cut w u c)
      → Explains (log_of w) caller kept command.what answer []
      (kept_after_piece (log_of w) caller kept (sync_now w u c)))
      → Runs script commands' (if may_play w u c then answered state command (after w (Play u c)) answer []
      else answered state command w (answers.Trimmed c (base_now w u c)) [])
  runs_get_by c low getting synced answer says =
      let few = fits.own_few script commands state command runs fit in
      let client_ok = fits.client_ok script commands state command runs fit in
      let column_ok = fits.column_ok script commands state command runs fit c low in
      choice (Runs script commands') (may_play w u c) (answered state command (after w (Play u c)) answer [])
      (answered state command w (answers.Trimmed c (base_now w u c)) [])
      (λ ok. runs_done script commands state command runs fit (after w (Play u c)) answer []
      (did_get script.objects w runs.reached u c few client_ok column_ok command.what ok answer says)
      (choice (Finished S) (may_play w u c) (after_play w u c) w
      (λ _. finished_client S w u (played_client w u c) refl runs.finished) (λ _. runs.finished)))
      (λ refused. runs_done script commands state command runs fit w (answers.Trimmed c (base_now w u c)) []
      (did_refuse_get script.objects w runs.reached u c few client_ok column_ok command.what getting synced refused)
      runs.finished)

  -- a get of a map
  module _ (object home : ℕ) (colours key : List ℕ) (asked : AsksForKey command.what object key)
      (is_map : kind_in script.objects object ≡ Some (kinds.Map home colours))
      (has : HasObject script.objects object is_any_map) where
    abbrev c : ℕ
    c = shard_of colours key

    own_colours : AreObjectColours script.shape.colours colours
    own_colours = subst (λ (k : Option Kind). AreObjectColours script.shape.colours (object_colours k)) is_map
        (object_has script.objects script.shape.regions script.shape.colours fit.kinds object is_any_map has)

    low : c < script.shape.colours
    low = shard_below script.shape.colours colours own_colours.some own_colours.below key

    small : c < MAX_COLOURS
    small = let a = low in let b = fit.few_colours in omega (arith, a, b)

    synced : colours_synced caller command.what ≡ c ∷ []
    synced = key_synced caller command.what object key (Some (kinds.Map home colours)) asked is_map
        ∙ one_shard colours key small

    abbrev answer : Answer
    answer = answers.Got (value_now w u colours c key) (sync_now w u c)

    pub runs_get_value : Runs script commands' (got_value state command colours key)
    runs_get_value =
        runs_get_by c low (key_gets command.what object key asked) synced answer
        (λ kept syncs. explains_get (log_of w) caller kept command.what object home colours key (sync_now w u c)
        (nodes_now w u c) asked is_map small refl syncs (played_now script.objects w runs.reached u c))

  -- a peek at a map that is played by its parts
  module _ (object home : ℕ) (colours key : List ℕ) (asked : AsksForKey command.what object key)
      (of_parts : kind_in script.objects object ≡ Some (kinds.Parts home colours))
      (has : HasObject script.objects object is_parts) where
    abbrev shard : ℕ
    shard = shard_of colours key

    abbrev part : Part
    part = part_of colours key

    abbrev shard_sync : SyncPiece
    shard_sync = sync_now w u shard

    abbrev line_nodes : List ObjectNode
    line_nodes = nodes_now w u shard

    part_colours : AreObjectColours script.shape.colours colours
    part_colours = subst (λ (k : Option Kind). AreObjectColours script.shape.colours (object_colours k)) of_parts
        (object_has script.objects script.shape.regions script.shape.colours fit.kinds object is_parts has)

    shard_low : shard < script.shape.colours
    shard_low = shard_below script.shape.colours colours part_colours.some part_colours.below key

    shard_small : shard < MAX_COLOURS
    shard_small = let a = shard_low in let b = fit.few_colours in omega (arith, a, b)

    shard_synced : colours_synced caller command.what ≡ shard ∷ []
    shard_synced = key_synced caller command.what object key (Some (kinds.Parts home colours)) asked of_parts
        ∙ one_shard colours key shard_small

    -- it is answered by what the part waits for
    answers_by : (waits : Option Key) → undecided_after part line_nodes ≡ waits
        → (kept : Kept) → Syncs (log_of w) caller kept shard (length (home_history w u shard)) (played_cut w u shard)
        → Explains (log_of w) caller kept command.what
        (peek_answer waits (part_value part line_nodes key) shard_sync) []
        (kept_after_piece (log_of w) caller kept shard_sync)
    answers_by None is kept syncs =
        explains_peek (log_of w) caller kept command.what object home colours key (place_of (length colours) key) shard_sync
        (part_value part line_nodes key) line_nodes asked of_parts shard_small refl
        (shard_there colours part_colours.some key) syncs (played_now script.objects w runs.reached u shard) is refl
    answers_by (Some waits) is kept syncs =
        explains_undecided (log_of w) caller kept command.what object home colours key (place_of (length colours) key)
        shard_sync waits line_nodes asked of_parts shard_small refl (shard_there colours part_colours.some key) syncs
        (played_now script.objects w runs.reached u shard) is

    pub runs_peek_value : Runs script commands' (peeked state command colours key)
    runs_peek_value =
        runs_get_by shard shard_low (key_gets command.what object key asked) shard_synced
        (peek_answer (undecided_after part line_nodes) (part_value part line_nodes key) shard_sync)
        (answers_by (undecided_after part line_nodes) refl)

  -- the same, whichever its colours are
  pub runs_peek : (object : ℕ) (key : List ℕ) → AsksForKey command.what object key
      → HasObject script.objects object is_parts
      → Runs script commands' (got grants state command (kind_in script.objects object) key)
  runs_peek object key asked has =
      let p = parts_of has.found.kind has.kind in
      let is : kind_in script.objects object ≡ Some (kinds.Parts p.0 p.1) =
      ap (option_map (λ (o : Object). o.kind)) has.there ∙ ap Some p.2 in
      subst (λ (k : Option Kind). Runs script commands' (got grants state command k key)) (sym is)
      (runs_peek_value object p.0 p.1 key asked is has)

  -- several keys
  module _ (object : ℕ) (keys : List (List ℕ)) (one : (key : List ℕ) × In key keys)
      (asked : command.what ≡ whats.GetAll object keys) (has : HasObject script.objects object is_map) where
    abbrev its_colours : List ℕ
    its_colours = colours_of_object caller object

    abbrev cs : List ℕ
    cs = shards its_colours keys

    its_own : AreObjectColours script.shape.colours its_colours
    its_own = object_has script.objects script.shape.regions script.shape.colours fit.kinds object is_map has

    below : (c : ℕ) → In c cs → c < script.shape.colours
    below = shards_below script.shape.colours fit.few_colours its_colours its_own.some its_own.below keys

    abbrev first : ℕ
    first = shard_of its_colours one.0

    is_first : In first cs
    is_first = key_in its_colours keys one.0 one.1
        (let a = shard_below script.shape.colours its_colours its_own.some its_own.below one.0 in
        let b = fit.few_colours in omega (arith, a, b))

    distinct : AreDistinct cs
    distinct = filtered_distinct (λ c. list_any (λ k. shard_of its_colours k == c) keys) MAX_COLOURS 0

    look : MayLook script.objects S u (read_stamp w u cs) w cs
    look = fits.may_look script commands state command runs fit cs below

    going : S u → ⊥
    going = free script commands state command runs fit

    read_of : (y : World) → colours_synced (caller_in y script.objects u) command.what ≡ cs
    read_of y = ap (colours_synced (caller_in y script.objects u)) asked

    abbrev x : World
    x = (stamped_read grants w u cs).world

    reached : IsReached x
    reached = read_reached script.objects S state command grants runs.reached runs.finished going (ap manner_of asked)
        cs read_of distinct look first is_first

    told : (stamp : ℕ) (raises : List RaisePiece) (syncs : List SyncPiece) (read : List Key)
        → EndsTold script.objects S state command grants runs.reached runs.finished going (ap manner_of asked) cs
        read_of distinct look first is_first stamp raises syncs read
        → (kept : Kept) → IsKeptBy w u kept
        → KeptAfter x script.objects u kept command.what (keys_answer x u its_colours keys stamp raises syncs read) []
    told stamp raises syncs read ended kept k =
        let h = ended.kept kept k in
        let log = log_of x in
        let there = caller_in x script.objects u in
        let nodes : List ObjectNode = map (object_node_at x) read in
        let value_of : List ℕ → Value = value_up_to x u its_colours (read_stamp w u cs) in
        record {
          after = h.after;
          keeps = h.keeps;
          explains = subst (λ (n : ℕ). Explains log there kept command.what
              (keys_answer x u its_colours keys n raises syncs read) [] h.after) (sym ended.is) (
                refl,
                h.after,
                (
                  subst (λ (l : List ℕ). ReadsAt log there kept l (read_stamp w u cs) raises syncs h.after)
                      (sym (read_of x)) h.reads,
                  read,
                  ended.read,
                  nodes,
                  listed_objects x reached read ended.nodes,
                  inl (
                    object,
                    keys,
                    asked,
                    record {
                      keys_are = answered_keys value_of keys;
                      values_are = answered_values value_of keys
                          ∙ map_same value_of (value_among its_colours nodes) keys (λ y i. value_of_key read ended.keys_are
                          (λ c j. ended.clear c j) y i);
                    },
                    refl,
                  ),
                ),
              );
        } where
          value_of_key : (read : List Key) → read ≡ keys_read x u (read_stamp w u cs) cs
              → ((c : ℕ) → In c cs → IsClearUpTo (read_stamp w u cs) (home_history x u c))
              → (y : List ℕ) → In y keys
              → value_up_to x u its_colours (read_stamp w u cs) y ≡ value_among its_colours (map (object_node_at x) read) y
          value_of_key read is clear y i =
              let lt = shard_below script.shape.colours its_colours its_own.some its_own.below y in
              let few = fit.few_colours in
              let j = key_in its_colours keys y i (omega (arith, lt, few)) in
              value_read x reached u (read_stamp w u cs) cs its_colours y (omega (arith, lt, few)) j
              (clear (shard_of its_colours y) j)
              ∙ ap (λ (ks : List Key). value_among its_colours (map (object_node_at x) ks) y) (sym is)

    pub runs_get_keys : Runs script commands' (got_keys script.objects grants state command object keys)
    runs_get_keys =
        after_read script.objects S state command grants runs.reached runs.finished going (ap manner_of asked) cs
        read_of distinct look first is_first (keys_answer x u its_colours keys) (λ _. []) (Runs script commands')
        (λ answer nodes d fin. runs_done script commands state command runs fit x answer nodes d fin) told
