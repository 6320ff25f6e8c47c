-- An explained step keeps all rules.
use Rattle.std.proofs.Common.{◌≡◌, ◌∙◌, ℕ, suc, ◌+◌, Bool, true, false, List, [], ◌∷◌, length, map, Option, Some, None, refl, ap, sym, subst, ◌⊎◌, inl, inr, arith}
use Rattle.std.specs.Prelude.{◌≢◌, IsTrue, nat_lt}
use Rattle.std.specs.List.{All, AllPairs, Contains}
use Rattle.std.proofs.lemmas.Bool.{lt-ltb}
use Rattle.std.proofs.lemmas.List.Elements.{All-contains}
use Rattle.log_node.specs.declared.ids.Colours.{Colours}
use Rattle.log_node.specs.declared.ids.Key.{Key}
use Rattle.log_node.specs.declared.node.At.{At}
use Rattle.log_node.specs.declared.node.At.TheVariants.{Event, Look}
use Rattle.log_node.specs.declared.node.Node.{Node}
use Rattle.log_node.specs.declared.forms.Version.{Version}
use Rattle.log_node.specs.declared.marks.ColourMark.{ColourMark}
use Rattle.log_node.specs.Seen.{PlacedNode}
use Rattle.log_node.specs.Sets.{members}
use Rattle.object_fold.specs.Maps.{Value}
use Rattle.object_fold.specs.Nodes.{ObjectNode}
use Rattle.part_fold.specs.Decisions.{decision_text}
use Rattle.object_fold.specs.Transactions.{versions_after}
use Rattle.col_core.specs.Log.{Log}
use Rattle.col_core.specs.Rows.{BegunRow, FitsRow}
use Rattle.col_core.specs.Keeping.{Kept, kept_after_sync, kept_after_event, with_read}
use Rattle.col_core.proofs.CallerLemmas.{In, in_contains, contains_in, in_map-back}
use Rattle.script_text.specs.declared.script.Kind.{Kind}
use Rattle.script_text.specs.declared.script.Kind.TheVariants as kinds
use Rattle.script_text.specs.declared.commands.What.{What}
use Rattle.script_text.specs.declared.commands.What.TheVariants as whats
use Rattle.script_text.specs.Commands.{word_of, use_of}
use Rattle.report_text.specs.declared.report.Answer.{Answer}
use Rattle.report_text.specs.declared.report.Answer.TheVariants as answers
use Rattle.report_text.specs.declared.report.KeyAnswer.{KeyAnswer}
use Rattle.report_text.specs.declared.report.PointPiece.{PointPiece}
use Rattle.report_text.specs.declared.report.RaisePiece.{RaisePiece}
use Rattle.report_text.specs.declared.report.SyncPiece.{SyncPiece}
use Rattle.lawful_run.specs.Callers.{Caller, node_of}
use Rattle.lawful_run.specs.Asks.{Manner, Appending, Guarding, kind_asked, object_colours, rising, tells_stamp_end}
use Rattle.lawful_run.specs.Deeds.{manner_of, colours_synced, AsksToAppend}
use Rattle.lawful_run.specs.Appends.{HasNoStamp, none_for_one, none_for_several, WasNext}
use Rattle.lawful_run.specs.Stops.{Stops, stopped_at_once, stopped_after}
use Rattle.lawful_run.specs.Reads.{Syncs, ReadsAt, AreKeysRead, events_until, kept_after_piece}
use Rattle.lawful_run.specs.Objects.{AreObjectNodes}
use Rattle.lawful_run.specs.Moves.{GivesTooLow, CarriesNodes, kept_after_pull}
use Rattle.lawful_run.specs.Parts.{AnswersGet, AsksOf, EndsAs, HasValue, OfNodesPlayed, OfPart, WaitsFor}
use Rattle.lawful_run.specs.Refusals.{Refuses}
use Rattle.lawful_run.specs.Explains.{Explains, MayStand, AnswersKeys, ShowsVerdict, ShowsChange}
use Rattle.lawful_run.specs.Shapes.{TellsBehind}
use Rattle.run_rules.specs.Told.{Untold, kept_told, kept_pulled, kept_trimmed, kept_after_append, kept_after_read, kept_after_row, kept_after_stop, kept_deciding, kept_where, with_found, colours_asked, is_several, stamp_told, AreKeysFound}
use Rattle.run_rules.specs.Naming.{NamesPlace, NamesRead, GivesTo, CarriesOf, IsTrim, Has}
use Rattle.run_rules.specs.Answering.{AsksKeys, CanEnd, CanGet}
use Rattle.run_rules.specs.Rules.{with_room, StopsAsTold}
use Rattle.run_rules.specs.Shown.{OfMap, OfNodesRead, OfParts, own_key}
use Rattle.run_rules.specs.Keeping.{hides, is_sync}
use Rattle.lawful_run.proofs.CallerLemmas.{asked_kind, decide_kind, stamps_played}
use Rattle.run_rules.proofs.Deciding.{decide_asked, decide_own}
use Rattle.run_rules.proofs.EndsTold.{end_told}
use Rattle.run_rules.proofs.Facts.{Facts, asked_colours}
use Rattle.run_rules.proofs.Room.{stops_with, no_stamp_with}
use Rattle.run_rules.proofs.Explaining.{shown_sync}
use Rattle.run_rules.proofs.ReadsTold.{told_read, names_read, names_sync}
use Rattle.run_rules.proofs.AppendsTold.{with_places, AppendTold, append_told, append_as_told, steps_named}
use Rattle.run_rules.proofs.Lists.{map_map}

-- no reply leaves a thing out
abbrev pub nothing_untold : Untold
nothing_untold = with_places (λ _. [])

-- what a step tells, and that it keeps all rules
pub record StepTold (log : Log) (caller : Caller) (kept : Kept) (what : What) (nodes : List PlacedNode) (answer : Answer)
    (after : Kept) : Type 0 where
  pub untold : Untold
  pub told : after ≡ kept_told log untold caller kept what answer
  pub facts : Facts log caller untold kept what nodes answer
  pub keys : AreKeysFound untold.found answer

-- by the kind of the object
of_map : (kind : Option Kind) {Said : Type 0} → Said → OfMap kind Said
of_map (Some (kinds.Map home colours)) said = said
of_map _ said = tt

of_parts : (kind : Option Kind) {Said : Type 0} → Said → OfParts kind Said
of_parts (Some (kinds.Parts home colours)) said = said
of_parts _ said = tt

-- what is answered a value can be
can_get : (caller : Caller) (what : What) (value : Value) (sync : SyncPiece) (objects : List ObjectNode)
    → AnswersGet caller what sync value objects → CanGet caller what sync value (kind_asked caller what)
can_get caller what value sync objects (inl (kind, key, asks, has)) =
    subst (CanGet caller what sync value) (sym (asked_kind caller what sync kind key asks)) (by kind has asks) where
      by : (kind : Option Kind) → HasValue kind sync.colour key value objects → AsksOf caller what sync kind key
          → CanGet caller what sync value kind
      by (Some (kinds.Map home colours)) has asks = (key, asks)
      by (Some (kinds.Parts home colours)) has asks = inl (key, asks)
      by _ has asks = absurd has
can_get caller what value sync objects (inr (colours, asks, none, part)) =
    subst (CanGet caller what sync value) (sym (decide_kind caller what sync colours asks)) (inr (asks, none))

not_row : {P : Type 0} → IsTrue false → P
not_row t = absurd (let f : ⊥ = cc (t) in f)

module _ (log : Log) (caller : Caller) (kept : Kept)
    (apart : AllPairs (λ (r s : BegunRow). r.node.id ≢ s.node.id) (log.rows caller.own))
    (fit : All (FitsRow caller.own) (log.rows caller.own)) where
  module _ (what : What) (nodes : List PlacedNode) where
    next_stands : (points : List PointPiece) → MayStand log caller kept what points
        → (manner_of what ≡ Guarding) → All (WasNext log caller kept) points
    next_stands points (inl a) g = absurd (let f : ⊥ = cc (a, g) in f)
    next_stands points (inr n) g = n.1

    may_manner : (points : List PointPiece) → MayStand log caller kept what points
        → (manner_of what ≡ Appending) ⊎ (manner_of what ≡ Guarding)
    may_manner points (inl a) = inl a
    may_manner points (inr n) = inr n.0

    -- the colour of a mark of the node's row is a colour of the node
    marked_colour : (node : Node) → node.region ≡ caller.own → (r : BegunRow) → Contains (log.rows node.region) r
        → r.node ≡ node → (m : ColourMark) → Contains r.marks m → Contains (members node.colours) m.colour
    marked_colour node region r begun same m among =
        let f = fit_of (subst (λ (k : ℕ). In r (log.rows k)) region (in_contains (log.rows node.region) r begun)) in
        subst (λ (n : Node). Contains (members n.colours) m.colour) same
        (subst (λ (cs : List ℕ). Contains cs m.colour) f.a_mark_each
        (contains_in (map (λ (x : ColourMark). x.colour) r.marks) m.colour
        (in_map-back (λ (x : ColourMark). x.colour) r.marks m (in_contains r.marks m among))))
      where
        fit_of : In r (log.rows caller.own) → FitsRow caller.own r
        fit_of i = All-contains (FitsRow caller.own) (log.rows caller.own) r fit (contains_in (log.rows caller.own) r i)

    stamp_end : (colour : ℕ) (after : Kept) (nodes_none : nodes ≡ []) (no_stop : IsTrue (tells_stamp_end (manner_of what)))
        (colours : Colours) (text : List ℕ) → AsksToAppend caller kept what colours text
        → HasNoStamp log caller kept (node_of caller kept colours text) colour after
        → StepTold log caller kept what nodes (answers.StampEnd colour) after
    stamp_end colour _ none no_stop colours text asks (none_for_one m h) =
        let asked = asked_colours caller kept what colours text asks in
        let one : colours_asked caller kept what ≡ colour ∷ [] = sym asked ∙ m in
        let single : is_several caller kept what ≡ false = ap (λ (cs : List ℕ). nat_lt 1 (length cs)) one in
        let told : kept ≡ kept_where (is_several caller kept what) (kept_after_row nothing_untold caller kept) kept =
        ap (λ (b : Bool). kept_where b (kept_after_row nothing_untold caller kept) kept) (sym single) in record {
          untold = nothing_untold;
          told = told;
          keys = tt;
          facts = record {
            can = (none, subst (λ (cs : List ℕ). Contains cs colour) (sym one) (contains_in (colour ∷ []) colour (inl refl)));
            names = λ t. not_several single t;
            used = λ t. not_several single t;
            stands = tt;
            stops = tt;
            shows = tt;
            right = tt;
            caused = (
              no_stop,
              (
                colours,
                text,
                asks,
                subst (HasNoStamp log (with_room caller kept) kept (node_of caller kept colours text) colour) told
                    (no_stamp_with log caller kept (node_of caller kept colours text) (kept.rows + 1) colour kept
                    (λ le. omega arith) (none_for_one m h)),
              ),
            );
            room = λ t. not_several single t;
            next = tt;
            tree = tt;
            part = tt;
          };
        } where
          not_several : {P : Type 0} → is_several caller kept what ≡ false → is_several caller kept what ≡ true → P
          not_several s t = absurd (let f : ⊥ = cc (s, t) in f)
    stamp_end colour _ none no_stop colours text asks (none_for_several places g) =
        let asked = asked_colours caller kept what colours text asks in
        let le = g.begins.several in
        let l = ap length asked in
        let several : is_several caller kept what ≡ true =
        lt-ltb 1 (length (colours_asked caller kept what)) (omega (arith, le, l)) in
        let u = with_places places in
        let told : kept_after_row u caller kept
        ≡ kept_where (is_several caller kept what) (kept_after_row u caller kept) kept =
        ap (λ (b : Bool). kept_where b (kept_after_row u caller kept) kept) (sym several) in record {
          untold = u;
          told = told;
          keys = tt;
          facts = record {
            can = (
              none,
              subst (λ (cs : List ℕ). Contains cs colour) asked
                  (marked_colour (node_of caller kept colours text) refl g.ends.fence.0 g.ends.fence.1.begun
                  g.ends.fence.1.of_node _ g.ends.fence.2),
            );
            names = λ t. steps_named log caller kept (node_of caller kept colours text) refl places g.begins.steps;
            used = λ t. (colours, text, asks, g.begins.next);
            stands = tt;
            stops = tt;
            shows = tt;
            right = tt;
            caused = (
              no_stop,
              (
                colours,
                text,
                asks,
                subst (HasNoStamp log (with_room caller kept) kept (node_of caller kept colours text) colour) told
                    (no_stamp_with log caller kept (node_of caller kept colours text) (kept.rows + 1) colour
                    (kept_after_row u caller kept) (λ m. omega arith) (none_for_several places g)),
              ),
            );
            room = λ t. g.begins.room;
            next = tt;
            tree = tt;
            part = tt;
          };
        }

    stopped : (steps : ℕ) (after : Kept) → nodes ≡ [] → (colours : Colours) (text : List ℕ)
        → what ≡ whats.Stop steps colours text → Stops log caller kept (node_of caller kept colours text) steps after
        → StepTold log caller kept what nodes (answers.Stopped steps) after
    stopped _ _ none colours text is stopped_at_once = record {
      untold = nothing_untold;
      told = refl;
      keys = tt;
      facts = record {
        can = (none, ap manner_of is);
        names = tt;
        used = tt;
        stands = tt;
        stops = (colours, text, is, stopped_at_once);
        shows = tt;
        right = tt;
        caused = tt;
        room = not_row;
        next = tt;
        tree = tt;
        part = tt;
      };
    }
    stopped _ _ none colours text is (stopped_after steps places s) =
        subst (λ (n : ℕ). StepTold log caller kept what nodes (answers.Stopped n) (kept_after_row (with_places places) caller kept))
        (let e : suc steps ≡ steps + 1 = omega arith in e) (record {
          untold = with_places places;
          told = refl;
          keys = tt;
          facts = record {
            can = (none, ap manner_of is);
            names = steps_named log caller kept (node_of caller kept colours text) refl places s.begins.steps;
            used = (
              colours,
              text,
              subst (λ (w : What). AsksToAppend caller kept w colours text) (sym is) (refl, refl),
              s.begins.next,
            );
            stands = tt;
            stops = subst (λ (n : ℕ). StopsAsTold log (with_places places) caller kept what (answers.Stopped n))
                (let e : steps + 1 ≡ suc steps = omega arith in e) (
                  colours,
                  text,
                  is,
                  its_stop,
                );
            shows = tt;
            right = tt;
            caused = tt;
            room = λ t. s.begins.room;
            next = tt;
            tree = tt;
            part = tt;
          };
        }) where
          its_stop : Stops log (with_room caller kept) kept (node_of caller kept colours text) (steps + 1)
              (kept_after_stop (with_places places) caller kept (steps + 1))
          its_stop = subst (Stops log (with_room caller kept) kept (node_of caller kept colours text) (steps + 1))
              (ap (kept_after_stop (with_places places) caller kept) (let e : suc steps ≡ steps + 1 = omega arith in e))
              (stops_with log caller kept (node_of caller kept colours text) (kept.rows + 1) (steps + 1)
              (kept_after_row (with_places places) caller kept) (λ lt. omega arith) (stopped_after steps places s))

    -- a carry
    carries : (region colour count : ℕ) (carry : At) → CarriesNodes log caller kept region colour count carry
        → NamesPlace log caller kept caller.own colour (CarriesOf region) carry
    carries region colour count (Event place) c = (c.0, (_, c.3, refl, refl))
    carries region colour count (Look events) c = (c.0, c.1)

    -- gives that were too low
    low_gives : (region colour seen until : ℕ) (too_low : List ℕ)
        → All (GivesTooLow log caller region colour seen until) too_low
        → All (Has caller.client (log.histories region colour) (GivesTo caller.own)) too_low
    low_gives region colour seen until too_low all k d lt = let g = all k d lt in (_, g.1, refl, refl)

    module _ (stamp : ℕ) (shown : List KeyAnswer) (raises : List RaisePiece) (syncs : List SyncPiece) (after read : Kept)
        (none : nodes ≡ []) (reads : ReadsAt log caller kept (colours_synced caller what) stamp raises syncs read)
        (keys : List Key) (are_keys : AreKeysRead log caller stamp syncs keys)
        (objects : List ObjectNode) (are_objects : AreObjectNodes log keys objects) where
      abbrev behind : Kept
      behind = kept_after_read log caller kept stamp raises syncs

      read_told : read ≡ behind
      read_told = told_read log caller kept (colours_synced caller what) stamp raises syncs read reads

      -- the step, where these versions were found
      keys_with : (found : List Version) → after ≡ with_found (use_of what) found behind
          → AsksKeys what (map (λ (k : KeyAnswer). k.key) shown)
          → AnswersKeys caller what shown behind (with_found (use_of what) found behind) objects
          → map (λ (v : Version). v.key) found ≡ map (λ (k : KeyAnswer). k.key) shown
          → StepTold log caller kept what nodes (answers.GotKeys stamp shown raises syncs) after
      keys_with found told asks says same = record {
        untold = record { places = λ _. []; too_low = []; found = found };
        told = told;
        keys = same;
        facts = record {
          can = (none, asks, (reads.raised_colours, reads.synced_colours));
          names = names_read log caller kept (colours_synced caller what) stamp raises syncs read reads;
          used = tt;
          stands = tt;
          stops = tt;
          shows = subst (ReadsAt log caller kept (colours_synced caller what) stamp raises syncs) read_told reads;
          right = (keys, are_keys, objects, are_objects, says);
          caused = tt;
          room = not_row;
          next = tt;
          tree = tt;
          part = tt;
        };
      }

      keys_told : AnswersKeys caller what shown read after objects
          → StepTold log caller kept what nodes (answers.GotKeys stamp shown raises syncs) after
      keys_told (inl (object, asked, is, right, same)) =
          let named : KeyAnswer → Version = λ (k : KeyAnswer). record { key = k.key; writer = None } in
          let found = map named shown in
          let leaves : with_found (use_of what) found behind ≡ behind =
          ap (λ (w : What). with_found (use_of w) found behind) is in
          keys_with found (same ∙ (read_told ∙ sym leaves))
          (inl (object, is ∙ ap (whats.GetAll object) (sym right.keys_are)))
          (inl (object, asked, is, right, leaves))
          (map_map (λ (v : Version). v.key) named shown)
      keys_told (inr (object, asked, is, right, same)) =
          let found = versions_after objects asked in
          let takes : with_found (use_of what) found behind ≡ with_read behind object (Some found) =
          ap (λ (w : What). with_found (use_of w) found behind) is in
          keys_with found (same ∙ (ap (λ (k : Kept). with_read k object (Some found)) read_told ∙ sym takes))
          (inr (object, is ∙ ap (whats.Read object) (sym right.keys_are)))
          (inr (object, asked, is, right, takes))
          (map_map (λ (v : Version). v.key) _ asked ∙ (map_self asked ∙ sym right.keys_are)) where
            map_self : (xs : List (List ℕ)) → map (λ (x : List ℕ). x) xs ≡ xs
            map_self [] = refl
            map_self (x ∷ xs) = ap (λ (l : List (List ℕ)). x ∷ l) (map_self xs)

    -- a change or a commit, which reads behind its node
    module _ (row : Option ℕ) (points : List PointPiece) (stamp : ℕ) (raises : List RaisePiece) (syncs : List SyncPiece)
        (after : Kept) (Says : Key → List ObjectNode → Type 0)
        (e : TellsBehind log caller kept what row points stamp raises syncs Says after) where
      its_append : AppendTold log caller kept what e.1.3.0 row points e.1.3.1
      its_append = append_told log caller kept apart what e.1.0 e.1.1 e.1.2 e.1.3.0 row points e.1.3.1 e.1.3.2

      as_told : AppendTold log caller kept what (stamp_told log caller kept row points) row points e.1.3.1
      as_told = append_as_told its_append

      abbrev stood : Kept
      stood =
          kept_after_append (with_places as_told.places) caller kept (stamp_told log caller kept row points) row points

      its_reads : ReadsAt log caller stood (colours_synced caller what) stamp raises syncs after
      its_reads = subst (λ (k : Kept). ReadsAt log caller k (colours_synced caller what) stamp raises syncs after) as_told.told
          e.1.3.3.0

      its_told : after ≡ kept_after_read log caller stood stamp raises syncs
      its_told = told_read log caller stood (colours_synced caller what) stamp raises syncs after its_reads

      its_read : ReadsAt log caller stood (colours_synced caller what) stamp raises syncs
          (kept_after_read log caller stood stamp raises syncs)
      its_read = subst (ReadsAt log caller stood (colours_synced caller what) stamp raises syncs) its_told its_reads

      its_names : NamesRead log caller stood raises syncs
      its_names = names_read log caller stood (colours_synced caller what) stamp raises syncs after its_reads

      its_nodes : OfNodesRead log caller stamp syncs (Says (own_key caller kept (stamp_told log caller kept row points)))
      its_nodes =
          let t = e.1.3.3 in
          (t.1, t.2, t.3, t.4, subst (λ (n : ℕ). Says (own_key caller kept n) t.3) its_append.own t.5)

    pub step_told : (answer : Answer) (after : Kept) → hides (word_of what) answer ≡ false
        → Explains log caller kept what answer nodes after → StepTold log caller kept what nodes answer after
    step_told answers.NoMemory after n e = absurd (let g : ⊥ = cc (n) in g)
    step_told (answers.Stood stamp row points) after n e =
        let a = append_told log caller kept apart what e.2.0 e.2.1 e.2.2 stamp row points after e.2.3 in record {
          untold = with_places a.places;
          told = a.told;
          keys = tt;
          facts = record {
            can = (e.0, may_manner points e.1, a.has_points);
            names = a.names;
            used = (a.node, a.enters);
            stands = a.stands;
            stops = tt;
            shows = tt;
            right = tt;
            caused = tt;
            room = a.room;
            next = next_stands points e.1;
            tree = tt;
            part = tt;
          };
        }
    step_told (answers.StampEnd colour) after n e = stamp_end colour after e.0 e.1 e.2.0 e.2.1 e.2.2 e.2.3
    step_told (answers.Full used) after n e =
        let asked = asked_colours caller kept what e.3.0 e.3.1 e.3.2 in
        let le = e.3.3.several in
        let l = ap length asked in record {
          untold = nothing_untold;
          told = e.2;
          keys = tt;
          facts = record {
            can = (e.0, lt-ltb 1 (length (colours_asked caller kept what)) (omega (arith, le, l)));
            names = tt;
            used = tt;
            stands = tt;
            stops = tt;
            shows = tt;
            right = tt;
            caused = (e.1, e.3);
            room = not_row;
            next = tt;
            tree = tt;
            part = tt;
          };
        }
    step_told (answers.Stopped steps) after n e = stopped steps after e.0 e.1 e.2 e.3 e.4
    step_told (answers.Synced sync plays) after n e = record {
      untold = nothing_untold;
      told = e.4 ∙ ap (kept_after_sync kept caller.own sync.colour sync.events sync.counts)
          (stamps_played log caller kept sync.colour sync.events sync.counts nodes e.3);
      keys = tt;
      facts = record {
        can = e.0;
        names = names_sync log caller kept sync e.2;
        used = tt;
        stands = tt;
        stops = tt;
        shows = (e.1, e.2, e.3);
        right = tt;
        caused = tt;
        room = not_row;
        next = tt;
        tree = tt;
        part = tt;
      };
    }
    step_told (answers.Scanned stamp count raises syncs) after n e =
        let told = told_read log caller kept (members e.0) stamp raises syncs after e.3 in
        let reads = subst (λ (cs : List ℕ). ReadsAt log caller kept cs stamp raises syncs after)
        (sym (ap (colours_synced caller) e.1)) e.3 in record {
          untold = nothing_untold;
          told = told;
          keys = tt;
          facts = record {
            can = (e.0, e.1, (e.3.raised_colours, e.3.synced_colours));
            names = names_read log caller kept (members e.0) stamp raises syncs after e.3;
            used = tt;
            stands = tt;
            stops = tt;
            shows = (
              e.2,
              subst (ReadsAt log caller kept (colours_synced caller what) stamp raises syncs) told reads,
              e.4,
              e.5,
              e.6,
            );
            right = tt;
            caused = tt;
            room = not_row;
            next = tt;
            tree = tt;
            part = tt;
          };
        }
    step_told (answers.Pulled count give carry) after n e =
        let p = e.7 in record {
          untold = record { places = λ _. []; too_low = e.6; found = [] };
          told = e.8
              ∙ (ap (λ (g : At). kept_after_pull kept caller.own e.1 e.2 (events_until g) carry e.6) (sym e.5)
              ∙ ap (λ (w : What). kept_pulled (record { places = λ _. []; too_low = e.6; found = [] }) caller kept w give carry)
              (sym e.3));
          keys = tt;
          facts = record {
            can = (e.0, e.1, e.2, e.3);
            names = (
              e.1,
              e.2,
              e.3,
              (
                low_gives e.1 e.2 (kept.seen caller.own e.2) (events_until carry) e.6 p.made_again,
                subst (NamesPlace log caller kept e.1 e.2 (GivesTo caller.own)) (sym e.5)
                    (p.unseen, (_, p.gives, refl, refl)),
                carries e.1 e.2 count carry p.carries,
              ),
            );
            used = tt;
            stands = tt;
            stops = tt;
            shows = (e.1, e.2, e.3, e.4, e.5, p);
            right = tt;
            caused = tt;
            room = not_row;
            next = tt;
            tree = tt;
            part = tt;
          };
        }
    step_told answers.SameRegion after n e = record {
      untold = nothing_untold;
      told = e.1;
      keys = tt;
      facts = record {
        can = (e.0, caller.own, e.2, e.3);
        names = tt;
        used = tt;
        stands = tt;
        stops = tt;
        shows = tt;
        right = tt;
        caused = (e.2, e.3);
        room = not_row;
        next = tt;
        tree = tt;
        part = tt;
      };
    }
    step_told (answers.Based given base) after n e = record {
      untold = nothing_untold;
      told = e.6
          ∙ (ap (λ (g : At). kept_after_event kept caller.own e.1 (events_until g)) (sym e.4)
          ∙ ap (λ (w : What). kept_trimmed caller kept w given) (sym e.2));
      keys = tt;
      facts = record {
        can = (e.0, e.1, e.2);
        names = (
          e.1,
          e.2,
          subst (NamesPlace log caller kept caller.own e.1 IsTrim) (sym e.4) (e.5.unseen, (_, e.5.trimmed, refl, tt)),
        );
        used = tt;
        stands = tt;
        stops = tt;
        shows = (e.1, e.2, e.3, e.4, e.5);
        right = tt;
        caused = tt;
        room = not_row;
        next = tt;
        tree = tt;
        part = tt;
      };
    }
    step_told (answers.Got value sync) after n e = record {
      untold = nothing_untold;
      told = e.3;
      keys = tt;
      facts = record {
        can = (e.0, can_get caller what value sync e.1.0 e.1.2);
        names = names_sync log caller kept sync e.2;
        used = tt;
        stands = tt;
        stops = tt;
        shows = e.2;
        right = of_map (kind_asked caller what) e.1;
        caused = tt;
        room = not_row;
        next = tt;
        tree = tt;
        part = of_parts (kind_asked caller what) e.1;
      };
    }
    step_told (answers.GotMany values sync) after n e = record {
      untold = nothing_untold;
      told = e.7;
      keys = tt;
      facts = record {
        can = (e.0, e.1, e.2, e.3, e.4);
        names = names_sync log caller kept sync e.5;
        used = tt;
        stands = tt;
        stops = tt;
        shows = e.5;
        right = (e.1, e.2, e.3, e.4, e.6);
        caused = tt;
        room = not_row;
        next = tt;
        tree = tt;
        part = tt;
      };
    }
    step_told (answers.GotKeys stamp shown raises syncs) after n e =
        let t = e.2 in keys_told stamp shown raises syncs after e.1 e.0 t.0 t.1 t.2 t.3 t.4 t.5
    step_told (answers.Ruled conflict stamp row points read_stamp raises syncs) after n e =
        let a = as_told row points read_stamp raises syncs after (ShowsVerdict conflict stamp) e.1 in record {
          untold = with_places a.places;
          told = its_told row points read_stamp raises syncs after (ShowsVerdict conflict stamp) e.1;
          keys = tt;
          facts = record {
            can = (e.0, e.1.0, a.has_points, (e.1.1.3.3.0.raised_colours, e.1.1.3.3.0.synced_colours));
            names = (a.names, its_names row points read_stamp raises syncs after (ShowsVerdict conflict stamp) e.1);
            used = (a.node, a.enters);
            stands = a.stands;
            stops = tt;
            shows = its_read row points read_stamp raises syncs after (ShowsVerdict conflict stamp) e.1;
            right = its_nodes row points read_stamp raises syncs after (ShowsVerdict conflict stamp) e.1;
            caused = tt;
            room = a.room;
            next = tt;
            tree = tt;
            part = tt;
          };
        }
    step_told (answers.Changed failed stamp row points read_stamp raises syncs) after n e =
        let a = as_told row points read_stamp raises syncs after (ShowsChange failed stamp) e.1 in record {
          untold = with_places a.places;
          told = its_told row points read_stamp raises syncs after (ShowsChange failed stamp) e.1;
          keys = tt;
          facts = record {
            can = (e.0, e.1.0, a.has_points, (e.1.1.3.3.0.raised_colours, e.1.1.3.3.0.synced_colours));
            names = (a.names, its_names row points read_stamp raises syncs after (ShowsChange failed stamp) e.1);
            used = (a.node, a.enters);
            stands = a.stands;
            stops = tt;
            shows = its_read row points read_stamp raises syncs after (ShowsChange failed stamp) e.1;
            right = tt;
            caused = tt;
            room = a.room;
            next = tt;
            tree = its_nodes row points read_stamp raises syncs after (ShowsChange failed stamp) e.1;
            part = tt;
          };
        }
    step_told (answers.Listed names stamp raises syncs) after n e =
        let t = e.4 in
        let told = told_read log caller kept (colours_synced caller what) stamp raises syncs after t.0 in record {
          untold = nothing_untold;
          told = told;
          keys = tt;
          facts = record {
            can = (e.0, e.1, e.2, e.3, (t.0.raised_colours, t.0.synced_colours));
            names = names_read log caller kept (colours_synced caller what) stamp raises syncs after t.0;
            used = tt;
            stands = tt;
            stops = tt;
            shows = subst (ReadsAt log caller kept (colours_synced caller what) stamp raises syncs) told t.0;
            right = tt;
            caused = tt;
            room = not_row;
            next = tt;
            tree = (e.1, e.2, e.3, (t.1, t.2, t.3, t.4, t.5));
            part = tt;
          };
        }
    step_told (answers.Undecided stamp sync) after n e =
        let u = e.1.2 in record {
          untold = nothing_untold;
          told = e.3;
          keys = tt;
          facts = record {
            can = (e.0, u.0, u.1, u.2, u.3);
            names = names_sync log caller kept sync e.2;
            used = tt;
            stands = tt;
            stops = tt;
            shows = e.2;
            right = tt;
            caused = tt;
            room = not_row;
            next = tt;
            tree = tt;
            part = e.1;
          };
        }
    step_told (answers.Decided commits stamp sync read_stamp raises syncs ended) after n e =
        let d = e.3 in
        let own : object_colours (kind_asked caller what) ≡ e.1 = decide_own caller what sync e.1 e.2 in
        let piece = kept_after_piece log caller kept sync in
        let read = kept_deciding log caller kept sync read_stamp raises syncs in
        let told : d.read ≡ read = told_read log caller piece (rising e.1) read_stamp raises syncs d.read d.tells.0 in
        let said = decision_text (record { key = d.waits; commits = commits }) in
        let end = end_told log caller read apart what sync e.1 e.2 said ended after
        (subst (λ (k : Kept). EndsAs log caller k what said ended after) told d.ends) in
        let t = d.tells in record {
          untold = with_places end.places;
          told = end.told;
          keys = tt;
          facts = record {
            can = (
              e.0,
              e.1,
              e.2,
              (t.0.raised_colours, t.0.synced_colours),
              subst (λ (cs : List ℕ). CanEnd cs ended) (decide_asked caller what sync e.1 e.2 read kept) end.can,
            );
            names = (
              names_sync log caller kept sync d.synced,
              names_read log caller piece (rising e.1) read_stamp raises syncs d.read t.0,
              end.names,
            );
            used = end.used;
            stands = end.stands;
            stops = tt;
            shows = (
              d.synced,
              subst (λ (cs : List ℕ). ReadsAt log caller piece (rising cs) read_stamp raises syncs read) (sym own)
                  (subst (ReadsAt log caller piece (rising e.1) read_stamp raises syncs) told t.0),
            );
            right = tt;
            caused = end.caused;
            room = not_row;
            next = tt;
            tree = tt;
            part = (
              d.waits,
              d.stamp_is,
              subst (λ (cs : List ℕ). OfNodesPlayed log caller sync (OfPart cs sync.colour (WaitsFor (Some d.waits)))) (sym own)
                  d.waiting,
              (t.1, t.2, t.3, t.4, t.5),
              end.says,
            );
          };
        }
    step_told (answers.Moved lined waiting colour events) after n e = record {
      untold = nothing_untold;
      told = e.5;
      keys = tt;
      facts = record {
        can = (e.0, e.1, e.2);
        names = (e.3.unseen, e.3.there);
        used = tt;
        stands = tt;
        stops = tt;
        shows = tt;
        right = tt;
        caused = tt;
        room = not_row;
        next = (e.1, e.2, e.3, e.4);
        tree = tt;
        part = tt;
      };
    }
    step_told answers.NoTx after n e = record {
      untold = nothing_untold;
      told = e.1;
      keys = tt;
      facts = record {
        can = (e.0, e.2, e.3, e.4);
        names = tt;
        used = tt;
        stands = tt;
        stops = tt;
        shows = tt;
        right = tt;
        caused = (e.2, e.3, e.4, e.5, e.6);
        room = not_row;
        next = tt;
        tree = tt;
        part = tt;
      };
    }
    step_told (answers.Took value point sync) after n e =
        let t = e.3.3 in
        let first = append_told log caller kept apart what e.3.0 e.3.1 e.3.2 t.0 None (point ∷ []) t.1 t.2 in
        let a = append_as_told first in
        let syncs = subst (λ (k : Kept). Syncs log caller k sync.colour sync.events sync.counts) a.told t.3 in
        let stands = kept_after_append (with_places a.places) caller kept (stamp_told log caller kept None (point ∷ [])) None
        (point ∷ []) in record {
          untold = with_places a.places;
          told = t.5 ∙ ap (λ (k : Kept). kept_after_piece log caller k sync) a.told;
          keys = tt;
          facts = record {
            can = (e.0, e.1, a.has_points, e.2);
            names = (a.names, names_sync log caller stands sync syncs);
            used = (a.node, a.enters);
            stands = a.stands;
            stops = tt;
            shows = syncs;
            right = t.4;
            caused = tt;
            room = a.room;
            next = tt;
            tree = tt;
            part = tt;
          };
        }
    step_told (answers.UnreadTrimmed stamp colour base) after n e = absurd (let g : ⊥ = cc (n) in g)
    step_told (answers.UnreadNoMemory stamp) after n e = absurd (let g : ⊥ = cc (n) in g)
    step_told (answers.Trimmed colour base) after n e =
        let r = subst (λ (m : Manner). Refuses log caller kept (colours_synced caller what) m colour base after)
        (shown_sync what (is_sync (word_of what)) refl n) e.2 in record {
          untold = nothing_untold;
          told = r.2;
          keys = tt;
          facts = record {
            can = (e.0, r.0, e.1);
            names = tt;
            used = tt;
            stands = tt;
            stops = tt;
            shows = tt;
            right = tt;
            caused = r.1;
            room = not_row;
            next = tt;
            tree = tt;
            part = tt;
          };
        }
    step_told (answers.NotHome home) after n e = record {
      untold = nothing_untold;
      told = e.1;
      keys = tt;
      facts = record {
        can = (e.0, home, e.2);
        names = tt;
        used = tt;
        stands = tt;
        stops = tt;
        shows = tt;
        right = tt;
        caused = (e.2, e.3);
        room = not_row;
        next = tt;
        tree = tt;
        part = tt;
      };
    }
