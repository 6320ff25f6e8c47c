-- An append to several colours that is final.
use Rattle.std.proofs.Common.{◌≡◌, ℕ, ◌+◌, ◌<◌, ◌≤◌, max, List, [], ◌∷◌, ◌++◌, length, map, Some, true, false, inl, refl, ap, sym, subst, ◌∙◌, arith}
use Rattle.std.specs.Prelude.{nat_lt, nat_le, slice_get, slice_index, reverse}
use Rattle.std.specs.List.{list_any, list_all, range_with_len}
use Rattle.std.proofs.lemmas.Bool.{ltb-true, lt-ltb, le-leb, and_from}
use Rattle.std.proofs.lemmas.List.Elements.{All-map}
use Rattle.std.proofs.lemmas.Simd.{map-map}
use Rattle.log_node.specs.declared.ids.Id.{Id}
use Rattle.log_node.specs.declared.ids.Key.{Key}
use Rattle.log_node.specs.declared.ids.Row.{Row}
use Rattle.log_node.specs.declared.ids.Colours.{Colours}
use Rattle.log_node.specs.declared.node.At.TheVariants.{Event}
use Rattle.log_node.specs.declared.node.Node.{Node}
use Rattle.log_node.specs.declared.node.Shape.{Shape}
use Rattle.log_node.specs.Sets.{members}
use Rattle.log_node.specs.declared.marks.Mark.TheVariants as marks
use Rattle.log_node.specs.declared.marks.Outcome.TheVariants.{Final}
use Rattle.log_node.specs.Outcomes.{is_missing, is_stamp_end_fence, is_memory_fence, number_of, greatest}
use Rattle.col_core.specs.declared.Event.TheVariants as events
use Rattle.col_core.specs.History.{clock, entries, entry_key, line}
use Rattle.log_node.specs.Standings.{Standing}
use Rattle.col_core.specs.Rows.{node_wants}
use Rattle.col_core.specs.Log.{IsLater, HasOutcome}
use Rattle.col_core.specs.Keeping.{Kept, with_made, with_row, with_floor}
use Rattle.col_core.proofs.CallerLemmas.{both, if_true, outcome_stays, entry_within, entries-of, clock-of, In}
use Rattle.world_laws.specs.declared.steps.Step.{Step}
use Rattle.world_laws.specs.declared.steps.Step.TheVariants.{Begin, Seen}
use Rattle.world_laws.specs.Worlds.{World, ClientState, home_of, home_history, after, run_steps, is_begun, row_of, next_id, next_row, is_client, is_column, may_begin, may_see, begun_node, after_begin, after_seen}
use Rattle.world_laws.specs.Completing.{complete_steps}
use Rattle.world_laws.specs.Laws.{IsReached, log_of, StandsAsDecided}
use Rattle.world_laws.proofs.CallerLemmas.{updated-here, in_contains, contains_in, in_colours, final_is}
use Rattle.world_laws.proofs.CallerLemmas.{number_within, lawful_past_in, next_absent, begun_client, can_complete}
use Rattle.world_laws.proofs.CallerLemmas.{after_reached, run_steps-append, all_in, in_map}
use Rattle.script_text.specs.declared.script.Object.{Object}
use Rattle.script_text.specs.declared.commands.What.TheVariants as whats
use Rattle.report_text.specs.declared.report.PointPiece.{PointPiece}
use Rattle.report_text.specs.declared.report.Answer.TheVariants as answers
use Rattle.lawful_run.specs.Callers.{Caller, node_of}
use Rattle.lawful_run.specs.Appends.{StandsAt, AppendsSeveral, kept_after_points}
use Rattle.lawful_run.specs.Explains.{Explains}
use Rattle.lawful_run.proofs.CallerLemmas.{PointsLeave, get_within, points_leave, prefix_get, prefix_length}
use Rattle.script_meaning.specs.States.{Grants, position_of}
use Rattle.script_meaning.specs.Helping.{all_cleared}
use Rattle.script_meaning.specs.Appends.{point_in}
use Rattle.script_meaning.proofs.World.Rows.{node_id, standing_as}
use Rattle.script_meaning.proofs.World.Completions.{IsOn}
use Rattle.script_meaning.proofs.World.Additions.{adds_trans, adds_map, HelpIn}
use Rattle.script_meaning.proofs.World.Reached.{held_of, told_of}
use Rattle.script_meaning.proofs.World.Clearing.{Finished, helped_reached, helped_finished, ClearsAll, clear_all}
use Rattle.script_meaning.proofs.World.Lines.{stands_there, final_stays, absent_line, position_behind}
use Rattle.script_meaning.proofs.Client.Kept.{caller_in, IsKeptBy, MadeBy, made_helping, Does, later_log}
use Rattle.script_meaning.proofs.Append.AppendOne.{caller_same, updated-not, helped_places}
use Rattle.script_meaning.proofs.Append.BeginRow as begun
use Rattle.script_meaning.proofs.Append.FirstProposal.{ProposesFirst, proposes_first, in_any}
use Rattle.script_meaning.proofs.Lists.{range_in, some_in, each_of, map_same}
use Rattle.script_meaning.proofs.Append.AppendSeveral as several
use Rattle.script_meaning.proofs.Client.OwnEvents.{finished_client}
use Rattle.script_meaning.proofs.Append.Points.{made_seen, IsBounded, IsBoundedPoint, points_kept}

module _ (objects : List Object) (S : ℕ → Type 0) (grants : Grants) (w : World) (reached : IsReached w)
    (fin : Finished S w)
    (u : ℕ) (colours : Colours) (text : List ℕ) (free : S u → ⊥) (ok : may_begin w u colours ≡ true) where
  abbrev own : ℕ
  own = home_of w u

  abbrev id : Id
  id = next_id w u

  abbrev row : Row
  row = next_row w u

  abbrev w1 : World
  w1 = after_begin w u colours text

  abbrev L : List Step
  L = complete_steps w1 u row grants.marks

  abbrev w3 : World
  w3 = run_steps w1 L

  abbrev on : (s : Step) → In s L → IsOn u row s
  on = several.on objects S grants w reached fin u colours text free ok

  reached3 : IsReached w3
  reached3 = several.reached3 objects S grants w reached fin u colours text free ok

  begun3 : is_begun w3 row ≡ true
  begun3 = several.begun3 objects S grants w reached fin u colours text free ok

  node3 : (row_of w3 row).node ≡ begun_node w u colours text
  node3 = several.node3 objects S grants w reached fin u colours text free ok

  shape3 : w3.shape ≡ w.shape
  shape3 = several.shape3 objects S grants w reached fin u colours text free ok

  mine3 : w3.clients u ≡ begun_client w u
  mine3 = begun.mine3 objects w reached u colours text ok L on

  module _ (f : ℕ) (e : (row_of w3 row).last ≡ Final f) where
    marks_final : (list_any is_missing (map (row_of w3 row).marks (members colours)) ≡ false)
        × (list_any is_stamp_end_fence (map (row_of w3 row).marks (members colours)) ≡ false)
        × (list_any is_memory_fence (map (row_of w3 row).marks (members colours)) ≡ false)
        × (greatest (map number_of (map (row_of w3 row).marks (members colours))) ≡ f)
    marks_final = final_is (map (row_of w3 row).marks (members colours)) f
        (sym (several.last_is objects S grants w reached fin u colours text free ok) ∙ e)

    number : (c : ℕ) → In c (members colours) → (s : ℕ) × ((row_of w3 row).marks c ≡ marks.Number s)
    number c i = several.mark_number ((row_of w3 row).marks c)
        (several.not_any is_missing (row_of w3 row).marks (members colours) c i marks_final.0)
        (several.not_any is_stamp_end_fence (row_of w3 row).marks (members colours) c i marks_final.1)
        (several.not_any is_memory_fence (row_of w3 row).marks (members colours) c i marks_final.2)

    first : (c : ℕ) → In c (members colours) → ProposesFirst w w3 u (begun_node w u colours text) row c
    first c i =
        let n = number c i in
        let p = ((told_of w3 reached3).rows u (w.clients u).used (ltb-true _ _ begun3)).numbers c n.0 n.1 in
        proposes_first objects w reached u colours text ok L on c p.0 p.1 p.2 p.3
        (ap (λ (s : Shape). slice_get (w3.histories (slice_index s.homes u) c) p.0) (sym shape3) ∙ p.4)
        (p.5 ∙ ap (λ (x : Node). events.Propose x.id p.2 p.3) node3)

    stamp_within : (c : ℕ) (i : In c (members colours)) → (first c i).entry.stamp ≤ f
    stamp_within c i =
        let a = number_within (row_of w3 row).marks (members colours) c (first c i).entry.stamp
        (in_colours (members colours) c i) (first c i).mark in
        let b = marks_final.3 in
        omega (arith, a, b)

    final3 : (c : ℕ) → In c (members colours) → In (standing_as f id true) (entries (w3.histories own c))
    final3 c i =
        let comp = can_complete w1
        (held_of w1 (several.reached1 objects S grants w reached fin u colours text free ok)) u row
        grants.marks (several.begun1 objects S grants w reached fin u colours text free ok) in
        let st = subst (StandsAsDecided w3 row) e comp.stands in
        let x = in_contains _ _ (st c (contains_in _ _ (subst (λ (l : List ℕ). In c l)
        (sym (several.colours_are objects S grants w reached fin u colours text free ok)) i))) in
        subst (λ (n : Id). In (standing_as f n true) (entries (w3.histories own c))) (ap (λ (n : Node). n.id) node3)
        (subst (λ (s : Shape). In (standing_as f (node_id w3 row) true)
        (entries (w3.histories (slice_index s.homes u) c)))
        shape3 x)

    begin_parts : (1 < length (members colours))
        × (list_all (is_column w own) (members colours) ≡ true) × (is_client w u ≡ true)
    begin_parts =
        let a = both (is_client w u) _ ok in
        let b = both (nat_lt (w.clients u).used w.shape.rows) _ a.1 in
        let c = both (nat_lt 1 (length (members colours))) _ b.1 in
        (ltb-true 1 (length (members colours)) c.0, c.1, a.0)

    above : (w.clients u).floor < f
    above =
        let c = some_in (members colours) begin_parts.0 in
        let a = (first c.0 c.1).above in
        let b = stamp_within c.0 c.1 in
        omega (arith, a, b)

    clock_there : (c : ℕ) → In c (members colours) → f ≤ clock (w3.histories own c)
    clock_there c i =
        let h = held_of w3 reached3 in
        let x = entry_within (reverse (w3.histories own c)) (lawful_past_in w3 h own c) (standing_as f id true)
        (subst (λ (es : List Standing). In (standing_as f id true) es) (entries-of (w3.histories own c))
        (final3 c i)) in
        subst (λ (n : ℕ). f ≤ n) (sym (clock-of (w3.histories own c))) x

    sees : may_see w3 u f ≡ true
    sees =
        let c = some_in (members colours) begin_parts.0 in
        let column = each_of (is_column w own) (members colours) begin_parts.1 c.0 c.1 in
        let colour = ltb-true c.0 w.shape.colours (both (nat_lt own w.shape.regions) _ column).1 in
        let a = above in
        let fl : (w3.clients u).floor ≡ (w.clients u).floor = ap (λ (s : ClientState). s.floor) mine3 in
        and_from (is_client w3 u) _
        (ap (λ (s : Shape). nat_lt u (length s.homes)) shape3 ∙ begin_parts.2)
        (and_from (nat_lt (w3.clients u).floor f) _ (lt-ltb _ _ (omega (arith, a, fl)))
        (in_any (λ colour. nat_le f (clock (home_history w3 u colour))) (range_with_len 0 w3.shape.colours) c.0
        (range_in 0 w3.shape.colours c.0 (omega arith)
        (subst (λ (s : Shape). c.0 < 0 + s.colours) (sym shape3) (omega (arith, colour))))
        (le-leb f (clock (home_history w3 u c.0))
        (subst (λ (s : Shape). f ≤ clock (w3.histories (slice_index s.homes u) c.0)) (sym shape3)
        (clock_there c.0 c.1)))))

    abbrev w5 : World
    w5 = after_seen w3 u f

    seen_is : after w3 (Seen u f) ≡ w5
    seen_is = if_true (may_see w3 u f) w5 w3 sees

    reached5 : IsReached w5
    reached5 = subst IsReached seen_is (after_reached w3 (Seen u f) reached3)

    finished5 : Finished S w5
    finished5 = finished_client S w3 u (record (w3.clients u) { floor = f }) refl
        (several.finished3 objects S grants w reached fin u colours text free ok)

    abbrev key : Key
    key = entry_key f id

    abbrev w6 : World
    w6 = all_cleared grants u key (members colours) w5

    clears : ClearsAll u own (members colours) key w5 w6
    clears = clear_all S grants u own key (members colours) w5 reached5 finished5 free
        (ap (λ (s : Shape). slice_index s.homes u) shape3)

    reached6 : IsReached w6
    reached6 = helped_reached u own w5 w6 clears.helped reached5

    pub finished6 : Finished S w6
    finished6 = helped_finished S u own w5 w6 clears.helped finished5

    shape6 : w6.shape ≡ w.shape
    shape6 = clears.helped.shape ∙ shape3

    pub after_is : all_cleared grants u key (members colours) (after w3 (Seen u f)) ≡ w6
    after_is = ap (λ (x : World). all_cleared grants u key (members colours) x) seen_is

    run36 : run_steps w3 (Seen u f ∷ clears.helped.steps) ≡ w6
    run36 = ap (λ (x : World). run_steps x clears.helped.steps) seen_is ∙ clears.helped.run

    run6 : run_steps w (Begin u colours text ∷ (L ++ Seen u f ∷ clears.helped.steps)) ≡ w6
    run6 =
        ap (λ (x : World). run_steps x (L ++ Seen u f ∷ clears.helped.steps))
        (begun.begin_is objects w reached u colours text ok L on)
        ∙ (run_steps-append w1 L (Seen u f ∷ clears.helped.steps) ∙ run36)

    later36 : IsLater (log_of w3) (log_of w6)
    later36 = later_log w3 w6 (Seen u f ∷ clears.helped.steps) reached3 run36

    later6 : IsLater (log_of w) (log_of w6)
    later6 = later_log w w6 (Begin u colours text ∷ (L ++ Seen u f ∷ clears.helped.steps)) reached run6

    final6 : (c : ℕ) → In c (members colours) → In (standing_as f id true) (entries (w6.histories own c))
    final6 c i = final_stays (HelpIn w6 own u own) w5 w6 (held_of w5 reached5) (held_of w6 reached6) own c
        (clears.helped.adds own c) f id (final3 c i)

    abbrev position : ℕ → ℕ
    position c = position_of id (line (w6.histories own c))

    stands6 : (c : ℕ) → In c (members colours) → slice_get (line (w6.histories own c)) (position c) ≡ Some key
    stands6 c i = stands_there w6 (held_of w6 reached6) own c f id (final6 c i) (clears.clear c i)

    behind6 : (c : ℕ) → length (line (w.histories own c)) ≤ position c
    behind6 c =
        let p = later6.lines own c in
        subst (λ (l : List Key). length (line (w.histories own c)) ≤ position_of id l) p.1
        (position_behind (line (w.histories own c)) p.0 id
        (absent_line w (held_of w reached) own c id (next_absent w (held_of w reached) u own c)))

    there6 : (c : ℕ) (i : In c (members colours))
        → slice_get (w6.histories own c) (length (w.histories own c)) ≡ Some (first c i).entry
    there6 c i = prefix_get (w3.histories own c) (w6.histories own c) (length (w.histories own c)) (first c i).entry
        (later36.histories own c) (first c i).there

    abbrev point : ℕ → PointPiece
    point c = record { colour = c; at = Event (length (w.histories own c)); position = position c }

    abbrev points : List PointPiece
    points = map point (members colours)

    abbrev places : ℕ → List ℕ
    places = begun.places objects w reached u colours text ok L on

    mine6 : w6.clients u ≡ record (begun_client w u) { floor = f }
    mine6 = clears.helped.clients u
        ∙ (updated-here w3.clients u (record (w3.clients u) { floor = f })
        ∙ ap (λ (s : ClientState). record s { floor = f }) mine3)

    module _ (kept : Kept) (k : IsKeptBy w u kept) where
      abbrev caller : Caller
      caller = caller_in w objects u

      abbrev node : Node
      node = node_of caller kept colours text

      node_is : begun_node w u colours text ≡ node
      node_is = begun.node_is objects w reached u colours text ok L on kept k

      id_is : id ≡ node.id
      id_is = begun.id_is objects w reached u colours text ok L on kept k

      bounded : (p : PointPiece) → In p points
          → IsBoundedPoint own (λ r c. length (w6.histories r c)) (λ c. length (line (w6.histories own c))) p
      bounded p i = of_point (in_map point (members colours) p i) where
        of_point : (c : ℕ) × In c (members colours) × (point c ≡ p)
            → IsBoundedPoint own (λ r c. length (w6.histories r c)) (λ c. length (line (w6.histories own c))) p
        of_point x = subst (IsBoundedPoint own (λ r c. length (w6.histories r c))
            (λ c. length (line (w6.histories own c))))
            x.2 (record {
              seen = let a = get_within (w6.histories own x.0) (length (w.histories own x.0)) (first x.0 x.1).entry
                  (there6 x.0 x.1) in omega (arith, a);
              known = let a = get_within (line (w6.histories own x.0)) (position x.0) key (stands6 x.0 x.1) in
                  omega (arith, a);
            })

      same : PointsLeave kept (kept_after_points kept own points)
      same = points_leave own kept points

      all_points : IsBounded (λ r c. length (w6.histories r c)) (λ c. length (line (w6.histories own c)))
          (kept_after_points kept own points)
      all_points = points_kept own (λ r c. length (w6.histories r c))
          (λ c. length (line (w6.histories own c))) points kept
          bounded (λ r c. let a = k.seen r c in let b = prefix_length _ _ (later6.histories r c) in omega (arith, a, b))
          (λ c. let a = k.known c in let b = prefix_length _ _ (later6.lines own c) in omega (arith, a, b))

      abbrev kept' : Kept
      kept' = with_made (with_row (with_floor (kept_after_points kept own points) f)) own places

      stands_at : (c : ℕ) → In c (members colours) → StandsAt (log_of w6) caller kept node f (point c)
      stands_at c i = record {
        entered = (
          k.seen own c,
          (first c i).entry,
          there6 c i,
          (first c i).made,
          (first c i).event ∙ ap (λ (n : Node). events.Propose n.id n.floor (node_wants n c)) node_is,
        );
        stands = stands6 c i ∙ ap (λ (n : Id). Some (entry_key f n)) id_is;
        behind = let a = k.known c in let b = behind6 c in omega (arith, a, b);
      }

      appends : AppendsSeveral (log_of w6) caller kept node f points places
      appends = record {
        begins = begun.begins_later (log_of w3) (log_of w6) later36 caller kept node places
            (begun.begins objects w reached u colours text ok L on kept k);
        outcome = outcome_stays (log_of w3) (log_of w6) later36 node (Final f) (λ x. absurd (let y : ⊥ = cc in y))
            (subst (HasOutcome (log_of w3) node) e
            (several.has_outcome objects S grants w reached fin u colours text free ok kept k));
        colours = map-map (λ (p : PointPiece). p.colour) point (members colours)
            ∙ map_same (λ c. c) (members colours) (λ c. refl);
        each = All-map (StandsAt (log_of w6) caller kept node f) point (members colours)
            (all_in (λ c. StandsAt (log_of w6) caller kept node f (point c)) (members colours) stands_at);
        above = let a = above in let b = k.floor in omega (arith, a, b);
      }

      keeps : IsKeptBy w6 u kept'
      keeps = record {
        floor =
            let a = same.floor in
            let b = k.floor in
            let c = above in
            let m : max (kept_after_points kept own points).floor f ≡ f = omega (arith, a, b, c) in
            m ∙ ap (λ (s : ClientState). s.floor) (sym mine6);
        starts = same.starts ∙ (k.starts ∙ ap (λ (s : ClientState). s.played) (sym mine6));
        seen = made_seen own (λ r c. length (w6.histories r c))
            (with_row (with_floor (kept_after_points kept own points) f))
            places all_points.seen (λ c. begun.places_before objects w reached u colours text ok L on c
            (length (w6.histories own c))
            (prefix_length (w3.histories own c) (w6.histories own c) (later36.histories own c)));
        known = λ c. subst (λ (s : Shape). (kept_after_points kept own points).known c
            ≤ length (line (w6.histories (slice_index s.homes u) c))) (sym shape6) (all_points.known c);
        made = λ r c. helped_places u own w5 w6 clears.helped r c
            ∙ begun.own_places3 objects w reached u colours text ok L on (kept_after_points kept own points).made
            (λ a d. k.made a d ∙ ap (λ (m : ℕ → ℕ → List ℕ). m a d) (sym same.made)) r c;
        ids = ap (λ (n : ℕ). n + 1) (same.ids ∙ k.ids) ∙ ap (λ (s : ClientState). s.count) (sym mine6);
        rows = ap (λ (n : ℕ). n + 1) (same.rows ∙ k.rows) ∙ ap (λ (s : ClientState). s.used) (sym mine6);
      }

      explains : Explains (log_of w6) (caller_in w6 objects u) kept (whats.Append colours text)
          (answers.Stood f (Some row.number) points) [] kept'
      explains =
          subst (λ (x : Caller). Explains (log_of w6) x kept (whats.Append colours text)
          (answers.Stood f (Some row.number) points) [] kept') (sym (caller_same w w6 objects u shape6))
          (refl, inl refl, (colours, text, (refl, refl), (sym k.rows, places, appends, refl)))

    points_are : points ≡ map (point_in w w6 u id) (members colours)
    points_are = ap (λ (s : Shape). map (λ c. record {
      colour = c;
      at = Event (length (w.histories own c));
      position = position_of id (line (w6.histories (slice_index s.homes u) c));
    }) (members colours)) (sym shape6)

    pub does_final : let after_all = all_cleared grants u key (members colours) (after w3 (Seen u f)) in
        Does objects u (whats.Append colours text) w after_all
        (answers.Stood f (Some row.number) (map (point_in w after_all u id) (members colours))) []
    does_final =
        subst (λ (x : World). Does objects u (whats.Append colours text) w x
        (answers.Stood f (Some row.number) (map (point_in w x u id) (members colours))) []) (sym after_is)
        (subst (λ (ps : List PointPiece). Does objects u (whats.Append colours text) w w6
        (answers.Stood f (Some row.number) ps) []) points_are (record {
          steps = Begin u colours text ∷ (L ++ Seen u f ∷ clears.helped.steps);
          run = run6;
          shape = shape6;
          others = λ n ne. clears.helped.clients n
              ∙ (updated-not w3.clients u (record (w3.clients u) { floor = f }) n ne
              ∙ several.others3 objects S grants w reached fin u colours text free ok n ne);
          adds = λ r d. adds_trans (MadeBy u (whats.Append colours text) w6 own r) (w.histories r d) (w3.histories r d)
              (w6.histories r d) (several.adds3 objects S grants w reached fin u colours text free ok w6 r d)
              (adds_map (HelpIn w6 own u r) (MadeBy u (whats.Append colours text) w6 own r) (w5.histories r d)
              (w6.histories r d) (made_helping u (whats.Append colours text) w6 own r refl) (clears.helped.adds r d));
          keeps = λ kept k. record { after = kept' kept k; keeps = keeps kept k; explains = explains kept k };
        }))
