-- An append to one colour.
use Rattle.std.proofs.Common.{◌≡◌, ℕ, ◌+◌, ◌≤◌, max, List, [], ◌∷◌, ◌++◌, length, map, Option, Some, None, Bool, true, false, cond, refl, subst, ap, sym, ◌∙◌, inl, inr, ◌⊎◌, arith, eq-eqb, append-nil}
use Rattle.std.specs.Prelude.{◌==◌, ◌&&◌, ◌≢◌, slice_get, slice_index}
use Rattle.std.proofs.lemmas.Bool.{ltb-true, lt-ltb, ne_eqb}
use Rattle.log_node.specs.declared.ids.Id.{Id}
use Rattle.log_node.specs.declared.ids.Key.{Key}
use Rattle.log_node.specs.declared.ids.Row.{Row}
use Rattle.log_node.specs.declared.ids.Colours.{Colours}
use Rattle.log_node.specs.declared.ids.Counts.{Counts}
use Rattle.log_node.specs.declared.node.At.TheVariants.{Event}
use Rattle.log_node.specs.declared.node.Node.{Node}
use Rattle.log_node.specs.declared.node.Shape.{Shape}
use Rattle.log_node.specs.Sets.{members, set_of}
use Rattle.col_core.specs.declared.Event.TheVariants as events
use Rattle.col_core.specs.declared.Entry.{Entry}
use Rattle.col_core.specs.History.{entries, entry_key, line}
use Rattle.col_core.specs.Log.{places_from, places_of}
use Rattle.col_core.specs.Keeping.{Kept, updated, updated_at, kept_after_single}
use Rattle.col_core.proofs.CallerLemmas.{if_true, if_false, same_id-refl, In, Alone, standing_of}
use Rattle.world_laws.specs.declared.steps.Step.TheVariants.{Single}
use Rattle.world_laws.specs.Worlds.{World, ClientState, home_of, after, run_steps, is_begun, next_id, may_single, single_stamp, single_entry, single_node, after_single, with_client}
use Rattle.world_laws.specs.Laws.{IsReached, log_of}
use Rattle.world_laws.proofs.CallerLemmas.{at_updated, updated-here, at_updated_at, updated_at-here, not_place}
use Rattle.world_laws.proofs.CallerLemmas.{slice_last, status_in, Held, status-last, next_absent, same_used}
use Rattle.world_laws.proofs.CallerLemmas.{single_client, after_reached}
use Rattle.script_text.specs.declared.script.Object.{Object}
use Rattle.script_text.specs.declared.commands.What.TheVariants as whats
use Rattle.report_text.specs.declared.report.PointPiece.{PointPiece}
use Rattle.report_text.specs.declared.report.Answer.TheVariants as answers
use Rattle.lawful_run.specs.Callers.{Caller, node_of, row_taken}
use Rattle.lawful_run.specs.Appends.{AppendsOne}
use Rattle.lawful_run.specs.Explains.{Explains}
use Rattle.lawful_run.proofs.CallerLemmas.{prefix_length, get-append, get_within}
use Rattle.script_meaning.specs.States.{Grants, position_of}
use Rattle.script_meaning.specs.Helping.{all_cleared}
use Rattle.script_meaning.specs.Appends.{point_in, with_single}
use Rattle.script_meaning.proofs.World.Rows.{IsDone, single_still, done_still, in_past, standing_as}
use Rattle.script_meaning.proofs.World.Additions.{adds_trans, adds_map, adds_last, HelpIn, help_not_own, places_more, no_places}
use Rattle.script_meaning.proofs.World.Reached.{held_of, listed_of}
use Rattle.script_meaning.proofs.World.Clearing.{Finished, Helped, helped_reached, helped_finished, ClearsAll, clear_all}
use Rattle.script_meaning.proofs.World.Lines.{stands_there, final_stays, absent_line, position_behind}
use Rattle.script_meaning.proofs.Client.Kept.{caller_in, IsKeptBy, MadeBy, made_helping, Does, later_log}

pub caller_same : (w w' : World) (objects : List Object) (client : ℕ) → w'.shape ≡ w.shape
    → caller_in w' objects client ≡ caller_in w objects client
caller_same w w' objects client e = ap (λ (s : Shape). caller_of_shape s) e where
  caller_of_shape : Shape → Caller
  caller_of_shape s = record {
    client = client;
    own = slice_index s.homes client;
    regions = s.regions;
    rows = s.rows;
    objects = objects;
  }

pub updated-not : {A : Type 0} (f : ℕ → A) (k : ℕ) (x : A) (n : ℕ) → n ≢ k → updated f k x n ≡ f n
updated-not f k x n ne = if_false (n == k) x (f n) (ne_eqb n k ne)

-- helps have no places of the helper's own
pub helped_places : (by own : ℕ) (w w' : World) → Helped by own w w' → (r c : ℕ)
    → places_of by (w'.histories r c) ≡ places_of by (w.histories r c)
helped_places by own w w' h r c =
    let a = h.adds r c in
    ap (places_of by) a.is
    ∙ (places_more by (w.histories r c) a.more
    ∙ (ap (λ (l : List ℕ). places_of by (w.histories r c) ++ l)
    (no_places (length (w.histories r c)) by a.more (λ e i same. help_not_own by e.event (a.each e i).help))
    ∙ append-nil (places_of by (w.histories r c))))

module _ (objects : List Object) (S : ℕ → Type 0) (grants : Grants) (w : World) (reached : IsReached w)
    (fin : Finished S w)
    (u c : ℕ) (text : List ℕ) (free : S u → ⊥) (ok : may_single w u c ≡ true) where
  abbrev own : ℕ
  own = home_of w u

  abbrev id : Id
  id = next_id w u

  abbrev stamp : ℕ
  stamp = single_stamp w u c

  abbrev key : Key
  key = entry_key stamp id

  abbrev h : List Entry
  h = w.histories own c

  abbrev e : Entry
  e = single_entry w u c

  abbrev w1 : World
  w1 = after_single w u c text

  abbrev w2 : World
  w2 = all_cleared grants u key (c ∷ []) w1

  held : Held w
  held = held_of w reached

  done_is : after w (Single u c text) ≡ w1
  done_is = if_true (may_single w u c) w1 w ok

  pub after_is : with_single grants w u text c ≡ w2
  after_is = ap (λ (x : World). all_cleared grants u key (c ∷ []) x) done_is

  reached1 : IsReached w1
  reached1 = subst IsReached done_is (after_reached w (Single u c text) reached)

  finished1 : Finished S w1
  finished1 row b = turn (fin row begun) where
    begun : is_begun w row ≡ true
    begun = lt-ltb _ _ (same_used w u (single_client w u c) refl row.client row.number (ltb-true _ _ b))

    turn : S row.client ⊎ IsDone w row → S row.client ⊎ IsDone w1 row
    turn (inl s) = inl s
    turn (inr d) = inr (done_still w w1 row (single_still w (held_of w reached) u c text row begun) d)

  clears : ClearsAll u own (c ∷ []) key w1 w2
  clears = clear_all S grants u own key (c ∷ []) w1 reached1 finished1 free refl

  pub reached2 : IsReached w2
  reached2 = helped_reached u own w1 w2 clears.helped reached1

  pub finished2 : Finished S w2
  finished2 = helped_finished S u own w1 w2 clears.helped finished1

  shape2 : w2.shape ≡ w.shape
  shape2 = clears.helped.shape

  history1 : w1.histories own c ≡ h ++ e ∷ []
  history1 = updated_at-here w.histories own c (h ++ e ∷ [])

  final1 : In (standing_as stamp id true) (entries (w1.histories own c))
  final1 = in_past w1 (held_of w1 reached1) own c id (standing_as stamp id true)
      (ap (standing_of id) (ap (λ (x : List Entry). status_in x id) history1
      ∙ (status-last h e id ∙ if_true _ (Alone stamp) (status_in h id) (same_id-refl id))))

  final2 : In (standing_as stamp id true) (entries (w2.histories own c))
  final2 = final_stays (HelpIn w2 own u own) w1 w2 (held_of w1 reached1) (held_of w2 reached2) own c
      (clears.helped.adds own c) stamp id final1

  abbrev position : ℕ
  position = position_of id (line (w2.histories own c))

  pub stands : slice_get (line (w2.histories own c)) position ≡ Some key
  stands = stands_there w2 (held_of w2 reached2) own c stamp id final2 (clears.clear c (inl refl))

  history2 : w2.histories own c ≡ (h ++ e ∷ []) ++ (clears.helped.adds own c).more
  history2 = (clears.helped.adds own c).is ∙ ap (λ (x : List Entry). x ++ (clears.helped.adds own c).more) history1

  entered : slice_get (w2.histories own c) (length h) ≡ Some e
  entered = ap (λ (x : List Entry). slice_get x (length h)) history2
      ∙ get-append (h ++ e ∷ []) (clears.helped.adds own c).more (length h) e (slice_last h e)

  steps_run : run_steps w (Single u c text ∷ clears.helped.steps) ≡ w2
  steps_run = ap (λ (x : World). run_steps x clears.helped.steps) done_is ∙ clears.helped.run

  pub behind : length (line h) ≤ position
  behind =
      let p = (later_log w w2 (Single u c text ∷ clears.helped.steps) reached steps_run).lines own c in
      subst (λ (l : List Key). length (line h) ≤ position_of id l) p.1
      (position_behind (line h) p.0 id (absent_line w held own c id (next_absent w held u own c)))

  abbrev point : PointPiece
  point = record { colour = c; at = Event (length h); position = position }

  longer : (r d : ℕ) → length (w.histories r d) ≤ length (w2.histories r d)
  longer r d = prefix_length (w.histories r d) (w2.histories r d)
      ((later_log w w2 (Single u c text ∷ clears.helped.steps) reached steps_run).histories r d)

  longer_line : (r d : ℕ) → length (line (w.histories r d)) ≤ length (line (w2.histories r d))
  longer_line r d = prefix_length (line (w.histories r d)) (line (w2.histories r d))
      ((later_log w w2 (Single u c text ∷ clears.helped.steps) reached steps_run).lines r d)

  mine2 : w2.clients u ≡ single_client w u c
  mine2 = clears.helped.clients u ∙ updated-here w.clients u (single_client w u c)

  module _ (colours : Colours) (one : members colours ≡ c ∷ []) (set : colours ≡ set_of (c ∷ [])) (kept : Kept)
      (k : IsKeptBy w u kept) where
    abbrev caller : Caller
    caller = caller_in w objects u

    abbrev node : Node
    node = node_of caller kept colours text

    abbrev kept' : Kept
    kept' = kept_after_single kept own c (length h) stamp position

    node_is : single_node w u c text ≡ node
    node_is =
        let a : (w.clients u).count ≡ kept.ids = sym k.ids in
        let b : set_of (c ∷ []) ≡ colours = sym set in
        let f : (w.clients u).floor ≡ kept.floor = sym k.floor in
        let s : (w.clients u).played c ∷ [] ≡ map kept.starts (members colours) =
        ap (λ (g : ℕ → Counts). g c ∷ []) (sym k.starts) ∙ ap (map kept.starts) (sym one) in
        let r : None ≡ row_taken u kept.rows (members colours) = ap (row_taken u kept.rows) (sym one) in
        ap (λ (n : ℕ). record (single_node w u c text) { id = record { client = u; count = n } }) a
        ∙ (ap (λ (n : Colours). record
        (single_node w u c text) { id = record { client = u; count = kept.ids }; colours = n }) b
        ∙ (ap (λ (n : ℕ). record
        (single_node w u c text) { id = record { client = u; count = kept.ids }; colours = colours; floor = n }) f
        ∙ (ap (λ (n : List Counts). record
        (single_node w u c text) {
          id = record { client = u; count = kept.ids };
          colours = colours;
          floor =
              kept.floor;
          wants = n;
        }) s
        ∙ ap (λ (n : Option Row). record
        (single_node w u c text) {
          id = record { client = u; count = kept.ids };
          colours = colours;
          floor =
              kept.floor;
          wants = map kept.starts (members colours);
          row = n;
        }) r)))

    entry_is : e ≡ record { by = u; event = events.Single node.id kept.floor (kept.starts c); stamp = stamp }
    entry_is =
        ap (λ (n : ℕ). record {
          by = u;
          event = events.Single (record { client = u; count = n }) (w.clients u).floor
              ((w.clients u).played c);
          stamp = stamp;
        }) (sym k.ids)
        ∙ (ap (λ (n : ℕ). record { by = u; event = events.Single node.id n ((w.clients u).played c); stamp = stamp })
        (sym k.floor)
        ∙ ap (λ (g : ℕ → Counts). record { by = u; event = events.Single node.id kept.floor (g c); stamp = stamp })
        (sym k.starts))

    id_is : id ≡ node.id
    id_is = ap (λ (n : ℕ). record { client = u; count = n }) (sym k.ids)

    next : slice_get (w2.nodes u) kept.ids ≡ Some node
    next =
        ap (λ (l : List Node). slice_get l kept.ids)
        (clears.helped.nodes u ∙ updated-here w.nodes u (w.nodes u ++ single_node w u c text ∷ []))
        ∙ (ap (slice_get (w.nodes u ++ single_node w u c text ∷ [])) (k.ids ∙ sym ((listed_of w reached).counts u))
        ∙ (slice_last (w.nodes u) (single_node w u c text) ∙ ap Some node_is))

    appends : AppendsOne (log_of w2) caller kept node c stamp (length h) position
    appends = record {
      next = next;
      entered = entered ∙ ap Some entry_is;
      unseen = k.seen own c;
      stands = stands ∙ ap (λ (i : Id). Some (entry_key stamp i)) id_is;
      behind = let a = k.known c in omega (arith, a, behind);
      above = let f = k.floor in omega (arith, f);
    }

    explains : Explains (log_of w2) (caller_in w2 objects u) kept (whats.Append colours text)
        (answers.Stood stamp None (point ∷ [])) [] kept'
    explains =
        subst (λ (x : Caller). Explains (log_of w2) x kept (whats.Append colours text)
        (answers.Stood stamp None (point ∷ [])) [] kept')
        (sym (caller_same w w2 objects u shape2))
        (refl, inl refl, (colours, text, (refl, refl), (one, length h, refl, appends, refl)))

    own_places : (r d : ℕ) → places_of u (w2.histories r d)
        ≡ updated_at kept.made own c (kept.made own c ++ length h ∷ []) r d
    own_places r d =
        helped_places u own w1 w2 clears.helped r d
        ∙ at_updated_at (λ (l : List ℕ). places_of u (w1.histories r d) ≡ l) kept.made own c
        (kept.made own c ++ length h ∷ []) r d here there where
          one_place : (k : ℕ) → places_from k u (e ∷ []) ≡ k ∷ []
          one_place k = ap (λ (b : Bool). cond (b && true) (k ∷ []) []) (eq-eqb u u refl)

          here : r ≡ own → d ≡ c → places_of u (w1.histories r d) ≡ kept.made own c ++ length h ∷ []
          here er ed =
              ap (λ (n : ℕ). places_of u (w1.histories n d)) er
              ∙ (ap (λ (n : ℕ). places_of u (w1.histories own n)) ed
              ∙ (ap (places_of u) history1
              ∙ (places_more u h (e ∷ [])
              ∙ (ap (λ (l : List ℕ). places_of u h ++ l) (one_place (length h))
              ∙ ap (λ (l : List ℕ). l ++ length h ∷ []) (k.made own c)))))

          there : ((r == own) && (d == c)) ≡ false → places_of u (w1.histories r d) ≡ kept.made r d
          there f =
              ap (places_of u) (at_updated_at (λ (x : List Entry). x ≡ w.histories r d) w.histories own c
              (h ++ e ∷ []) r d (λ er ed. absurd (not_place own c r d f er ed)) (λ _. refl)) ∙ k.made r d

    keeps : IsKeptBy w2 u kept'
    keeps = record {
      floor = let f = k.floor in
          let m : max kept.floor stamp ≡ stamp = omega (arith, f) in
          m ∙ ap (λ (x : ClientState). x.floor) (sym mine2);
      starts = k.starts ∙ ap (λ (x : ClientState). x.played) (sym mine2);
      seen = λ r d. at_updated_at (λ (n : ℕ). n ≤ length (w2.histories r d)) kept.seen own c (length h + 1) r d
          (λ er ed. subst (λ (n : ℕ). length h + 1 ≤ length (w2.histories n d)) (sym er)
          (subst (λ (n : ℕ). length h + 1 ≤ length (w2.histories own n)) (sym ed)
          (let x = get_within (w2.histories own c) (length h) e entered in omega (arith, x))))
          (λ _. let a = k.seen r d in let b = longer r d in omega (arith, a, b));
      known = λ d. subst (λ (s : Shape). updated kept.known c (position + 1) d
          ≤ length (line (w2.histories (slice_index s.homes u) d))) (sym shape2)
          (at_updated (λ (n : ℕ). n ≤ length (line (w2.histories own d))) kept.known c (position + 1) d
          (λ ed. subst (λ (n : ℕ). position + 1 ≤ length (line (w2.histories own n))) (sym ed)
          (let x = get_within (line (w2.histories own c)) position key stands in omega (arith, x)))
          (λ _. let a = k.known d in let b = longer_line own d in omega (arith, a, b)));
      made = own_places;
      ids = ap (λ (n : ℕ). n + 1) k.ids ∙ ap (λ (x : ClientState). x.count) (sym mine2);
      rows = k.rows ∙ ap (λ (x : ClientState). x.used) (sym mine2);
    }

  -- the append, as a command
  pub does : (colours : Colours) → members colours ≡ c ∷ [] → colours ≡ set_of (c ∷ [])
      → Does objects u (whats.Append colours text) w (with_single grants w u text c)
      (answers.Stood stamp None (point_in w (with_single grants w u text c) u id c ∷ [])) []
  does colours one set =
      subst (λ (x : World). Does objects u (whats.Append colours text) w x
      (answers.Stood stamp None (point_in w x u id c ∷ [])) []) (sym after_is) (record {
        steps = Single u c text ∷ clears.helped.steps;
        run = steps_run;
        shape = shape2;
        others = λ n ne. clears.helped.clients n ∙ updated-not w.clients u (single_client w u c) n ne;
        adds = λ r d. adds_trans (MadeBy u (whats.Append colours text) w2 own r) (w.histories r d) (w1.histories r d)
            (w2.histories r d)
            (adds_last (λ r _. MadeBy u (whats.Append colours text) w2 own r)
            (with_client w u (single_client w u c)) own c
            e (record { made = refl; help = λ x. absurd x }) r d)
            (adds_map (HelpIn w2 own u r) (MadeBy u (whats.Append colours text) w2 own r) (w1.histories r d)
            (w2.histories r d) (made_helping u (whats.Append colours text) w2 own r refl) (clears.helped.adds r d));
        keeps = λ kept k. record {
          after = kept' colours one set kept k;
          keeps = keeps colours one set kept k;
          explains = subst (λ (p : PointPiece). Explains (log_of w2) (caller_in w2 objects u) kept
              (whats.Append colours text) (answers.Stood stamp None (p ∷ [])) [] (kept' colours one set kept k))
              point_is (explains colours one set kept k);
        };
      }) where
        point_is : point ≡ point_in w w2 u id c
        point_is = ap (λ (s : Shape). record {
          colour = c;
          at = Event (length h);
          position = position_of id (line (w2.histories (slice_index s.homes u) c));
        }) (sym shape2)
