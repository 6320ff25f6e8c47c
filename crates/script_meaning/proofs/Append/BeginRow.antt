-- An append to several colours that has begun, and taken some steps on its row.
use Rattle.std.proofs.Common.{◌≡◌, ◌≢◌, ◌⊎◌, inl, inr, ℕ, suc, ◌+◌, ◌<◌, ◌≤◌, List, [], ◌∷◌, ◌++◌, length, map, Option, Some, true, refl, ap, sym, subst, ◌∙◌, arith, eq-eqb, append-nil}
use Rattle.std.specs.Prelude.{◌==◌, ◌&&◌, nat_lt, slice_get, slice_index}
use Rattle.std.specs.List.{All}
use Rattle.std.proofs.lemmas.Bool.{ltb-true, lt-ltb, eqb-true}
use Rattle.log_node.specs.declared.ids.Id.{Id}
use Rattle.log_node.specs.declared.ids.Row.{Row}
use Rattle.log_node.specs.declared.ids.Colours.{Colours}
use Rattle.log_node.specs.declared.ids.Counts.{Counts}
use Rattle.log_node.specs.declared.node.Node.{Node}
use Rattle.log_node.specs.declared.node.Shape.{Shape}
use Rattle.log_node.specs.Sets.{members}
use Rattle.log_node.specs.declared.marks.Mark.TheVariants as marks
use Rattle.log_node.specs.declared.marks.Outcome.TheVariants.{Open}
use Rattle.col_core.specs.declared.Entry.{Entry}
use Rattle.col_core.specs.History.{line}
use Rattle.col_core.specs.Log.{Log, IsLater, IsBegunFor, places_from, places_of}
use Rattle.col_core.specs.Keeping.{Kept, updated, with_made, with_row}
use Rattle.col_core.proofs.CallerLemmas.{by_test, both, apart, if_true, In}
use Rattle.world_laws.specs.declared.steps.Step.{Step}
use Rattle.world_laws.specs.declared.steps.Step.TheVariants.{Begin}
use Rattle.world_laws.specs.Worlds.{World, ClientState, RowState, home_of, after, run_steps, is_begun, row_of, next_id, next_row, is_client, may_begin, begun_node, after_begin}
use Rattle.world_laws.specs.Laws.{IsReached, log_of, begun_row}
use Rattle.world_laws.proofs.CallerLemmas.{at_updated, updated-here, updated_at-here, contains_in, slice_last}
use Rattle.world_laws.proofs.CallerLemmas.{slice_in, begun_client, used_before, Grows, run_grows, row_stands}
use Rattle.world_laws.proofs.CallerLemmas.{after_reached, run_reached}
use Rattle.script_text.specs.declared.script.Object.{Object}
use Rattle.lawful_run.specs.Callers.{Caller, node_of, row_taken as named_row}
use Rattle.col_core.specs.Ids.{IsStepOf}
use Rattle.lawful_run.specs.Appends.{BeginsRow}
use Rattle.lawful_run.proofs.CallerLemmas.{prefix_length, prefix_get, get_within}
use Rattle.script_meaning.proofs.World.Rows.{IsDone, IsStill, done_still, still_trans, step_still, run_still}
use Rattle.script_meaning.proofs.World.Completions.{IsOn, on_touches}
use Rattle.script_meaning.proofs.World.Additions.{StepIn, OnRow, on_steps, places_more, no_places, all_from}
use Rattle.script_meaning.proofs.World.Reached.{held_of, told_of, listed_of}
use Rattle.script_meaning.proofs.World.Clearing.{Finished}
use Rattle.script_meaning.proofs.Client.Kept.{caller_in, IsKeptBy, later_log}
use Rattle.script_meaning.proofs.Append.AppendOne.{updated-not}
use Rattle.script_meaning.proofs.Append.Points.{made_seen}

pub get_behind : {A : Type 0} (xs ys : List A) (i : ℕ) → slice_get (xs ++ ys) (length xs + i) ≡ slice_get ys i
get_behind [] ys i = let e : 0 + i ≡ i = omega arith in ap (slice_get ys) e
get_behind {A} (x ∷ xs) ys i =
    let e : suc (length xs + i) ≡ suc (length xs) + i = omega arith in
    ap (slice_get (x ∷ (xs ++ ys))) (sym e) ∙ get_behind xs ys i

-- a row that a later log has is begun for its node there, and its steps stand there
pub begins_later : (old new : Log) → IsLater old new → (caller : Caller) (kept : Kept) (node : Node)
    (places : ℕ → List ℕ)
    → BeginsRow old caller kept node places → BeginsRow new caller kept node places
begins_later old new later caller kept node places b =
    let r = later.rows node.region b.row b.begun.begun in
    record {
      several = b.several;
      next = prefix_get (old.nodes caller.client) (new.nodes caller.client) kept.ids node
          (later.nodes caller.client) b.next;
      room = b.room;
      row = r.0;
      begun = record { begun = r.1; of_node = r.2.node ∙ b.begun.of_node };
      steps = λ colour k d lt.
          let s = b.steps colour k d lt in
          (s.0, s.1, prefix_get _ _ _ _ (later.histories caller.own colour) s.2, s.3, s.4);
    }

module _ (objects : List Object) (w : World) (reached : IsReached w) (u : ℕ) (colours : Colours) (text : List ℕ)
    (ok : may_begin w u colours ≡ true) (L : List Step) (on : (s : Step) → In s L → IsOn u (next_row w u) s) where
  abbrev pub own : ℕ
  own = home_of w u

  abbrev pub id : Id
  id = next_id w u

  abbrev pub row : Row
  row = next_row w u

  abbrev pub w1 : World
  w1 = after_begin w u colours text

  abbrev pub w3 : World
  w3 = run_steps w1 L

  pub begin_is : after w (Begin u colours text) ≡ w1
  begin_is = if_true (may_begin w u colours) w1 w ok

  pub reached1 : IsReached w1
  reached1 = subst IsReached begin_is (after_reached w (Begin u colours text) reached)

  pub reached3 : IsReached w3
  reached3 = run_reached w1 L reached1

  pub steps_run : run_steps w (Begin u colours text ∷ L) ≡ w3
  steps_run = ap (λ (x : World). run_steps x L) begin_is

  mine1 : w1.clients u ≡ begun_client w u
  mine1 = updated-here w.clients u (begun_client w u)

  pub begun1 : is_begun w1 row ≡ true
  begun1 =
      let e : (w1.clients u).used ≡ (w.clients u).used + 1 = ap (λ (s : ClientState). s.used) mine1 in
      lt-ltb (w.clients u).used (w1.clients u).used (omega (arith, e))

  row1 : row_of w1 row ≡ record { node = begun_node w u colours text; marks = λ _. marks.None; last = Open }
  row1 = updated_at-here w.rows u (w.clients u).used _

  pub marks1 : (c : ℕ) → (row_of w1 row).marks c ≡ marks.None
  marks1 c = ap (λ (r : RowState). r.marks c) row1

  pub node1 : (row_of w1 row).node ≡ begun_node w u colours text
  node1 = ap (λ (r : RowState). r.node) row1

  pub grows3 : Grows w1 w3
  grows3 = run_grows w1 L

  lt1 : (w.clients u).used < (w1.clients u).used
  lt1 = ltb-true (w.clients u).used (w1.clients u).used begun1

  pub node3 : (row_of w3 row).node ≡ begun_node w u colours text
  node3 = (grows3.rows u (w.clients u).used lt1).node ∙ node1

  pub begun3 : is_begun w3 row ≡ true
  begun3 = lt-ltb (w.clients u).used (w3.clients u).used (grows3.used u (w.clients u).used lt1)

  pub on3 : OnRow own u id row L w1 w3
  on3 = on_steps w1 own u id row L begun1 (ap (λ (n : Node). n.id) node1) refl on

  pub shape3 : w3.shape ≡ w.shape
  shape3 = on3.shape

  pub mine3 : w3.clients u ≡ begun_client w u
  mine3 = on3.clients u ∙ mine1

  pub others3 : (n : ℕ) → n ≢ u → w3.clients n ≡ w.clients n
  others3 n ne = on3.clients n ∙ updated-not w.clients u (begun_client w u) n ne

  -- what came to a column of the region
  abbrev pub more : ℕ → List Entry
  more c = (on3.adds own c).more

  pub history3 : (c : ℕ) → w3.histories own c ≡ w.histories own c ++ more c
  history3 c = (on3.adds own c).is

  -- the places of the client's own steps
  abbrev pub places : ℕ → List ℕ
  places c = places_from (length (w.histories own c)) u (more c)

  -- where each of them stands, and what it is
  pub place_facts : (Q : ℕ → Type 0) (c : ℕ) → ((i : ℕ) (e : Entry) → slice_get (w3.histories own c) i ≡ Some e
      → StepIn own u id row L own c e → Q i) → All Q (places c)
  place_facts Q c h =
      all_from Q (length (w.histories own c)) u (more c) (λ i e at_i same mine.
      h (length (w.histories own c) + i) e
      (ap (λ (l : List Entry). slice_get l (length (w.histories own c) + i)) (history3 c)
      ∙ (get_behind (w.histories own c) (more c) i ∙ at_i))
      ((on3.adds own c).each e (slice_in (more c) i e at_i)))

  pub places_before : (c n : ℕ) → length (w3.histories own c) ≤ n → All (λ place. place < n) (places c)
  places_before c n le = place_facts (λ place. place < n) c
      (λ i e at_i _. let a = get_within (w3.histories own c) i e at_i in omega (arith, a, le))

  -- Other rows

  pub still3 : (other : Row) → is_begun w other ≡ true → IsStill w w3 other
  still3 other b =
      let first = subst (λ (x : World). IsStill w x other) begin_is
      (step_still w (held_of w reached) (Begin u colours text) other b (λ t. t)) in
      still_trans w w1 w3 other first
      (run_still w1 (held_of w1 reached1) L other (still_there other b)
      (λ s i t. new other b (on_touches u row other s (on s i) t))) where
        still_there : (x : Row) → is_begun w x ≡ true → is_begun w1 x ≡ true
        still_there x bx =
            let g = run_grows w (Begin u colours text ∷ []) in
            lt-ltb _ _ (subst (λ (y : World). x.number < (y.clients x.client).used) begin_is
            (g.used x.client x.number (ltb-true _ _ bx)))

        new : (x : Row) → is_begun w x ≡ true → x ≡ next_row w u → ⊥
        new x bx e =
            let lt = ltb-true _ _ bx in
            let c = ap (λ (y : Row). y.client) e in
            let n = ap (λ (y : Row). y.number) e in
            let lt2 : x.number < (w.clients u).used = subst (λ (k : ℕ). x.number < (w.clients k).used) c lt in
            omega (arith, lt2, n)

  -- a row that is begun by then was begun before, or is the append's own
  pub begun_before : (other : Row) → is_begun w3 other ≡ true → (other ≡ row) ⊎ (is_begun w other ≡ true)
  begun_before other b =
      by_test _ ((other.client == u) && (other.number == (w.clients u).used))
      (λ t. let p = both (other.client == u) _ t in
      inl (ap (λ (x : ℕ). record { client = x; number = other.number }) (eqb-true other.client u p.0)
      ∙ ap (λ (x : ℕ). record { client = u; number = x }) (eqb-true other.number (w.clients u).used p.1)))
      (λ f. inr (lt-ltb _ _ (used_before w u other.client other.number
      (subst (λ (s : ClientState). other.number < s.used) (on3.clients other.client) (ltb-true _ _ b)) f)))

  pub finished_done : (S : ℕ → Type 0) → Finished S w → IsDone w3 row → Finished S w3
  finished_done S f d other b = turn (begun_before other b) where
    turn : (other ≡ row) ⊎ (is_begun w other ≡ true) → S other.client ⊎ IsDone w3 other
    turn (inl e) = inr (subst (IsDone w3) (sym e) d)
    turn (inr before) = after_that (f other before) where
      after_that : S other.client ⊎ IsDone w other → S other.client ⊎ IsDone w3 other
      after_that (inl s) = inl s
      after_that (inr e) = inr (done_still w w3 other (still3 other before) e)

  pub finished_open : (S : ℕ → Type 0) → Finished S w → Finished (λ n. S n ⊎ (n ≡ u)) w3
  finished_open S f other b = turn (begun_before other b) where
    turn : (other ≡ row) ⊎ (is_begun w other ≡ true) → (S other.client ⊎ (other.client ≡ u)) ⊎ IsDone w3 other
    turn (inl e) = inl (inr (ap (λ (x : Row). x.client) e))
    turn (inr before) = after_that (f other before) where
      after_that : S other.client ⊎ IsDone w other → (S other.client ⊎ (other.client ≡ u)) ⊎ IsDone w3 other
      after_that (inl s) = inl (inl s)
      after_that (inr e) = inr (done_still w w3 other (still3 other before) e)

  -- What the client keeps

  pub own_places3 : (made : ℕ → ℕ → List ℕ) → ((r c : ℕ) → places_of u (w.histories r c) ≡ made r c) → (r c : ℕ)
      → places_of u (w3.histories r c) ≡ updated made own (λ d. made own d ++ places d) r c
  own_places3 made was r c =
      at_updated (λ (f : ℕ → List ℕ). places_of u (w3.histories r c) ≡ f c) made own (λ d. made own d ++ places d) r
      (λ e. ap (λ (k : ℕ). places_of u (w3.histories k c)) e
      ∙ (ap (places_of u) (history3 c)
      ∙ (places_more u (w.histories own c) (more c) ∙ ap (λ (l : List ℕ). l ++ places c) (was own c))))
      (λ f. let ne : r ≢ own = λ e. apart (r == own) (eq-eqb r own e) f in
      ap (places_of u) (on3.adds r c).is
      ∙ (places_more u (w.histories r c) (on3.adds r c).more
      ∙ (ap (λ (l : List ℕ). places_of u (w.histories r c) ++ l)
      (no_places (length (w.histories r c)) u (on3.adds r c).more
      (λ e i _. absurd (ne ((on3.adds r c).each e i).at_home)))
      ∙ (append-nil (places_of u (w.histories r c)) ∙ was r c))))

  pub longer3 : (r c : ℕ) → length (w.histories r c) ≤ length (w3.histories r c)
  longer3 r c = prefix_length (w.histories r c) (w3.histories r c)
      ((later_log w w3 (Begin u colours text ∷ L) reached steps_run).histories r c)

  pub longer_line3 : (r c : ℕ) → length (line (w.histories r c)) ≤ length (line (w3.histories r c))
  longer_line3 r c = prefix_length (line (w.histories r c)) (line (w3.histories r c))
      ((later_log w w3 (Begin u colours text ∷ L) reached steps_run).lines r c)

  module _ (kept : Kept) (k : IsKeptBy w u kept) where
    abbrev pub caller : Caller
    caller = caller_in w objects u

    abbrev pub node : Node
    node = node_of caller kept colours text

    several : 1 < length (members colours)
    several = ltb-true 1 (length (members colours))
        (both (nat_lt 1 (length (members colours))) _
        (both (nat_lt (w.clients u).used w.shape.rows) _ (both (is_client w u) _ ok).1).1).0

    room : (w.clients u).used < w.shape.rows
    room = ltb-true (w.clients u).used w.shape.rows
        (both (nat_lt (w.clients u).used w.shape.rows) _ (both (is_client w u) _ ok).1).0

    pub node_is : begun_node w u colours text ≡ node
    node_is =
        let a : (w.clients u).count ≡ kept.ids = sym k.ids in
        let f : (w.clients u).floor ≡ kept.floor = sym k.floor in
        let s : map (w.clients u).played (members colours) ≡ map kept.starts (members colours) =
        ap (λ (g : ℕ → Counts). map g (members colours)) (sym k.starts) in
        let r : Some row ≡ named_row u kept.rows (members colours) =
        ap (λ (n : ℕ). Some (record { client = u; number = n })) (sym k.rows)
        ∙ sym (if_true (nat_lt 1 (length (members colours))) _ _ (lt-ltb 1 (length (members colours)) several)) in
        ap (λ (n : ℕ). record (begun_node w u colours text) { id = record { client = u; count = n } }) a
        ∙ (ap (λ (n : ℕ). record
        (begun_node w u colours text) { id = record { client = u; count = kept.ids }; floor = n }) f
        ∙ (ap (λ (n : List Counts). record
        (begun_node w u colours text) {
          id = record { client = u; count = kept.ids };
          floor = kept.floor;
          wants =
              n;
        }) s
        ∙ ap (λ (n : Option Row). record
        (begun_node w u colours text) {
          id = record { client = u; count = kept.ids };
          floor = kept.floor;
          wants =
              map kept.starts (members colours);
          row = n;
        }) r))

    pub id_is : id ≡ node.id
    id_is = ap (λ (n : ℕ). record { client = u; count = n }) (sym k.ids)

    -- its row in the log
    pub of_row : IsBegunFor (log_of w3) node (begun_row w3 row)
    of_row = record {
      begun = contains_in _ _ (row_stands w3 (told_of w3 reached3) own u (w.clients u).used
          (ltb-true _ _ begun3) (ap (λ (s : Shape). slice_index s.homes u) shape3));
      of_node = node3 ∙ node_is;
    }

    next : slice_get (w3.nodes u) kept.ids ≡ Some node
    next =
        ap (λ (l : List Node). slice_get l kept.ids)
        (on3.nodes u ∙ updated-here w.nodes u (w.nodes u ++ begun_node w u colours text ∷ []))
        ∙ (ap (slice_get (w.nodes u ++ begun_node w u colours text ∷ [])) (k.ids ∙ sym ((listed_of w reached).counts u))
        ∙ (slice_last (w.nodes u) (begun_node w u colours text) ∙ ap Some node_is))

    places_after : (c : ℕ) → All (λ place. kept.seen own c ≤ place) (places c)
    places_after c = all_from (λ place. kept.seen own c ≤ place) (length (w.histories own c)) u (more c)
        (λ i e at_i same mine. let a = k.seen own c in omega (arith, a))

    pub begins : BeginsRow (log_of w3) caller kept node places
    begins = record {
      several = several;
      next = next;
      room = let r = k.rows in let x = room in omega (arith, r, x);
      row = begun_row w3 row;
      begun = of_row;
      steps = λ c n d lt.
          let s = place_facts (λ place. (e : Entry) × (slice_get (w3.histories own c) place ≡ Some e)
          × (e.by ≡ u) × IsStepOf node.id e.event) c
          (λ i e at_i s. (e, at_i, s.made, subst (λ (x : Id). IsStepOf x e.event) id_is s.of)) n d lt in
          (places_after c n d lt, s.0, s.1, s.2, s.3);
    }

    pub keeps3 : IsKeptBy w3 u (with_made (with_row kept) own places)
    keeps3 = record {
      floor = k.floor ∙ ap (λ (s : ClientState). s.floor) (sym mine3);
      starts = k.starts ∙ ap (λ (s : ClientState). s.played) (sym mine3);
      seen = made_seen own (λ r c. length (w3.histories r c)) (with_row kept) places
          (λ r c. let a = k.seen r c in let b = longer3 r c in omega (arith, a, b))
          (λ c. places_before c (length (w3.histories own c)) (omega arith));
      known = λ c. subst (λ (s : Shape). kept.known c ≤ length (line (w3.histories (slice_index s.homes u) c)))
          (sym shape3)
          (let a = k.known c in let b = longer_line3 own c in omega (arith, a, b));
      made = own_places3 kept.made k.made;
      ids = ap (λ (n : ℕ). n + 1) k.ids ∙ ap (λ (s : ClientState). s.count) (sym mine3);
      rows = ap (λ (n : ℕ). n + 1) k.rows ∙ ap (λ (s : ClientState). s.used) (sym mine3);
    }
