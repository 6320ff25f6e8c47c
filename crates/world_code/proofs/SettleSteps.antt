-- A decided row's node is settled in a column: what the code asks for, and what it makes of the world.
use Rattle.std.proofs.Common.{◌≡◌, ◌≢◌, ◌⊎◌, inl, inr, ℕ, ◌<◌, ◌≤◌, Bool, true, false, List, [], ◌∷◌, length, get_or}
use Rattle.std.proofs.Common.{set, Option, Some, refl, ap, sym, subst, ◌∙◌, arith}
use Rattle.std.specs.Prelude.{◌&&◌, IsSomeAnd, if◌then◌else◌}
use Rattle.std.specs.List.{list_any, find}
use Rattle.std.proofs.lemmas.Bool.{and_from, cond-true, cond-false, lt-ltb, or_left, or_right}
use Rattle.std.proofs.lemmas.List.{set-get_or}
use Rattle.log_node.specs.declared.ids.Id.{Id}
use Rattle.log_node.specs.declared.ids.Row.{Row}
use Rattle.log_node.specs.Sets.{members}
use Rattle.log_node.specs.declared.marks.Mark.TheVariants as marks
use Rattle.log_node.specs.declared.marks.Outcome.{Outcome}
use Rattle.log_node.specs.declared.marks.Outcome.TheVariants.{Open, Gone, Final}
use Rattle.log_node.specs.Standings.{Standing, open_entry, is_open_id}
use Rattle.skeen_core.specs.Queues.{has_open, is_decided, MaySettle}
use Rattle.col_core.specs.History.{last_stamp, entries}
use Rattle.col_core.specs.Legal.{IsSettling}
use Rattle.col_core.proofs.CallerLemmas.{by_test, choice}
use Rattle.col_core.proofs.CallerLemmas as pasts
use Rattle.column.specs.Columns.{ColumnState}
use Rattle.column.specs.Columns as columns
use Rattle.world_laws.specs.declared.steps.Step.TheVariants as steps
use Rattle.world_laws.specs.Worlds.{World, home_of, row_of, is_begun, may_settle, after_settle, after}
use Rattle.world_laws.specs.Worlds.{marks_of, settled_entry}
use Rattle.log_node.specs.Outcomes.{outcome_of}
use Rattle.world_laws.proofs.CallerLemmas.{Held, has_colour, final_is, number_within, greatest_within, agrees-settled}
use Rattle.world_laws.proofs.CallerLemmas.{lawful_past_in, may_settle_open, row_agrees, may_settle_is, mark-at_home}
use Rattle.world_code.specs.WorldView.{WorldView, no_column, column_at, client_at, world_of, IsPlaced, HasAppended}
use Rattle.world_code.specs.WorldView.{IsWhole}
use Rattle.world_code.proofs.AppendedNodes.{appended_settled}
use Rattle.world_code.proofs.ChangedParts.{with_column, column_world, whole_column}
use Rattle.world_code.proofs.SingleCalls.{is_held}
use Rattle.world_code.proofs.ChangedRows.{Begun}
use Rattle.world_code.proofs.MarkSteps.{home_there, columns_there, its_columns}

-- an outcome of the row's marks settles the number of each of its colours
settles_within : (w : World) (h : Held w) (row : Row) (colour s : ℕ) (last : Outcome)
    → row.number < (w.clients row.client).used → last ≡ (row_of w row).last → last ≢ Open
    → (row_of w row).marks colour ≡ marks.Number s → pasts.IsSettling last s
settles_within w h row colour s Open begun el ne em = absurd (ne refl)
settles_within w h row colour s (Gone why) begun el ne em = tt
settles_within w h row colour s (Final f) begun el ne em =
    let so = h.rows row.client row.number begun in
    let cs = members (row_of w row).node.colours in
    let fin = final_is (marks_of (row_of w row)) f (decided_final so.kept) in
    let has : has_colour cs colour ≡ true = by_test (has_colour cs colour ≡ true) (has_colour cs colour) (λ t. t)
    (λ other. let z = so.in_set colour other in absurd (let x : ⊥ = cc in x)) in
    let a = number_within (row_of w row).marks cs colour s has em in
    let b = greatest_within (row_of w row).marks cs last_stamp so.numbers in
    (subst (λ (x : ℕ). s ≤ x) fin.3 a, subst (λ (x : ℕ). x ≤ last_stamp) fin.3 b) where
      decided_final : (((row_of w row).last ≡ Open) ⊎ ((row_of w row).last ≡ outcome_of (marks_of (row_of w row))))
          → outcome_of (marks_of (row_of w row)) ≡ Final f
      decided_final (inl k) = absurd (let x : ⊥ = cc in x)
      decided_final (inr k) = sym k ∙ sym el

-- a found entry passes
found_passes : {A : Type 0} (p : A → Bool) (xs : List A) (x : A) → find p xs ≡ Some x → list_any p xs ≡ true
found_passes p [] x e = absurd (let f : ⊥ = cc in f)
found_passes {A} p (y ∷ ys) x e = by_test (list_any p (y ∷ ys) ≡ true) (p y) (λ t. or_left (p y) _ t)
    (λ f. or_right (p y) _ (found_passes p ys x (sym (cond-false (p y) (Some y) (find p ys) f) ∙ e)))

settling_of : (o : Outcome) (id : Id) (es : List Standing)
    → (is_decided o ≡ true → (e : Standing) → open_entry id es ≡ Some e → IsSettling o e) → MaySettle id o es last_stamp
settling_of Open id es h = tt
settling_of (Gone why) id es h = tt
settling_of (Final f) id es h = h refl

some_and : {A : Type 0} (P : A → Type 0) (o : Option A) (x : A) → o ≡ Some x → IsSomeAnd o P → P x
some_and {A} P o x e h = subst (λ (y : Option A). IsSomeAnd y P) e h

module _ (code : WorldView) (w : IsWhole code) (row : Row) (b : Begun code row) (colour : ℕ)
    (in_colours : colour < code.shape.colours) where
  abbrev home : ℕ
  home = home_of (world_of code) row.client

  abbrev id : Id
  id = (row_of (world_of code) row).node.id

  abbrev last : Outcome
  last = (row_of (world_of code) row).last

  abbrev old : ColumnState
  old = column_at code.columns home colour

  pub in_columns : colour < length (get_or code.columns home [])
  in_columns = let n = its_columns code w row b in omega (arith, n, in_colours)

  may_true : is_decided last ≡ true → has_open id (entries old.journal) ≡ true
      → may_settle (world_of code) row colour ≡ true
  may_true decided opens =
      and_from (is_begun (world_of code) row) _ (lt-ltb row.number (length (client_at code row.client).begun) b.used)
      (and_from (is_decided last) _ decided opens)

  -- what the column asks for
  pub its_settling : MaySettle id last (entries old.journal) last_stamp
  its_settling = settling_of last id (entries old.journal) (λ decided e is.
      let v = world_of code in
      let h = is_held code w in
      let ok = may_true decided (found_passes (is_open_id id) (entries old.journal) e is) in
      let s = may_settle_is v h row colour ok in
      let old_agrees = row_agrees v h row.client row.number b.used home colour in
      let at = agrees-settled _ last _ s.stamp s.waits s.decided old_agrees in
      some_and (IsSettling last) (open_entry id (entries old.journal)) e is
      (may_settle_open old.journal id last s.stamp (lawful_past_in v h home colour) s.waits
      (settles_within v h row colour s.stamp last b.used refl s.decided
      (sym (mark-at_home home (row_of v row) colour) ∙ at.0))))

  -- whether it settles, as the column tests it
  abbrev pub settles : Bool
  settles = has_open id (entries old.journal) && is_decided last

  pub settles_is : settles ≡ may_settle (world_of code) row colour
  settles_is = swapped (is_begun (world_of code) row) (has_open id (entries old.journal)) (is_decided last)
      (lt-ltb row.number (length (client_at code row.client).begun) b.used) where
        swapped : (x y z : Bool) → x ≡ true → (y && z) ≡ (x && (z && y))
        swapped x true true e = rw e refl
        swapped x true false e = rw e refl
        swapped x false true e = rw e refl
        swapped x false false e = rw e refl

  abbrev settled : ℕ → ColumnState
  settled by = columns.after_settle old by id last

  -- the columns after the call
  abbrev pub settled_columns : ℕ → List (List ColumnState)
  settled_columns by = with_column code.columns home colour (if settles then settled by else old)

  settle_world : (by : ℕ) → world_of (record code { columns = with_column code.columns home colour (settled by) })
      ≡ after_settle (world_of code) by row colour
  settle_world by = column_world code home colour (settled by) (settled_entry (world_of code) by row)
      (columns_there code w row b) in_columns refl

  unchanged : with_column code.columns home colour old ≡ code.columns
  unchanged =
      ap (λ (l : List ColumnState). set code.columns home l)
      (set-get_or (get_or code.columns home []) colour no_column)
      ∙ set-get_or code.columns home []

  pub settled_world : (by : ℕ) → world_of (record code { columns = settled_columns by })
      ≡ after (world_of code) (steps.Settle by row colour)
  settled_world by = by_test _ settles
      (λ t. ap (λ (q : ColumnState). world_of (record code { columns = with_column code.columns home colour q }))
      (cond-true settles (settled by) old t)
      ∙ (settle_world by
      ∙ sym (cond-true (may_settle (world_of code) row colour) _ _ (sym settles_is ∙ t))))
      (λ f. ap (λ (q : ColumnState). world_of (record code { columns = with_column code.columns home colour q }))
      (cond-false settles (settled by) old f)
      ∙ (ap (λ (cs : List (List ColumnState)). world_of (record code { columns = cs })) unchanged
      ∙ sym (cond-false (may_settle (world_of code) row colour) _ _ (sym settles_is ∙ f))))

  pub settled_whole : (by : ℕ) → IsWhole (record code { columns = settled_columns by })
  settled_whole by =
      let p = w.placed home colour (home_there code w row b) in_colours in
      whole_column code home colour (if settles then settled by else old) (steps.Settle by row colour) w
      (home_there code w row b) in_colours
      (choice (λ (q : ColumnState). IsPlaced q home colour code.shape.regions) settles (settled by) old
      (λ _. record { in_region = p.in_region; of_colour = p.of_colour; of_regions = p.of_regions }) (λ _. p))
      (choice (HasAppended code.clients) settles (settled by) old
      (λ _. appended_settled code.clients old by id last (w.appended home colour)) (λ _. w.appended home colour))
      (settled_world by)
