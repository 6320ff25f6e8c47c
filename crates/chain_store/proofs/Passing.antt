-- What a pass has seen and made, from the turns of its cell.
use Rattle.std.proofs.Common.{◌≡◌, ℕ, zero, suc, ◌-◌, take, drop, List, [], ◌∷◌, ◌++◌, length, Some, refl, ap, sym, subst, ◌∙◌, Result, Ok, Err, inl, inr, eq-eqb}
use Rattle.std.specs.Prelude.{IfOk, IfErr, OnErr, ◌==◌, slice_get}
use Rattle.std.proofs.lemmas.Bool.{cases_eq}
use Rattle.log_node.specs.declared.ids.Counts.{Counts}
use Rattle.log_node.specs.Vectors.{at}
use Rattle.col_core.specs.declared.Entry.{Entry}
use Rattle.col_core.specs.declared.view.View.{View}
use Rattle.col_core.specs.Computed.{cut, dated}
use Rattle.col_core.specs.Cuts.{chain, base}
use Rattle.col_core.specs.Legal.{IsColumnHistory}
use Rattle.col_core.proofs.CallerLemmas.{by_test, if_true, if_false}
use Rattle.column.specs.Columns.{history_of, greater}
use Rattle.column.specs.Views.{IsView}
use Rattle.stamp_board.specs.Seats.{column_seen}
use Rattle.turn_cell.specs.Histories.{maker as maker_with, made_by}
use Rattle.turn_cell.specs.Cells.{own, IsNewPass}
use Rattle.chain_store.specs.declared.told.Tag.{Tag}
use Rattle.chain_store.specs.declared.told.Told.{Told}
use Rattle.chain_store.specs.declared.seated.Seated.{Seated}
use Rattle.chain_store.specs.declared.looks.Looked.{Looked}
use Rattle.chain_store.specs.declared.looks.Looked.TheVariants.{On, Behind}
use Rattle.chain_store.specs.Looking.{IsLooked, ShowsOn}
use Rattle.chain_store.specs.Histories.{entries_in, maker, HasIds}
use Rattle.chain_store.specs.Columns.{Stands, tag_of}
use Rattle.chain_store.proofs.Entering.{column_ids, entered_named, entered_region}
use Rattle.chain_store.specs.Passes.{ColumnCell, ColumnPass, IsHolder, ShowsHistory, dated_in, tag_in}
pub use Rattle.log_node.proofs.CallerLemmas.{ok_then as ok_as}

-- what an answer says that is known

module _ {T E : Type 0} (res : Result T E) where
  pub ok_is : (x : T) (P : T → Type 0) → res ≡ Ok x → IfOk res P → P x
  ok_is x P is p = subst (λ (z : Result T E). IfOk z P) is p

  pub err_is : (e : E) (P : E → Type 0) → res ≡ Err e → IfErr res P → P e
  err_is e P is p = subst (λ (z : Result T E). IfErr z P) is p

  pub at_err : {e : E} (P : Type 0) → res ≡ Err e → OnErr res P → P
  at_err P is p = subst (λ (z : Result T E). OnErr z P) is p

-- entries of a number

pub made_with : (n : ℕ) (log : List Told) (t : Told) → maker t ≡ n
    → made_by maker n (log ++ t ∷ []) ≡ made_by maker n log ++ t ∷ []
made_with n [] t by = if_true (maker t == n) (t ∷ []) [] (eq-eqb (maker t) n by)
made_with n (u ∷ log) t by =
    by_test (made_by maker n ((u ∷ log) ++ t ∷ []) ≡ made_by maker n (u ∷ log) ++ t ∷ []) (maker u == n)
    (λ yes. if_true (maker u == n) (u ∷ made_by maker n (log ++ t ∷ [])) (made_by maker n (log ++ t ∷ [])) yes
    ∙ ap (λ l. u ∷ l) (made_with n log t by)
    ∙ ap (λ l. l ++ t ∷ [])
    (sym (if_true (maker u == n) (u ∷ made_by maker n log) (made_by maker n log) yes)))
    (λ no. if_false (maker u == n) (u ∷ made_by maker n (log ++ t ∷ [])) (made_by maker n (log ++ t ∷ [])) no
    ∙ made_with n log t by
    ∙ ap (λ l. l ++ t ∷ [])
    (sym (if_false (maker u == n) (u ∷ made_by maker n log) (made_by maker n log) no)))

-- an entry that its maker made is among those
pub made_place : (n : ℕ) (log : List Told) (i : ℕ) (t : Told) → slice_get log i ≡ Some t → maker t ≡ n
    → (j : ℕ) × (slice_get (made_by maker n log) j ≡ Some t)
made_place n [] i t at by = absurd cc
made_place n (u ∷ log) zero t at by =
    let same : u ≡ t = cc at in (
      0,
      ap (λ l. slice_get l 0) (if_true (maker u == n) (u ∷ made_by maker n log) (made_by maker n log)
          (eq-eqb (maker u) n (ap maker same ∙ by))) ∙ at,
    )
made_place n (u ∷ log) (suc i) t at by =
    let r = made_place n log i t at by in
    by_test ((j : ℕ) × (slice_get (made_by maker n (u ∷ log)) j ≡ Some t)) (maker u == n)
    (λ here. (
      suc r.0,
      ap (λ l. slice_get l (suc r.0))
          (if_true (maker u == n) (u ∷ made_by maker n log) (made_by maker n log) here) ∙ r.1,
    ))
    (λ other. (
      r.0,
      ap (λ l. slice_get l r.0)
          (if_false (maker u == n) (u ∷ made_by maker n log) (made_by maker n log) other) ∙ r.1,
    ))

-- what a column stands for is lawful
pub lawful_of : (s : Seated) (t : Tag) (log : List Told) → Stands s log → tag_of s ≡ t
    → IsColumnHistory s.column.region s.column.regions (history_of s.column)
    → IsColumnHistory t.region t.regions (dated_in t log)
lawful_of s t log stands is lawful =
    subst (λ (u : Tag). IsColumnHistory u.region u.regions (dated_in u log)) is
    (subst (λ (l : List Entry). IsColumnHistory s.column.region s.column.regions (dated s.column.region l)) stands.0.same
    lawful)

-- and its ids are such as there may be
pub ids_of : (s : Seated) (log : List Told) → Stands s log → HasIds log
ids_of s log stands =
    column_ids s.column (column_seen s.seat).size.clients log s.entered stands.0 s.above s.all

-- a look at the column shows its history
pub shows_history : (s : Seated) (t : Tag) (log : List Told) (from : Counts) (view : View) → Stands s log
    → tag_of s ≡ t → IsView s.column from view → ShowsHistory t log from view
shows_history s t log from view stands is v =
    subst (λ (u : Tag). ShowsHistory u log from view) is (record {
      region = v.region;
      colour = v.colour;
      events = v.events ∙ ap length stands.0.same ∙ map_long log;
      cut = v.cut ∙ ap (λ l. cut s.column.region (dated s.column.region l)) stands.0.same;
      base = v.base ∙ ap (λ l. base s.column.region s.column.regions (dated s.column.region l)) stands.0.same;
      start = v.start ∙ ap (greater from) (sym v.base);
      chains = v.chains;
      heads = λ region lt. (v.items region lt).heads
          ∙ ap (λ l. take (at view.cut region - at view.from region)
          (drop (at view.from region) (chain s.column.region (dated s.column.region l) region))) stands.0.same;
      nodes = λ region n i lt e. elim (cases_eq region s.column.region) [
        | inl own ↦
            let h = (v.items region lt).nodes own n i e in
            entered_named log i.head.key.id i.node (stands.0.stored i.head.key i.node h)
        | inr other ↦
            stands.0.carried region i ((v.items region lt).carried other n i e)
      ];
      stamped = λ region n i lt other e. stands.0.stamped region i ((v.items region lt).carried other n i e);
      regions = λ region n i lt e. elim (cases_eq region s.column.region) [
        | inl own ↦
            let h = (v.items region lt).nodes own n i e in
            entered_region s.column.region s.column.colour log stands.0.brings i.head.key.id i.node
            (stands.0.stored i.head.key i.node h) ∙ sym own
        | inr other ↦ stands.0.regions region i ((v.items region lt).carried other n i e)
      ];
    }) where
      map_long : (l : List Told) → length (entries_in l) ≡ length l
      map_long [] = refl
      map_long (u ∷ us) = ap (λ (k : ℕ). suc k) (map_long us)

-- and so does one that goes on from counts
pub shows_on : (s : Seated) (t : Tag) (log : List Told) (from : Counts) (looked : Looked) → Stands s log
    → tag_of s ≡ t → IsLooked s.column from looked → ShowsOn t log from looked
shows_on s t log from (On view) stands is v = (shows_history s t log from view stands is v.0, v.1)
shows_on s t log from (Behind shown) stands is v =
    subst (λ (u : Tag). ShowsOn u log from (Behind shown)) is
    (v.0 ∙ ap (λ l. base s.column.region s.column.regions (dated s.column.region l)) stands.0.same, v.1)

-- a new pass is a client's
pub new_holder : (c : ColumnCell) (n : ℕ) (p : ColumnPass) → IsNewPass tag_of c n p → IsHolder c n p
new_holder c n p new = record {
  ready = new.0;
  mine = new.2 ∙ ap (λ (l : List Told). Some (maker_with n (made_by maker n l))) (sym new.1);
  lawful = subst (λ (l : List Told). IsColumnHistory (tag_in c).region (tag_in c).regions (dated_in (tag_in c) l))
      (sym new.1) (λ k d at. absurd (let f : ⊥ = cc in f));
  ids = subst HasIds (sym new.1) (λ k t id at e. absurd (let f : ⊥ = cc (at) in f));
}
