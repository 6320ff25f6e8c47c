-- Passes of a column and of those at rest in its copies.
use Rattle.std.proofs.Common.{◌≡◌, ◌≤◌, ℕ, List, [], ◌∷◌, ◌++◌, length, Option, Some, None, refl, ap, sym, subst, ◌∙◌, ⊎_elim, arith, length-append, append-nil}
use Rattle.std.specs.Prelude.{IfSome}
use mathlib.Core.List.{IsPrefix}
use Rattle.log_node.specs.declared.ids.Counts.{Counts}
use Rattle.col_core.specs.declared.view.View.{View}
use Rattle.turn_cell.specs.Histories.{IsLonger, made_by}
use Rattle.turn_cell.specs.Cells.{seen, IsSameMaker, IsSameView, Accounts, IsReady, HasTurn}
use Rattle.turn_cell.specs.Rests.{rest_seen}
use Rattle.chain_store.specs.declared.told.Tag.{Tag}
use Rattle.chain_store.specs.declared.told.Told.{Told}
use Rattle.chain_store.specs.declared.looks.Looked.{Looked}
use Rattle.chain_store.specs.declared.read_view.name.ColumnName.{ColumnName}
use Rattle.chain_store.specs.declared.read_view.copied.Copied.{Copied}
use Rattle.chain_store.specs.Histories.{maker, HasIds}
use Rattle.chain_store.specs.Columns.{tag_of}
use Rattle.chain_store.specs.Looking.{ShowsOn}
use Rattle.chain_store.specs.Passes.{ColumnCell, ColumnPass, IsHolder, HasTurnOf, SeesMore, IsLawfulTold, ShowsHistory, tag_in}
use Rattle.chain_store.specs.Shown.{shown_view, part, IsPart}
use Rattle.chain_store.specs.Copies.{column_in, column_of, column_of_rest, shape_of, IsAside, IsGood}
use Rattle.chain_store.specs.Telling.{IsTold}
use Rattle.chain_store.proofs.Going.{prefix_then}
use Rattle.chain_store.proofs.Turning.{begun, sees}
use Rattle.chain_store.proofs.Shows.{part_shows, part_shows_on}

-- a pass that has not the turn is one of the column that it names
pub ready_of : (cell : ColumnCell) (p : ColumnPass) → column_of p ≡ column_in cell → IsAside p → IsReady tag_of cell p
ready_of cell p is aside = ((ap (λ (c : ColumnName). c.table) is, ap (λ (c : ColumnName). c.tag) is), aside.0, aside.1)

pub column_ready : (cell : ColumnCell) (p : ColumnPass) → IsReady tag_of cell p → column_of p ≡ column_in cell
column_ready cell p ready = λ i. record { tag = ready.0.1 i; table = ready.0.0 i }

-- of two lists, of which one begins the other, the longer is the one that is no shorter
module _ {A : Type 0} where
  empty : (xs : List A) → length xs ≤ 0 → xs ≡ []
  empty [] le = refl
  empty (x ∷ xs) le = absurd (omega (arith, le))

  nothing_behind : (xs rest : List A) → length (xs ++ rest) ≤ length xs → xs ++ rest ≡ xs
  nothing_behind xs rest le =
      let l = length-append xs rest in
      ap (λ (z : List A). xs ++ z) (empty rest (omega (arith, l, le))) ∙ append-nil xs

  pub longer_is : (xs ys es : List A) → IsLonger xs ys es → length xs ≤ length ys → es ≡ ys
  longer_is xs ys es l le =
      ⊎_elim
      (λ (same : es ≡ xs).
      let e : ys ++ l.1.0 ≡ es = l.1.1 in
      let short : length (ys ++ l.1.0) ≤ length ys = subst (λ (z : List A). length z ≤ length ys) (sym (e ∙ same)) le in
      sym e ∙ nothing_behind ys l.1.0 short)
      (λ (same : es ≡ ys). same) l.2

-- one look and another
pub sees_then : (n : ℕ) (xs ys zs : List Told) → SeesMore n xs ys → SeesMore n ys zs → SeesMore n xs zs
sees_then n xs ys zs a b = record { more = prefix_then xs ys zs a.more b.more; none = b.none ∙ a.none }

module _ (cell : ColumnCell) (copy : Copied) (good : IsGood (shape_of copy))
    (of : column_of_rest copy.rest ≡ column_in cell) where
  tags : good.tag ≡ tag_in cell
  tags = let f : Some good.tag ≡ Some (tag_in cell) = sym good.tagged ∙ ap (λ (c : ColumnName). c.tag) of in cc (f)

  -- a pass that was made of the one in a copy has seen a lawful history
  pub told_of : (t : ColumnPass) → IsReady tag_of cell t → seen t ≡ rest_seen copy.rest → IsTold cell t
  told_of t ready same = record {
    ready = ready;
    lawful = subst (λ (u : Tag). IsLawfulTold u (seen t)) tags (subst (IsLawfulTold good.tag) (sym same) good.lawful);
    ids = subst HasIds (sym same) good.ids;
  }

  -- and the copy shows what it has seen
  pub shown_to : (q : ColumnPass) (from : Counts) (v : View) → seen q ≡ rest_seen copy.rest
      → v ≡ part (shown_view copy.shown) from → ShowsHistory (tag_in cell) (seen q) from v
  shown_to q from v same is =
      subst (λ (u : Tag). ShowsHistory u (seen q) from v) tags
      (subst (λ (l : List Told). ShowsHistory good.tag l from v) (sym same)
      (subst (ShowsHistory good.tag (rest_seen copy.rest) from) (sym is)
      (part_shows good.tag (rest_seen copy.rest) from (shown_view copy.shown) good.shows)))

  pub shown_on_to : (q : ColumnPass) (from : Counts) (l : Looked) → seen q ≡ rest_seen copy.rest
      → IsPart (shown_view copy.shown) from l → ShowsOn (tag_in cell) (seen q) from l
  shown_on_to q from l same is =
      subst (λ (u : Tag). ShowsOn u (seen q) from l) tags
      (subst (λ (log : List Told). ShowsOn good.tag log from l) (sym same)
      (part_shows_on good.tag (rest_seen copy.rest) from (shown_view copy.shown) l good.shows is))

-- a turn that was free, or not
module _ (cell : ColumnCell) (n : ℕ) (p q : ColumnPass) (holds : IsHolder cell n p) (grows : IsPrefix (seen p) (seen q))
    {A : Type 0} where
  pub begun_now : (o : Option A) (P : A → Type 0) → IfSome o (λ t. HasTurn tag_of cell q × P t)
      → IfSome o (λ t. IsSameMaker p q × Accounts maker q (seen q)) → IfSome o (λ t. HasTurnOf cell n q × P t)
  begun_now None P h m = tt
  begun_now (Some t) P h m = (begun cell n p q holds grows m.0 m.1 h.0, h.1)

  pub sees_now : (o : Option A) → IfSome o (λ t. IsSameMaker p q × Accounts maker q (seen q))
      → (o ≡ None → IsReady tag_of cell q × IsSameView p q) → SeesMore n (seen p) (seen q)
  sees_now None m none = record { more = grows; none = ap (made_by maker n) (none refl).1.0 }
  sees_now (Some t) m none = sees cell n p q holds grows m.0 m.1
