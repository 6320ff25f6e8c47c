-- Turns of a client, and what its calls say of them.
use Rattle.std.proofs.Common.{◌≡◌, ℕ, suc, List, [], ◌∷◌, ◌++◌, length, Some, refl, ap, sym, subst, ◌∙◌, arith, inr, length-append}
use mathlib.Core.List.{IsPrefix}
use Rattle.log_node.specs.declared.node.At.{At}
use Rattle.col_core.specs.Legal.{IsColumnHistory}
use Rattle.column.specs.Columns.{history_of}
use Rattle.turn_cell.specs.declared.view.Maker.{Maker}
use Rattle.turn_cell.specs.Histories.{maker as maker_with, made_by, with_entry}
use Rattle.turn_cell.specs.Cells.{seen, own, IsSameMaker, IsSameView, Accounts, AddsEntry, IsReady, HasTurn, Adds, MayPut, IsEvent}
use Rattle.chain_store.specs.declared.told.Tag.{Tag}
use Rattle.chain_store.specs.declared.told.Told.{Told}
use Rattle.chain_store.specs.declared.seated.Seated.{Seated}
use Rattle.chain_store.specs.Histories.{entries_in, maker, HasIds}
use Rattle.chain_store.specs.Columns.{Stands, Gains, newest_of, tag_of}
use Rattle.chain_store.specs.Passes.{ColumnCell, ColumnPass, IsHolder, HasTurnOf, SeesMore, MakesOne, IsLawfulTold, tag_in}
use Rattle.chain_store.proofs.Passing.{lawful_of, made_with}

-- a copy of a value stands for what the value does
pub stood : (x y : Seated) (log : List Told) → y ≡ x → Stands x log → Stands y log
stood x y log same stands = subst (λ (z : Seated). Stands z log) (sym same) stands

pub tagged : (x y : Seated) (t : Tag) → y ≡ x → tag_of x ≡ t → tag_of y ≡ t
tagged x y t same is = ap tag_of same ∙ is

pub lawful_at : (x y : Seated) (t : Tag) (log : List Told) → y ≡ x → Stands x log → tag_of x ≡ t
    → IsColumnHistory y.column.region y.column.regions (history_of y.column)
    → IsLawfulTold t log
lawful_at x y t log same stands is lawful =
    lawful_of y t log (stood x y log same stands) (tagged x y t same is) lawful

-- at the beginning of a turn
module _ (cell : ColumnCell) (n : ℕ) (p q : ColumnPass) (holds : IsHolder cell n p)
    (grows : IsPrefix (seen p) (seen q)) (same : IsSameMaker p q) (accounts : Accounts maker q (seen q)) where
  mine : own q ≡ Some (maker_with n (made_by maker n (seen p)))
  mine = same.0 ∙ holds.mine

  whole : made_by maker n (seen q) ≡ made_by maker n (seen p)
  whole = accounts.0 (maker_with n (made_by maker n (seen p))) mine

  pub begun : HasTurn tag_of cell q → HasTurnOf cell n q
  begun turn = record {
    turn = turn;
    mine = mine ∙ ap (λ (l : List Told). Some (maker_with n l)) (sym whole);
  }

  pub sees : SeesMore n (seen p) (seen q)
  sees = record { more = grows; none = whole }

map_long : (l : List Told) → length (entries_in l) ≡ length l
map_long [] = refl
map_long (u ∷ us) = ap (λ (k : ℕ). suc k) (map_long us)

-- a client's step adds its entry
module _ (cell : ColumnCell) (n : ℕ) (q : ColumnPass) (turn : HasTurnOf cell n q)
    (x y : Seated) (t : Told) (stands : Stands x (seen q)) (gains : Gains x y t) (by : maker t ≡ n) where
  pub adds : Adds Stands maker newest_of y q t
  adds = (
    gains.0,
    gains.2 (seen q) stands,
    (maker_with n (made_by maker n (seen q)), turn.mine, by),
    (let e = ap length (gains.2 (seen q) stands).0.same in
        let f = map_long (seen q ++ t ∷ []) in
        let g = length-append (seen q) (t ∷ []) in
        let room = gains.1 in omega (arith, e, f, g, room)),
  )

  pub may : MayPut Stands maker newest_of y q
  may = inr (t, adds)

-- the end of a turn
module _ (cell there : ColumnCell) (n : ℕ) (q r : ColumnPass) (is : there ≡ cell) where
  pub rests : HasTurnOf cell n q → IsReady tag_of there r → IsSameView q r → IsLawfulTold (tag_in cell) (seen q)
      → HasIds (seen q) → IsHolder cell n r
  rests turn ready kept lawful ids = record {
    ready = subst (λ (z : ColumnCell). IsReady tag_of z r) is ready;
    mine = kept.1.0 ∙ turn.mine ∙ ap (λ (l : List Told). Some (maker_with n (made_by maker n l))) (sym kept.0);
    lawful = subst (IsLawfulTold (tag_in cell)) (sym kept.0) lawful;
    ids = subst HasIds (sym kept.0) ids;
  }

  pub rests_with : (t : Told) → maker t ≡ n → HasTurnOf cell n q → IsReady tag_of there r → AddsEntry t q r
      → IsLawfulTold (tag_in cell) (seen q ++ t ∷ []) → HasIds (seen q ++ t ∷ []) → IsHolder cell n r
  rests_with t by turn ready added lawful ids = record {
    ready = subst (λ (z : ColumnCell). IsReady tag_of z r) is ready;
    mine = added.1 ∙ ap (with_entry t) turn.mine
        ∙ ap (λ (l : List Told). Some (maker_with n l)) (sym (made_with n (seen q) t by))
        ∙ ap (λ (l : List Told). Some (maker_with n (made_by maker n l))) (sym added.0);
    lawful = subst (IsLawfulTold (tag_in cell)) (sym added.0) lawful;
    ids = subst HasIds (sym added.0) ids;
  }

-- the number of an entry that may be added
pub maker_is : (n : ℕ) (q : ColumnPass) (y : Seated) (t : Told) (l : List Told) → own q ≡ Some (maker_with n l)
    → Adds Stands maker newest_of y q t → maker t ≡ n
maker_is n q y t l mine adds =
    let m = adds.2 in
    let same : m.0 ≡ maker_with n l = let e = sym m.1 ∙ mine in cc (e) in
    m.2 ∙ ap (λ (k : Maker Told). k.number) same

-- a look at the end of a turn
pub saw : (n : ℕ) (p q r : ColumnPass) → SeesMore n (seen p) (seen q) → seen r ≡ seen q → SeesMore n (seen p) (seen r)
saw n p q r s kept = record {
  more = subst (λ (l : List Told). IsPrefix (seen p) l) (sym kept) s.more;
  none = ap (made_by maker n) kept ∙ s.none;
}

-- an entry at the end of a turn
pub makes : (n : ℕ) (t : Told) (p q r : ColumnPass) (at : At) → SeesMore n (seen p) (seen q) → IsEvent t q r at
    → MakesOne n t (seen p) (seen r) at
makes n t p q r at s e = record {
  before = seen q;
  more = s.more;
  none = s.none;
  adds = e.1.0;
  place = e.0;
}

-- the same, with what was seen before
pub makes_at : (n : ℕ) (t : Told) (p q r : ColumnPass) (at : At) → SeesMore n (seen p) (seen q) → IsEvent t q r at
    → (m : MakesOne n t (seen p) (seen r) at) × (m.before ≡ seen q)
makes_at n t p q r at s e = (
  record {
    before = seen q;
    more = s.more;
    none = s.none;
    adds = e.1.0;
    place = e.0;
  },
  refl,
)

-- the pass is at rest again
pub at_rest : (there cell : ColumnCell) (n : ℕ) (q r : ColumnPass) → there ≡ cell → HasTurnOf cell n q
    → ((m : ℕ) → HasTurnOf there m q → IsHolder there m r) → IsHolder cell n r
at_rest there cell n q r is turn ends =
    subst (λ (z : ColumnCell). IsHolder z n r) is
    (ends n (subst (λ (z : ColumnCell). HasTurnOf z n q) (sym is) turn))
