-- Where ids stand among rows: what a map has of them, and one row more.
use Rattle.std.proofs.Common.{◌≡◌, ◌≢◌, ◌⊎◌, ℕ, ◌+◌, ◌<◌, Bool, true, false, ◌&&◌, eqb, cond, List, [], ◌∷◌, ◌++◌, length, take, Option, Some, None, Ordering, Less, Equal, Greater, inl, inr, refl, ap, sym, subst, ◌∙◌, arith, get_or}
use Rattle.std.specs.Prelude.{slice_get, ◌||◌, is_none, is_some, not}
use Rattle.std.specs.Ordering.{is_eq, nat_cmp, ordering_then}
use Rattle.std.specs.List.{All, find}
use Rattle.std.specs.Option.{option_map}
use Rattle.std.specs.Map.{lookup}
use Rattle.std.proofs.lemmas.Bool.{cases_Bool, true≢false}
use Rattle.std.proofs.lemmas.Bool.Decides.{nat_tests}
use Rattle.std.proofs.lemmas.List.{get_or-take, length-take-le, take_more}
use Rattle.std.proofs.lemmas.List.Elements.{All-nil, All-push}
use Rattle.std.proofs.lemmas.List.Quantifiers.{all_pairs_push}
use Rattle.std.proofs.lemmas.Option.{get_or_from_slice_get, slice_get_within}
use Rattle.log_node.specs.declared.ids.Id.{Id}
use Rattle.log_node.specs.Order.{same_id}
use Rattle.log_node.specs.contracts.ids.IdOrd.TheImpl.{cmp-value}
use Rattle.log_node.proofs.CallerLemmas.{get_last, get_longer, same_id-is, same_id-refl}
use Rattle.report_text.specs.declared.report.RowReport.{RowReport}
use Rattle.walk_law.specs.declared.row_table.RowTable.{RowTable}
use Rattle.walk_law.specs.RowsBeside.{AreRowsAt, HasRow, HaveOwnIds, row_in}

pub same_number : (a b : ℕ) → is_eq (nat_cmp a b) ≡ eqb b a
same_number a b = grind (arith, nat_tests)

pub both_same : (p q : Ordering) → is_eq (ordering_then p q) ≡ (is_eq p && is_eq q)
both_same Less q = refl
both_same Equal q = refl
both_same Greater q = refl

-- ids stand as equal where they are one
pub equal_is_same : (a b : Id) → is_eq (cmp-value.it a b) ≡ same_id b a
equal_is_same a b =
    both_same (nat_cmp a.client b.client) (nat_cmp a.count b.count)
    ∙ rw (same_number a.client b.client, same_number a.count b.count) refl

-- what a map has at an id
pub found : {A : Type 0} (id : Id) (es : List (Id × A))
    → lookup (λ k. is_eq (cmp-value.it id k)) es ≡ option_map (λ e. e.1) (find (λ e. same_id e.0 id) es)
found id [] = refl
found id (e ∷ es) = elim (cases_Bool (same_id e.0 id)) [
  | inl here ↦ rw (equal_is_same id e.0, here) refl
  | inr other ↦ rw (equal_is_same id e.0, other) (found id es)
]

-- what it has with one more
pub one_more : (old new : RowTable) (id : Id) (place : ℕ)
    → ((other : Id) → lookup (λ k. is_eq (cmp-value.it other k)) new.by_id.entries
    ≡ cond (is_eq (cmp-value.it id other)) (Some place) (lookup (λ k. is_eq (cmp-value.it other k)) old.by_id.entries))
    → (other : Id) → row_in new other ≡ cond (same_id other id) (Some place) (row_in old other)
one_more old new id place step other =
    sym (found other new.by_id.entries) ∙ step other
    ∙ rw (equal_is_same id other, found other old.by_id.entries) refl

pub none_is : {A : Type 0} (o : Option A) (b : Bool) → is_some o ≡ not b → b ≡ is_none o
none_is None true e = refl
none_is None false e = e
none_is (Some x) true e = absurd (true≢false e)
none_is (Some x) false e = refl

-- ONE ROW MORE

-- no rows have no ids
pub none_at : (table : RowTable) → ((id : Id) → row_in table id ≡ None) → AreRowsAt [] table
none_at table none = record {
  each = λ id. subst (HasRow [] id) (sym (none id)) (All-nil (λ (r : RowReport). r.id ≢ id));
  apart = λ i j d lt less. absurd (let f : ⊥ = omega (arith, less) in f);
}

still : (before : List RowReport) (r : RowReport) (id : Id) (o : Option ℕ) → (r.id ≡ id → ⊥) → HasRow before id o
    → HasRow (before ++ r ∷ []) id o
still before r id None other all = All-push (λ (s : RowReport). s.id ≢ id) before r all other
still before r id (Some place) other at = (at.0, get_longer before (r ∷ []) place at.0 at.1, at.2)

pub row_more : (before : List RowReport) (r : RowReport) (old new : RowTable) (place : ℕ) → place ≡ length before
    → is_none (row_in old r.id) ≡ true
    → ((other : Id) → row_in new other ≡ cond (same_id other r.id) (Some place) (row_in old other))
    → AreRowsAt before old → AreRowsAt (before ++ r ∷ []) new
row_more before r old new place last is_new added are = record {
  each = λ other. at other (cases_Bool (same_id other r.id));
  apart = all_pairs_push (λ (x y : RowReport). x.id ≢ y.id) before r are.apart (λ k d lt. fresh k d lt);
} where
  fresh : All (λ (s : RowReport). s.id ≢ r.id) before
  fresh = by (row_in old r.id) is_new (are.each r.id) where
    by : (o : Option ℕ) → is_none o ≡ true → HasRow before r.id o → All (λ (s : RowReport). s.id ≢ r.id) before
    by None t all = all
    by (Some k) t all = absurd (true≢false (sym t))

  at : (other : Id) → (same_id other r.id ≡ true) ⊎ (same_id other r.id ≡ false)
      → HasRow (before ++ r ∷ []) other (row_in new other)
  at other (inl t) =
      subst (HasRow (before ++ r ∷ []) other) (sym (added other ∙ ap (λ b. cond b (Some place) (row_in old other)) t))
      (r, ap (slice_get (before ++ r ∷ [])) last ∙ get_last before r, sym (same_id-is other r.id t))
  at other (inr f) =
      subst (HasRow (before ++ r ∷ []) other) (sym (added other ∙ ap (λ b. cond b (Some place) (row_in old other)) f))
      (still before r other (row_in old other)
      (λ same. true≢false (sym (subst (λ (i : Id). same_id other i ≡ true) (sym same) (same_id-refl other)) ∙ f))
      (are.each other))

-- where an id has a place already, two rows have it
pub row_twice : (rows : List RowReport) (at : ℕ) (r : RowReport) (table : RowTable) → at < length rows → r ≡ get_or rows at r
    → is_none (row_in table r.id) ≡ false → AreRowsAt (take at rows) table → HaveOwnIds rows → ⊥
row_twice rows at r table lt is was are apart = by (row_in table r.id) was (are.each r.id) where
  by : (o : Option ℕ) → is_none o ≡ false → HasRow (take at rows) r.id o → ⊥
  by None f all = true≢false f
  by (Some k) f there =
      let low = slice_get_within (take at rows) k there.0 there.1 in
      let long = length-take-le at rows (omega (arith, lt)) in
      let less : k < at = omega (arith, low, long) in
      let one : get_or rows k r ≡ there.0 =
      sym (get_or-take at rows k r less) ∙ get_or_from_slice_get (take at rows) k there.0 r there.1 in
      apart k at r less lt (ap (λ (s : RowReport). s.id) one ∙ (there.2 ∙ ap (λ (s : RowReport). s.id) is))

pub next_row : (rows : List RowReport) (at : ℕ) (r : RowReport) → at < length rows → r ≡ get_or rows at r
    → take (at + 1) rows ≡ take at rows ++ r ∷ []
next_row rows at r lt is = take_more rows at r lt ∙ ap (λ (d : RowReport). take at rows ++ d ∷ []) (sym is)

-- ids that are put in
pub has_more : (old new : RowTable) (id : Id) (place : ℕ)
    → ((other : Id) → row_in new other ≡ cond (same_id other id) (Some place) (row_in old other))
    → (other : Id) → is_some (row_in new other) ≡ (same_id other id || is_some (row_in old other))
has_more old new id place added other = ap is_some (added other) ∙ by (same_id other id) where
  by : (b : Bool) → is_some (cond b (Some place) (row_in old other)) ≡ (b || is_some (row_in old other))
  by true = refl
  by false = refl
