-- What is compared of a column in the end.
use Rattle.std.proofs.Common.{◌≡◌, ℕ, Bool, true, false, List, [], ◌∷◌, refl, ap, sym, subst, ◌∙◌, eq-eqb}
use Rattle.std.specs.Prelude.{nat_eq}
use Rattle.std.proofs.lemmas.Bool.{and_parts, and_from, true≢false}
use lib.Pointwise.{pointwise}
use Rattle.log_node.specs.declared.ids.Key.{Key}
use Rattle.log_node.specs.declared.ids.Counts.{Counts}
use Rattle.log_node.specs.Order.{same_key, same_id}
use Rattle.log_node.specs.contracts.ids.KeyPartialEq.TheImpl.{eq-value}
use Rattle.log_node.specs.Reach.{IsGreatestReachable}
use Rattle.log_node.proofs.CallerLemmas.{same_key-is, same_id-refl}
use Rattle.col_core.specs.History.{clock, line}
use Rattle.col_core.specs.Cuts.{chain}
use Rattle.col_core.proofs.CallerLemmas.{cut-is_greatest, cut_unique}
use Rattle.column_track.specs.Tracks.{EndsAs, Tells}
use Rattle.column_track.specs.Doing.{tracked}
use Rattle.column.specs.Columns.{ColumnState, base_of, cut_of, history_of}

-- keys are compared field by field
as_same : (a b : Key) → eq-value.it a b ≡ same_key a b
as_same a b = refl

with_itself : (a : Key) → same_key a a ≡ true
with_itself a = and_from (nat_eq a.stamp a.stamp) (same_id a.id a.id) (eq-eqb a.stamp a.stamp refl) (same_id-refl a.id)

same_lists : (xs ys : List Key) → pointwise eq-value.it xs ys ≡ true → xs ≡ ys
same_lists [] [] t = refl
same_lists [] (y ∷ ys) t = absurd (true≢false (sym t))
same_lists (x ∷ xs) [] t = absurd (true≢false (sym t))
same_lists (x ∷ xs) (y ∷ ys) t =
    let both = and_parts (eq-value.it x y) (pointwise eq-value.it xs ys) t in
    ap (λ (k : Key). k ∷ xs) (same_key-is x y (sym (as_same x y) ∙ both.0)) ∙ ap (λ (l : List Key). y ∷ l) (same_lists xs ys both.1)

one_list : (xs : List Key) → pointwise eq-value.it xs xs ≡ true
one_list [] = refl
one_list (x ∷ xs) = and_from (eq-value.it x x) (pointwise eq-value.it xs xs) (as_same x x ∙ with_itself x) (one_list xs)

pub lists_told : (xs ys : List Key) (b : Bool) → b ≡ pointwise eq-value.it xs ys → Tells b (xs ≡ ys)
lists_told xs ys true is = same_lists xs ys (sym is)
lists_told xs ys false is = λ same. true≢false (sym (one_list xs) ∙ (ap (pointwise eq-value.it xs) same ∙ sym is))

-- a column ends as is shown, where the clock, the cut and the base do, and then the line says it
module _ (column : ColumnState) (clock_shown : ℕ) (line_shown : List Key) (cut_shown base_shown : Counts) where
  pub other_clock : (clock_shown ≡ clock column.journal → ⊥) → EndsAs (tracked column) clock_shown line_shown cut_shown base_shown → ⊥
  other_clock differs ends = differs ends.clock_is

  pub other_cut : (cut_shown ≡ cut_of column → ⊥) → EndsAs (tracked column) clock_shown line_shown cut_shown base_shown → ⊥
  other_cut differs ends =
      differs (cut_unique (chain column.region (history_of column)) cut_shown (cut_of column) ends.cut_is
      (cut-is_greatest column.region (history_of column)))

  pub other_base : (base_shown ≡ base_of column → ⊥) → EndsAs (tracked column) clock_shown line_shown cut_shown base_shown → ⊥
  other_base differs ends = differs ends.base_is

  pub line_tells : clock_shown ≡ clock column.journal → cut_shown ≡ cut_of column → base_shown ≡ base_of column → (b : Bool)
      → Tells b (line_shown ≡ line column.journal) → Tells b (EndsAs (tracked column) clock_shown line_shown cut_shown base_shown)
  line_tells clock_is cut_is base_is true line_is = record {
    clock_is = clock_is;
    line_is = line_is;
    cut_is = subst (IsGreatestReachable (chain column.region (history_of column))) (sym cut_is)
        (cut-is_greatest column.region (history_of column));
    base_is = base_is;
  }
  line_tells clock_is cut_is base_is false differs = λ ends. differs ends.line_is
