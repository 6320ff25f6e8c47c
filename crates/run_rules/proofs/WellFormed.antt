-- A report of which some told account keeps the first rule is well formed.
use Rattle.std.proofs.Common.{◌≡◌, ◌∙◌, refl, ap, sym, subst, ℕ, zero, suc, ◌+◌, ◌<◌, ◌≤◌, List, [], ◌∷◌, ◌++◌, length, map, ◌⊎◌, inl, inr, arith, append-nil}
use Rattle.std.specs.Prelude.{◌≢◌, ◌==◌}
use Rattle.std.specs.List.{AllPairs, filter, flat_map, range_with_len}
use Rattle.std.proofs.lemmas.Bool.{cases_lt, eq-eqb, eqb-true, false_from_ne_true}
use Rattle.std.proofs.lemmas.List.{length-map}
use Rattle.std.proofs.lemmas.List.Kept.{AllPairs-cons}
use Rattle.col_core.proofs.CallerLemmas.{In, all_in, in_append, in_flat_map, in_map, in_map-back, in_range}
use Rattle.report_text.specs.declared.report.RowReport.{RowReport}
use Rattle.report_text.specs.declared.report.ColumnReport.{ColumnReport}
use Rattle.lawful_run.specs.Columns.{row_report}
use Rattle.run_rules.specs.Told.{Step}
use Rattle.run_rules.specs.Telling.{is_in}
use Rattle.run_rules.specs.Laws.{RuleOneForms}
use Rattle.run_rules.proofs.Lists.{filter_joined, filter_none, filter_all}
use Rattle.run_rules.proofs.Numbers.{rule1}
use Rattle.run_rules.proofs.OneAccount.{shows_region}

-- COLUMNS

-- each is there once
abbrev pub OnceEach : List (ℕ × ℕ) → Type 0
OnceEach [] = Unit {0}
OnceEach (x ∷ xs) = (In x xs → ⊥) × OnceEach xs

once_joined : (xs ys : List (ℕ × ℕ)) → OnceEach xs → OnceEach ys → ((p : ℕ × ℕ) → In p xs → In p ys → ⊥)
    → OnceEach (xs ++ ys)
once_joined [] ys o q apart = q
once_joined (x ∷ xs) ys o q apart =
    (λ i. turn (in_append x xs ys i), once_joined xs ys o.1 q (λ p j k. apart p (inr j) k)) where
      turn : In x xs ⊎ In x ys → ⊥
      turn (inl j) = o.0 j
      turn (inr j) = apart x (inl refl) j

once_row : (region from k : ℕ) → OnceEach (map (λ (c : ℕ). (region, c)) (range_with_len from k))
once_row region from zero = tt
once_row region from (suc k) = (
  λ i. let m = in_map (λ (c : ℕ). (region, c)) (range_with_len (from + 1) k) (region, from) i in
      let l = (in_range (from + 1) k m.0 m.1).0 in
      let e : m.0 ≡ from = ap (λ (p : ℕ × ℕ). p.1) m.2 in
      let f : ⊥ = omega (arith, l, e) in f,
  once_row region (from + 1) k,
)

pub once_rows : (colours from k : ℕ)
    → OnceEach (flat_map (λ (r : ℕ). map (λ (c : ℕ). (r, c)) (range_with_len 0 colours)) (range_with_len from k))
once_rows colours from zero = tt
once_rows colours from (suc k) =
    once_joined (row from) (flat_map row (range_with_len (from + 1) k)) (once_row from 0 colours)
    (once_rows colours (from + 1) k)
    (λ p i j.
    let m = in_map (λ (c : ℕ). (from, c)) (range_with_len 0 colours) p i in
    let f = in_flat_map row (range_with_len (from + 1) k) p j in
    let l = (in_range (from + 1) k f.0 f.1).0 in
    let n = in_map (λ (c : ℕ). (f.0, c)) (range_with_len 0 colours) p f.2 in
    let e : from ≡ f.0 = ap (λ (q : ℕ × ℕ). q.0) (m.2 ∙ sym n.2) in
    let h : ⊥ = omega (arith, l, e) in h) where
      row : ℕ → List (ℕ × ℕ)
      row r = map (λ (c : ℕ). (r, c)) (range_with_len 0 colours)

abbrev pub numbers_of : ColumnReport → ℕ × ℕ
numbers_of c = (c.region, c.colour)

pub columns_apart : (cs : List ColumnReport) → OnceEach (map numbers_of cs)
    → AllPairs (λ (c d : ColumnReport). c.region ≡ d.region → c.colour ≢ d.colour) cs
columns_apart [] o = λ i j d lt within. absurd (let f : ⊥ = omega (arith, within) in f)
columns_apart (c ∷ cs) o =
    AllPairs-cons (λ (x y : ColumnReport). x.region ≡ y.region → x.colour ≢ y.colour) c cs
    (all_in (λ (d : ColumnReport). c.region ≡ d.region → c.colour ≢ d.colour) cs (λ d i e f.
    o.0 (subst (λ (p : ℕ × ℕ). In p (map numbers_of cs))
    (ap (λ (k : ℕ). (k, d.colour)) (sym e) ∙ ap (λ (k : ℕ). (c.region, k)) (sym f)) (in_map-back numbers_of cs d i))))
    (columns_apart cs o.1)

-- ROWS

module _ (g : ℕ → List RowReport) (of_g : (x : ℕ) (p : RowReport) → In p (g x) → p.region ≡ x) where
  none_there : (from k r : ℕ) → r < from → filter (is_in r) (flat_map g (range_with_len from k)) ≡ []
  none_there from k r lt = filter_none (is_in r) (flat_map g (range_with_len from k)) (λ p i.
      let y = in_flat_map g (range_with_len from k) p i in
      let l = (in_range from k y.0 y.1).0 in
      let e = of_g y.0 p y.2 in
      false_from_ne_true (p.region == r) (λ t. let f = eqb-true p.region r t in let h : ⊥ = omega (arith, l, e, f, lt) in h))

  its_own : (from k r : ℕ) → from ≤ r → r < from + k → filter (is_in r) (flat_map g (range_with_len from k)) ≡ g r
  its_own from zero r le lt = absurd (let f : ⊥ = omega (arith, le, lt) in f)
  its_own from (suc k) r le lt =
      filter_joined (is_in r) (g from) (flat_map g (range_with_len (from + 1) k))
      ∙ turn (cases_lt from r) (λ more. its_own (from + 1) k r more (omega (arith, lt))) where
        behind : List RowReport
        behind = flat_map g (range_with_len (from + 1) k)

        turn : (from < r) ⊎ (r ≤ from) → (from + 1 ≤ r → filter (is_in r) behind ≡ g r)
            → filter (is_in r) (g from) ++ filter (is_in r) behind ≡ g r
        turn (inl less) more =
            ap (λ (l : List RowReport). l ++ filter (is_in r) behind)
            (filter_none (is_in r) (g from) (λ p i. let e = of_g from p i in
            false_from_ne_true (p.region == r) (λ t. let f = eqb-true p.region r t in
            let h : ⊥ = omega (arith, e, f, less) in h)))
            ∙ more (omega (arith, less))
        turn (inr most) more =
            let same : from ≡ r = omega (arith, le, most) in
            ap (λ (l : List RowReport). l ++ filter (is_in r) behind)
            (filter_all (is_in r) (g from) (λ p i. eq-eqb p.region r (of_g from p i ∙ same)))
            ∙ (ap (λ (l : List RowReport). g from ++ l) (none_there (from + 1) k r (omega (arith, same)))
            ∙ (append-nil (g from) ∙ ap g same))

same_flat : (f g : ℕ → List RowReport) (from k : ℕ) → ((r : ℕ) → from ≤ r → r < from + k → f r ≡ g r)
    → flat_map f (range_with_len from k) ≡ flat_map g (range_with_len from k)
same_flat f g from zero same = refl
same_flat f g from (suc k) same =
    ap (λ (l : List RowReport). l ++ flat_map f (range_with_len (from + 1) k)) (same from (omega arith) (omega arith))
    ∙ ap (λ (l : List RowReport). g from ++ l)
    (same_flat f g (from + 1) k (λ r le lt. same r (omega (arith, le)) (omega (arith, lt))))

pub rule_one_forms : RuleOneForms
rule_one_forms script report a told rules =
    let first = rule1 rules.1 in
    let rows : ℕ → List RowReport = λ r. map (row_report r) (a.log.rows r) in record {
      replied = λ n c there.
          let t = told.clients n c there in
          sym (ap length t.commands)
          ∙ (length-map (a.steps n) (λ (s : Step). s.command)
          ∙ (sym (length-map (a.steps n) (λ (s : Step). s.reply)) ∙ ap length t.replied));
      apart = columns_apart report.columns
          (subst OnceEach (sym first.columns) (once_rows script.shape.colours 0 script.shape.regions));
      rows = told.rows
          ∙ same_flat rows (λ r. filter (is_in r) report.rows) 0 script.shape.regions (λ r le lt.
          sym (its_own rows (shows_region a.log.rows) 0 script.shape.regions r le lt)
          ∙ ap (filter (is_in r)) (sym told.rows));
    }
