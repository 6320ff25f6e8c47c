-- The rows of each client, counted.
use Rattle.std.proofs.Common.{◌≡◌, ◌⊎◌, ℕ, zero, suc, ◌+◌, ◌<◌, ◌≤◌, Bool, true, false, List, [], ◌∷◌, ◌++◌, length, take, drop, map, get_or, set, replicate, Some, ap, sym, subst, ◌∙◌, inl, inr, refl, arith, cond}
use Rattle.std.specs.Prelude.{slice_get, ◌==◌}
use Rattle.std.specs.List.{All, range_with_len}
use Rattle.std.proofs.lemmas.Bool.{cases_Bool, cases_lt, ne_eqb, eqb-true, eqb-false, eq-eqb}
use Rattle.std.proofs.lemmas.List.{get_or-replicate, get_or-set_same, get_or-set_other, length-append, length-replicate, length-set, map-append, append-nil, drop_more, take-append-drop}
use Rattle.log_node.proofs.CallerLemmas.{get_map, get_range}
use Rattle.col_core.proofs.CallerLemmas.{if_true, if_false}
use Rattle.report_text.specs.declared.report.RowReport.{RowReport}
use Rattle.walk_law.specs.RowsBeside.{AreCounted, AreInOrder, rows_by}

abbrev numbers : List RowReport → List ℕ
numbers rows = map (λ (r : RowReport). r.row.number) rows

range_push : (a n : ℕ) → range_with_len a (n + 1) ≡ range_with_len a n ++ (a + n) ∷ []
range_push a zero = ap (λ (k : ℕ). k ∷ []) (omega arith)
range_push a (suc n) =
    ap (range_with_len a) (let e : suc n + 1 ≡ suc (n + 1) = omega arith in e)
    ∙ (ap (λ (l : List ℕ). a ∷ l) (range_push (a + 1) n)
    ∙ ap (λ (k : ℕ). a ∷ (range_with_len (a + 1) n ++ k ∷ [])) (let e : a + 1 + n ≡ a + suc n = omega arith in e))

-- the rows of a client among some and others
by_joined : (client : ℕ) (xs ys : List RowReport) → rows_by client (xs ++ ys) ≡ rows_by client xs ++ rows_by client ys
by_joined client [] ys = refl
by_joined client (x ∷ xs) ys = elim (cases_Bool (x.row.client == client)) [
  | inl t ↦
      if_true (x.row.client == client) (x ∷ rows_by client (xs ++ ys)) (rows_by client (xs ++ ys)) t
      ∙ (ap (λ (l : List RowReport). x ∷ l) (by_joined client xs ys)
      ∙ ap (λ (l : List RowReport). l ++ rows_by client ys) (sym (if_true (x.row.client == client) (x ∷ rows_by client xs) (rows_by client xs) t)))
  | inr f ↦
      if_false (x.row.client == client) (x ∷ rows_by client (xs ++ ys)) (rows_by client (xs ++ ys)) f
      ∙ (by_joined client xs ys
      ∙ ap (λ (l : List RowReport). l ++ rows_by client ys) (sym (if_false (x.row.client == client) (x ∷ rows_by client xs) (rows_by client xs) f)))
]

by_own : (r : RowReport) (ys : List RowReport) → rows_by r.row.client (r ∷ ys) ≡ r ∷ rows_by r.row.client ys
by_own r ys = if_true (r.row.client == r.row.client) (r ∷ rows_by r.row.client ys) (rows_by r.row.client ys) (eq-eqb r.row.client r.row.client refl)

pub few_by : (client : ℕ) (xs : List RowReport) → length (rows_by client xs) ≤ length xs
few_by client [] = omega arith
few_by client (x ∷ xs) = by (x.row.client == client) (few_by client xs) where
  by : (b : Bool) → length (rows_by client xs) ≤ length xs
      → length (cond b (x ∷ rows_by client xs) (rows_by client xs)) ≤ length (x ∷ xs)
  by true le = omega (arith, le)
  by false le = omega (arith, le)

-- none yet
pub counted_none : (clients : ℕ) (counts : List ℕ) → counts ≡ replicate clients 0 → AreCounted clients [] counts
counted_none clients counts is = record {
  many = ap length is ∙ length-replicate clients 0;
  each = λ client lt. ap (λ (l : List ℕ). get_or l client 0) is ∙ get_or-replicate clients client 0 0 lt;
  ordered = λ client lt. refl;
}

module _ (clients : ℕ) (before : List RowReport) (counts : List ℕ) (r : RowReport) (are : AreCounted clients before counts)
    (lt : r.row.client < clients) where
  abbrev At : ℕ → ℕ → Type 0
  At count client =
      (get_or (set counts r.row.client (count + 1)) client 0 ≡ length (rows_by client (before ++ r ∷ [])))
      × (numbers (rows_by client (before ++ r ∷ [])) ≡ range_with_len 0 (length (rows_by client (before ++ r ∷ []))))

  -- one more
  pub counted_more : (count : ℕ) → count ≡ get_or counts r.row.client 0 → r.row.number ≡ count
      → AreCounted clients (before ++ r ∷ []) (set counts r.row.client (count + 1))
  counted_more count is number = record {
    many = length-set counts r.row.client (count + 1) ∙ are.many;
    each = λ client low. (at client low (cases_Bool (r.row.client == client))).0;
    ordered = λ client low. (at client low (cases_Bool (r.row.client == client))).1;
  } where
    own : At count r.row.client
    own =
        let c = r.row.client in
        let rows : rows_by c (before ++ r ∷ []) ≡ rows_by c before ++ r ∷ [] =
        by_joined c before (r ∷ []) ∙ ap (λ (l : List RowReport). rows_by c before ++ l) (by_own r []) in
        let has : count ≡ length (rows_by c before) = is ∙ are.each c lt in
        let long : length (rows_by c (before ++ r ∷ [])) ≡ length (rows_by c before) + 1 =
        ap length rows ∙ length-append (rows_by c before) (r ∷ []) in
        let much = are.many in (
          get_or-set_same counts c (count + 1) 0 (omega (arith, lt, much)) ∙ (let e : count + 1 ≡ length (rows_by c (before ++ r ∷ [])) = omega (arith, has, long) in e),
          ap numbers rows
              ∙ (map-append (λ (x : RowReport). x.row.number) (rows_by c before) (r ∷ [])
              ∙ (ap (λ (l : List ℕ). l ++ r.row.number ∷ []) (are.ordered c lt)
              ∙ (ap (λ (k : ℕ). range_with_len 0 (length (rows_by c before)) ++ k ∷ []) (let e : r.row.number ≡ 0 + length (rows_by c before) = omega (arith, number, has) in e)
              ∙ (sym (range_push 0 (length (rows_by c before))) ∙ ap (range_with_len 0) (sym long))))),
        )

    other : (client : ℕ) → client < clients → (r.row.client == client) ≡ false → At count client
    other client low f =
        let rows : rows_by client (before ++ r ∷ []) ≡ rows_by client before =
        by_joined client before (r ∷ [])
        ∙ (ap (λ (l : List RowReport). rows_by client before ++ l) (if_false (r.row.client == client) (r ∷ []) [] f)
        ∙ append-nil (rows_by client before)) in (
          get_or-set_other counts r.row.client client (count + 1) 0 (λ e. eqb-false r.row.client client f (sym e))
              ∙ (are.each client low ∙ ap length (sym rows)),
          ap numbers rows ∙ (are.ordered client low ∙ ap (λ (l : List RowReport). range_with_len 0 (length l)) (sym rows)),
        )

    at : (client : ℕ) → client < clients → ((r.row.client == client) ≡ true) ⊎ ((r.row.client == client) ≡ false) → At count client
    at client low (inl t) = subst (At count) (eqb-true r.row.client client t) own
    at client low (inr f) = other client low f

  -- where the next has another number, they are not in order
  pub miscounted : (rest : List RowReport) (count : ℕ) → count ≡ get_or counts r.row.client 0 → (r.row.number ≡ count → ⊥)
      → AreInOrder (before ++ r ∷ rest) → ⊥
  miscounted rest count is differs ordered =
      let c = r.row.client in
      let rows : rows_by c (before ++ r ∷ rest) ≡ rows_by c before ++ r ∷ rows_by c rest =
      by_joined c before (r ∷ rest) ∙ ap (λ (l : List RowReport). rows_by c before ++ l) (by_own r rest) in
      let n = length (rows_by c before) in
      let there : slice_get (numbers (rows_by c (before ++ r ∷ rest))) n ≡ Some r.row.number =
      ap (λ (l : List RowReport). slice_get (numbers l) n) rows
      ∙ get_map (λ (x : RowReport). x.row.number) (rows_by c before ++ r ∷ rows_by c rest) n r (at_end (rows_by c before) r (rows_by c rest)) in
      let value = get_range 0 (length (rows_by c (before ++ r ∷ rest))) n r.row.number
      (ap (λ (l : List ℕ). slice_get l n) (sym (ordered c)) ∙ there) in
      let has = are.each c lt in
      differs (let e : r.row.number ≡ count = omega (arith, value, has, is) in e) where
        at_end : (xs : List RowReport) (y : RowReport) (ys : List RowReport) → slice_get (xs ++ y ∷ ys) (length xs) ≡ Some y
        at_end [] y ys = refl
        at_end (x ∷ xs) y ys = at_end xs y ys

  -- counts stay small
  pub count_within : (count : ℕ) → count ≡ get_or counts r.row.client 0 → count ≤ length before
  count_within count is = let has = are.each r.row.client lt in let few = few_by r.row.client before in omega (arith, is, has, few)

-- all are counted
pub counted_all : (clients : ℕ) (rows : List RowReport) (counts : List ℕ) → All (λ (r : RowReport). r.row.client < clients) rows
    → AreCounted clients rows counts → AreInOrder rows
counted_all clients rows counts within are client = by (cases_lt client clients) where
  none : (xs : List RowReport) → All (λ (r : RowReport). r.row.client < clients) xs → clients ≤ client → rows_by client xs ≡ []
  none [] all ge = refl
  none (x ∷ xs) all ge =
      let low = all 0 x (omega arith) in
      if_false (x.row.client == client) (x ∷ rows_by client xs) (rows_by client xs)
      (ne_eqb x.row.client client (λ e. let f : ⊥ = omega (arith, low, ge, e) in f))
      ∙ none xs (λ k d lt. all (suc k) d (let l : suc k < length (x ∷ xs) = omega (arith, lt) in l)) ge

  by : (client < clients) ⊎ (clients ≤ client) → numbers (rows_by client rows) ≡ range_with_len 0 (length (rows_by client rows))
  by (inl lt) = are.ordered client lt
  by (inr ge) =
      ap numbers (none rows within ge) ∙ ap (λ (l : List RowReport). range_with_len 0 (length l)) (sym (none rows within ge))

pub split_row : (rows : List RowReport) (i : ℕ) (r : RowReport) → i < length rows → r ≡ get_or rows i r
    → rows ≡ take i rows ++ r ∷ drop (i + 1) rows
split_row rows i r lt is =
    sym (take-append-drop i rows)
    ∙ ap (λ (l : List RowReport). take i rows ++ l)
    (drop_more rows i r lt ∙ ap (λ (x : RowReport). x ∷ drop (i + 1) rows) (sym is))
