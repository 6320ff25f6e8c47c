-- What is looked up behind a step: the stamp of a row, own steps of an id, and own events that no command made before.
use Rattle.std.proofs.Common.{◌≡◌, ◌⊎◌, ℕ, zero, suc, ◌+◌, ◌<◌, ◌≤◌, Bool, true, false, ◌&&◌, ◌==◌, cond, List, [], ◌∷◌, ◌++◌, length, map, take, drop, Option, Some, None, get_or, inl, inr, refl, ap, sym, subst, ◌∙◌, arith, append_assoc}
use Rattle.std.specs.Prelude.{nat_le, nat_lt, not, slice_get}
use Rattle.std.specs.List.{filter, find}
use Rattle.std.specs.List.Sorted.{IsNonDecreasing}
use Rattle.std.proofs.lemmas.Bool.{cases_Bool, eq-eqb, le-leb, lt-leb, ltb-false, ltb-true}
use Rattle.std.proofs.lemmas.List.Elements.{filter_more}
use Rattle.std.proofs.lemmas.List.{get_or-take, length-append, length-take-le}
use Rattle.std.proofs.lemmas.Option.{slice_get_read, slice_get_within}
use Rattle.log_node.specs.declared.forms.Version.{Version}
use Rattle.log_node.specs.declared.ids.Id.{Id}
use Rattle.log_node.specs.Order.{same_id}
use Rattle.log_node.specs.Outcomes.{final_number}
use Rattle.log_node.proofs.CallerLemmas.{get_last, get_longer, same_id-is}
use Rattle.col_core.specs.declared.Event.{Event}
use Rattle.col_core.specs.declared.Event.TheVariants.{Single, Propose, Settle, Raise, Give, Carry, Trim}
use Rattle.col_core.specs.declared.Entry.{Entry}
use Rattle.col_core.specs.Log.{is_own, places_from}
use Rattle.col_core.specs.Rows.{BegunRow}
use Rattle.report_text.specs.declared.report.Answer.{Answer}
use Rattle.report_text.specs.declared.report.Answer.TheVariants as answers
use Rattle.report_text.specs.declared.report.ColumnReport.{ColumnReport}
use Rattle.report_text.specs.declared.report.KeyAnswer.{KeyAnswer}
use Rattle.report_text.specs.declared.report.RaisePiece.{RaisePiece}
use Rattle.report_text.specs.declared.report.ReplyLine.{ReplyLine}
use Rattle.report_text.specs.declared.report.SyncPiece.{SyncPiece}
use Rattle.report_text.specs.declared.report.RowReport.{RowReport}
use Rattle.run_rules.specs.Told.{last_of}
use Rattle.run_rules.specs.Telling.{is_among, is_in, is_step_at, is_step_of, no_nodes, row_of, step_places, unnamed}
use Rattle.walk_law.specs.declared.column_places.ColumnPlaces.{ColumnPlaces}
use Rattle.walk_law.specs.PlaceTables.{final_of, is_own_step, numbers_where, row_with, same_row, steps_in}
use Rattle.lawful_run.specs.Callers.{caller_of}
use Rattle.walk_law.specs.Behind.{steps_untold}
use Rattle.walk_law.specs.Keepings.{IsFoundAt, ShowsKeys}
use Rattle.walk_law.specs.Subjects.{AreAllPlaces}
use Rattle.walk_law.specs.Walking.{Walked, journal_walked, places_printed}
use Rattle.walk_law.proofs.PlaceLemmas.{is_made_by}
use Rattle.walk_law.proofs.PrintLemmas.{flip}

-- THE STAMP OF A ROW

module _ (histories : ℕ → ℕ → List Entry) (own : ℕ) (id : Id) where
  -- the row of the account
  abbrev told : RowReport → BegunRow
  told = row_of histories no_nodes

  pub row_final : (rows : List RowReport)
      → final_number (last_of (find (λ (r : BegunRow). same_id id r.node.id) (map (row_of histories no_nodes) (filter (is_in own) rows))))
      ≡ final_of (row_with own id rows)
  row_final [] = refl
  row_final (r ∷ rs) = outer (cases_Bool (r.region == own)) (row_final rs) where
    inner : (own == r.region) ≡ true → (same_id id r.id ≡ true) ⊎ (same_id id r.id ≡ false)
        → final_number (last_of (find (λ (b : BegunRow). same_id id b.node.id) (map told (filter (is_in own) rs)))) ≡ final_of (row_with own id rs)
        → final_number (last_of (cond (same_id id r.id) (Some (told r)) (find (λ (b : BegunRow). same_id id b.node.id) (map told (filter (is_in own) rs)))))
        ≡ final_of (cond ((own == r.region) && same_id id r.id) (Some r) (row_with own id rs))
    inner here (inl t) rest =
        ap (λ (b : Bool). final_number (last_of (cond b (Some (told r)) (find (λ (b : BegunRow). same_id id b.node.id) (map told (filter (is_in own) rs)))))) t
        ∙ sym (ap (λ (b : Bool). final_of (cond (b && same_id id r.id) (Some r) (row_with own id rs))) here
        ∙ ap (λ (b : Bool). final_of (cond b (Some r) (row_with own id rs))) t)
    inner here (inr f) rest =
        ap (λ (b : Bool). final_number (last_of (cond b (Some (told r)) (find (λ (b : BegunRow). same_id id b.node.id) (map told (filter (is_in own) rs)))))) f
        ∙ (rest
        ∙ sym (ap (λ (b : Bool). final_of (cond (b && same_id id r.id) (Some r) (row_with own id rs))) here
        ∙ ap (λ (b : Bool). final_of (cond b (Some r) (row_with own id rs))) f))

    outer : ((r.region == own) ≡ true) ⊎ ((r.region == own) ≡ false)
        → final_number (last_of (find (λ (b : BegunRow). same_id id b.node.id) (map told (filter (is_in own) rs)))) ≡ final_of (row_with own id rs)
        → final_number (last_of (find (λ (b : BegunRow). same_id id b.node.id) (map told (cond (r.region == own) (r ∷ filter (is_in own) rs) (filter (is_in own) rs)))))
        ≡ final_of (cond (same_row own id r.region r.id) (Some r) (row_with own id rs))
    outer (inl t) rest =
        ap (λ (b : Bool). final_number (last_of (find (λ (b : BegunRow). same_id id b.node.id) (map told (cond b (r ∷ filter (is_in own) rs) (filter (is_in own) rs)))))) t
        ∙ inner (flip own r.region ∙ t) (cases_Bool (same_id id r.id)) rest
    outer (inr f) rest =
        ap (λ (b : Bool). final_number (last_of (find (λ (b : BegunRow). same_id id b.node.id) (map told (cond b (r ∷ filter (is_in own) rs) (filter (is_in own) rs)))))) f
        ∙ (rest
        ∙ sym (ap (λ (b : Bool). final_of (cond (b && same_id id r.id) (Some r) (row_with own id rs))) (flip own r.region ∙ f)))

-- OWN STEPS OF AN ID

pub filter_same : {A : Type 0} (p q : A → Bool) → ((x : A) → p x ≡ q x) → (xs : List A) → filter p xs ≡ filter q xs
filter_same p q same [] = refl
filter_same p q same (x ∷ xs) =
    ap (λ (b : Bool). cond b (x ∷ filter p xs) (filter p xs)) (same x)
    ∙ ap (λ (l : List _). cond (q x) (x ∷ l) l) (filter_same p q same xs)

-- a step of a client's id that the client made is its own
step_own : (client : ℕ) (id : Id) (event : Event) → id.client ≡ client → is_step_of id event ≡ true → is_own client event ≡ true
step_own client id (Propose other floor wants) is step =
    eq-eqb other.client client (sym (ap (λ (i : Id). i.client) (same_id-is id other step)) ∙ is)
step_own client id (Settle other outcome) is step =
    eq-eqb other.client client (sym (ap (λ (i : Id). i.client) (same_id-is id other step)) ∙ is)
step_own client id (Single other floor wants) is step = refl
step_own client id (Raise to) is step = refl
step_own client id (Give region from) is step = refl
step_own client id (Carry region start heads) is step = refl
step_own client id (Trim counts) is step = refl

module _ (client count : ℕ) (q : ℕ → Bool) where
  abbrev the_id : Id
  the_id = record { client = client; count = count }

  -- of one event
  step_here : (e : Entry) (k : ℕ) (b s : Bool) (xs : List ℕ) → (e.by == client) ≡ b → is_step_of the_id e.event ≡ s
      → filter (λ p. s && q p) (cond (is_made_by client e) (k ∷ []) []) ++ filter q xs
      ≡ filter q (cond (is_own_step the_id e) (k ∷ xs) xs)
  step_here e k true true xs by step =
      let own : is_made_by client e ≡ true = ap (λ (b : Bool). b && is_own client e.event) by ∙ step_own client the_id e.event refl step in
      let made : is_own_step the_id e ≡ true = ap (λ (b : Bool). b && is_step_of the_id e.event) by ∙ step in
      ap (λ (b : Bool). filter (λ p. true && q p) (cond b (k ∷ []) []) ++ filter q xs) own
      ∙ (one (q k) ∙ sym (ap (λ (b : Bool). filter q (cond b (k ∷ xs) xs)) made)) where
        one : (b : Bool) → cond b (k ∷ []) [] ++ filter q xs ≡ cond b (k ∷ filter q xs) (filter q xs)
        one true = refl
        one false = refl
  step_here e k true false xs by step =
      let made : is_own_step the_id e ≡ false = ap (λ (b : Bool). b && is_step_of the_id e.event) by ∙ step in
      none (is_made_by client e) ∙ sym (ap (λ (b : Bool). filter q (cond b (k ∷ xs) xs)) made) where
        none : (b : Bool) → filter (λ p. false && q p) (cond b (k ∷ []) []) ++ filter q xs ≡ filter q xs
        none true = refl
        none false = refl
  step_here e k false s xs by step =
      let own : is_made_by client e ≡ false = ap (λ (b : Bool). b && is_own client e.event) by in
      let made : is_own_step the_id e ≡ false = ap (λ (b : Bool). b && is_step_of the_id e.event) by in
      ap (λ (b : Bool). filter (λ p. s && q p) (cond b (k ∷ []) []) ++ filter q xs) own
      ∙ sym (ap (λ (b : Bool). filter q (cond b (k ∷ xs) xs)) made)

  filter_first : (P : ℕ → Bool) (b : Bool) (k : ℕ) (xs : List ℕ) (s : Bool) → P k ≡ (s && q k)
      → filter P (cond b (k ∷ xs) xs) ≡ filter (λ p. s && q p) (cond b (k ∷ []) []) ++ filter P xs
  filter_first P true k xs s is = ap (λ (b : Bool). cond b (k ∷ filter P xs) (filter P xs)) is ∙ by (s && q k) where
    by : (b : Bool) → cond b (k ∷ filter P xs) (filter P xs) ≡ cond b (k ∷ []) [] ++ filter P xs
    by true = refl
    by false = refl
  filter_first P false k xs s is = refl

  steps_from : (before rest : List Entry) (k : ℕ) → k ≡ length before
      → filter (λ p. is_step_at the_id (slice_get (before ++ rest) p) && q p) (places_from k client rest)
      ≡ filter q (numbers_where (is_own_step the_id) k rest)
  steps_from before [] k is = refl
  steps_from before (e ∷ es) k is =
      filter_first (λ p. is_step_at the_id (slice_get (before ++ e ∷ es) p) && q p) (is_made_by client e) k
      (places_from (k + 1) client es) (is_step_of the_id e.event) (ap (λ (o : Option Entry). is_step_at the_id o && q k) here)
      ∙ (ap (λ (l : List ℕ). filter (λ p. is_step_of the_id e.event && q p) (cond (is_made_by client e) (k ∷ []) []) ++ l)
      (ap (λ (l : List Entry). filter (λ p. is_step_at the_id (slice_get l p) && q p) (places_from (k + 1) client es))
      (sym (append_assoc before (e ∷ []) es))
      ∙ steps_from (before ++ e ∷ []) es (k + 1)
      (let long = length-append before (e ∷ []) in omega (arith, is, long)))
      ∙ step_here e k (e.by == client) (is_step_of the_id e.event) (numbers_where (is_own_step the_id) (k + 1) es) refl refl) where
        here : slice_get (before ++ e ∷ es) k ≡ Some e
        here =
            ap (slice_get (before ++ e ∷ es)) is
            ∙ (ap (λ (l : List Entry). slice_get l (length before)) (sym (append_assoc before (e ∷ []) es))
            ∙ get_longer (before ++ e ∷ []) es (length before) e (get_last before e))

-- the own steps of an id that are not among these
pub steps_are : (client count : ℕ) (shown : List ℕ) (history : List Entry)
    → filter (λ p. not (is_among p shown)) (numbers_where (is_own_step (record { client = client; count = count })) 0 history)
    ≡ step_places client (record { client = client; count = count }) shown history
steps_are client count shown history = sym (steps_from client count (λ p. not (is_among p shown)) [] history 0 refl)

-- as a loop goes on
pub left_more : (left : ℕ → Bool) (xs : List ℕ) (i : ℕ) (old new : List ℕ) (b : Bool) → i < length xs → left (get_or xs i 0) ≡ b
    → old ≡ filter left (take i xs) → new ≡ old ++ cond b (get_or xs i 0 ∷ []) [] → new ≡ filter left (take (i + 1) xs)
left_more left xs i old new b lt is was now =
    now
    ∙ (ap (λ (l : List ℕ). l ++ cond b (get_or xs i 0 ∷ []) []) was
    ∙ (ap (λ (t : Bool). filter left (take i xs) ++ cond t (get_or xs i 0 ∷ []) []) (sym is) ∙ sym (filter_more left xs i 0 lt)))

-- a column without events has none
pub steps_none : (walked : Walked) (client count colour : ℕ) → journal_walked walked (caller_of walked.script client).own colour ≡ []
    → steps_untold walked client count colour ≡ []
steps_none walked client count colour none =
    let own = (caller_of walked.script client).own in
    ap (step_places client (record { client = client; count = count }) (places_printed walked client own colour)) none

-- those of a column at its place
pub steps_at : (clients at : ℕ) (columns : List ColumnReport) (places : List ColumnPlaces) (column : ColumnReport) (p : ColumnPlaces)
    (id : Id) → AreAllPlaces clients columns places → slice_get columns at ≡ Some column → p ≡ get_or places at p
    → steps_in p.steps id ≡ numbers_where (is_own_step id) 0 column.journal
steps_at clients at columns places column p id are there is =
    let within = slice_get_within columns at column there in
    let many = are.many in
    (are.each at column p there (slice_get_read places (length places) at p refl (omega (arith, within, many)) is)).steps id

-- OWN EVENTS IN A STRETCH

module _ {A : Type 0} (test : A → Bool) where
  none_left : (xs : List A) → ((k : ℕ) (d : A) → k < length xs → test (get_or xs k d) ≡ false) → filter test xs ≡ []
  none_left [] none = refl
  none_left (x ∷ xs) none =
      ap (λ (b : Bool). cond b (x ∷ filter test xs) (filter test xs)) (none zero x (omega arith))
      ∙ none_left xs (λ k d lt. none (suc k) d (omega (arith, lt)))

  all_left : (xs : List A) → ((k : ℕ) (d : A) → k < length xs → test (get_or xs k d) ≡ true) → filter test xs ≡ xs
  all_left [] all = refl
  all_left (x ∷ xs) all =
      ap (λ (b : Bool). cond b (x ∷ filter test xs) (filter test xs)) (all zero x (omega arith))
      ∙ ap (λ (l : List A). x ∷ l) (all_left xs (λ k d lt. all (suc k) d (omega (arith, lt))))

  -- those before a place are those for which the test holds
  pub front_is : (xs : List A) (n : ℕ) → ((k : ℕ) (d : A) → k < n → test (get_or xs k d) ≡ true)
      → ((k : ℕ) (d : A) → n ≤ k → k < length xs → test (get_or xs k d) ≡ false) → n ≤ length xs → filter test xs ≡ take n xs
  front_is xs zero front back le = none_left xs (λ k d lt. back k d (omega arith) lt)
  front_is [] (suc n) front back le = absurd (let f : ⊥ = omega (arith, le) in f)
  front_is (x ∷ xs) (suc n) front back le =
      ap (λ (b : Bool). cond b (x ∷ filter test xs) (filter test xs)) (front zero x (omega arith))
      ∙ ap (λ (l : List A). x ∷ l) (front_is xs n (λ k d lt. front (suc k) d (omega (arith, lt)))
      (λ k d low lt. back (suc k) d (omega (arith, low)) (omega (arith, lt))) (omega (arith, le)))

  -- those from a place on are those for which it holds
  pub back_is : (xs : List A) (n : ℕ) → ((k : ℕ) (d : A) → k < n → test (get_or xs k d) ≡ false)
      → ((k : ℕ) (d : A) → n ≤ k → k < length xs → test (get_or xs k d) ≡ true) → n ≤ length xs → filter test xs ≡ drop n xs
  back_is xs zero front back le = all_left xs (λ k d lt. back k d (omega arith) lt)
  back_is [] (suc n) front back le = absurd (let f : ⊥ = omega (arith, le) in f)
  back_is (x ∷ xs) (suc n) front back le =
      ap (λ (b : Bool). cond b (x ∷ filter test xs) (filter test xs)) (front zero x (omega arith))
      ∙ back_is xs n (λ k d lt. front (suc k) d (omega (arith, lt)))
      (λ k d low lt. back (suc k) d (omega (arith, low)) (omega (arith, lt))) (omega (arith, le))

-- first by one test, then by another
pub filter_both : {A : Type 0} (test other : A → Bool) (xs : List A) → filter other (filter test xs) ≡ filter (λ x. other x && test x) xs
filter_both test other [] = refl
filter_both {A} test other (x ∷ xs) = by (test x) (filter_both test other xs) where
  here : (o : Bool) → filter other (filter test xs) ≡ filter (λ y. other y && test y) xs
      → cond o (x ∷ filter other (filter test xs)) (filter other (filter test xs))
      ≡ cond (o && true) (x ∷ filter (λ y. other y && test y) xs) (filter (λ y. other y && test y) xs)
  here true rest = ap (λ (l : List A). x ∷ l) rest
  here false rest = rest

  gone : (o : Bool) → filter other (filter test xs) ≡ filter (λ y. other y && test y) xs
      → filter other (filter test xs) ≡ cond (o && false) (x ∷ filter (λ y. other y && test y) xs) (filter (λ y. other y && test y) xs)
  gone true rest = rest
  gone false rest = rest

  by : (t : Bool) → filter other (filter test xs) ≡ filter (λ y. other y && test y) xs
      → filter other (cond t (x ∷ filter test xs) (filter test xs))
      ≡ cond (other x && t) (x ∷ filter (λ y. other y && test y) xs) (filter (λ y. other y && test y) xs)
  by true rest = here (other x) rest
  by false rest = gone (other x) rest

-- places of own events rise
places_least : (client k : ℕ) (h : List Entry) (i d : ℕ) → i < length (places_from k client h)
    → k ≤ get_or (places_from k client h) i d
places_least client k [] i d lt = absurd (let f : ⊥ = omega (arith, lt) in f)
places_least client k (e ∷ es) i d lt = by (is_made_by client e) i lt (λ j less. places_least client (k + 1) es j d less) where
  by : (b : Bool) (i : ℕ) → i < length (cond b (k ∷ (places_from (k + 1) client es)) (places_from (k + 1) client es)) → ((j : ℕ) → j < length (places_from (k + 1) client es) → k + 1 ≤ get_or (places_from (k + 1) client es) j d)
      → k ≤ get_or (cond b (k ∷ (places_from (k + 1) client es)) (places_from (k + 1) client es)) i d
  by true zero lt rest = omega arith
  by true (suc i) lt rest = let low = rest i (omega (arith, lt)) in omega (arith, low)
  by false i lt rest = let low = rest i lt in omega (arith, low)

pub places_rise : (client k : ℕ) (h : List Entry) → IsNonDecreasing (places_from k client h)
places_rise client k [] i j d le lt = absurd (let f : ⊥ = omega (arith, lt) in f)
places_rise client k (e ∷ es) i j d le lt =
    by (is_made_by client e) i j le lt (λ m n low less. places_rise client (k + 1) es m n d low less) where
      by : (b : Bool) (i j : ℕ) → i ≤ j → j < length (cond b (k ∷ (places_from (k + 1) client es)) (places_from (k + 1) client es))
          → ((m n : ℕ) → m ≤ n → n < length (places_from (k + 1) client es) → get_or (places_from (k + 1) client es) m d ≤ get_or (places_from (k + 1) client es) n d)
          → get_or (cond b (k ∷ (places_from (k + 1) client es)) (places_from (k + 1) client es)) i d ≤ get_or (cond b (k ∷ (places_from (k + 1) client es)) (places_from (k + 1) client es)) j d
      by true zero zero le lt rest = omega arith
      by true zero (suc j) le lt rest = let low = places_least client (k + 1) es j d (omega (arith, lt)) in omega (arith, low)
      by true (suc i) zero le lt rest = absurd (let f : ⊥ = omega (arith, le) in f)
      by true (suc i) (suc j) le lt rest = rest i j (omega (arith, le)) (omega (arith, lt))
      by false i j le lt rest = rest i j le lt

pub take_rises : (xs : List ℕ) (n : ℕ) → n ≤ length xs → IsNonDecreasing xs → IsNonDecreasing (take n xs)
take_rises xs n few rise i j d le lt =
    let long = length-take-le n xs few in
    let less : j < n = omega (arith, lt, long) in
    let a = get_or-take n xs i d (omega (arith, le, less)) in
    let b = get_or-take n xs j d less in
    let up = rise i j d le (omega (arith, less, few)) in
    omega (arith, a, b, up)

-- those from one number on and before another
pub between_is : (xs : List ℕ) (past place to from : ℕ)
    → ((k d : ℕ) → k < to → nat_lt (get_or xs k d) place ≡ true)
    → ((k d : ℕ) → to ≤ k → k < length xs → nat_lt (get_or xs k d) place ≡ false) → to ≤ length xs
    → ((k d : ℕ) → k < from → nat_lt (get_or (take to xs) k d) past ≡ true)
    → ((k d : ℕ) → from ≤ k → k < length (take to xs) → nat_lt (get_or (take to xs) k d) past ≡ false)
    → from ≤ length (take to xs)
    → drop from (take to xs) ≡ filter (λ p. nat_le past p && nat_lt p place) xs
between_is xs past place to from below above few before behind less =
    sym (back_is (λ p. nat_le past p) (take to xs) from
    (λ k d lt. lt-leb past (get_or (take to xs) k d) (ltb-true _ past (before k d lt)))
    (λ k d le lt. le-leb past (get_or (take to xs) k d) (ltb-false _ past (behind k d le lt))) less)
    ∙ (ap (filter (λ p. nat_le past p)) (sym (front_is (λ p. nat_lt p place) xs to below above few))
    ∙ filter_both (λ p. nat_lt p place) (λ p. nat_le past p) xs)

-- WHAT A READ FOUND

keys_same : (shown : List KeyAnswer)
    → map (λ (v : Version). v.key) (map (λ (k : KeyAnswer). let v : Version = record { key = k.key; writer = None } in v) shown)
    ≡ map (λ (k : KeyAnswer). k.key) shown
keys_same [] = refl
keys_same (k ∷ ks) = ap (λ (l : List (List ℕ)). k.key ∷ l) (keys_same ks)

-- what is found is of the keys that the reply shows
pub found_at : (replies : List ReplyLine) (place : ℕ) (found : List Version) (answer : Answer) (stamp : ℕ) (shown : List KeyAnswer)
    (raises : List RaisePiece) (syncs : List SyncPiece)
    → (r : ReplyLine) × (slice_get replies place ≡ Some r) × (r.answer ≡ answer) → found ≡ unnamed answer
    → answer ≡ answers.GotKeys stamp shown raises syncs → IsFoundAt replies (Some found) (Some place)
found_at replies place found answer stamp shown raises syncs reply told is = (
  reply.0,
  reply.1,
  subst (ShowsKeys (map (λ (v : Version). v.key) found)) (sym (reply.2 ∙ is))
      (ap (map (λ (v : Version). v.key)) (told ∙ ap unnamed is) ∙ keys_same shown),
)
