-- Places by number and by id: one item more, and what tables have then.
use Rattle.std.proofs.Common.{◌≡◌, ◌⊎◌, ℕ, ◌+◌, ◌<◌, Bool, true, false, ◌&&◌, ◌==◌, cond, List, [], ◌∷◌, ◌++◌, length, take, Option, Some, None, inl, inr, refl, ap, sym, subst, ◌∙◌, arith, get_or}
use Rattle.std.specs.Prelude.{slice_get}
use Rattle.std.specs.Ordering.{is_eq}
use Rattle.std.specs.List.{find}
use Rattle.std.specs.Map.{lookup}
use Rattle.std.proofs.lemmas.Bool.{cases_Bool, true≢false, eq-eqb, eqb-true}
use Rattle.std.proofs.lemmas.List.{length-take-le, take_more}
use Rattle.log_node.specs.declared.ids.Id.{Id}
use Rattle.log_node.specs.Order.{same_id}
use Rattle.log_node.specs.contracts.ids.IdOrd.TheImpl.{cmp-value}
use Rattle.log_node.proofs.CallerLemmas.{same_id-is, same_id-refl, same_some}
use Rattle.col_core.specs.declared.Event.{Event}
use Rattle.col_core.specs.declared.Event.TheVariants.{Single, Propose, Settle, Raise, Give, Carry, Trim}
use Rattle.col_core.specs.declared.Entry.{Entry}
use Rattle.col_core.specs.Log.{is_own, places_from, places_of}
use Rattle.script_text.specs.declared.script.Command.{Command}
use Rattle.run_rules.specs.Telling.{is_step_of}
use Rattle.walk_law.specs.declared.step_table.StepTable.{StepTable}
use Rattle.walk_law.specs.PlaceTables.{AreOfClients, AreSteps, is_asked_by, is_own_step, listed_or, numbers_where, own_id, places_at, step_made, steps_in}
use Rattle.walk_law.proofs.PrintLemmas.{flip}
use Rattle.walk_law.proofs.TableLemmas.{equal_is_same}

-- ONE ITEM MORE

module _ {A : Type 0} (test : A → Bool) where
  pub where_more : (k : ℕ) (xs : List A) (x : A)
      → numbers_where test k (xs ++ x ∷ []) ≡ numbers_where test k xs ++ cond (test x) ((k + length xs) ∷ []) []
  where_more k [] x = by (test x) where
    by : (b : Bool) → cond b (k ∷ []) [] ≡ cond b ((k + 0) ∷ []) []
    by true = ap (λ (n : ℕ). n ∷ []) (let e : k ≡ k + 0 = omega arith in e)
    by false = refl
  where_more k (y ∷ ys) x =
      by (where_more (k + 1) ys x ∙ ap (λ (n : ℕ). numbers_where test (k + 1) ys ++ cond (test x) (n ∷ []) [])
      (let e : k + 1 + length ys ≡ k + length (y ∷ ys) = omega arith in e)) (test y) where
        by : numbers_where test (k + 1) (ys ++ x ∷ []) ≡ numbers_where test (k + 1) ys ++ cond (test x) ((k + length (y ∷ ys)) ∷ []) []
            → (b : Bool) → cond b (k ∷ numbers_where test (k + 1) (ys ++ x ∷ [])) (numbers_where test (k + 1) (ys ++ x ∷ []))
            ≡ cond b (k ∷ numbers_where test (k + 1) ys) (numbers_where test (k + 1) ys) ++ cond (test x) ((k + length (y ∷ ys)) ∷ []) []
        by more true = ap (λ (l : List ℕ). k ∷ l) more
        by more false = more

  -- as a loop goes on
  pub where_next : (xs : List A) (at : ℕ) (x : A) → at < length xs → x ≡ get_or xs at x
      → numbers_where test 0 (take (at + 1) xs) ≡ numbers_where test 0 (take at xs) ++ cond (test x) (at ∷ []) []
  where_next xs at x lt is =
      ap (numbers_where test 0) (take_more xs at x lt ∙ ap (λ (y : A). take at xs ++ y ∷ []) (sym is))
      ∙ (where_more 0 (take at xs) x
      ∙ ap (λ (n : ℕ). numbers_where test 0 (take at xs) ++ cond (test x) (n ∷ []) [])
      (let long = length-take-le at xs (omega (arith, lt)) in let e : 0 + length (take at xs) ≡ at = omega (arith, long) in e))

-- OWN EVENTS

-- the event is the client's own
abbrev pub is_made_by : ℕ → Entry → Bool
is_made_by client e = (e.by == client) && is_own client e.event

pub made_where : (client k : ℕ) (h : List Entry) → places_from k client h ≡ numbers_where (is_made_by client) k h
made_where client k [] = refl
made_where client k (e ∷ es) =
    ap (λ (l : List ℕ). cond (is_made_by client e) (k ∷ l) l) (made_where client (k + 1) es)

by_maker : (by other : ℕ) (event : Event) → is_own by event ≡ true → ((by == other) && is_own other event) ≡ (other == by)
by_maker by other event own = turn (cases_Bool (by == other)) where
  turn : ((by == other) ≡ true) ⊎ ((by == other) ≡ false) → ((by == other) && is_own other event) ≡ (other == by)
  turn (inl t) =
      let same : by ≡ other = eqb-true by other t in
      ap (λ (b : Bool). b && is_own other event) t
      ∙ (subst (λ (n : ℕ). is_own n event ≡ true) same own
      ∙ sym (subst (λ (n : ℕ). (other == n) ≡ true) (sym same) (eq-eqb other other refl)))
  turn (inr f) = ap (λ (b : Bool). b && is_own other event) f ∙ sym (flip (cases_Bool (other == by))) where
    flip : ((other == by) ≡ true) ⊎ ((other == by) ≡ false) → (other == by) ≡ false
    flip (inl t) = absurd (true≢false (sym (subst (λ (n : ℕ). (by == n) ≡ true) (sym (eqb-true other by t)) (eq-eqb by by refl)) ∙ f))
    flip (inr e) = e

by_none : (by other : ℕ) (event : Event) → is_own by event ≡ false → ((by == other) && is_own other event) ≡ false
by_none by other event none = turn (cases_Bool (by == other)) where
  turn : ((by == other) ≡ true) ⊎ ((by == other) ≡ false) → ((by == other) && is_own other event) ≡ false
  turn (inl t) =
      ap (λ (b : Bool). b && is_own other event) t ∙ subst (λ (n : ℕ). is_own n event ≡ false) (eqb-true by other t) none
  turn (inr f) = ap (λ (b : Bool). b && is_own other event) f

-- the lists of makers so far
pub record MadeSo (clients : ℕ) (before : List Entry) (lists : List (List ℕ)) : Type 0 where
  pub many : length lists ≡ clients
  pub each : (client : ℕ) → client < clients → places_at lists client ≡ places_of client before

take_here : (xs : List ℕ) (b c : Bool) (k : ℕ) → b ≡ c → cond b (xs ++ k ∷ []) xs ≡ xs ++ cond c (k ∷ []) []
take_here xs b c k e = ap (λ (d : Bool). cond d (xs ++ k ∷ []) xs) e ∙ by c where
  end : (ys : List ℕ) → ys ≡ ys ++ []
  end [] = refl
  end (y ∷ ys) = ap (λ (l : List ℕ). y ∷ l) (end ys)

  by : (d : Bool) → cond d (xs ++ k ∷ []) xs ≡ xs ++ cond d (k ∷ []) []
  by true = refl
  by false = end xs

no_more : (xs : List ℕ) (b : Bool) (k : ℕ) → b ≡ false → xs ≡ xs ++ cond b (k ∷ []) []
no_more xs b k f = take_here xs false b k (sym f)

module _ (clients : ℕ) (journal : List Entry) (at : ℕ) (e : Entry) (lt : at < length journal) (is : e ≡ get_or journal at e) where
  next_of : (client : ℕ) → places_of client (take (at + 1) journal)
      ≡ places_of client (take at journal) ++ cond (is_made_by client e) (at ∷ []) []
  next_of client =
      made_where client 0 (take (at + 1) journal)
      ∙ (where_next (is_made_by client) journal at e lt is
      ∙ ap (λ (l : List ℕ). l ++ cond (is_made_by client e) (at ∷ []) []) (sym (made_where client 0 (take at journal))))

  pub made_more : (old new : List (List ℕ)) → is_own e.by e.event ≡ true → length new ≡ length old
      → ((other : ℕ) → other < length old
      → places_at new other ≡ cond (other == e.by) (places_at old other ++ at ∷ []) (places_at old other))
      → MadeSo clients (take at journal) old → MadeSo clients (take (at + 1) journal) new
  made_more old new own same added so = record {
    many = same ∙ so.many;
    each = λ client low.
        added client (subst (λ (n : ℕ). client < n) (sym so.many) low)
        ∙ (take_here (places_at old client) (client == e.by) (is_made_by client e) at (sym (by_maker e.by client e.event own))
        ∙ (ap (λ (l : List ℕ). l ++ cond (is_made_by client e) (at ∷ []) []) (so.each client low) ∙ sym (next_of client)));
  }

  pub made_less : (old : List (List ℕ)) → is_own e.by e.event ≡ false
      → MadeSo clients (take at journal) old → MadeSo clients (take (at + 1) journal) old
  made_less old none so = record {
    many = so.many;
    each = λ client low.
        so.each client low
        ∙ (no_more (places_of client (take at journal)) (is_made_by client e) at (by_none e.by client e.event none)
        ∙ sym (next_of client));
  }

-- OWN STEPS

and_false : (b : Bool) → (b && false) ≡ false
and_false true = refl
and_false false = refl

own_same : (by : ℕ) (i id other : Id) → own_id by i ≡ Some id → ((by == other.client) && same_id other i) ≡ same_id other id
own_same by i id other e = turn (cases_Bool (i.client == by)) where
  turn : ((i.client == by) ≡ true) ⊎ ((i.client == by) ≡ false) → ((by == other.client) && same_id other i) ≡ same_id other id
  turn (inl t) =
      let one : i ≡ id = same_some (sym (ap (λ (b : Bool). cond b (Some i) None) t) ∙ e) in
      same (cases_Bool (same_id other i)) ∙ ap (same_id other) one where
        same : (same_id other i ≡ true) ⊎ (same_id other i ≡ false) → ((by == other.client) && same_id other i) ≡ same_id other i
        same (inl s) =
            let is : other ≡ i = same_id-is other i s in
            ap (λ (b : Bool). b && same_id other i)
            (subst (λ (n : ℕ). (by == n) ≡ true) (sym (ap (λ (j : Id). j.client) is))
            (subst (λ (n : ℕ). (by == n) ≡ true) (sym (eqb-true i.client by t)) (eq-eqb by by refl)))
        same (inr f) = ap (λ (b : Bool). (by == other.client) && b) f ∙ (no (by == other.client) ∙ sym f) where
          no : (b : Bool) → (b && false) ≡ false
          no true = refl
          no false = refl
  turn (inr f) = absurd (let g : ⊥ = cc (ap (λ (b : Bool). cond b (Some i) None) f, e) in g)

own_not : (by : ℕ) (i other : Id) → own_id by i ≡ None → ((by == other.client) && same_id other i) ≡ false
own_not by i other e = turn (cases_Bool (same_id other i)) (cases_Bool (i.client == by)) where
  no : (b : Bool) → (b && false) ≡ false
  no true = refl
  no false = refl

  turn : (same_id other i ≡ true) ⊎ (same_id other i ≡ false) → ((i.client == by) ≡ true) ⊎ ((i.client == by) ≡ false)
      → ((by == other.client) && same_id other i) ≡ false
  turn (inr f) b = ap (λ (c : Bool). (by == other.client) && c) f ∙ no (by == other.client)
  turn (inl s) (inl t) = absurd (let g : ⊥ = cc (ap (λ (b : Bool). cond b (Some i) None) t, e) in g)
  turn (inl s) (inr f) = ap (λ (b : Bool). b && same_id other i) (flip (cases_Bool (by == other.client))) where
    flip : ((by == other.client) ≡ true) ⊎ ((by == other.client) ≡ false) → (by == other.client) ≡ false
    flip (inr g) = g
    flip (inl t) =
        let c : other.client ≡ i.client = ap (λ (j : Id). j.client) (same_id-is other i s) in
        let b : by ≡ i.client = eqb-true by other.client t ∙ c in
        absurd (true≢false (sym (subst (λ (n : ℕ). (n == by) ≡ true) b (eq-eqb by by refl)) ∙ f))

step_is : (by : ℕ) (event : Event) (id other : Id) → step_made by event ≡ Some id
    → ((by == other.client) && is_step_of other event) ≡ same_id other id
step_is by (Propose i floor wants) id other e = own_same by i id other e
step_is by (Settle i outcome) id other e = own_same by i id other e
step_is by (Single i floor wants) id other e = absurd (let f : ⊥ = cc (e) in f)
step_is by (Raise to) id other e = absurd (let f : ⊥ = cc (e) in f)
step_is by (Give region from) id other e = absurd (let f : ⊥ = cc (e) in f)
step_is by (Carry region start heads) id other e = absurd (let f : ⊥ = cc (e) in f)
step_is by (Trim counts) id other e = absurd (let f : ⊥ = cc (e) in f)

step_none : (by : ℕ) (event : Event) (other : Id) → step_made by event ≡ None
    → ((by == other.client) && is_step_of other event) ≡ false
step_none by (Propose i floor wants) other e = own_not by i other e
step_none by (Settle i outcome) other e = own_not by i other e
step_none by (Single i floor wants) other e = and_false (by == other.client)
step_none by (Raise to) other e = and_false (by == other.client)
step_none by (Give region from) other e = and_false (by == other.client)
step_none by (Carry region start heads) other e = and_false (by == other.client)
step_none by (Trim counts) other e = and_false (by == other.client)

module _ (journal : List Entry) (at : ℕ) (e : Entry) (lt : at < length journal) (is : e ≡ get_or journal at e) where
  pub steps_more : (old new : StepTable) (id : Id) → Some id ≡ step_made e.by e.event
      → ((other : Id) → steps_in new other ≡ cond (same_id other id) (steps_in old other ++ at ∷ []) (steps_in old other))
      → AreSteps (take at journal) old → AreSteps (take (at + 1) journal) new
  steps_more old new id made added so = λ other.
      added other
      ∙ (take_here (steps_in old other) (same_id other id) (is_own_step other e) at (sym (step_is e.by e.event id other (sym made)))
      ∙ (ap (λ (l : List ℕ). l ++ cond (is_own_step other e) (at ∷ []) []) (so other)
      ∙ sym (where_next (is_own_step other) journal at e lt is)))

  pub steps_less : (old : StepTable) → None ≡ step_made e.by e.event
      → AreSteps (take at journal) old → AreSteps (take (at + 1) journal) old
  steps_less old none so = λ other.
      so other
      ∙ (no_more (numbers_where (is_own_step other) 0 (take at journal)) (is_own_step other e) at (step_none e.by e.event other (sym none))
      ∙ sym (where_next (is_own_step other) journal at e lt is))

-- what a map of lists has at an id
abbrev pub listed : Option (List ℕ) → List ℕ
listed None = []
listed (Some l) = l

pub steps_found : (id : Id) (es : List (Id × List ℕ))
    → listed (lookup (λ k. is_eq (cmp-value.it id k)) es) ≡ listed_or (find (λ e. same_id e.0 id) es)
steps_found id [] = refl
steps_found id (e ∷ es) = elim (cases_Bool (same_id e.0 id)) [
  | inl here ↦ rw (equal_is_same id e.0, here) refl
  | inr other ↦ rw (equal_is_same id e.0, other) (steps_found id es)
]

-- one place more of an id, whose list was taken out and is put back
pub one_step : (old taken new : List (Id × List ℕ)) (id : Id) (place : ℕ) (was : List ℕ)
    → was ≡ listed (lookup (λ k. is_eq (cmp-value.it id k)) old)
    → ((other : Id) → lookup (λ k. is_eq (cmp-value.it other k)) taken
    ≡ cond (is_eq (cmp-value.it id other)) None (lookup (λ k. is_eq (cmp-value.it other k)) old))
    → ((other : Id) → lookup (λ k. is_eq (cmp-value.it other k)) new
    ≡ cond (is_eq (cmp-value.it id other)) (Some (was ++ place ∷ [])) (lookup (λ k. is_eq (cmp-value.it other k)) taken))
    → (other : Id) → listed_or (find (λ e. same_id e.0 other) new)
    ≡ cond (same_id other id) (listed_or (find (λ e. same_id e.0 other) old) ++ place ∷ []) (listed_or (find (λ e. same_id e.0 other) old))
one_step old taken new id place was here out step other = turn (cases_Bool (same_id other id)) where
  now : listed (lookup (λ k. is_eq (cmp-value.it other k)) new) ≡ listed_or (find (λ e. same_id e.0 other) new)
  now = steps_found other new

  before : listed (lookup (λ k. is_eq (cmp-value.it other k)) old) ≡ listed_or (find (λ e. same_id e.0 other) old)
  before = steps_found other old

  turn : (same_id other id ≡ true) ⊎ (same_id other id ≡ false) → listed_or (find (λ e. same_id e.0 other) new)
      ≡ cond (same_id other id) (listed_or (find (λ e. same_id e.0 other) old) ++ place ∷ []) (listed_or (find (λ e. same_id e.0 other) old))
  turn (inl t) =
      let one : other ≡ id = same_id-is other id t in
      let hit : is_eq (cmp-value.it id other) ≡ true = equal_is_same id other ∙ t in
      sym now
      ∙ (ap listed (step other)
      ∙ (ap (λ (b : Bool). listed (cond b (Some (was ++ place ∷ [])) (lookup (λ k. is_eq (cmp-value.it other k)) taken))) hit
      ∙ (ap (λ (l : List ℕ). l ++ place ∷ [])
      (here ∙ (ap (λ (i : Id). listed (lookup (λ k. is_eq (cmp-value.it i k)) old)) (sym one) ∙ before))
      ∙ sym (ap (λ (b : Bool). cond b (listed_or (find (λ e. same_id e.0 other) old) ++ place ∷ []) (listed_or (find (λ e. same_id e.0 other) old))) t))))
  turn (inr f) =
      let miss : is_eq (cmp-value.it id other) ≡ false = equal_is_same id other ∙ f in
      sym now
      ∙ (ap listed (step other)
      ∙ (ap (λ (b : Bool). listed (cond b (Some (was ++ place ∷ [])) (lookup (λ k. is_eq (cmp-value.it other k)) taken))) miss
      ∙ (ap listed (out other)
      ∙ (ap (λ (b : Bool). listed (cond b None (lookup (λ k. is_eq (cmp-value.it other k)) old))) miss
      ∙ (before
      ∙ sym (ap (λ (b : Bool). cond b (listed_or (find (λ e. same_id e.0 other) old) ++ place ∷ []) (listed_or (find (λ e. same_id e.0 other) old))) f))))))

-- COMMANDS

pub commands_more : (clients : ℕ) (commands : List Command) (at : ℕ) (c : Command) → at < length commands → c ≡ get_or commands at c
    → (old new : List (List ℕ)) → length new ≡ length old
    → ((other : ℕ) → other < length old
    → places_at new other ≡ cond (other == c.client) (places_at old other ++ at ∷ []) (places_at old other))
    → AreOfClients clients (take at commands) old → AreOfClients clients (take (at + 1) commands) new
commands_more clients commands at c lt is old new same added so = record {
  many = same ∙ so.many;
  each = λ client low.
      added client (subst (λ (n : ℕ). client < n) (sym so.many) low)
      ∙ (take_here (places_at old client) (client == c.client) (is_asked_by client c) at (flip client c.client)
      ∙ (ap (λ (l : List ℕ). l ++ cond (is_asked_by client c) (at ∷ []) []) (so.each client low)
      ∙ sym (where_next (is_asked_by client) commands at c lt is)));
}
