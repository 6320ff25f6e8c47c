-- What the status of an id says of the events of a past, and the other way.
use Rattle.std.proofs.Common.{◌≡◌, ℕ, ◌+◌, ◌<◌, ◌≤◌, max, List, [], ◌∷◌, ◌++◌, Option, Some, None, Bool, true, false}
use Rattle.std.proofs.Common.{refl, subst, ap, sym, ◌∙◌, inl, inr, ◌⊎◌, arith}
use Rattle.std.specs.Prelude.{◌||◌, not, reverse}
use Rattle.std.specs.List.{find}
use Rattle.std.proofs.lemmas.Bool.{true≢false, and_parts, or_cases}
use Rattle.std.proofs.lemmas.List.Folds.{list_any-append}
use Rattle.log_node.specs.declared.ids.Id.{Id}
use Rattle.log_node.specs.declared.ids.Counts.{Counts}
use Rattle.log_node.specs.Order.{same_id}
use Rattle.log_node.specs.declared.marks.Outcome.{Outcome}
use Rattle.log_node.specs.declared.marks.Outcome.TheVariants.{Open, Gone, Final}
use Rattle.log_node.specs.Standings.{Standing, open_entry, is_open_id}
use Rattle.col_core.specs.declared.Event.TheVariants as events
use Rattle.col_core.specs.declared.Event.{Event}
use Rattle.col_core.specs.declared.Entry.{Entry}
use Rattle.col_core.specs.History.{entry_key, event_number, last_stamp, enters, has_entered}
use Rattle.col_core.proofs.Basics.{choice, by_test, if_true, if_false, apart, not_true, same_id-refl}
use Rattle.col_core.proofs.Basics.{same_id-true}
use Rattle.col_core.proofs.Pasts.{Status, Absent, Alone, Waits, Settled, status, after_event, standing_of, entries}
use Rattle.col_core.proofs.Pasts.{clock, IsLawfulPast, IsLawfulNext}
use Rattle.col_core.proofs.Members.{In, shown, stands}
use Rattle.col_core.proofs.LawfulPasts.{reverse-cons, open_waits, found}

-- the id came by a single, or was settled
abbrev pub IsClosed : Status → Type 0
IsClosed Absent = ⊥
IsClosed (Alone stamp) = Unit {0}
IsClosed (Waits stamp) = ⊥
IsClosed (Settled outcome) = Unit {0}

not_fresh : (st : Status) → st ≡ Absent → IsClosed st → ⊥
not_fresh st e h = subst IsClosed e h

not_waiting : (st : Status) (s : ℕ) → st ≡ Waits s → IsClosed st → ⊥
not_waiting st s e h = subst IsClosed e h

-- such a status stays
closed_next : (past : List Entry) (ev : Event) (stamp : ℕ) (id : Id) → IsLawfulNext past ev stamp
    → IsClosed (status id past) → after_event id ev stamp (status id past) ≡ status id past
closed_next past (events.Single other floor wants) stamp id l h =
    choice (λ (st : Status). st ≡ status id past) (same_id id other) (Alone stamp) (status id past)
    (λ t. absurd (not_fresh (status other past) l.fresh
    (subst (λ (i : Id). IsClosed (status i past)) (same_id-true id other t) h)))
    (λ _. refl)
closed_next past (events.Propose other floor wants) stamp id l h =
    choice (λ (st : Status). st ≡ status id past) (same_id id other) (Waits stamp) (status id past)
    (λ t. absurd (not_fresh (status other past) l.fresh
    (subst (λ (i : Id). IsClosed (status i past)) (same_id-true id other t) h)))
    (λ _. refl)
closed_next past (events.Settle other o) stamp id l h =
    choice (λ (st : Status). st ≡ status id past) (same_id id other) (Settled o) (status id past)
    (λ t. absurd (not_waiting (status other past) l.stamp l.waits
    (subst (λ (i : Id). IsClosed (status i past)) (same_id-true id other t) h)))
    (λ _. refl)
closed_next past (events.Raise _) stamp id l h = refl
closed_next past (events.Give _ _) stamp id l h = refl
closed_next past (events.Carry _ _ _) stamp id l h = refl
closed_next past (events.Trim _) stamp id l h = refl

closed_later : (newer past : List Entry) → IsLawfulPast (newer ++ past) → (id : Id) (st : Status) → IsClosed st
    → status id past ≡ st → status id (newer ++ past) ≡ st
closed_later [] past l id st h e = e
closed_later (d ∷ newer) past l id st h e =
    let r = closed_later newer past l.1 id st h e in
    closed_next (newer ++ past) d.event d.stamp id l.0 (subst IsClosed (sym r) h) ∙ r

-- a settled id stays settled
pub settled_status : (past : List Entry) → IsLawfulPast past → (id : Id) (o : Outcome) (e : Entry) → In e past
    → e.event ≡ events.Settle id o → status id past ≡ Settled o
settled_status [] l id o e i is = absurd i
settled_status (d ∷ past) l id o e (inl same) is =
    subst (λ (ev : Event). after_event id ev d.stamp (status id past) ≡ Settled o)
    (sym (ap (λ (x : Entry). x.event) same ∙ is))
    (if_true (same_id id id) (Settled o) (status id past) (same_id-refl id))
settled_status (d ∷ past) l id o e (inr i) is =
    let r = settled_status past l.1 id o e i is in
    closed_next past d.event d.stamp id l.0 (subst IsClosed (sym r) tt) ∙ r

-- so does the id of a single
pub alone_status : (past : List Entry) → IsLawfulPast past → (id : Id) (floor : ℕ) (wants : Counts) (e : Entry)
    → In e past → e.event ≡ events.Single id floor wants → status id past ≡ Alone e.stamp
alone_status [] l id floor wants e i is = absurd i
alone_status (d ∷ past) l id floor wants e (inl same) is =
    subst (λ (ev : Event). after_event id ev d.stamp (status id past) ≡ Alone e.stamp)
    (sym (ap (λ (x : Entry). x.event) same ∙ is))
    (if_true (same_id id id) (Alone d.stamp) (status id past) (same_id-refl id)
    ∙ ap (λ (x : Entry). Alone x.stamp) same)
alone_status (d ∷ past) l id floor wants e (inr i) is =
    let r = alone_status past l.1 id floor wants e i is in
    closed_next past d.event d.stamp id l.0 (subst IsClosed (sym r) tt) ∙ r

-- an id that waits goes on to, or is settled by the event
waiting_next : (past : List Entry) (ev : Event) (stamp : ℕ) (id : Id) (s : ℕ) → IsLawfulNext past ev stamp
    → status id past ≡ Waits s
    → (after_event id ev stamp (status id past) ≡ Waits s)
    ⊎ ((o : Outcome) × (after_event id ev stamp (status id past) ≡ Settled o))
waiting_next past (events.Single other floor wants) stamp id s l h =
    by_test _ (same_id id other)
    (λ t. let f = l.fresh in let g : status other past ≡ Waits s = subst (λ (i : Id). status i past ≡ Waits s)
    (same_id-true id other t) h in absurd (let x : ⊥ = cc in x))
    (λ f. inl (if_false (same_id id other) (Alone stamp) (status id past) f ∙ h))
waiting_next past (events.Propose other floor wants) stamp id s l h =
    by_test _ (same_id id other)
    (λ t. let f = l.fresh in let g : status other past ≡ Waits s = subst (λ (i : Id). status i past ≡ Waits s)
    (same_id-true id other t) h in absurd (let x : ⊥ = cc in x))
    (λ f. inl (if_false (same_id id other) (Waits stamp) (status id past) f ∙ h))
waiting_next past (events.Settle other o) stamp id s l h =
    by_test _ (same_id id other)
    (λ t. inr (o, if_true (same_id id other) (Settled o) (status id past) t))
    (λ f. inl (if_false (same_id id other) (Settled o) (status id past) f ∙ h))
waiting_next past (events.Raise _) stamp id s l h = inl h
waiting_next past (events.Give _ _) stamp id s l h = inl h
waiting_next past (events.Carry _ _ _) stamp id s l h = inl h
waiting_next past (events.Trim _) stamp id s l h = inl h

-- a proposed id waits under the stamp of its proposal, or is settled
pub proposed_status : (past : List Entry) → IsLawfulPast past → (id : Id) (floor : ℕ) (wants : Counts) (e : Entry)
    → In e past → e.event ≡ events.Propose id floor wants
    → (status id past ≡ Waits e.stamp) ⊎ ((o : Outcome) × (status id past ≡ Settled o))
proposed_status [] l id floor wants e i is = absurd i
proposed_status (d ∷ past) l id floor wants e (inl same) is =
    inl (subst (λ (ev : Event). after_event id ev d.stamp (status id past) ≡ Waits e.stamp)
    (sym (ap (λ (x : Entry). x.event) same ∙ is))
    (if_true (same_id id id) (Waits d.stamp) (status id past) (same_id-refl id)
    ∙ ap (λ (x : Entry). Waits x.stamp) same))
proposed_status (d ∷ past) l id floor wants e (inr i) is = go (proposed_status past l.1 id floor wants e i is) where
  go : (status id past ≡ Waits e.stamp) ⊎ ((o : Outcome) × (status id past ≡ Settled o))
      → (status id (d ∷ past) ≡ Waits e.stamp) ⊎ ((o : Outcome) × (status id (d ∷ past) ≡ Settled o))
  go (inl w) = waiting_next past d.event d.stamp id e.stamp l.0 w
  go (inr s) = inr (s.0, closed_next past d.event d.stamp id l.0 (subst IsClosed (sym s.1) tt) ∙ s.1)

-- an id that has entered is not proposed anew
enters_anew : (past : List Entry) (d : Entry) (id : Id) (floor : ℕ) (wants : Counts) {s : ℕ} → IsLawfulPast (d ∷ past)
    → d.event ≡ events.Propose id floor wants
    → (status id past ≡ Waits s) ⊎ ((o : Outcome) × (status id past ≡ Settled o)) → ⊥
enters_anew past d id floor wants {s} l is st = go fresh st where
  fresh : status id past ≡ Absent
  fresh = let n : IsLawfulNext past (events.Propose id floor wants) d.stamp = subst
      (λ (ev : Event). IsLawfulNext past ev d.stamp) is l.0 in n.fresh

  go : status id past ≡ Absent → (status id past ≡ Waits s) ⊎ ((o : Outcome) × (status id past ≡ Settled o)) → ⊥
  go f (inl w) = let x : Absent ≡ Waits s = sym f ∙ w in let y : ⊥ = cc in y
  go f (inr p) = let x : Absent ≡ Settled p.0 = sym f ∙ p.1 in let y : ⊥ = cc in y

-- an id is proposed once
pub once_proposed : (past : List Entry) → IsLawfulPast past → (id : Id) (floor : ℕ) (wants : Counts) (e : Entry)
    (floor' : ℕ) (wants' : Counts) (e' : Entry) → In e past → e.event ≡ events.Propose id floor wants
    → In e' past → e'.event ≡ events.Propose id floor' wants' → e.stamp ≡ e'.stamp
once_proposed [] l id floor wants e floor' wants' e' i is i' is' = absurd i
once_proposed (d ∷ past) l id floor wants e floor' wants' e' (inl same) is (inl same') is' =
    ap (λ (x : Entry). x.stamp) (sym same ∙ same')
once_proposed (d ∷ past) l id floor wants e floor' wants' e' (inl same) is (inr i') is' =
    absurd (enters_anew past d id floor wants l (ap (λ (x : Entry). x.event) same ∙ is)
    (proposed_status past l.1 id floor' wants' e' i' is'))
once_proposed (d ∷ past) l id floor wants e floor' wants' e' (inr i) is (inl same') is' =
    absurd (enters_anew past d id floor' wants' l (ap (λ (x : Entry). x.event) same' ∙ is')
    (proposed_status past l.1 id floor wants e i is))
once_proposed (d ∷ past) l id floor wants e floor' wants' e' (inr i) is (inr i') is' =
    once_proposed past l.1 id floor wants e floor' wants' e' i is i' is'

-- which events give a status
alone_event : (id : Id) (ev : Event) (stamp : ℕ) (st : Status) (s : ℕ) → after_event id ev stamp st ≡ Alone s
    → (st ≡ Alone s) ⊎ ((floor : ℕ) × (wants : Counts) × (ev ≡ events.Single id floor wants) × (stamp ≡ s))
alone_event id (events.Single other floor wants) stamp st s =
    choice (λ (x : Status). x ≡ Alone s → (st ≡ Alone s)
    ⊎ ((f : ℕ) × (w : Counts) × (events.Single other floor wants ≡ events.Single id f w) × (stamp ≡ s)))
    (same_id id other) (Alone stamp) st
    (λ t h. let e : stamp ≡ s = cc in inr
    (floor, wants, ap (λ (i : Id). events.Single i floor wants) (sym (same_id-true id other t)), e))
    (λ _ h. inl h)
alone_event id (events.Propose other floor wants) stamp st s =
    choice (λ (x : Status). x ≡ Alone s → (st ≡ Alone s)
    ⊎ ((f : ℕ) × (w : Counts) × (events.Propose other floor wants ≡ events.Single id f w) × (stamp ≡ s)))
    (same_id id other) (Waits stamp) st
    (λ _ h. absurd (let x : ⊥ = cc in x)) (λ _ h. inl h)
alone_event id (events.Settle other o) stamp st s =
    choice (λ (x : Status). x ≡ Alone s → (st ≡ Alone s)
    ⊎ ((f : ℕ) × (w : Counts) × (events.Settle other o ≡ events.Single id f w) × (stamp ≡ s)))
    (same_id id other) (Settled o) st
    (λ _ h. absurd (let x : ⊥ = cc in x)) (λ _ h. inl h)
alone_event id (events.Raise _) stamp st s = λ h. inl h
alone_event id (events.Give _ _) stamp st s = λ h. inl h
alone_event id (events.Carry _ _ _) stamp st s = λ h. inl h
alone_event id (events.Trim _) stamp st s = λ h. inl h

waits_event : (id : Id) (ev : Event) (stamp : ℕ) (st : Status) (s : ℕ) → after_event id ev stamp st ≡ Waits s
    → (st ≡ Waits s) ⊎ ((floor : ℕ) × (wants : Counts) × (ev ≡ events.Propose id floor wants) × (stamp ≡ s))
waits_event id (events.Single other floor wants) stamp st s =
    choice (λ (x : Status). x ≡ Waits s → (st ≡ Waits s)
    ⊎ ((f : ℕ) × (w : Counts) × (events.Single other floor wants ≡ events.Propose id f w) × (stamp ≡ s)))
    (same_id id other) (Alone stamp) st
    (λ _ h. absurd (let x : ⊥ = cc in x)) (λ _ h. inl h)
waits_event id (events.Propose other floor wants) stamp st s =
    choice (λ (x : Status). x ≡ Waits s → (st ≡ Waits s)
    ⊎ ((f : ℕ) × (w : Counts) × (events.Propose other floor wants ≡ events.Propose id f w) × (stamp ≡ s)))
    (same_id id other) (Waits stamp) st
    (λ t h. let e : stamp ≡ s = cc in inr
    (floor, wants, ap (λ (i : Id). events.Propose i floor wants) (sym (same_id-true id other t)), e))
    (λ _ h. inl h)
waits_event id (events.Settle other o) stamp st s =
    choice (λ (x : Status). x ≡ Waits s → (st ≡ Waits s)
    ⊎ ((f : ℕ) × (w : Counts) × (events.Settle other o ≡ events.Propose id f w) × (stamp ≡ s)))
    (same_id id other) (Settled o) st
    (λ _ h. absurd (let x : ⊥ = cc in x)) (λ _ h. inl h)
waits_event id (events.Raise _) stamp st s = λ h. inl h
waits_event id (events.Give _ _) stamp st s = λ h. inl h
waits_event id (events.Carry _ _ _) stamp st s = λ h. inl h
waits_event id (events.Trim _) stamp st s = λ h. inl h

settled_event : (id : Id) (ev : Event) (stamp : ℕ) (st : Status) (o : Outcome) → after_event id ev stamp st ≡ Settled o
    → (st ≡ Settled o) ⊎ (ev ≡ events.Settle id o)
settled_event id (events.Single other floor wants) stamp st o =
    choice (λ (x : Status). x ≡ Settled o → (st ≡ Settled o) ⊎ (events.Single other floor wants ≡ events.Settle id o))
    (same_id id other) (Alone stamp) st (λ _ h. absurd (let x : ⊥ = cc in x)) (λ _ h. inl h)
settled_event id (events.Propose other floor wants) stamp st o =
    choice (λ (x : Status). x ≡ Settled o → (st ≡ Settled o) ⊎ (events.Propose other floor wants ≡ events.Settle id o))
    (same_id id other) (Waits stamp) st (λ _ h. absurd (let x : ⊥ = cc in x)) (λ _ h. inl h)
settled_event id (events.Settle other p) stamp st o =
    choice (λ (x : Status). x ≡ Settled o → (st ≡ Settled o) ⊎ (events.Settle other p ≡ events.Settle id o))
    (same_id id other) (Settled p) st
    (λ t h. let e : p ≡ o = cc in inr (ap (λ (i : Id). events.Settle i p) (sym (same_id-true id other t))
    ∙ ap (λ (x : Outcome). events.Settle id x) e))
    (λ _ h. inl h)
settled_event id (events.Raise _) stamp st o = λ h. inl h
settled_event id (events.Give _ _) stamp st o = λ h. inl h
settled_event id (events.Carry _ _ _) stamp st o = λ h. inl h
settled_event id (events.Trim _) stamp st o = λ h. inl h

abbrev pub CameAlone : List Entry → Id → ℕ → Type 0
CameAlone past id s = (e : Entry) × (floor : ℕ) × (wants : Counts) × In e past ×
    (e.event ≡ events.Single id floor wants) × (e.stamp ≡ s)

abbrev pub CameOpen : List Entry → Id → ℕ → Type 0
CameOpen past id s = (e : Entry) × (floor : ℕ) × (wants : Counts) × In e past ×
    (e.event ≡ events.Propose id floor wants) × (e.stamp ≡ s)

abbrev pub WasSettled : List Entry → Id → Outcome → Type 0
WasSettled past id o = (e : Entry) × In e past × (e.event ≡ events.Settle id o)

pub came_alone : (past : List Entry) (id : Id) (s : ℕ) → status id past ≡ Alone s → CameAlone past id s
came_alone [] id s h = absurd (let x : ⊥ = cc in x)
came_alone (d ∷ past) id s h = go (alone_event id d.event d.stamp (status id past) s h) (came_alone past id s) where
  go : (status id past ≡ Alone s) ⊎ ((floor : ℕ) × (wants : Counts) × (d.event ≡ events.Single id floor wants) ×
      (d.stamp ≡ s))
      → (status id past ≡ Alone s → CameAlone past id s) → CameAlone (d ∷ past) id s
  go (inl e) rest = let r = rest e in (r.0, r.1, r.2, inr r.3, r.4, r.5)
  go (inr n) rest = (d, n.0, n.1, inl refl, n.2, n.3)

pub came_open : (past : List Entry) (id : Id) (s : ℕ) → status id past ≡ Waits s → CameOpen past id s
came_open [] id s h = absurd (let x : ⊥ = cc in x)
came_open (d ∷ past) id s h = go (waits_event id d.event d.stamp (status id past) s h) (came_open past id s) where
  go : (status id past ≡ Waits s) ⊎ ((floor : ℕ) × (wants : Counts) × (d.event ≡ events.Propose id floor wants) ×
      (d.stamp ≡ s))
      → (status id past ≡ Waits s → CameOpen past id s) → CameOpen (d ∷ past) id s
  go (inl e) rest = let r = rest e in (r.0, r.1, r.2, inr r.3, r.4, r.5)
  go (inr n) rest = (d, n.0, n.1, inl refl, n.2, n.3)

pub was_settled : (past : List Entry) (id : Id) (o : Outcome) → status id past ≡ Settled o → WasSettled past id o
was_settled [] id o h = absurd (let x : ⊥ = cc in x)
was_settled (d ∷ past) id o h = go (settled_event id d.event d.stamp (status id past) o h) (was_settled past id o) where
  go : (status id past ≡ Settled o) ⊎ (d.event ≡ events.Settle id o)
      → (status id past ≡ Settled o → WasSettled past id o) → WasSettled (d ∷ past) id o
  go (inl e) rest = let r = rest e in (r.0, inr r.1, r.2)
  go (inr n) rest = (d, inl refl, n)

-- no id is settled as open
pub decided : (past : List Entry) → IsLawfulPast past → (id : Id) → status id past ≡ Settled Open → ⊥
decided past l id h = let r = was_settled past id Open h in at past l r.0 r.1 r.2 where
  at : (past : List Entry) → IsLawfulPast past → (e : Entry) → In e past → e.event ≡ events.Settle id Open → ⊥
  at [] l e i is = i
  at (d ∷ past) l e (inl same) is =
      let n : IsLawfulNext past (events.Settle id Open) d.stamp = subst (λ (ev : Event). IsLawfulNext past ev d.stamp)
      (ap (λ (x : Entry). x.event) same ∙ is) l.0 in n.settling
  at (d ∷ past) l e (inr i) is = at past l.1 e i is

-- an id that has entered is not absent
absent_event : (id : Id) (ev : Event) (stamp : ℕ) (st : Status) → after_event id ev stamp st ≡ Absent
    → (st ≡ Absent) × (enters id ev ≡ false)
absent_event id (events.Single other floor wants) stamp st =
    choice (λ (x : Status). x ≡ Absent → (st ≡ Absent) × (same_id id other ≡ false)) (same_id id other) (Alone stamp) st
    (λ _ h. absurd (let x : ⊥ = cc in x)) (λ f h. (h, f))
absent_event id (events.Propose other floor wants) stamp st =
    choice (λ (x : Status). x ≡ Absent → (st ≡ Absent) × (same_id id other ≡ false)) (same_id id other) (Waits stamp) st
    (λ _ h. absurd (let x : ⊥ = cc in x)) (λ f h. (h, f))
absent_event id (events.Settle other o) stamp st =
    choice (λ (x : Status). x ≡ Absent → (st ≡ Absent) × (false ≡ false)) (same_id id other) (Settled o) st
    (λ _ h. absurd (let x : ⊥ = cc in x)) (λ f h. (h, refl))
absent_event id (events.Raise _) stamp st = λ h. (h, refl)
absent_event id (events.Give _ _) stamp st = λ h. (h, refl)
absent_event id (events.Carry _ _ _) stamp st = λ h. (h, refl)
absent_event id (events.Trim _) stamp st = λ h. (h, refl)

pub entered_not_absent : (past : List Entry) (id : Id) → has_entered id (reverse past) ≡ true → status id past ≡ Absent
    → ⊥
entered_not_absent [] id t h = true≢false (sym t)
entered_not_absent (d ∷ past) id t h =
    let a = absent_event id d.event d.stamp (status id past) h in
    let s : (has_entered id (reverse past) || has_entered id (d ∷ [])) ≡ true =
    sym (list_any-append (λ (x : Entry). enters id x.event) (reverse past) (d ∷ []))
    ∙ (ap (has_entered id) (sym (reverse-cons d past)) ∙ t) in
    go (or_cases (has_entered id (reverse past)) (has_entered id (d ∷ [])) s) a.1
    (λ x. entered_not_absent past id x a.0) where
      go : (has_entered id (reverse past) ≡ true) ⊎ (has_entered id (d ∷ []) ≡ true) → enters id d.event ≡ false
          → (has_entered id (reverse past) ≡ true → ⊥) → ⊥
      go (inl x) f rest = rest x
      go (inr x) f rest = last (or_cases (enters id d.event) false x) where
        last : (enters id d.event ≡ true) ⊎ (false ≡ true) → ⊥
        last (inl y) = apart (enters id d.event) y f
        last (inr y) = true≢false (sym y)

-- an open entry, by its id's status
pub open_by_status : (past : List Entry) → IsLawfulPast past → (id : Id) (e : Standing)
    → open_entry id (entries past) ≡ Some e
    → (e.key.id ≡ id) × (e.settled ≡ false) × (status id past ≡ Waits e.key.stamp)
open_by_status past l id e is =
    let r = found (is_open_id id) (entries past) e is in
    let p = and_parts (not e.settled) (same_id e.key.id id) r.1 in
    let same = same_id-true e.key.id id p.1 in
    let unsettled = not_true e.settled p.0 in (
      same,
      unsettled,
      subst (λ (i : Id). status i past ≡ Waits e.key.stamp) same
          (open_waits e.key.id (status e.key.id past) e (shown past l e r.0) unsettled),
    )

-- what stands and passes is found
pub finds : (test : Standing → Bool) (es : List Standing) (e : Standing) → In e es → test e ≡ true
    → (f : Standing) × (find test es ≡ Some f)
finds test [] e i t = absurd i
finds test (f ∷ fs) e i t =
    by_test _ (test f)
    (λ y. (f, if_true (test f) (Some f) (find test fs) y))
    (λ n. go i n (λ j. finds test fs e j t)) where
      go : (f ≡ e) ⊎ In e fs → test f ≡ false → (In e fs → (g : Standing) × (find test fs ≡ Some g))
          → (g : Standing) × (find test (f ∷ fs) ≡ Some g)
      go (inl same) n rest = absurd (apart (test e) t (subst (λ (x : Standing). test x ≡ false) same n))
      go (inr j) n rest = let r = rest j in (r.0, if_false (test f) (Some f) (find test fs) n ∙ r.1)

waits_inj : (s t : ℕ) → Waits s ≡ Waits t → s ≡ t
waits_inj s t e = cc

pub status_open : (past : List Entry) → IsLawfulPast past → (id : Id) (s : ℕ) → status id past ≡ Waits s
    → open_entry id (entries past) ≡ Some (record { key = entry_key s id; settled = false })
status_open past l id s h =
    let e : Standing = record { key = entry_key s id; settled = false } in
    let i = stands past l id e (ap (standing_of id) h) in
    let r = finds (is_open_id id) (entries past) e i (same_id-refl id) in
    let o = open_by_status past l id r.0 r.1 in
    r.1 ∙ ap (λ (x : Standing). Some x) (is_of r.0 o.0 o.1 (waits_inj _ _ (sym o.2 ∙ h))) where
      is_of : (f : Standing) → f.key.id ≡ id → f.settled ≡ false → f.key.stamp ≡ s
          → f ≡ record { key = entry_key s id; settled = false }
      is_of f a b c =
          ap (λ (n : ℕ). with_parts n f.key.id f.settled) c
          ∙ (ap (λ (i : Id). with_parts s i f.settled) a ∙ ap (λ (t : Bool). with_parts s id t) b) where
            with_parts : ℕ → Id → Bool → Standing
            with_parts n i t = record { key = entry_key n i; settled = t }

pub closed_by_status : (past : List Entry) → IsLawfulPast past → (id : Id) → IsClosed (status id past)
    → open_entry id (entries past) ≡ None
closed_by_status past l id h = go (open_entry id (entries past)) refl where
  go : (o : Option Standing) → open_entry id (entries past) ≡ o → o ≡ None
  go None e = refl
  go (Some f) e = absurd (not_waiting (status id past) f.key.stamp (open_by_status past l id f e).2 h)

-- Clocks

-- an id that waits did before the event, or the event gave its stamp
pub waits_next : (past : List Entry) (ev : Event) (stamp : ℕ) (i : Id) (s : ℕ) → IsLawfulNext past ev stamp
    → after_event i ev stamp (status i past) ≡ Waits s → (status i past ≡ Waits s) ⊎ (clock past < s)
waits_next past (events.Single id floor wants) stamp i s l =
    choice (λ (st : Status). st ≡ Waits s → (status i past ≡ Waits s) ⊎ (clock past < s)) (same_id i id) (Alone stamp)
    (status i past) (λ _ h. absurd (let x : ⊥ = cc in x)) (λ _ h. inl h)
waits_next past (events.Propose id floor wants) stamp i s l =
    choice (λ (st : Status). st ≡ Waits s → (status i past ≡ Waits s) ⊎ (clock past < s)) (same_id i id) (Waits stamp)
    (status i past) (λ _ h. let e : stamp ≡ s = cc in let t = l.stamped in inr (above (clock past) floor stamp s t e))
    (λ _ h. inl h) where
      above : (c floor stamp s : ℕ) → stamp ≡ max c floor + 1 → stamp ≡ s → c < s
      above c floor stamp s t e = omega (arith, t, e)
waits_next past (events.Settle id o) stamp i s l =
    choice (λ (st : Status). st ≡ Waits s → (status i past ≡ Waits s) ⊎ (clock past < s)) (same_id i id) (Settled o)
    (status i past) (λ _ h. absurd (let x : ⊥ = cc in x)) (λ _ h. inl h)
waits_next past (events.Raise _) stamp i s l = λ h. inl h
waits_next past (events.Give _ _) stamp i s l = λ h. inl h
waits_next past (events.Carry _ _ _) stamp i s l = λ h. inl h
waits_next past (events.Trim _) stamp i s l = λ h. inl h

pub clock_rises : (newer past : List Entry) → clock past ≤ clock (newer ++ past)
clock_rises [] past = omega arith
clock_rises (d ∷ newer) past = let h = clock_rises newer past in omega (arith, h)

-- an id that waits under no stamp above the earlier clock waited then
pub waited_before : (newer past : List Entry) → IsLawfulPast (newer ++ past) → (i : Id) (s : ℕ)
    → status i (newer ++ past) ≡ Waits s → s ≤ clock past → status i past ≡ Waits s
waited_before [] past l i s h le = h
waited_before (d ∷ newer) past l i s h le =
    go (waits_next (newer ++ past) d.event d.stamp i s l.0 h) (λ x. waited_before newer past l.1 i s x le) where
      go : (status i (newer ++ past) ≡ Waits s) ⊎ (clock (newer ++ past) < s)
          → (status i (newer ++ past) ≡ Waits s → status i past ≡ Waits s) → status i past ≡ Waits s
      go (inl x) rest = rest x
      go (inr lt) rest = absurd (let r = clock_rises newer past in let f : ⊥ = omega (arith, r, le, lt) in f)

-- no clock is above the last stamp
number_within : (past : List Entry) (ev : Event) (stamp : ℕ) → IsLawfulNext past ev stamp
    → event_number ev stamp ≤ last_stamp
number_within past (events.Single id floor wants) stamp h = h.in_range
number_within past (events.Propose id floor wants) stamp h = h.in_range
number_within past (events.Settle id Open) stamp h = omega arith
number_within past (events.Settle id (Gone why)) stamp h = omega arith
number_within past (events.Settle id (Final f)) stamp h = h.settling.1
number_within past (events.Raise to) stamp h = h.in_range
number_within past (events.Give _ _) stamp h = omega arith
number_within past (events.Carry _ _ _) stamp h = omega arith
number_within past (events.Trim _) stamp h = omega arith

pub past_clock_within : (past : List Entry) → IsLawfulPast past → clock past ≤ last_stamp
past_clock_within [] h = omega arith
past_clock_within (e ∷ past) h =
    let a = number_within past e.event e.stamp h.0 in
    let b = past_clock_within past h.1 in
    omega (arith, a, b)
