-- The stamp under which a proposed node is final is above the floor of its proposal.
use Rattle.std.proofs.Common.{◌≡◌, ℕ, ◌<◌, List, [], ◌∷◌, true, false, Some, ap, sym, subst, ◌∙◌, inl, inr, arith, reverse}
use Rattle.log_node.specs.declared.ids.Id.{Id}
use Rattle.log_node.specs.declared.ids.Key.{Key}
use Rattle.log_node.specs.declared.ids.Counts.{Counts}
use Rattle.log_node.specs.Order.{same_id}
use Rattle.log_node.specs.declared.marks.Outcome.{Outcome}
use Rattle.log_node.specs.declared.marks.Outcome.TheVariants.{Open, Gone, Final}
use Rattle.log_node.specs.Standings.{Standing}
use Rattle.col_core.specs.declared.Event.{Event}
use Rattle.col_core.specs.declared.Event.TheVariants as events
use Rattle.col_core.specs.declared.Entry.{Entry}
use Rattle.col_core.specs.History as History
use Rattle.col_core.specs.History.{line, entry_key}
use Rattle.col_core.proofs.CallerLemmas.{choice, In, in_line, in_reverse, slice_in, entries-of, shown, past_is_lawful, same_id-true, same_id-refl, if_true}
use Rattle.col_core.proofs.CallerLemmas.{Status, Absent, Alone, Waits, Settled, status, after_event, standing_of, IsSettling, IsLawfulNext, IsLawfulPast}
use Rattle.client_law.specs.Appends.{FinalIsAbove}

-- the id was proposed, and its tentative and its final stamp are above the floor
abbrev IsAbove : ℕ → Status → Type 0
IsAbove floor Absent = ⊥
IsAbove floor (Alone stamp) = ⊥
IsAbove floor (Waits stamp) = floor < stamp
IsAbove floor (Settled Open) = Unit {0}
IsAbove floor (Settled (Gone why)) = Unit {0}
IsAbove floor (Settled (Final f)) = floor < f

-- the id may not enter once more
fresh_not : (floor : ℕ) (st : Status) → st ≡ Absent → IsAbove floor st → ⊥
fresh_not floor st e a = subst (IsAbove floor) e a

settles_above : (floor stamp : ℕ) (o : Outcome) → IsSettling o stamp → floor < stamp → IsAbove floor (Settled o)
settles_above floor stamp Open s lt = absurd s
settles_above floor stamp (Gone why) s lt = tt
settles_above floor stamp (Final f) s lt = let a = s.0 in omega (arith, a, lt)

-- a lawful event leaves it so
above_next : (past : List Entry) (id : Id) (floor : ℕ) (ev : Event) (stamp : ℕ) → IsLawfulNext past ev stamp
    → IsAbove floor (status id past) → IsAbove floor (after_event id ev stamp (status id past))
above_next past id floor (events.Single other f wants) stamp l a =
    choice (IsAbove floor) (same_id id other) (Alone stamp) (status id past)
    (λ t. absurd (fresh_not floor (status id past)
    (ap (λ (i : Id). status i past) (same_id-true id other t) ∙ l.fresh) a)) (λ _. a)
above_next past id floor (events.Propose other f wants) stamp l a =
    choice (IsAbove floor) (same_id id other) (Waits stamp) (status id past)
    (λ t. absurd (fresh_not floor (status id past)
    (ap (λ (i : Id). status i past) (same_id-true id other t) ∙ l.fresh) a)) (λ _. a)
above_next past id floor (events.Settle other outcome) stamp l a =
    choice (IsAbove floor) (same_id id other) (Settled outcome) (status id past)
    (λ t. settles_above floor l.stamp outcome l.settling
    (subst (IsAbove floor) (ap (λ (i : Id). status i past) (same_id-true id other t) ∙ l.waits) a)) (λ _. a)
above_next past id floor (events.Raise _) stamp l a = a
above_next past id floor (events.Give _ _) stamp l a = a
above_next past id floor (events.Carry _ _ _) stamp l a = a
above_next past id floor (events.Trim _) stamp l a = a

-- what a proposal makes of its id
proposed : (past : List Entry) (id : Id) (floor : ℕ) (wants : Counts) (ev : Event) (stamp : ℕ)
    → ev ≡ events.Propose id floor wants → IsLawfulNext past ev stamp
    → IsAbove floor (after_event id ev stamp (status id past))
proposed past id floor wants ev stamp e l =
    subst (λ (x : Event). IsLawfulNext past x stamp → IsAbove floor (after_event id x stamp (status id past))) (sym e)
    (λ m. subst (IsAbove floor)
    (sym (if_true (same_id id id) (Waits stamp) (status id past) (same_id-refl id)))
    (let s = m.stamped in omega (arith, s))) l

above : (past : List Entry) → IsLawfulPast past → (id : Id) (floor : ℕ) (wants : Counts) (e : Entry) → In e past
    → e.event ≡ events.Propose id floor wants → IsAbove floor (status id past)
above [] l id floor wants e i is = absurd i
above (x ∷ past) l id floor wants e (inl same) is =
    proposed past id floor wants x.event x.stamp (ap (λ (y : Entry). y.event) same ∙ is) l.0
above (x ∷ past) l id floor wants e (inr i) is =
    above_next past id floor x.event x.stamp l.0 (above past l.1 id floor wants e i is)

-- the stamp of an entry that is final
final_above : (floor : ℕ) (id : Id) (st : Status) (x : Standing) → IsAbove floor st → standing_of id st ≡ Some x
    → x.settled ≡ true → floor < x.key.stamp
final_above floor id Absent x a h s = absurd a
final_above floor id (Alone stamp) x a h s = absurd a
final_above floor id (Waits stamp) x a h s =
    let y : record { key = entry_key stamp id; settled = false } ≡ x = cc in
    let z = ap (λ (w : Standing). w.settled) y ∙ s in absurd (let f : ⊥ = cc in f)
final_above floor id (Settled Open) x a h s = absurd (let f : ⊥ = cc in f)
final_above floor id (Settled (Gone why)) x a h s = absurd (let f : ⊥ = cc in f)
final_above floor id (Settled (Final f)) x a h s =
    let y : record { key = entry_key f id; settled = true } ≡ x = cc in
    let z = ap (λ (w : Standing). w.key.stamp) y in omega (arith, a, z)

pub final_is_above : FinalIsAbove
final_is_above own regions history node wants e place position stamp lawful there is stands =
    let past = reverse history in
    let l = past_is_lawful own regions history lawful in
    let a = above past l node.id node.floor wants e (in_reverse e history (slice_in history place e there)) is in
    let x = in_line (History.entries history) (entry_key stamp node.id)
    (slice_in (line history) position (entry_key stamp node.id) stands) in
    let same_id_is : x.0.key.id ≡ node.id = ap (λ (k : Key). k.id) x.2 in
    let same_stamp = ap (λ (k : Key). k.stamp) x.2 in
    let shows = shown past l x.0 (subst (λ (es : List Standing). In x.0 es) (entries-of history) x.1) in
    let lt = final_above node.floor x.0.key.id (status x.0.key.id past) x.0
    (subst (λ (i : Id). IsAbove node.floor (status i past)) (sym same_id_is) a) shows x.3 in
    omega (arith, lt, same_stamp)
