-- Where a node stands in a line, and that a final entry stays.
use Rattle.std.proofs.Common.{◌≡◌, ℕ, suc, ◌+◌, ◌≤◌, List, [], ◌∷◌, ◌++◌, length, Some, true, false, refl, subst, ap, sym, ◌∙◌, inl, inr, ◌⊎◌, arith}
use Rattle.std.specs.Prelude.{slice_get, reverse}
use Rattle.std.proofs.lemmas.Bool.{true≢false}
use Rattle.std.proofs.lemmas.List.{reverse-append}
use Rattle.log_node.specs.declared.ids.Id.{Id}
use Rattle.log_node.specs.declared.ids.Key.{Key}
use Rattle.log_node.specs.Order.{same_id}
use Rattle.log_node.specs.Standings.{Standing}
use Rattle.col_core.specs.declared.Event.{Event}
use Rattle.col_core.specs.declared.Event.TheVariants as events
use Rattle.col_core.specs.declared.Entry.{Entry}
use Rattle.col_core.specs.History.{entries, entry_key, line}
use Rattle.col_core.proofs.CallerLemmas.{choice, by_test, apart, if_false, same_id-true, same_id-is, In}
use Rattle.col_core.proofs.CallerLemmas.{in_line, no_standing, clear_stands, contains_in, in_contains, Status, Absent}
use Rattle.col_core.proofs.CallerLemmas.{Alone, Waits, Settled}
use Rattle.col_core.proofs.CallerLemmas.{status, after_event, standing_of, IsLawfulPast, IsLawfulNext}
use Rattle.world_laws.specs.Worlds.{World}
use Rattle.world_laws.proofs.CallerLemmas.{status_in, Held, lawful_past_in, entry_shown}
use Rattle.script_meaning.specs.States.{position_of}
use Rattle.script_meaning.proofs.World.Rows.{in_past, standing_as}
use Rattle.script_meaning.proofs.World.Additions.{Adds}
use Rattle.script_meaning.proofs.World.Clearing.{IsClear}

-- Positions

pub position_get : (keys : List Key) (key : Key) → In key keys
    → ((k : Key) → In k keys → same_id k.id key.id ≡ true → k ≡ key)
    → slice_get keys (position_of key.id keys) ≡ Some key
position_get [] key i one = absurd i
position_get (k ∷ keys) key i one =
    choice (λ (n : ℕ). slice_get (k ∷ keys) n ≡ Some key) (same_id k.id key.id) 0 (position_of key.id keys + 1)
    (λ t. ap Some (one k (inl refl) t))
    (λ f. let e : suc (position_of key.id keys) ≡ position_of key.id keys + 1 = omega arith in
    subst (λ (n : ℕ). slice_get (k ∷ keys) n ≡ Some key) e
    (turn i f (λ j. position_get keys key j (λ x y. one x (inr y))))) where
      turn : (k ≡ key) ⊎ In key keys → same_id k.id key.id ≡ false
          → (In key keys → slice_get keys (position_of key.id keys) ≡ Some key)
          → slice_get keys (position_of key.id keys) ≡ Some key
      turn (inl e) f rest =
          absurd (apart (same_id k.id key.id) (same_id-is k.id key.id (ap (λ (x : Key). x.id) e)) f)
      turn (inr j) f rest = rest j

pub position_behind : (old more : List Key) (id : Id) → ((k : Key) → In k old → same_id k.id id ≡ false)
    → length old ≤ position_of id (old ++ more)
position_behind [] more id none = omega arith
position_behind (k ∷ old) more id none =
    let rest = position_behind old more id (λ x i. none x (inr i)) in
    subst (λ (n : ℕ). suc (length old) ≤ n)
    (sym (if_false (same_id k.id id) 0 (position_of id (old ++ more) + 1) (none k (inl refl)))) (omega (arith, rest))

-- Lines

-- the keys of a line with one id are one
pub one_key : (w : World) → Held w → (r c : ℕ) (k l : Key) → In k (line (w.histories r c)) → In l
    (line (w.histories r c))
    → same_id k.id l.id ≡ true → k ≡ l
one_key w h r c k l i j same =
    let a = in_line (entries (w.histories r c)) k i in
    let b = in_line (entries (w.histories r c)) l j in
    let ids : a.0.key.id ≡ b.0.key.id =
    ap (λ (x : Key). x.id) a.2 ∙ (same_id-true k.id l.id same ∙ ap (λ (x : Key). x.id) (sym b.2)) in
    let sa = entry_shown w h r c a.0 a.1 in
    let sb = entry_shown w h r c b.0 b.1 in
    let e : Some a.0 ≡ Some b.0 = sym sa ∙ (ap (λ (x : Id). standing_of x (status_in (w.histories r c) x)) ids ∙ sb) in
    let f : a.0 ≡ b.0 = cc in
    sym a.2 ∙ (ap (λ (x : Standing). x.key) f ∙ b.2)

-- an id that is absent is in no line
pub absent_line : (w : World) → Held w → (r c : ℕ) (id : Id) → status_in (w.histories r c) id ≡ Absent → (k : Key)
    → In k (line (w.histories r c)) → same_id k.id id ≡ false
absent_line w h r c id absent k i =
    by_test _ (same_id k.id id)
    (λ t. let a = in_line (entries (w.histories r c)) k i in
    let same : a.0.key.id ≡ id = ap (λ (x : Key). x.id) a.2 ∙ same_id-true k.id id t in
    absurd (no_standing a.0.key.id (status_in (w.histories r c) a.0.key.id) a.0
    (ap (λ (x : Id). status_in (w.histories r c) x) same ∙ absent) (entry_shown w h r c a.0 a.1)))
    (λ f. f)

-- a final entry stands in the line where the column is clear below its key
pub in_clear_line : (w : World) → Held w → (r c : ℕ) (stamp : ℕ) (id : Id)
    → In (standing_as stamp id true) (entries (w.histories r c)) → IsClear (entry_key stamp id) w r c
    → In (entry_key stamp id) (line (w.histories r c))
in_clear_line w h r c stamp id i clear =
    in_contains (line (w.histories r c)) (entry_key stamp id)
    (clear_stands r w.shape.regions (w.histories r c) id stamp (h.lawful r c)
    (contains_in (entries (w.histories r c)) (standing_as stamp id true) i) clear)

-- where it stands
pub stands_there : (w : World) → Held w → (r c : ℕ) (stamp : ℕ) (id : Id)
    → In (standing_as stamp id true) (entries (w.histories r c)) → IsClear (entry_key stamp id) w r c
    → slice_get (line (w.histories r c)) (position_of id (line (w.histories r c))) ≡ Some (entry_key stamp id)
stands_there w h r c stamp id i clear =
    let there = in_clear_line w h r c stamp id i clear in
    position_get (line (w.histories r c)) (entry_key stamp id) there
    (λ k j same. one_key w h r c k (entry_key stamp id) j there same)

-- Final entries stay

-- the status is one that no event changes
abbrev IsLast : Status → Type 0
IsLast Absent = ⊥
IsLast (Alone s) = Unit {0}
IsLast (Waits s) = ⊥
IsLast (Settled o) = Unit {0}

not_absent : (st : Status) → IsLast st → st ≡ Absent → ⊥
not_absent Absent l e = l
not_absent (Alone s) l e = let x : ⊥ = cc in x
not_absent (Waits s) l e = l
not_absent (Settled o) l e = let x : ⊥ = cc in x

not_waiting : (st : Status) (s : ℕ) → IsLast st → st ≡ Waits s → ⊥
not_waiting Absent s l e = l
not_waiting (Alone n) s l e = let x : ⊥ = cc in x
not_waiting (Waits n) s l e = l
not_waiting (Settled o) s l e = let x : ⊥ = cc in x

last_next : (past : List Entry) (ev : Event) (stamp : ℕ) (id : Id) → IsLawfulNext past ev stamp → IsLast
    (status id past)
    → after_event id ev stamp (status id past) ≡ status id past
last_next past (events.Single other floor wants) stamp id l last =
    by_test _ (same_id id other)
    (λ t. absurd (not_absent (status id past) last (ap (λ (i : Id). status i past) (same_id-true id other t)
    ∙ l.fresh)))
    (λ f. if_false (same_id id other) (Alone stamp) (status id past) f)
last_next past (events.Propose other floor wants) stamp id l last =
    by_test _ (same_id id other)
    (λ t. absurd (not_absent (status id past) last (ap (λ (i : Id). status i past) (same_id-true id other t)
    ∙ l.fresh)))
    (λ f. if_false (same_id id other) (Waits stamp) (status id past) f)
last_next past (events.Settle other o) stamp id l last =
    by_test _ (same_id id other)
    (λ t. absurd (not_waiting (status id past) l.stamp last
    (ap (λ (i : Id). status i past) (same_id-true id other t) ∙ l.waits)))
    (λ f. if_false (same_id id other) (Settled o) (status id past) f)
last_next past (events.Raise to) stamp id l last = refl
last_next past (events.Give region from) stamp id l last = refl
last_next past (events.Carry region start heads) stamp id l last = refl
last_next past (events.Trim counts) stamp id l last = refl

last_later : (newer past : List Entry) (id : Id) → IsLawfulPast (newer ++ past) → IsLast (status id past)
    → status id (newer ++ past) ≡ status id past
last_later [] past id l last = refl
last_later (e ∷ newer) past id l last =
    let rest = last_later newer past id l.1 last in
    last_next (newer ++ past) e.event e.stamp id l.0 (subst IsLast (sym rest) last) ∙ rest

final_last : (id : Id) (st : Status) (stamp : ℕ) → standing_of id st ≡ Some (standing_as stamp id true) → IsLast st
final_last id Absent stamp e = let x : ⊥ = cc in x
final_last id (Alone s) stamp e = tt
final_last id (Waits s) stamp e =
    let x : standing_as s id false ≡ standing_as stamp id true = cc in
    true≢false (sym (ap (λ (y : Standing). y.settled) x))
final_last id (Settled o) stamp e = tt

pub final_stays : (P : Entry → Type 0) (w w' : World) → Held w → Held w' → (r c : ℕ)
    → Adds P (w.histories r c) (w'.histories r c) → (stamp : ℕ) (id : Id)
    → In (standing_as stamp id true) (entries (w.histories r c))
    → In (standing_as stamp id true) (entries (w'.histories r c))
final_stays P w w' h h' r c a stamp id i =
    let shows = entry_shown w h r c (standing_as stamp id true) i in
    let split : reverse (w'.histories r c) ≡ reverse a.more ++ reverse (w.histories r c) =
    ap reverse a.is ∙ reverse-append (w.histories r c) a.more in
    let same : status_in (w'.histories r c) id ≡ status_in (w.histories r c) id =
    ap (status id) split
    ∙ last_later (reverse a.more) (reverse (w.histories r c)) id
    (subst IsLawfulPast split (lawful_past_in w' h' r c))
    (final_last id (status_in (w.histories r c) id) stamp shows) in
    in_past w' h' r c id (standing_as stamp id true) (ap (standing_of id) same ∙ shows)
