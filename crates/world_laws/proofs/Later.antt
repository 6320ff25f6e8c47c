-- No entry that comes after a single gets before it.
use Rattle.std.proofs.Common.{◌≡◌, ℕ, zero, suc, ◌+◌, ◌<◌, ◌≤◌, max, List, [], ◌∷◌, ◌++◌, take, Some, false, subst, ap, sym, ◌∙◌, inl, inr, ◌⊎◌, arith, append_assoc}
use Rattle.std.specs.Prelude.{reverse, slice_get, drop}
use Rattle.std.proofs.lemmas.List.{reverse-append, take-append-drop}
use Rattle.log_node.specs.declared.ids.Id.{Id}
use Rattle.log_node.specs.declared.ids.Counts.{Counts}
use Rattle.log_node.specs.Order.{same_id}
use Rattle.log_node.specs.Standings.{Standing}
use Rattle.col_core.specs.declared.Event.TheVariants as events
use Rattle.col_core.specs.declared.Event.{Event}
use Rattle.col_core.specs.declared.Entry.{Entry}
use Rattle.col_core.specs.History.{entries, entry_key, event_number}
use Rattle.col_core.proofs.CallerLemmas.{choice, key-stamps, reverse-cons, entries-of, open_waits, lawful_front, In, waits_next}
use Rattle.col_core.proofs.CallerLemmas.{shown, stands, Status, Alone, Waits, Settled, status, after_event}
use Rattle.col_core.proofs.CallerLemmas.{standing_of, clock, IsLawfulPast, IsLawfulNext}
use Rattle.world_laws.specs.Worlds.{World}
use Rattle.world_laws.specs.Laws.{NoneGetsBefore}
use Rattle.world_laws.proofs.Basics.{in_contains, contains_in}
use Rattle.world_laws.proofs.Held.{Held}
use Rattle.world_laws.proofs.Histories.{lawful_past_in}

clock_later : (later before : List Entry) (e : Entry) → event_number e.event e.stamp ≤ clock (later ++ e ∷ before)
clock_later [] before e = omega arith
clock_later (d ∷ later) before e = let h = clock_later later before e in omega (arith, h)

waits_before : (later before : List Entry) (e : Entry) (id : Id) (floor : ℕ) (wants : Counts)
    → e.event ≡ events.Single id floor wants → IsLawfulPast (later ++ e ∷ before) → (i : Id) (s : ℕ)
    → status i (later ++ e ∷ before) ≡ Waits s → s ≤ e.stamp → status i before ≡ Waits s
waits_before [] before e id floor wants is l i s h le =
    choice (λ (st : Status). st ≡ Waits s → status i before ≡ Waits s) (same_id i id) (Alone e.stamp) (status i before)
    (λ _ x. absurd (let y : ⊥ = cc in y)) (λ _ x. x)
    (subst (λ (ev : Event). after_event i ev e.stamp (status i before) ≡ Waits s) is h)
waits_before (d ∷ later) before e id floor wants is l i s h le =
    turn (waits_next (later ++ e ∷ before) d.event d.stamp i s l.0 h)
    (λ x. waits_before later before e id floor wants is l.1 i s x le) where
      at : event_number e.event e.stamp ≡ e.stamp
      at = ap (λ (ev : Event). event_number ev e.stamp) is

      turn : (status i (later ++ e ∷ before) ≡ Waits s) ⊎ (clock (later ++ e ∷ before) < s)
          → (status i (later ++ e ∷ before) ≡ Waits s → status i before ≡ Waits s) → status i before ≡ Waits s
      turn (inl x) rest = rest x
      turn (inr lt) rest =
          absurd (let c = clock_later later before e in let a = at in let y : ⊥ = omega (arith, c, a, lt, le) in y)

pub reverse-split : (before later : List Entry) (e : Entry)
    → reverse (before ++ e ∷ later) ≡ reverse later ++ e ∷ reverse before
reverse-split before later e =
    reverse-append before (e ∷ later)
    ∙ (ap (λ (x : List Entry). x ++ reverse before) (reverse-cons e later) ∙ append_assoc (reverse later) (e ∷ [])
    (reverse before))

none_before : (before later : List Entry) (e : Entry) (id : Id) (floor : ℕ) (wants : Counts) (f : Standing)
    → IsLawfulPast (reverse (before ++ e ∷ later)) → e.event ≡ events.Single id floor wants
    → In f (entries (before ++ e ∷ later)) → f.settled ≡ false → f.key.stamp ≤ e.stamp → In f (entries before)
none_before before later e id floor wants f l ev i o below =
    let split = reverse-split before later e in
    let x = shown (reverse (before ++ e ∷ later)) l f
    (subst (λ (es : List Standing). In f es) (entries-of (before ++ e ∷ later)) i) in
    let waits = open_waits f.key.id (status f.key.id (reverse (before ++ e ∷ later))) f x o in
    let l' : IsLawfulPast (reverse later ++ e ∷ reverse before) = subst IsLawfulPast split l in
    let waits' = waits_before (reverse later) (reverse before) e id floor wants ev l' f.key.id f.key.stamp
    (subst (λ (p : List Entry). status f.key.id p ≡ Waits f.key.stamp) split waits) below in
    let lb : IsLawfulPast (reverse before) = (lawful_front (reverse later) (e ∷ reverse before) l').1 in
    let y : standing_of f.key.id (status f.key.id (reverse before)) ≡ Some f = ap (standing_of f.key.id)
    (waits' ∙ sym waits) ∙ x in
    subst (λ (es : List Standing). In f es) (sym (entries-of before)) (stands (reverse before) lb f.key.id f y)

-- the first events of a history, around one of them
take_around : (h : List Entry) (place n : ℕ) (e : Entry) → slice_get h place ≡ Some e → place < n
    → (later : List Entry) × (take n h ≡ take place h ++ e ∷ later)
take_around [] place n e at lt = absurd (let x : ⊥ = cc in x)
take_around (d ∷ h) place zero e at lt = absurd (let x : ⊥ = omega (arith, lt) in x)
take_around (d ∷ h) zero (suc n) e at lt = (take n h, let x : d ≡ e = cc in ap (λ (y : Entry). y ∷ take n h) x)
take_around (d ∷ h) (suc place) (suc n) e at lt =
    let r = take_around h place n e at (omega (arith, lt)) in (r.0, ap (λ (l : List Entry). d ∷ l) r.1)

-- the first events of a lawful history are lawful
pub lawful_first : (history : List Entry) (n : ℕ) → IsLawfulPast (reverse history)
    → IsLawfulPast (reverse (take n history))
lawful_first history n l =
    lawful_front (reverse (drop n history)) (reverse (take n history))
    (subst IsLawfulPast
    (ap reverse (sym (take-append-drop n history)) ∙ reverse-append (take n history) (drop n history)) l)

pub none_gets_before : (w : World) → Held w → NoneGetsBefore w
none_gets_before w h r c place n e id floor wants f at ev lt i o below =
    let history = w.histories r c in
    let t = take_around history place n e at lt in
    contains_in _ _ (none_before (take place history) t.0 e id floor wants f
    (subst (λ (x : List Entry). IsLawfulPast (reverse x)) t.1 (lawful_first history n (lawful_past_in w h r c))) ev
    (subst (λ (x : List Entry). In f (entries x)) t.1 (in_contains _ _ i)) o
    (key-stamps f.key (entry_key e.stamp id) below))
