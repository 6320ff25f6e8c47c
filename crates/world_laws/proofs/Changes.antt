-- For those who keep a world: what one more Raise, Give, Carry or Trim changes of a column, and what copies hold.
use Rattle.std.proofs.Common.{◌≡◌, ℕ, max, List, [], ◌∷◌, ◌++◌, length, take, map, false, refl, ap, sym, ◌∙◌, arith, append-nil, append_assoc}
use Rattle.std.specs.Prelude.{◌==◌, ◌≢◌}
use mathlib.Core.Path.{fun_ext}
use Rattle.std.proofs.lemmas.Bool.{eqb-true, eq-eqb}
use Rattle.std.proofs.lemmas.List.{take_at}
use Rattle.log_node.specs.declared.ids.Id.{Id}
use Rattle.log_node.specs.declared.ids.Key.{Key}
use Rattle.log_node.specs.declared.ids.Counts.{Counts}
use Rattle.log_node.specs.declared.node.Head.{Head}
use Rattle.log_node.specs.Vectors.{vector}
use Rattle.log_node.specs.Standings.{Standing, line_of}
use Rattle.col_core.specs.declared.Event.{Event}
use Rattle.col_core.specs.declared.Event.TheVariants as events
use Rattle.col_core.specs.declared.Entry.{Entry}
use Rattle.col_core.specs.History.{entries, line, with_event, enters}
use Rattle.col_core.specs.Cuts.{Dated, entries_of, needs_of, carried, chain, trimmed_to, base_from}
use Rattle.col_core.specs.Computed.{cut, dated}
use Rattle.col_core.proofs.CallerLemmas.{entries-append, dated-append, by_test, if_true, if_false, apart}
use Rattle.world_laws.specs.Worlds.{World, chains_after, cut_after, base_after, held_of}
use Rattle.world_laws.proofs.Held.{Held}
use Rattle.world_laws.proofs.Histories.{entries_dated}
use Rattle.world_laws.proofs.Clients.{head_with}
use Rattle.world_laws.proofs.Copies.{chain-last}
use Rattle.world_laws.proofs.OfColumns.{AreTwo}

-- the event neither enters nor settles an id
abbrev pub IsQuiet : Event → Type 0
IsQuiet (events.Single _ _ _) = ⊥
IsQuiet (events.Propose _ _ _) = ⊥
IsQuiet (events.Settle _ _) = ⊥
IsQuiet (events.Raise _) = Unit {0}
IsQuiet (events.Give _ _) = Unit {0}
IsQuiet (events.Carry _ _ _) = Unit {0}
IsQuiet (events.Trim _) = Unit {0}

quiet_standings : (es : List Standing) (ev : Event) (stamp : ℕ) → IsQuiet ev → with_event es ev stamp ≡ es
quiet_standings es (events.Single _ _ _) stamp q = absurd q
quiet_standings es (events.Propose _ _ _) stamp q = absurd q
quiet_standings es (events.Settle _ _) stamp q = absurd q
quiet_standings es (events.Raise _) stamp q = refl
quiet_standings es (events.Give _ _) stamp q = refl
quiet_standings es (events.Carry _ _ _) stamp q = refl
quiet_standings es (events.Trim _) stamp q = refl

quiet_enters : (id : Id) (ev : Event) → IsQuiet ev → enters id ev ≡ false
quiet_enters id (events.Single _ _ _) q = absurd q
quiet_enters id (events.Propose _ _ _) q = absurd q
quiet_enters id (events.Settle _ _) q = absurd q
quiet_enters id (events.Raise _) q = refl
quiet_enters id (events.Give _ _) q = refl
quiet_enters id (events.Carry _ _ _) q = refl
quiet_enters id (events.Trim _) q = refl

pub entries_stay : (h : List Entry) (e : Entry) → IsQuiet e.event → entries (h ++ e ∷ []) ≡ entries h
entries_stay h e q = entries-append h e ∙ quiet_standings (entries h) e.event e.stamp q

pub line_stays : (h : List Entry) (e : Entry) → IsQuiet e.event → line (h ++ e ∷ []) ≡ line h
line_stays h e q = ap line_of (entries_stay h e q)

-- Chains and cuts

needs_stay : (ds : List Dated) (d : Dated) (id : Id) → enters id d.entry.event ≡ false
    → needs_of (ds ++ d ∷ []) id ≡ needs_of ds id
needs_stay [] d id no_id = if_false (enters id d.entry.event) _ _ no_id
needs_stay (x ∷ ds) d id no_id =
    by_test _ (enters id x.entry.event)
    (λ t. if_true (enters id x.entry.event) _ _ t ∙ sym (if_true (enters id x.entry.event) _ _ t))
    (λ f. if_false (enters id x.entry.event) _ _ f
    ∙ (needs_stay ds d id no_id ∙ sym (if_false (enters id x.entry.event) _ _ f)))

pub own_chain_stays : (own : ℕ) (h : List Entry) (e : Entry) → IsQuiet e.event
    → chains_after own (h ++ e ∷ []) own ≡ chains_after own h own
own_chain_stays own h e q =
    let ds = dated own h in
    let longer = ds ++ record { entry = e; cut_before = cut own ds } ∷ [] in
    ap (λ (x : List Dated). chain own x own) (dated-append own h e)
    ∙ (if_true (own == own) _ _ (eq-eqb own own refl)
    ∙ (ap (λ (x : List Entry). map (head_with longer) (line x))
    (ap entries_of (sym (dated-append own h e)) ∙ entries_dated own (h ++ e ∷ []))
    ∙ (ap (map (head_with longer)) (line_stays h e q)
    ∙ (ap (λ (f : Key → Head). map f (line h))
    (fun_ext (λ (key : Key). same_head key (needs_stay ds _ key.id (quiet_enters key.id e.event q))))
    ∙ (ap (λ (x : List Entry). map (head_with ds) (line x)) (sym (entries_dated own h))
    ∙ sym (if_true (own == own) _ _ (eq-eqb own own refl))))))) where
      head_from : Key → Counts → Head
      head_from key v = record { key = key; needs = v }

      same_head : (key : Key) {v u : Counts} → v ≡ u → head_from key v ≡ head_from key u
      same_head key same = ap (head_from key) same

-- another region's chain has what the event carries of it at its end
pub chain_longer : (own region : ℕ) (h : List Entry) (e : Entry) → region ≢ own
    → chains_after own (h ++ e ∷ []) region ≡ chains_after own h region ++ carried region e.event
chain_longer own region h e ne =
    ap (λ (x : List Dated). chain own x region) (dated-append own h e)
    ∙ chain-last own region (dated own h) (record { entry = e; cut_before = cut own (dated own h) }) ne

-- where nothing is carried of it, it stays
pub chain_stays : (own region : ℕ) (h : List Entry) (e : Entry) → IsQuiet e.event → carried region e.event ≡ []
    → chains_after own (h ++ e ∷ []) region ≡ chains_after own h region
chain_stays own region h e q none =
    by_test _ (region == own)
    (λ t. let is = eqb-true region own t in
    ap (λ (r : ℕ). chains_after own (h ++ e ∷ []) r) is
    ∙ (own_chain_stays own h e q ∙ ap (λ (r : ℕ). chains_after own h r) (sym is)))
    (λ f. chain_longer own region h e (λ is. apart (region == own) (eq-eqb region own is) f)
    ∙ (ap (λ (l : List Head). chains_after own h region ++ l) none ∙ append-nil (chains_after own h region)))

-- Bases

base_from-last : (own regions region : ℕ) (before ds : List Dated) (d : Dated)
    → base_from own regions region before (ds ++ d ∷ [])
    ≡ max (base_from own regions region before ds)
    (trimmed_to own regions (before ++ ds) d.entry.event d.cut_before region)
base_from-last own regions region before [] d =
    let same = ap (λ (l : List Dated). trimmed_to own regions l d.entry.event d.cut_before region)
    (append-nil before) in
    omega (arith, same)
base_from-last own regions region before (x ∷ ds) d =
    let h = base_from-last own regions region (before ++ x ∷ []) ds d in
    let same = ap (λ (l : List Dated). trimmed_to own regions l d.entry.event d.cut_before region)
    (append_assoc before (x ∷ []) ds) in
    omega (arith, h, same)

-- the base after one event more
pub base_last : (own regions : ℕ) (h : List Entry) (e : Entry)
    → base_after regions own (h ++ e ∷ [])
    ≡ vector (λ region. max (base_from own regions region [] (dated own h))
    (trimmed_to own regions (dated own h) e.event (cut_after own h) region))
base_last own regions h e =
    ap (λ (x : List Dated). vector (λ region. base_from own regions region [] x)) (dated-append own h e)
    ∙ ap vector (fun_ext (λ region. base_from-last own regions region [] (dated own h)
    (record { entry = e; cut_before = cut_after own h })))

-- an event that trims nothing leaves it
pub base_stays : (own regions : ℕ) (h : List Entry) (e : Entry)
    → ((region : ℕ) → trimmed_to own regions (dated own h) e.event (cut_after own h) region ≡ 0)
    → base_after regions own (h ++ e ∷ []) ≡ base_after regions own h
base_stays own regions h e none =
    base_last own regions h e
    ∙ ap vector (fun_ext (λ region. no_more (base_from own regions region [] (dated own h))
    (trimmed_to own regions (dated own h) e.event (cut_after own h) region) (none region))) where
      no_more : (n m : ℕ) → m ≡ 0 → max n m ≡ n
      no_more n m is = omega (arith, is)
