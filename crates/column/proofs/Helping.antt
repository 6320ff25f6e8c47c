-- The open entries among those that wait.
use Rattle.std.proofs.Common.{◌≡◌, Bool, true, false, cond, List, [], ◌∷◌, length, Some, None, refl, ap, sym, subst}
use Rattle.std.proofs.Common.{◌∙◌, inl, inr, ◌⊎◌}
use Rattle.std.specs.Prelude.{not, map, Option}
use Rattle.std.specs.List.{AllByRecursion, filter, find}
use Rattle.std.specs.Option.{option_map}
use Rattle.std.proofs.lemmas.Bool.{cond_both, cond-true, cond-false, cases_Bool, and_parts, not-true, true≢false}
use Rattle.std.proofs.lemmas.Bool.{and_left, false_from_ne_true}
use Rattle.std.proofs.lemmas.Option.{none-some, same_Some}
use Rattle.log_node.specs.declared.ids.Key.{Key}
use Rattle.log_node.specs.Seen.{BegunAppend}
use Rattle.skeen_core.specs.declared.waiting.Waiting.{Waiting}
use Rattle.log_node.specs.Standings.{Standing, is_delivered, queue_of}
use Rattle.skeen_core.specs.Queues.{standing_of}
use Rattle.skeen_core.proofs.CallerLemmas.{filter-map}
use Rattle.column.specs.Entering.{EnteredNode}
use Rattle.column.specs.Columns.{is_open_below, is_waiting_below, HasRow, IsBegunOf, IsBegunAt}
use Rattle.column.proofs.Histories.{length_map}

-- what was found passes the test, and holds what all do
found_each : {A : Type 0} (p : A → Bool) (P : A → Type 0) (xs : List A) (x : A) → AllByRecursion P xs → find p xs
    ≡ Some x → P x × (p x ≡ true)
found_each p P [] x h is = absurd (none-some x is)
found_each {A} p P (y ∷ ys) x h is =
    cond_both (p y) (Some y) (find p ys) (λ o. o ≡ Some x → P x × (p x ≡ true))
    (λ t e. subst (λ (z : A). P z × (p z ≡ true)) (same_Some y x e) (h.0, t)) (λ _ e. found_each p P ys x h.1 e) is

-- an open entry's node has a row, so its begun append is there
begun_of : (r : Option BegunAppend) (w : Waiting EnteredNode) → HasRow w.settled w.thing.node → w.settled ≡ false
    → IsBegunOf r w.thing.node → IsBegunAt r (Some w)
begun_of None w row first none = absurd (no_row w.settled row first none) where
  no_row : (b : Bool) → HasRow b w.thing.node → b ≡ false → w.thing.node.row ≡ None → ⊥
  no_row true row first none = true≢false first
  no_row false row first none = row none
begun_of (Some b) w row first h = h

pub begun_at : (key : Key) (ws : List (Waiting EnteredNode)) (w : Waiting EnteredNode) (r : Option BegunAppend)
    → AllByRecursion (λ v. HasRow v.settled v.thing.node) ws → Some w ≡ find (is_waiting_below key) ws
    → IsBegunOf r w.thing.node → IsBegunAt r (find (is_waiting_below key) ws)
begun_at key ws w r rows found begun =
    let f = found_each (is_waiting_below key) (λ (v : Waiting EnteredNode). HasRow v.settled v.thing.node) ws w rows
    (sym found) in
    let p = and_parts (not w.settled) _ f.1 in
    subst (IsBegunAt r) found (begun_of r w f.0 (not-true w.settled p.0) begun)

-- an open entry is not delivered
not_delivered : (es : List Standing) (e : Standing) → e.settled ≡ false → not (is_delivered es e) ≡ true
not_delivered es e first = ap not (and_left e.settled _ first)

-- a test that passes only what another passes
filter_both : {A : Type 0} (p q : A → Bool) → ((x : A) → p x ≡ true → q x ≡ true) → (xs : List A)
    → filter p (filter q xs) ≡ filter p xs
filter_both p q h [] = refl
filter_both {A} p q h (x ∷ xs) = each (filter_both p q h xs) (cases_Bool (q x)) where
  each : filter p (filter q xs) ≡ filter p xs → (q x ≡ true) ⊎ (q x ≡ false) → filter p (filter q (x ∷ xs))
      ≡ filter p (x ∷ xs)
  each rest (inl t) =
      ap (filter p) (cond-true (q x) (x ∷ filter q xs) (filter q xs) t)
      ∙ ap (λ (l : List A). cond (p x) (x ∷ l) l) rest
  each rest (inr f) =
      ap (filter p) (cond-false (q x) (x ∷ filter q xs) (filter q xs) f)
      ∙ (rest ∙ sym (cond-false (p x) (x ∷ filter p xs) (filter p xs)
      (false_from_ne_true _ (λ t. true≢false (sym (h x t) ∙ f)))))

find_both : {A : Type 0} (p q : A → Bool) → ((x : A) → p x ≡ true → q x ≡ true) → (xs : List A) → find p (filter q xs)
    ≡ find p xs
find_both p q h [] = refl
find_both {A} p q h (x ∷ xs) = each (find_both p q h xs) (cases_Bool (q x)) where
  each : find p (filter q xs) ≡ find p xs → (q x ≡ true) ⊎ (q x ≡ false) → find p (filter q (x ∷ xs)) ≡ find p (x ∷ xs)
  each rest (inl t) =
      ap (find p) (cond-true (q x) (x ∷ filter q xs) (filter q xs) t)
      ∙ ap (λ (o : Option A). cond (p x) (Some x) o) rest
  each rest (inr f) =
      ap (find p) (cond-false (q x) (x ∷ filter q xs) (filter q xs) f)
      ∙ (rest ∙ sym (cond-false (p x) (Some x) (find p xs) (false_from_ne_true _ (λ t. true≢false (sym (h x t) ∙ f)))))

open_in_queue : (key : Key) (es : List Standing) (e : Standing) → is_open_below key e ≡ true → not (is_delivered es e)
    ≡ true
open_in_queue key es e t = not_delivered es e (not-true e.settled (and_parts (not e.settled) _ t).0)

-- how many open entries have a key below: all of them wait
pub count_below : (key : Key) (es : List Standing) (ws : List (Waiting EnteredNode)) → map standing_of ws ≡ queue_of es
    → length (filter (is_waiting_below key) ws) ≡ length (filter (is_open_below key) es)
count_below key es ws are =
    sym (length_map standing_of (filter (is_waiting_below key) ws))
    ∙ (ap length (sym (filter-map (is_open_below key) standing_of ws))
    ∙ (ap (λ (l : List Standing). length (filter (is_open_below key) l)) are
    ∙ ap length (filter_both (is_open_below key) (λ e. not (is_delivered es e)) (open_in_queue key es) es)))

find_map : {X Y : Type 0} (p : Y → Bool) (f : X → Y) (xs : List X) → find p (map f xs)
    ≡ option_map f (find (λ x. p (f x)) xs)
find_map p f [] = refl
find_map p f (x ∷ xs) = each (find_map p f xs) (cases_Bool (p (f x))) where
  each : find p (map f xs) ≡ option_map f (find (λ y. p (f y)) xs) → (p (f x) ≡ true) ⊎ (p (f x) ≡ false)
      → find p (map f (x ∷ xs)) ≡ option_map f (find (λ y. p (f y)) (x ∷ xs))
  each rest (inl t) =
      cond-true (p (f x)) (Some (f x)) (find p (map f xs)) t
      ∙ ap (option_map f) (sym (cond-true (p (f x)) (Some x) (find (λ y. p (f y)) xs) t))
  each rest (inr n) =
      cond-false (p (f x)) (Some (f x)) (find p (map f xs)) n
      ∙ (rest ∙ ap (option_map f) (sym (cond-false (p (f x)) (Some x) (find (λ y. p (f y)) xs) n)))

-- the least of them
least_below : (key : Key) (es : List Standing) (ws : List (Waiting EnteredNode)) → map standing_of ws ≡ queue_of es
    → option_map standing_of (find (is_waiting_below key) ws) ≡ find (is_open_below key) es
least_below key es ws are =
    sym (find_map (is_open_below key) standing_of ws)
    ∙ (ap (find (is_open_below key)) are
    ∙ find_both (is_open_below key) (λ e. not (is_delivered es e)) (open_in_queue key es) es)

-- has the id that the begun append has
pub id_below : (key : Key) (es : List Standing) (ws : List (Waiting EnteredNode)) (r : Option BegunAppend)
    → map standing_of ws ≡ queue_of es
    → AllByRecursion (λ v. v.thing.node.id ≡ v.key.id) ws → IsBegunAt r (find (is_waiting_below key) ws)
    → option_map (λ (b : BegunAppend). b.id) r ≡ option_map (λ (e : Standing). e.key.id) (find (is_open_below key) es)
id_below key es ws r are ids begun =
    each r (find (is_waiting_below key) ws)
    (λ w is. (found_each (is_waiting_below key) (λ (v : Waiting EnteredNode). v.thing.node.id ≡ v.key.id) ws w ids
    is).0) begun
    ∙ ap (option_map (λ (e : Standing). e.key.id)) (least_below key es ws are) where
      each : (r : Option BegunAppend) (o : Option (Waiting EnteredNode))
          → ((w : Waiting EnteredNode) → o ≡ Some w → w.thing.node.id ≡ w.key.id)
          → IsBegunAt r o → option_map (λ (b : BegunAppend). b.id) r
          ≡ option_map (λ (e : Standing). e.key.id) (option_map standing_of o)
      each None None same h = refl
      each None (Some w) same h = absurd h
      each (Some b) None same h = absurd h
      each (Some b) (Some w) same h = ap Some (h.id ∙ same w refl)
