-- The line and the queue of entries, where those in front are final and the first behind them is open.
use Rattle.std.proofs.Common.{◌≡◌, Bool, true, false, List, [], ◌∷◌, ◌++◌}
use Rattle.std.proofs.Common.{refl, ap, ◌∙◌, append-nil}
use Rattle.std.specs.Prelude.{map, not, ◌||◌}
use Rattle.std.specs.List.{AllByRecursion, filter, list_all}
use Rattle.std.proofs.lemmas.Bool.{or_right, or_from, and_right, not_from_true, not_from_false, false_from_ne_true}
use Rattle.std.proofs.lemmas.List.Elements.{filter-append}
use Rattle.std.proofs.lemmas.List.Folds.{list_all-append}
use Rattle.log_node.specs.declared.ids.Key.{Key}
use Rattle.log_node.specs.Order.{key_below}
use Rattle.skeen_core.specs.declared.waiting.Waiting.{Waiting}
use Rattle.log_node.specs.Standings.{Standing, is_delivered, line_of, queue_of}
use Rattle.skeen_core.specs.Queues.{standing_of}
use Rattle.skeen_core.specs.Inside.{final_at, all_entries, StartsOpen, IsRising}
use Rattle.skeen_core.proofs.Lists.{each-weaker, each-append, each-map, each-of_map, filter-all, filter-none}
use Rattle.skeen_core.proofs.Lists.{list_all-each}
use Rattle.log_node.proofs.CallerLemmas.{key-asym, key-irrefl}
use Rattle.skeen_core.proofs.Entries.{rising-across, rising-right}

always : (ks : List Key) → AllByRecursion (λ (j : Key). true ≡ true) ks
always [] = tt
always (j ∷ js) = (refl, always js)

-- a final key that is below all behind it is delivered
front-delivered : (line : List Key) (behind : List Standing) (k : Key) →
    AllByRecursion (λ f. key_below k f.key ≡ true) behind →
    is_delivered (map final_at line ++ behind) (final_at k) ≡ true
front-delivered line behind k below =
    list_all-each (λ f. f.settled || key_below k f.key) (map final_at line ++ behind)
    (each-append (λ f. (f.settled || key_below k f.key) ≡ true) (map final_at line) behind
    (each-of_map final_at (λ f. (f.settled || key_below k f.key) ≡ true) line (always line))
    (each-weaker (λ f. key_below k f.key ≡ true) (λ f. (f.settled || key_below k f.key) ≡ true)
    (λ f t. or_right f.settled _ t) behind below))

-- a key that is not below an open one is not delivered
not-below : (front : List Standing) (r : Standing) (rs : List Standing) (e : Standing) → r.settled ≡ false →
    key_below e.key r.key ≡ false → is_delivered (front ++ r ∷ rs) e ≡ false
not-below front r rs e unsettled above =
    and_right e.settled _
    (list_all-append (λ f. f.settled || key_below e.key f.key) front (r ∷ rs)
    ∙ and_right (list_all (λ f. f.settled || key_below e.key f.key) front) _
    (let o = or_from r.settled (key_below e.key r.key) unsettled above in rw o refl))

keys-of : (ks : List Key) → map (λ (e : Standing). e.key) (map final_at ks) ≡ ks
keys-of [] = refl
keys-of (k ∷ ks) = ap (λ xs. k ∷ xs) (keys-of ks)

module _ {T : Type 0} where
  behind-waits : (line : List Key) (waiting : List (Waiting T)) → StartsOpen waiting →
      IsRising (map standing_of waiting) → AllByRecursion
      (λ e. is_delivered (map final_at line ++ map standing_of waiting) e ≡ false) (map standing_of waiting)
  behind-waits line [] unsettled rising = tt
  behind-waits line (w ∷ ws) unsettled rising = (
    not-below (map final_at line) (standing_of w) (map standing_of ws) (standing_of w) unsettled
        (false_from_ne_true _ (key-irrefl w.key)),
    each-weaker (λ f. key_below w.key f.key ≡ true)
        (λ f. is_delivered (map final_at line ++ standing_of w ∷ map standing_of ws) f ≡ false)
        (λ f t. not-below (map final_at line) (standing_of w) (map standing_of ws) f unsettled
        (key-asym w.key f.key t)) (map standing_of ws) rising.0,
  )

  front-stands : (line : List Key) (waiting : List (Waiting T)) → IsRising (all_entries line waiting) →
      AllByRecursion (λ e. is_delivered (all_entries line waiting) e ≡ true) (map final_at line)
  front-stands line waiting rising =
      each-of_map final_at (λ e. is_delivered (all_entries line waiting) e ≡ true) line
      (each-weaker (λ k. AllByRecursion (λ g. key_below k g.key ≡ true) (map standing_of waiting))
      (λ k. is_delivered (all_entries line waiting) (final_at k) ≡ true)
      (λ k below. front-delivered line (map standing_of waiting) k below) line
      (each-map final_at (λ f. AllByRecursion (λ g. key_below f.key g.key ≡ true) (map standing_of waiting)) line
      (rising-across (map final_at line) (map standing_of waiting) rising)))

  -- the line is what stands in front
  pub line-is : (line : List Key) (waiting : List (Waiting T)) → IsRising (all_entries line waiting) →
      StartsOpen waiting → line_of (all_entries line waiting) ≡ line
  line-is line waiting rising unsettled =
      let p : Standing → Bool = is_delivered (all_entries line waiting) in
      ap (λ es. map (λ (e : Standing). e.key) es) (filter-append p (map final_at line) (map standing_of waiting)
      ∙ ap (λ es. es ++ filter p (map standing_of waiting))
      (filter-all p (map final_at line) (front-stands line waiting rising))
      ∙ ap (λ es. map final_at line ++ es) (filter-none p (map standing_of waiting)
      (behind-waits line waiting unsettled (rising-right (map final_at line) (map standing_of waiting) rising)))
      ∙ append-nil (map final_at line))
      ∙ keys-of line

  -- the queue is what waits
  pub queue-is : (line : List Key) (waiting : List (Waiting T)) → IsRising (all_entries line waiting) →
      StartsOpen waiting → queue_of (all_entries line waiting) ≡ map standing_of waiting
  queue-is line waiting rising unsettled =
      let p : Standing → Bool = λ e. not (is_delivered (all_entries line waiting) e) in
      filter-append p (map final_at line) (map standing_of waiting)
      ∙ ap (λ es. es ++ filter p (map standing_of waiting)) (filter-none p (map final_at line)
      (each-weaker (λ e. is_delivered (all_entries line waiting) e ≡ true) (λ e. p e ≡ false)
      (λ e t. not_from_true _ t) (map final_at line) (front-stands line waiting rising)))
      ∙ filter-all p (map standing_of waiting)
      (each-weaker (λ e. is_delivered (all_entries line waiting) e ≡ false) (λ e. p e ≡ true)
      (λ e t. not_from_false _ t) (map standing_of waiting)
      (behind-waits line waiting unsettled (rising-right (map final_at line) (map standing_of waiting) rising)))
