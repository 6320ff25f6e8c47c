-- For those who play views: which chains a view shows, and what was played, node by node.
use Rattle.std.proofs.Common.{◌≡◌, ℕ, zero, suc, ◌-◌, ◌<◌, List, [], ◌∷◌, Some, take, drop, refl, ap}
use Rattle.std.proofs.Common.{◌∙◌, arith}
use Rattle.std.specs.Prelude.{map, slice_get}
use Rattle.log_node.specs.declared.ids.Counts.{Counts}
use Rattle.log_node.specs.Seen.{PlacedNode}
use Rattle.log_node.specs.Vectors.{at}
use Rattle.col_core.specs.declared.view.View.{View}
use Rattle.log_node.specs.Reach.{Chains}
use Rattle.col_core.specs.PlayOrder.{Place}
use Rattle.playback.specs.Orders.{play_order}
use Rattle.playback.specs.Playing.{items_of, ShowsChains, item_at, ArePlayed}
use Rattle.playback.proofs.Playing.{count_all}
use Rattle.playback.proofs.Steps.{order_ahead}
pub use Rattle.playback.proofs.Merged.{order_is_merged}
pub use Rattle.playback.proofs.Playing.{order_is_played}
pub use Rattle.playback.proofs.Shown.{shown_at}
pub use Rattle.playback.proofs.Steps.{IsAhead}

-- as many as lie between, or those past the first of a beginning
taken_dropped : {A : Type 0} (n m : ℕ) (xs : List A) → take (m - n) (drop n xs) ≡ drop n (take m xs)
taken_dropped zero m xs = let e : m - zero ≡ m = omega arith in ap (λ k. take k xs) e
taken_dropped {A} (suc n) zero [] = none_taken (zero - suc n) where
  none_taken : (k : ℕ) → ◌≡◌ {A = List A} (take k []) []
  none_taken zero = refl
  none_taken (suc k) = refl
taken_dropped {A} (suc n) (suc m) [] = none_taken (suc m - suc n) where
  none_taken : (k : ℕ) → ◌≡◌ {A = List A} (take k []) []
  none_taken zero = refl
  none_taken (suc k) = refl
taken_dropped (suc n) zero (x ∷ xs) = let e : zero - suc n ≡ zero = omega arith in ap (λ k. take k (drop n xs)) e
taken_dropped (suc n) (suc m) (x ∷ xs) =
    let e : suc m - suc n ≡ m - n = omega arith in
    ap (λ k. take k (drop n xs)) e ∙ taken_dropped n m xs

-- a view shows the chains of which its items have the heads from its start on, as many as lie before its cut
pub shows_chains : (view : View) (chains : Chains)
    → ((r : ℕ) → r < 4 → map (λ (i : PlacedNode). i.head) (items_of view r)
    ≡ take (at view.cut r - at view.from r) (drop (at view.from r) (chains r)))
    → ShowsChains view chains
shows_chains view chains heads = λ r lt. heads r lt ∙ taken_dropped (at view.from r) (at view.cut r) (chains r)

same_somes : {A : Type 0} (xs ys : List A) → map Some xs ≡ map Some ys → xs ≡ ys
same_somes [] [] e = refl
same_somes [] (y ∷ ys) e = absurd (let f : ⊥ = cc in f)
same_somes (x ∷ xs) [] e = absurd (let f : ⊥ = cc in f)
same_somes (x ∷ xs) (y ∷ ys) e =
    let first : Some x ≡ Some y = cc in
    let same : x ≡ y = cc in
    let rest : map Some xs ≡ map Some ys = cc in
    ap (λ z. z ∷ xs) same ∙ ap (λ l. y ∷ l) (same_somes xs ys rest)

-- where the view shows this item at each place that is played, these are the items that were played
pub played_items : (view : View) (chains : Chains) (from : Counts) (items : List PlacedNode)
    → ArePlayed view chains from items
    → (item : Place → PlacedNode)
    → ((place : Place) → IsAhead from view.cut place → item_at view place ≡ Some (item place))
    → items ≡ map item (play_order chains from view.cut)
played_items view chains from items played item shown =
    let order = play_order chains from view.cut in
    same_somes items (map item order)
    (played.items_shown ∙ each order (order_ahead (count_all view.cut) chains from from view.cut (λ r lt. omega arith)))
  where
    each : (ps : List Place) → ((k : ℕ) (place : Place) → slice_get ps k ≡ Some place → IsAhead from view.cut place)
        → map (item_at view) ps ≡ map Some (map item ps)
    each [] ahead = refl
    each (p ∷ ps) ahead =
        ap (λ o. o ∷ map (item_at view) ps) (shown p (ahead 0 p refl))
        ∙ ap (λ l. Some (item p) ∷ l) (each ps (λ k place is. ahead (suc k) place is))
