-- What a view shows of chains, place by place.
use Rattle.std.proofs.Common.{◌≡◌, ℕ, zero, suc, ◌+◌, ◌-◌, ◌<◌, ◌≤◌, List, [], ◌∷◌, Some, refl, ap, sym, ◌∙◌, arith}
use Rattle.std.proofs.Common.{take, drop}
use Rattle.std.specs.Prelude.{slice_get, slice_index_or}
use Rattle.std.specs.Option.{option_map}
use Rattle.std.proofs.lemmas.Option.{slice_get-map}
use Rattle.log_node.specs.declared.ids.Counts.{Counts}
use Rattle.log_node.specs.declared.node.Head.{Head}
use Rattle.log_node.specs.Seen.{PlacedNode}
use Rattle.log_node.specs.Vectors.{at}
use Rattle.col_core.specs.declared.view.View.{View}
use Rattle.log_node.specs.Reach.{Chains}
use Rattle.col_core.specs.PlayOrder.{Place, nodes_between}
use Rattle.playback.specs.Playing.{items_of, ShowsChains, item_at, head_at}

got_dropped : {A : Type 0} (s : ℕ) (xs : List A) (n : ℕ) → slice_get (drop s xs) n ≡ slice_get xs (s + n)
got_dropped zero xs n = let e : n ≡ zero + n = omega arith in ap (slice_get xs) e
got_dropped (suc s) [] n = refl
got_dropped (suc s) (y ∷ ys) n = let e : suc (s + n) ≡ suc s + n = omega arith in got_dropped s ys n
    ∙ ap (slice_get (y ∷ ys)) e

got_taken : {A : Type 0} (m : ℕ) (xs : List A) (n : ℕ) → n < m → slice_get (take m xs) n ≡ slice_get xs n
got_taken zero xs n lt = absurd (let f : ⊥ = omega (arith, lt) in f)
got_taken (suc m) [] n lt = refl
got_taken (suc m) (y ∷ ys) zero lt = refl
got_taken (suc m) (y ∷ ys) (suc n) lt = got_taken m ys n (omega (arith, lt))

-- a node between two vectors
between_at : (chains : Chains) (from to : Counts) (r n : ℕ) → at from r ≤ n → n < at to r
    → slice_get (nodes_between chains from to r) (n - at from r) ≡ slice_get (chains r) n
between_at chains from to r n past short =
    let e : at from r + (n - at from r) ≡ n = omega (arith, past) in
    got_dropped (at from r) (take (at to r) (chains r)) (n - at from r)
    ∙ (ap (slice_get (take (at to r) (chains r))) e ∙ got_taken (at to r) (chains r) n short)

-- the view shows the node of the chains
pub shown_at : (view : View) (chains : Chains) → ShowsChains view chains → (place : Place) → place.region < 4
    → at view.from place.region ≤ place.position → place.position < at view.cut place.region
    → option_map (λ (i : PlacedNode). i.head) (item_at view place) ≡ head_at chains place
shown_at view chains shows place lt past short =
    sym (slice_get-map (λ (i : PlacedNode). i.head) (items_of view place.region) (place.position - at view.from
    place.region))
    ∙ (ap (λ (hs : List Head). slice_get hs (place.position - at view.from place.region)) (shows place.region lt)
    ∙ between_at chains view.from view.cut place.region place.position past short)

-- the list of a region in which a node is found
item_found : {A : Type 0} (lists : List (List A)) (r n : ℕ) (x : A) (items : List A)
    → slice_get (slice_index_or lists r []) n ≡ Some x
    → items ≡ slice_index_or lists r items → slice_get items n ≡ Some x
item_found [] r n x items found is = absurd (let f : ⊥ = cc in f)
item_found (l ∷ lists) zero n x items found is = ap (λ (xs : List _). slice_get xs n) is ∙ found
item_found (l ∷ lists) (suc r) n x items found is = item_found lists r n x items found is

-- the same as the code reads it
pub item_read : {A : Type 0} (lists rows : List (List A)) (r n : ℕ) (x : A) (row items : List A) → rows ≡ lists → row
    ≡ slice_index_or rows r row → items ≡ row
    → slice_get (slice_index_or lists r []) n ≡ Some x → slice_get items n ≡ Some x
item_read lists rows r n x row items same is copied found =
    ap (λ l. slice_get l n) copied ∙ item_found lists r n x row found (is ∙ ap (λ l. slice_index_or l r row) same)
