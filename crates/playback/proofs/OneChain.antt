-- Where one chain alone has nodes to be played, the order of play is that chain.
use Rattle.std.proofs.Common.{◌≡◌, ℕ, zero, suc, ◌+◌, ◌-◌, ◌<◌, ◌≤◌, min, List, [], ◌∷◌, length, take, drop, map, Option}
use Rattle.std.proofs.Common.{Some, None, refl, subst, ap, sym, ◌∙◌, inl, inr, ◌⊎◌, arith}
use Rattle.std.specs.Prelude.{slice_get, slice_index_or, sum, IsTrue, if◌then◌else◌, ◌==◌}
use Rattle.std.specs.Option.{option_map_or}
use Rattle.std.proofs.lemmas.Bool.{cases_eq, cond-false, ne_eqb}
use Rattle.std.proofs.lemmas.List.{length-drop, length-take, length-map}
use Rattle.log_node.specs.declared.ids.Counts.{Counts}
use Rattle.log_node.specs.Seen.{PlacedNode}
use Rattle.log_node.specs.Vectors.{at, IsWithin, with_number, one_more, all_regions}
use Rattle.log_node.proofs.CallerLemmas.{within-at, at-vector}
use Rattle.col_core.specs.declared.view.View.{View}
use Rattle.log_node.specs.Reach.{Chains, Reachable}
use Rattle.col_core.specs.PlayOrder.{Place, nodes_between}
use Rattle.col_core.proofs.CallerLemmas.{reached_within}
use Rattle.playback.specs.Orders.{next_place, next_region, order_of, play_order}
use Rattle.playback.specs.Playing.{items_of, ShowsChains, item_at}
use Rattle.playback.specs.Inside.{AreInOrder, is_lone}
use Rattle.playback.proofs.NextRegions.{IsNext, next_is, among_all, among_four}
use Rattle.playback.proofs.Counting.{more_here, no_less}
use Rattle.playback.proofs.Whole.{reached_played}

-- no other region's chain has nodes that are to be played
abbrev pub OthersArePlayed : Counts → Counts → ℕ → Type 0
OthersArePlayed played to region = (r : ℕ) → r < 4 → (r ≡ region → ⊥) → at to r ≤ at played r

pub others_are_played : (from to : Counts) (region : ℕ) → IsTrue (is_lone from to region)
    → OthersArePlayed from to region
others_are_played from to region lone r lt ne =
    let less = within-at (with_number to region 0) from lone r lt in
    let is : at (with_number to region 0) r ≡ at to r =
    at-vector (λ other. if other == region then 0 else at to other) r lt
    ∙ cond-false (r == region) 0 (at to r) (ne_eqb r region ne) in
    omega (arith, less, is)

-- so many places of a region's chain, from a position on
abbrev pub places_from : ℕ → ℕ → ℕ → List Place
places_from region position zero = []
places_from region position (suc k) = record { region = region; position = position }
    ∷ places_from region (position + 1) k

-- the order of what is left is the chain's places
pub lone_order : (n k : ℕ) (chains : Chains) (played to : Counts) (region : ℕ) → Reachable chains to → region < 4
    → OthersArePlayed played to region → at played region + k ≡ at to region → k ≤ n
    → order_of n chains played to ≡ places_from region (at played region) k
lone_order zero zero chains played to region reached lt others left le = refl
lone_order zero (suc k) chains played to region reached lt others left le =
    absurd (let f : ⊥ = omega (arith, le) in f)
lone_order (suc n) zero chains played to region reached lt others left le =
    none (next_region chains played to all_regions) (next_is chains played to all_regions) where
      none : (o : Option ℕ) → IsNext chains played to all_regions o
          → option_map_or (λ r. next_place played r ∷ order_of n chains (one_more played r) to) o [] ≡ []
      none None is = refl
      none (Some r) is = absurd (pick (cases_eq r region)) where
        pick : (r ≡ region) ⊎ (r ≡ region → ⊥) → ⊥
        pick (inl e) =
            let wanted = subst (λ s. at played s < at to s) e is.free.wanted in
            omega (arith, wanted, left)
        pick (inr ne) =
            let wanted = is.free.wanted in
            let full = others r (among_four r is.among) ne in
            omega (arith, wanted, full)
lone_order (suc n) (suc k) chains played to region reached lt others left le =
    let more = more_here played region lt in
    let rest : order_of n chains (one_more played region) to ≡ places_from region (at played region + 1) k =
    lone_order n k chains (one_more played region) to region reached lt
    (λ r l ne. let a = others r l ne in let b = no_less played region r l in omega (arith, a, b))
    (omega (arith, more, left)) (omega (arith, le))
    ∙ ap (λ p. places_from region p k) more in
    one rest (next_region chains played to all_regions) (next_is chains played to all_regions) where
      one : order_of n chains (one_more played region) to ≡ places_from region (at played region + 1) k
          → (o : Option ℕ) → IsNext chains played to all_regions o
          → option_map_or (λ r. next_place played r ∷ order_of n chains (one_more played r) to) o []
          ≡ places_from region (at played region) (suc k)
      one rest None is =
          let all = reached_played chains played to (λ r head l free. is r (among_all r l) head free) reached
          (λ r l. omega arith) region lt in
          absurd (let f : ⊥ = omega (arith, all, left) in f)
      one rest (Some r) is = pick (cases_eq r region) where
        pick : (r ≡ region) ⊎ (r ≡ region → ⊥)
            → next_place played r ∷ order_of n chains (one_more played r) to
            ≡ places_from region (at played region) (suc k)
        pick (inl e) = ap (λ s. next_place played s ∷ order_of n chains (one_more played s) to) e
            ∙ ap (λ (ps : List Place). next_place played region ∷ ps) rest
        pick (inr ne) =
            let wanted = is.free.wanted in
            let full = others r (among_four r is.among) ne in
            absurd (let f : ⊥ = omega (arith, wanted, full) in f)

-- items that stand in a list from a place on are those at the places from there
shown_from : {A : Type 0} (all : List A) (start : ℕ) (region : ℕ) (items : List A) (position : ℕ) → start ≤ position
    → ((i : ℕ) → slice_get items i ≡ slice_get all (position - start + i))
    → map Some items ≡ map (λ (p : Place). slice_get all (p.position - start))
    (places_from region position (length items))
shown_from all start region [] position past same = refl
shown_from all start region (x ∷ xs) position past same =
    let here : position - start + 0 ≡ position - start = omega arith in
    ap (λ o. o ∷ map Some xs) (same 0 ∙ ap (slice_get all) here)
    ∙ ap (λ os. slice_get all (position - start) ∷ os)
    (shown_from all start region xs (position + 1) (omega (arith, past))
    (λ i. let on : position - start + suc i ≡ position + 1 - start + i = omega (arith, past) in
    same (suc i) ∙ ap (slice_get all) on))

same_places : (view : View) (region position k : ℕ)
    → map (λ (p : Place). slice_get (items_of view region) (p.position - at view.from region))
    (places_from region position k) ≡ map (item_at view) (places_from region position k)
same_places view region position zero = refl
same_places view region position (suc k) =
    ap (λ os. slice_get (items_of view region) (position - at view.from region) ∷ os)
    (same_places view region (position + 1) k)

-- as many nodes as lie between
count_between : (chains : Chains) (from to : Counts) (region : ℕ) → Reachable chains to → region < 4
    → length (nodes_between chains from to region) ≡ at to region - at from region
count_between chains from to region reached lt =
    let within = reached_within chains reached region lt in
    let taken = length-take (at to region) (chains region) in
    let dropped = length-drop (at from region) (take (at to region) (chains region)) in
    omega (arith, within, taken, dropped)

-- where one region alone has nodes to be played, what the view shows of its chain is played
pub lone_in_order : (view : View) (from : Counts) (region : ℕ) → IsWithin view.from from → IsWithin from view.from
    → IsWithin from view.cut → region < 4 → IsTrue (is_lone from view.cut region)
    → AreInOrder view from (items_of view region)
lone_in_order view from region past start cut lt lone = λ chains shows reached.
    let items = items_of view region in
    let a = within-at view.from from past region lt in
    let b = within-at from view.from start region lt in
    let c = within-at from view.cut cut region lt in
    let shown = ap length (shows region lt) in
    let counted = length-map items (λ (i : PlacedNode). i.head) in
    let between = count_between chains view.from view.cut region reached lt in
    let left : at from region + length items ≡ at view.cut region =
    omega (arith, a, b, c, shown, counted, between) in
    let enough : length items ≤ sum (map (at view.cut) all_regions) = enough_left (length items) left in
    shown_from items (at view.from region) region items (at from region) a
    (λ i. let e : i ≡ at from region - at view.from region + i = omega (arith, a, b) in ap (slice_get items) e)
    ∙ (same_places view region (at from region) (length items)
    ∙ ap (map (item_at view)) (sym (lone_order (sum (map (at view.cut) all_regions)) (length items) chains from view.cut
    region reached lt (others_are_played from view.cut region lone) left enough))) where
      enough_left : (k : ℕ) → at from region + k ≡ at view.cut region → k ≤ sum (map (at view.cut) all_regions)
      enough_left k left = each region lt left where
        each : (r : ℕ) → r < 4 → at from r + k ≡ at view.cut r → k ≤ sum (map (at view.cut) all_regions)
        each zero h e = omega (arith, e)
        each (suc zero) h e = omega (arith, e)
        each (suc (suc zero)) h e = omega (arith, e)
        each (suc (suc (suc zero))) h e = omega (arith, e)
        each (suc (suc (suc (suc r)))) h e = absurd (let f : ⊥ = omega (arith, h) in f)
