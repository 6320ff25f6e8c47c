-- What holds while the items of a view are played, and what they are in the end.
use Rattle.std.proofs.Common.{◌≡◌, ℕ, zero, suc, ◌+◌, ◌<◌, ◌≤◌, List, [], ◌∷◌, ◌++◌, Option, Some, None, refl, subst}
use Rattle.std.proofs.Common.{ap, sym, ◌∙◌, inl, inr, ◌⊎◌, arith, lit<}
use Rattle.std.specs.Prelude.{map, max, slice_get}
use Rattle.std.proofs.lemmas.Bool.{cases_eq}
use Rattle.std.specs.Option.{option_map, option_map_or}
use Rattle.log_node.specs.declared.ids.Counts.{Counts}
use Rattle.log_node.specs.Seen.{PlacedNode}
use Rattle.log_node.specs.Vectors.{at, vector, IsWithin, one_more, all_regions}
use Rattle.col_core.specs.declared.view.View.{View}
use Rattle.log_node.specs.Reach.{Chains, Reachable}
use Rattle.col_core.specs.PlayOrder.{Place}
use Rattle.log_node.proofs.CallerLemmas.{within, within-at}
use Rattle.playback.specs.Orders.{next_place, next_region, order_of, play_order}
use Rattle.playback.specs.Playing.{IsLookedFrom, ShowsChains, item_at, head_at, ArePlayed}
use Rattle.playback.specs.Inside.{GoesNext, IsNextRegion, AreInOrder}
use Rattle.playback.proofs.NextRegions.{IsNext, next_is, among_four}
use Rattle.playback.proofs.Shown.{shown_at}
use Rattle.playback.proofs.Counting.{more_here, more_there, no_less}
use Rattle.playback.proofs.Playing.{count_all, append_none, append_one, one_more_counts, order_is_played}

-- the places that were played, and how many more may follow
pub record PlayedSoFar (view : View) (chains : Chains) (from played : Counts) (items : List PlacedNode) : Type 0 where
  pub places : List Place
  pub left : ℕ
  pub shown : map Some items ≡ map (item_at view) places
  pub rest : places ++ order_of left chains played view.cut ≡ play_order chains from view.cut
  pub enough : count_all view.cut ≤ count_all played + left

pub record IsPlaying (view : View) (from played : Counts) (items : List PlacedNode) : Type 0 where
  pub past : IsWithin view.from played
  pub short : IsWithin played view.cut
  pub so_far : (chains : Chains) → ShowsChains view chains → PlayedSoFar view chains from played items

pub none_played : (view : View) (from : Counts) → IsWithin view.from from → IsWithin from view.cut
    → IsPlaying view from from []
none_played view from past w = record {
  past = past;
  short = w;
  so_far = λ chains shows. record {
    places = [];
    left = count_all view.cut;
    shown = refl;
    rest = refl;
    enough = omega arith;
  };
}

map-append : {A B : Type 0} (f : A → B) (xs : List A) (x : A) → map f (xs ++ x ∷ []) ≡ map f xs ++ f x ∷ []
map-append f [] x = refl
map-append f (y ∷ ys) x = ap (λ l. f y ∷ l) (map-append f ys x)

-- while a node is wanted, more may follow
some_left : (view : View) (chains : Chains) (from played : Counts) (items : List PlacedNode) → IsWithin played view.cut
    → (region : ℕ) → region < 4 → at played region < at view.cut region
    → (s : PlayedSoFar view chains from played items) → (n : ℕ) × (s.left ≡ suc n)
some_left view chains from played items short region lt wanted s = pick s.left s.enough where
  less : count_all played < count_all view.cut
  less =
      let a = within-at played view.cut short 0 (lit< tt) in
      let b = within-at played view.cut short 1 (lit< tt) in
      let c = within-at played view.cut short 2 (lit< tt) in
      let d = within-at played view.cut short 3 (lit< tt) in
      each region lt wanted a b c d where
        each : (r : ℕ) → r < 4 → at played r < at view.cut r → at played 0 ≤ at view.cut 0 → at played 1 ≤ at view.cut 1
            → at played 2 ≤ at view.cut 2 → at played 3 ≤ at view.cut 3
            → count_all played < count_all view.cut
        each zero h w a b c d = omega (arith, w, a, b, c, d)
        each (suc zero) h w a b c d = omega (arith, w, a, b, c, d)
        each (suc (suc zero)) h w a b c d = omega (arith, w, a, b, c, d)
        each (suc (suc (suc zero))) h w a b c d = omega (arith, w, a, b, c, d)
        each (suc (suc (suc (suc r)))) h w a b c d = absurd (let f : ⊥ = omega (arith, h) in f)

  pick : (n : ℕ) → count_all view.cut ≤ count_all played + n → (m : ℕ) × (n ≡ suc m)
  pick zero e = absurd (let x = less in let f : ⊥ = omega (arith, x, e) in f)
  pick (suc m) e = (m, refl)

-- one more node is played
pub one_played : (view : View) (from played : Counts) (items : List PlacedNode) (region : ℕ) (item : PlacedNode)
    → IsPlaying view from played items → GoesNext view played region
    → item_at view (next_place played region) ≡ Some item → IsPlaying view from (one_more played region)
    (items ++ item ∷ [])
one_played view from played items region item h g is = record {
  past = within view.from (one_more played region) (λ r lt. let x = within-at view.from played h.past r lt in
      let y = no_less played region r lt in omega (arith, x, y));
  short = within (one_more played region) view.cut (λ r lt. short r lt (cases_eq r region));
  so_far = λ chains shows.
      let s = h.so_far chains shows in
      let l = some_left view chains from played items h.short region g.in_range g.wanted s in
      let more = one_more_counts played region g.in_range in
      let enough = s.enough in let e = l.1 in
      record {
        places = s.places ++ next_place played region ∷ [];
        left = l.0;
        shown = map-append Some items item
            ∙ (ap (λ os. os ++ Some item ∷ []) s.shown
            ∙ (ap (λ o. map (item_at view) s.places ++ o ∷ []) (sym is)
            ∙ sym (map-append (item_at view) s.places (next_place played region))));
        rest = append_one s.places (next_place played region) (order_of l.0 chains (one_more played region) view.cut)
            ∙ (ap (λ ps. s.places ++ ps) (sym (unrolled l.0 chains (next_region chains played view.cut all_regions)
            (g.next chains shows)))
            ∙ (ap (λ n. s.places ++ order_of n chains played view.cut) (sym l.1) ∙ s.rest));
        enough = omega (arith, more, enough, e);
      };
} where
  short : (r : ℕ) → r < 4 → (r ≡ region) ⊎ (r ≡ region → ⊥) → at (one_more played region) r ≤ at view.cut r
  short r lt (inl e) = subst
      (λ s. at (one_more played region) s ≤ at view.cut s) (sym e) (let m = more_here played region g.in_range in
      let w = g.wanted in omega (arith, m, w))
  short r lt (inr d) = let m = more_there played region r lt d in let x = within-at played view.cut h.short r lt in
      omega (arith, m, x)

  unrolled : (n : ℕ) (chains : Chains) (o : Option ℕ) → o ≡ Some region
      → option_map_or (λ r. next_place played r ∷ order_of n chains (one_more played r) view.cut) o []
      ≡ next_place played region ∷ order_of n chains (one_more played region) view.cut
  unrolled n chains o e = ap
      (λ x. option_map_or (λ r. next_place played r ∷ order_of n chains (one_more played r) view.cut) x []) e

-- where no node is next, the order is whole
nothing_left : (n : ℕ) (chains : Chains) (played to : Counts) → next_region chains played to all_regions ≡ None
    → order_of n chains played to ≡ []
nothing_left zero chains played to e = refl
nothing_left (suc n) chains played to e = ap
    (λ o. option_map_or (λ r. next_place played r ∷ order_of n chains (one_more played r) to) o []) e

pub all_in_order : (view : View) (from played : Counts) (items : List PlacedNode) → IsPlaying view from played items
    → IsNextRegion view played None → AreInOrder view from items
all_in_order view from played items h none = λ chains shows _.
    let s = h.so_far chains shows in
    s.shown ∙ ap (map (item_at view)) (append_none s.places
    ∙ (ap (λ ps. s.places ++ ps) (sym (nothing_left s.left chains played view.cut (none chains shows))) ∙ s.rest))

-- the view starts no earlier than what was played
pub looked_past : (view : View) (played : Counts) → IsLookedFrom view played → IsWithin played view.from
looked_past view played from =
    within played view.from (λ r lt. each r lt (ap (λ v. at v r) from)) where
      each : (r : ℕ) → r < 4 → at view.from r ≡ at (vector (λ region. max (at played region) (at view.base region))) r
          → at played r ≤ at view.from r
      each zero lt e = omega (arith, e)
      each (suc zero) lt e = omega (arith, e)
      each (suc (suc zero)) lt e = omega (arith, e)
      each (suc (suc (suc zero))) lt e = omega (arith, e)
      each (suc (suc (suc (suc r)))) lt e = absurd (let f : ⊥ = omega (arith, lt) in f)

-- where nothing is trimmed, the view starts no later than what was played
pub looked_from : (view : View) (played : Counts) → IsLookedFrom view played → IsWithin view.base played
    → IsWithin view.from played
looked_from view played from base =
    within view.from played (λ r lt. each r lt (within-at view.base played base r lt) (ap (λ v. at v r) from)) where
      each : (r : ℕ) → r < 4 → at view.base r ≤ at played r → at view.from r
          ≡ at (vector (λ region. max (at played region) (at view.base region))) r → at view.from r ≤ at played r
      each zero lt le e = omega (arith, le, e)
      each (suc zero) lt le e = omega (arith, le, e)
      each (suc (suc zero)) lt le e = omega (arith, le, e)
      each (suc (suc (suc zero))) lt le e = omega (arith, le, e)
      each (suc (suc (suc (suc r)))) lt le e = absurd (let f : ⊥ = omega (arith, lt) in f)

-- the first vector does not count the place, and the second does
abbrev pub IsAhead : Counts → Counts → Place → Type 0
IsAhead from to place = (place.region < 4) × (at from place.region ≤ place.position) ×
    (place.position < at to place.region)

-- the places of the computed order are those of nodes that are to be played
pub order_ahead : (n : ℕ) (chains : Chains) (from played to : Counts) → ((r : ℕ) → r < 4 → at from r ≤ at played r)
    → (k : ℕ) (place : Place) → slice_get (order_of n chains played to) k ≡ Some place → IsAhead from to place
order_ahead zero chains from played to past k place is = absurd (let f : ⊥ = cc in f)
order_ahead (suc n) chains from played to past k place is =
    step (λ v more j i. order_ahead n chains from v to more j place i) (next_region chains played to all_regions)
    (next_is chains played to all_regions) k is where
      step : ((v : Counts) → ((r : ℕ) → r < 4 → at from r ≤ at v r) → (j : ℕ) → slice_get (order_of n chains v to) j
          ≡ Some place → IsAhead from to place)
          → (o : Option ℕ) → IsNext chains played to all_regions o → (j : ℕ)
          → slice_get (option_map_or
          (λ region. next_place played region ∷ order_of n chains (one_more played region) to) o []) j ≡ Some place
          → IsAhead from to place
      step rest None none j at_j = absurd (let f : ⊥ = cc in f)
      step rest (Some r) first zero at_j =
          let same : next_place played r ≡ place = cc in
          let lt = among_four r first.among in
          subst (IsAhead from to) same (lt, past r lt, first.free.wanted)
      step rest (Some r) first (suc j) at_j =
          rest (one_more played r) (λ s lt. let x = past s lt in let y = no_less played r s lt in
          omega (arith, x, y)) j at_j

-- items that are shown in order have the heads of the chains
heads_shown : (view : View) (chains : Chains) → ShowsChains view chains → (items : List PlacedNode) (order : List Place)
    → ((k : ℕ) (place : Place) → slice_get order k ≡ Some place → IsAhead view.from view.cut place)
    → map Some items ≡ map (item_at view) order
    → map (λ (i : PlacedNode). Some i.head) items ≡ map (head_at chains) order
heads_shown view chains shows items order between shown =
    map-through items ∙ (ap (map (option_map (λ (i : PlacedNode). i.head))) shown ∙ each order between) where
      map-through : (is : List PlacedNode)
          → map (λ (i : PlacedNode). Some i.head) is ≡ map (option_map (λ (i : PlacedNode). i.head)) (map Some is)
      map-through [] = refl
      map-through (i ∷ is) = ap (λ l. Some i.head ∷ l) (map-through is)

      each : (ps : List Place) → ((k : ℕ) (place : Place) → slice_get ps k ≡ Some place → IsAhead view.from view.cut
          place)
          → map (option_map (λ (i : PlacedNode). i.head)) (map (item_at view) ps) ≡ map (head_at chains) ps
      each [] b = refl
      each (p ∷ ps) b =
          let here = b 0 p refl in
          ap (λ o. o ∷ map (option_map (λ (i : PlacedNode). i.head)) (map (item_at view) ps))
          (shown_at view chains shows p here.0 here.1 here.2)
          ∙ ap (λ l. head_at chains p ∷ l) (each ps (λ k place is. b (suc k) place is))

-- what was played is the nodes between, in the order of play
pub are_played : (view : View) (from : Counts) (items : List PlacedNode) → IsWithin view.from from
    → IsWithin from view.cut → AreInOrder view from items
    → (chains : Chains) → ShowsChains view chains → Reachable chains view.cut → ArePlayed view chains from items
are_played view from items past cut in_order chains shows reached = record {
  in_order = order_is_played chains from view.cut reached cut;
  items_shown = in_order chains shows reached;
  heads = heads_shown view chains shows items (play_order chains from view.cut)
      (order_ahead (count_all view.cut) chains view.from from view.cut (within-at view.from from past))
      (in_order chains shows reached);
}
