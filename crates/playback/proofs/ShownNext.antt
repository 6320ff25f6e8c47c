-- The node that is free and goes first among those that a view shows is the next one in the chains.
use Rattle.std.proofs.Common.{◌≡◌, ℕ, ◌<◌, List, [], ◌∷◌, Option, Some, None, true, false, refl, subst, ap, sym, ◌∙◌}
use Rattle.std.proofs.Common.{lit<}
use Rattle.std.specs.Prelude.{slice_get, ◌&&◌, ◌||◌, nat_lt}
use Rattle.std.specs.Option.{option_map}
use Rattle.std.proofs.lemmas.Bool.{and_left, and_right, ltb-true, cond-true, cond-false}
use Rattle.log_node.specs.declared.ids.Key.{Key}
use Rattle.log_node.specs.declared.ids.Counts.{Counts}
use Rattle.log_node.specs.Order.{key_below, same_key}
use Rattle.log_node.specs.Seen.{PlacedNode}
use Rattle.log_node.specs.Vectors.{at, IsWithin, is_within, all_regions}
use Rattle.col_core.specs.declared.view.View.{View}
use Rattle.log_node.specs.Reach.{Chains, is_covered}
use Rattle.col_core.proofs.CallerLemmas.{by_test}
use Rattle.log_node.proofs.CallerLemmas.{within-at}
use Rattle.playback.specs.declared.free.Free.{Free}
use Rattle.playback.specs.Orders.{next_place, is_free, is_before, first_region, next_region}
use Rattle.playback.specs.Playing.{ShowsChains, item_at}
use Rattle.playback.specs.Inside.{free_item, free_in, free_before, first_of, GoesNext, IsNextRegion}
use Rattle.playback.proofs.NextRegions.{IsFree, is_free-from, before_is}
use Rattle.playback.proofs.Shown.{shown_at}

module _ (view : View) (played : Counts) (past : IsWithin view.from played) where
  -- a free node as the view shows it
  pub record FreeAt (f : Free) : Type 0 where
    pub in_range : f.region < 4
    pub wanted : at played f.region < at view.cut f.region
    pub item : PlacedNode
    pub shown : item_at view (next_place played f.region) ≡ Some item
    pub key : f.key ≡ item.head.key
    pub covered : IsWithin item.head.needs played

  free_shown : (r : ℕ) (f : Free) → r < 4 → nat_lt (at played r) (at view.cut r) ≡ true → (o : Option PlacedNode)
      → item_at view (next_place played r) ≡ o
      → free_item played r o ≡ Some f → FreeAt f × (f.region ≡ r)
  free_shown r f lt wanted None is e = absurd (let x : ⊥ = cc in x)
  free_shown r f lt wanted (Some item) is e =
      by_test _ (is_within item.head.needs played)
      (λ t.
      let s : Some free ≡ Some f = sym (cond-true (is_within item.head.needs played) (Some free) None t) ∙ e in
      let same : free ≡ f = cc in
      subst (λ (g : Free). FreeAt g × (g.region ≡ r)) same
      (record { in_range = lt; wanted = ltb-true _ _ wanted; item = item; shown = is; key = refl; covered = t }, refl))
      (λ n. absurd (let s : None ≡ Some f = sym (cond-false (is_within item.head.needs played) (Some free) None n)
      ∙ e in let x : ⊥ = cc in x)) where
        free : Free
        free = record { region = r; key = item.head.key }

  free_is : (r : ℕ) (f : Free) → r < 4 → free_in view played r ≡ Some f → FreeAt f × (f.region ≡ r)
  free_is r f lt e =
      let item = free_item played r (item_at view (next_place played r)) in
      by_test _ (nat_lt (at played r) (at view.cut r))
      (λ t. free_shown r f lt t (item_at view (next_place played r)) refl
      (sym (cond-true (nat_lt (at played r) (at view.cut r)) item None t) ∙ e))
      (λ n. absurd (let s : None ≡ Some f = sym (cond-false (nat_lt (at played r) (at view.cut r)) item None n) ∙ e in
      let x : ⊥ = cc in x))

  -- what the view shows as free is free in the chains, and nothing else is
  in_chains : (chains : Chains) → ShowsChains view chains → (f : Free) (h : FreeAt f) → IsFree chains played view.cut
      f.region h.item.head
  in_chains chains shows f h = record {
    wanted = h.wanted;
    stands = sym (shown_at view chains shows (next_place played f.region) h.in_range (within-at view.from played past
        f.region h.in_range) h.wanted)
        ∙ ap (option_map (λ (i : PlacedNode). i.head)) h.shown;
    covered = h.covered;
  }

  shut_item : (r : ℕ) (o : Option PlacedNode) → free_item played r o ≡ None
      → is_covered played (option_map (λ (i : PlacedNode). i.head) o) ≡ false
  shut_item r None e = refl
  shut_item r (Some item) e =
      by_test _ (is_within item.head.needs played)
      (λ t. absurd (let s : Some free ≡ None = sym (cond-true (is_within item.head.needs played) (Some free) None t)
      ∙ e in let x : ⊥ = cc in x))
      (λ n. n) where
        free : Free
        free = record { region = r; key = item.head.key }

  shut_in : (chains : Chains) → ShowsChains view chains → (r : ℕ) → r < 4 → free_in view played r ≡ None
      → is_free chains played view.cut r ≡ false
  shut_in chains shows r lt e =
      let item = free_item played r (item_at view (next_place played r)) in
      by_test _ (nat_lt (at played r) (at view.cut r))
      (λ t.
      let none = sym (cond-true (nat_lt (at played r) (at view.cut r)) item None t) ∙ e in
      let shown = shown_at view chains shows (next_place played r) lt (within-at view.from played past r lt)
      (ltb-true _ _ t) in
      and_right (nat_lt (at played r) (at view.cut r)) (is_covered played (slice_get (chains r) (at played r)))
      (ap (is_covered played) (sym shown) ∙ shut_item r (item_at view (next_place played r)) none))
      (λ n. and_left (nat_lt (at played r) (at view.cut r)) (is_covered played (slice_get (chains r) (at played r))) n)

  -- the one of these regions that the view shows as next
  abbrev pub IsNextOf : List ℕ → Option Free → Type 0
  IsNextOf regions None = (chains : Chains) → ShowsChains view chains → next_region chains played view.cut regions
      ≡ None
  IsNextOf regions (Some f) = FreeAt f × ((chains : Chains) → ShowsChains view chains → next_region chains played
      view.cut regions ≡ Some f.region)

  passed : (r : ℕ) (rs : List ℕ) → r < 4 → free_in view played r ≡ None → (o : Option ℕ) (chains : Chains)
      → ShowsChains view chains
      → next_region chains played view.cut rs ≡ o → next_region chains played view.cut (r ∷ rs) ≡ o
  passed r rs lt e o chains shows is =
      cond-false (is_free chains played view.cut r)
      (Some (first_region chains played r (next_region chains played view.cut rs)))
      (next_region chains played view.cut rs)
      (shut_in chains shows r lt e) ∙ is

  met : (r : ℕ) (rs : List ℕ) (f : Free) → FreeAt f → f.region ≡ r → (o : Option ℕ) (chains : Chains)
      → ShowsChains view chains
      → next_region chains played view.cut rs ≡ o → next_region chains played view.cut (r ∷ rs)
      ≡ Some (first_region chains played f.region o)
  met r rs f h same o chains shows is =
      let free = is_free-from chains played view.cut f.region h.item.head (in_chains chains shows f h) in
      cond-true (is_free chains played view.cut r)
      (Some (first_region chains played r (next_region chains played view.cut rs)))
      (next_region chains played view.cut rs)
      (subst (λ k. is_free chains played view.cut k ≡ true) same free)
      ∙ (ap (λ n. Some (first_region chains played r n)) is ∙ ap (λ k. Some (first_region chains played k o))
      (sym same))

  -- whether one goes before the other is the same in the chains
  same_test : (chains : Chains) → ShowsChains view chains → (f g : Free) → FreeAt f → FreeAt g → is_before chains played
      g.region f.region ≡ free_before g f
  same_test chains shows f g h k =
      before_is chains played view.cut g.region f.region k.item.head h.item.head (in_chains chains shows g k)
      (in_chains chains shows f h)
      ∙ (ap (λ (x : Key). key_below x h.item.head.key || (same_key x h.item.head.key && nat_lt g.region f.region))
      (sym k.key)
      ∙ ap (λ (x : Key). key_below g.key x || (same_key g.key x && nat_lt g.region f.region)) (sym h.key))

  first_is : (r : ℕ) (rs : List ℕ) (f g : Free) → FreeAt f → f.region ≡ r → IsNextOf rs (Some g)
      → IsNextOf (r ∷ rs) (first_of (Some f) (Some g))
  first_is r rs f g h same k =
      by_test _ (free_before g f)
      (λ t. subst (λ (x : Free). IsNextOf (r ∷ rs) (Some x)) (sym (cond-true (free_before g f) g f t)) (
        k.0,
        λ chains shows. met r rs f h same (Some g.region) chains shows (k.1 chains shows)
            ∙ ap Some (cond-true (is_before chains played g.region f.region) g.region f.region
            (same_test chains shows f g h k.0 ∙ t)),
      ))
      (λ n. subst (λ (x : Free). IsNextOf (r ∷ rs) (Some x)) (sym (cond-false (free_before g f) g f n)) (
        h,
        λ chains shows. met r rs f h same (Some g.region) chains shows (k.1 chains shows)
            ∙ ap Some (cond-false (is_before chains played g.region f.region) g.region f.region
            (same_test chains shows f g h k.0 ∙ n)),
      ))

  with_region : (r : ℕ) (rs : List ℕ) → r < 4 → (a : Option Free) → free_in view played r ≡ a → (o : Option Free)
      → IsNextOf rs o → IsNextOf (r ∷ rs) (first_of a o)
  with_region r rs lt None e None h = λ chains shows. passed r rs lt e None chains shows (h chains shows)
  with_region r rs lt None e (Some g)
      h = (h.0, λ chains shows. passed r rs lt e (Some g.region) chains shows (h.1 chains shows))
  with_region r rs lt (Some f) e None h =
      let free = free_is r f lt e in
      (free.0, λ chains shows. met r rs f free.0 free.1 None chains shows (h chains shows))
  with_region r rs lt (Some f) e (Some g) h = let free = free_is r f lt e in first_is r rs f g free.0 free.1 h

  first_alone : (a : Option Free) → first_of a None ≡ a
  first_alone None = refl
  first_alone (Some f) = refl

  pub next_of_all : IsNextOf all_regions (first_of (free_in view played 0) (first_of (free_in view played 1)
      (first_of (free_in view played 2) (free_in view played 3))))
  next_of_all =
      let last = subst (IsNextOf (3 ∷ [])) (first_alone (free_in view played 3))
      (with_region 3 [] (lit< tt) (free_in view played 3) refl None (λ chains shows. refl)) in
      let third = with_region 2 (3 ∷ []) (lit< tt) (free_in view played 2) refl (free_in view played 3) last in
      let second = with_region 1 (2 ∷ 3 ∷ []) (lit< tt) (free_in view played 1) refl (first_of (free_in view played 2)
      (free_in view played 3)) third in
      with_region 0 (1 ∷ 2 ∷ 3 ∷ []) (lit< tt) (free_in view played 0) refl (first_of (free_in view played 1)
      (first_of (free_in view played 2) (free_in view played 3))) second

  pub none_next : IsNextOf all_regions None → IsNextRegion view played None
  none_next h = h

  pub goes_next : (f : Free) → IsNextOf all_regions (Some f) → GoesNext view played f.region
  goes_next f h = let free = h.0 in record {
    in_range = free.in_range;
    past = within-at view.from played past f.region free.in_range;
    wanted = free.wanted;
    item = free.item;
    shown = free.shown;
    next = h.1;
  }
