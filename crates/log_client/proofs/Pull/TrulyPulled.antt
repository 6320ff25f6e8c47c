-- What a client asked for stays true of a pull, which makes carries and gives.
use Rattle.std.proofs.Common.{◌≡◌, ◌≢◌, ℕ, zero, suc, ◌<◌, List, [], ◌∷◌, length, map, Some, slice_get, ap, sym, subst, ◌∙◌, inl, inr, ◌⊎◌, append-nil}
use Rattle.std.proofs.lemmas.Bool.{cases_eq}
use mathlib.Core.List.{IsPrefix}
use Rattle.log_node.specs.declared.node.At.{At}
use Rattle.log_node.specs.declared.node.Head.{Head}
use Rattle.col_core.specs.declared.Event.TheVariants as events
use Rattle.turn_cell.specs.Histories.{made_by}
use Rattle.chain_store.specs.declared.told.Tag.{Tag}
use Rattle.chain_store.specs.declared.told.Told.{Told}
use Rattle.chain_store.specs.declared.hold.Hold.{Hold}
use Rattle.chain_store.specs.declared.region.Region.{Region}
use Rattle.chain_store.specs.Histories.{maker}
use Rattle.chain_store.specs.Regions.{tag_at}
use Rattle.chain_store.specs.Holds.{SameBut, SeesMoreIn, made_in, seen_in, turned_in}
use Rattle.region_pull.specs.Origins.{IsHeldFor, AsksForHeld}
use Rattle.region_pull.specs.Pulls.{GiveOfPull, AsksByGives, CarriesOn, told_gave}
use Rattle.log_client.specs.Ending.{AreRegions, AreHoldsIn, ArePair, PullsTruly}
use Rattle.log_client.proofs.Lists.{got_split, same_items, unmapped}
use Rattle.log_client.proofs.Known.Steps.{made_last}
use Rattle.log_client.proofs.Known.Truly.{WasMade, truly_on}

-- in other colours a hold made what it had made
made_elsewhere : (g h : Hold) (colour c : ℕ) → SameBut colour g h → c ≢ colour → made_in h c ≡ made_in g c
made_elsewhere g h colour c but ne =
    ap (λ (n : ℕ). made_by maker n (turned_in h c)) but.number
    ∙ ap (made_by maker g.passes.number) (but.others c ne)

made_now : (g h : Hold) (colour : ℕ) → SameBut colour g h
    → made_in h colour ≡ made_by maker g.passes.number (seen_in h colour)
made_now g h colour but = ap (λ (n : ℕ). made_by maker n (turned_in h colour)) but.number

-- what a hold made of late by gives
pub gave_made : (t u : Tag) (g g' : Hold) (colour : ℕ) (to_old to_new : List Told) (gives : List GiveOfPull)
    → SameBut colour g g'
    → AsksByGives t u g.passes.number (seen_in g colour) (seen_in g' colour) to_old to_new gives
    → (n : ℕ) (told : Told) → slice_get (made_in g' colour) n ≡ Some told
    → WasMade g colour told ⊎ ((from : ℕ) × (told.entry.event ≡ events.Give u.region from))
gave_made t u g g' colour to_old to_new gives but asks n told at =
    by_place (got_split (made_in g colour) (map (told_gave g.passes.number u.region) gives) n told
    (ap (λ (l : List Told). slice_get l n) (sym (made_now g g' colour but ∙ asks.makes.made)) ∙ at)) where
      by_place : (slice_get (made_in g colour) n ≡ Some told)
          ⊎ ((m : ℕ) × (slice_get (map (told_gave g.passes.number u.region) gives) m ≡ Some told))
          → WasMade g colour told ⊎ ((from : ℕ) × (told.entry.event ≡ events.Give u.region from))
      by_place (inl old) = inl (n, old)
      by_place (inr new) =
          let x = unmapped (told_gave g.passes.number u.region) gives new.0 told new.1 in
          inr (x.0.from, ap (λ (d : Told). d.entry.event) (sym x.2))

-- what a hold made of late by a carry
pub carried_made : (region : ℕ) (u : Tag) (h h' : Hold) (colour nodes : ℕ) (at : At) → SameBut colour h h'
    → CarriesOn region u h.passes.number (seen_in h colour) (seen_in h' colour) at nodes
    → (n : ℕ) (told : Told) → slice_get (made_in h' colour) n ≡ Some told
    → WasMade h colour told
    ⊎ ((start : ℕ) × (heads : List Head) × (told.entry.event ≡ events.Carry region start heads))
carried_made region u h h' colour nodes at but (inl (looks, none)) n told there =
    inl (n, ap (λ (l : List Told). slice_get l n) (sym (made_now h h' colour but ∙ looks.0.none)) ∙ there)
carried_made region u h h' colour nodes at but (inr (made, items, m, is, many, some)) n told there =
    by_place (got_split (made_in h colour) (made ∷ []) n told
    (ap (λ (l : List Told). slice_get l n)
    (sym (made_now h h' colour but
    ∙ made_last h.passes.number made (seen_in h colour) (seen_in h' colour) at m (ap maker is))) ∙ there)) where
      by_place : (slice_get (made_in h colour) n ≡ Some told) ⊎ ((k : ℕ) × (slice_get (made ∷ []) k ≡ Some told))
          → WasMade h colour told
          ⊎ ((start : ℕ) × (heads : List Head) × (told.entry.event ≡ events.Carry region start heads))
      by_place (inl old) = inl (n, old)
      by_place (inr (zero, e)) = let same : made ≡ told = cc in inr (_, _, ap (λ (d : Told). d.entry.event) (sym same ∙ is))
      by_place (inr (suc k, e)) = absurd (let f : ⊥ = cc in f)

-- a hold that only saw more made nothing of late
pub looked_made : (h h' : Hold) (colour : ℕ) → SameBut colour h h' → SeesMoreIn colour h h'
    → (n : ℕ) (told : Told) → slice_get (made_in h' colour) n ≡ Some told → WasMade h colour told
looked_made h h' colour but sees n told at =
    (n, ap (λ (l : List Told). slice_get l n) (sym (made_now h h' colour but ∙ sees.none)) ∙ at)

module _ (rs : List Region) (regions : ℕ) (gs hs : List Hold) (are : AreRegions regions rs) (holds : AreHoldsIn rs hs)
    (many : length hs ≡ length gs) (n m : ℕ) (from to : Region) (g g' h h' : Hold) (colour : ℕ)
    (apart : n ≢ m) (from_there : slice_get rs n ≡ Some from) (to_there : slice_get rs m ≡ Some to)
    (g_old : slice_get gs n ≡ Some g) (g_new : slice_get hs n ≡ Some g')
    (h_old : slice_get gs m ≡ Some h) (h_new : slice_get hs m ≡ Some h')
    (others : (k : ℕ) → k ≢ n → k ≢ m → slice_get hs k ≡ slice_get gs k)
    (g_but : SameBut colour g g') (h_but : SameBut colour h h')
    (g_more : IsPrefix (seen_in g colour) (seen_in g' colour)) (h_more : IsPrefix (seen_in h colour) (seen_in h' colour))
    (g_made : (i : ℕ) (t : Told) → slice_get (made_in g' colour) i ≡ Some t
    → WasMade g colour t ⊎ ((asked : ℕ) × (t.entry.event ≡ events.Give to.number asked)))
    (h_made : (i : ℕ) (t : Told) → slice_get (made_in h' colour) i ≡ Some t
    → WasMade h colour t ⊎ ((start : ℕ) × (heads : List Head) × (t.entry.event ≡ events.Carry from.number start heads)))
    (before : PullsTruly rs gs)
    (in_to : colour < to.board.size.colours)
    (held : AsksForHeld from to colour g h → AsksForHeld from to colour g' h') where
  pair : ArePair rs gs from to g h
  pair = record {
    n = n;
    m = m;
    apart = apart;
    from_there = from_there;
    to_there = to_there;
    from_hold = g_old;
    to_hold = h_old;
  }

  more_of : (a b : Hold) → SameBut colour a b → IsPrefix (seen_in a colour) (seen_in b colour) → (c : ℕ)
      → IsPrefix (seen_in a c) (seen_in b c)
  more_of a b but more c = elim (cases_eq c colour) [
    | inl is ↦ subst (λ (k : ℕ). IsPrefix (seen_in a k) (seen_in b k)) (sym is) more
    | inr ne ↦ ([], append-nil (seen_in a c) ∙ sym (but.others c ne))
  ]

  more : (k : ℕ) (a b : Hold) → slice_get gs k ≡ Some a → slice_get hs k ≡ Some b → (c : ℕ)
      → IsPrefix (seen_in a c) (seen_in b c)
  more k a b old new c = elim (cases_eq k n) [
    | inl is ↦
        subst (λ (x : Hold). IsPrefix (seen_in x c) (seen_in b c))
        (same_items gs n g a g_old (ap (slice_get gs) (sym is) ∙ old))
        (subst (λ (x : Hold). IsPrefix (seen_in g c) (seen_in x c))
        (same_items hs n g' b g_new (ap (slice_get hs) (sym is) ∙ new)) (more_of g g' g_but g_more c))
    | inr ne ↦ elim (cases_eq k m) [
      | inl is ↦
          subst (λ (x : Hold). IsPrefix (seen_in x c) (seen_in b c))
          (same_items gs m h a h_old (ap (slice_get gs) (sym is) ∙ old))
          (subst (λ (x : Hold). IsPrefix (seen_in h c) (seen_in x c))
          (same_items hs m h' b h_new (ap (slice_get hs) (sym is) ∙ new)) (more_of h h' h_but h_more c))
      | inr other ↦
          subst (λ (x : Hold). IsPrefix (seen_in a c) (seen_in x c))
          (same_items gs k a b old (sym (others k ne other) ∙ new)) ([], append-nil (seen_in a c))
    ]
  ]

  number_of : (k : ℕ) (r : Region) → slice_get rs k ≡ Some r → r.number ≡ k
  number_of k r at = (are k r at).0

  -- it is the give of late, or the carry
  abbrev IsNew : ℕ → ℕ → Told → Type 0
  IsNew k c t =
      ((k ≡ n) × (c ≡ colour) × (asked : ℕ) × (t.entry.event ≡ events.Give to.number asked))
      ⊎ ((k ≡ m) × (c ≡ colour) × (start : ℕ) × (heads : List Head)
      × (t.entry.event ≡ events.Carry from.number start heads))

  made_from : (k : ℕ) (a b : Hold) → slice_get gs k ≡ Some a → slice_get hs k ≡ Some b → (c i : ℕ) (t : Told)
      → slice_get (made_in b c) i ≡ Some t → k ≡ n → WasMade a c t ⊎ IsNew k c t
  made_from k a b old new c i t at is = by_colour (cases_eq c colour) where
    one : g ≡ a
    one = same_items gs n g a g_old (ap (slice_get gs) (sym is) ∙ old)

    there : slice_get (made_in g' c) i ≡ Some t
    there = ap (λ (x : Hold). slice_get (made_in x c) i)
        (same_items hs n g' b g_new (ap (slice_get hs) (sym is) ∙ new)) ∙ at

    by_colour : (c ≡ colour) ⊎ (c ≢ colour) → WasMade a c t ⊎ IsNew k c t
    by_colour (inl same) = elim (g_made i t (ap (λ (x : ℕ). slice_get (made_in g' x) i) (sym same) ∙ there)) [
      | inl was ↦ inl (subst (λ (x : Hold). WasMade x c t) one (subst (λ (x : ℕ). WasMade g x t) (sym same) was))
      | inr gave ↦ inr (inl (is, same, gave.0, gave.1))
    ]
    by_colour (inr ne) =
        inl (subst (λ (x : Hold). WasMade x c t) one
        (i, ap (λ (l : List Told). slice_get l i) (sym (made_elsewhere g g' colour c g_but ne)) ∙ there))

  made_to : (k : ℕ) (a b : Hold) → slice_get gs k ≡ Some a → slice_get hs k ≡ Some b → (c i : ℕ) (t : Told)
      → slice_get (made_in b c) i ≡ Some t → k ≡ m → WasMade a c t ⊎ IsNew k c t
  made_to k a b old new c i t at is = by_colour (cases_eq c colour) where
    one : h ≡ a
    one = same_items gs m h a h_old (ap (slice_get gs) (sym is) ∙ old)

    there : slice_get (made_in h' c) i ≡ Some t
    there = ap (λ (x : Hold). slice_get (made_in x c) i)
        (same_items hs m h' b h_new (ap (slice_get hs) (sym is) ∙ new)) ∙ at

    by_colour : (c ≡ colour) ⊎ (c ≢ colour) → WasMade a c t ⊎ IsNew k c t
    by_colour (inl same) = elim (h_made i t (ap (λ (x : ℕ). slice_get (made_in h' x) i) (sym same) ∙ there)) [
      | inl was ↦ inl (subst (λ (x : Hold). WasMade x c t) one (subst (λ (x : ℕ). WasMade h x t) (sym same) was))
      | inr carry ↦ inr (inr (is, same, carry.0, carry.1, carry.2))
    ]
    by_colour (inr ne) =
        inl (subst (λ (x : Hold). WasMade x c t) one
        (i, ap (λ (l : List Told). slice_get l i) (sym (made_elsewhere h h' colour c h_but ne)) ∙ there))

  made_of : (k : ℕ) (a b : Hold) → slice_get gs k ≡ Some a → slice_get hs k ≡ Some b → (c i : ℕ) (t : Told)
      → slice_get (made_in b c) i ≡ Some t → WasMade a c t ⊎ IsNew k c t
  made_of k a b old new c i t at = elim (cases_eq k n) [
    | inl is ↦ made_from k a b old new c i t at is
    | inr ne ↦ elim (cases_eq k m) [
      | inl is ↦ made_to k a b old new c i t at is
      | inr other ↦ inl (
        i,
        ap (λ (x : Hold). slice_get (made_in x c) i)
            (same_items gs k a b old (sym (others k ne other) ∙ new)) ∙ at,
      )
    ]
  ]

  -- of the pulled pair and colour it is said by the pull
  module _ (f t : Region) (x y : Hold) (c : ℕ) (p : ArePair rs hs f t x y) (at_n : p.n ≡ n) (at_m : p.m ≡ m)
      (same : c ≡ colour) (i : ℕ) (d : Told) where
    f_is : from ≡ f
    f_is = same_items rs n from f from_there (ap (slice_get rs) (sym at_n) ∙ p.from_there)

    t_is : to ≡ t
    t_is = same_items rs m to t to_there (ap (slice_get rs) (sym at_m) ∙ p.to_there)

    x_is : g' ≡ x
    x_is = same_items hs n g' x g_new (ap (slice_get hs) (sym at_n) ∙ p.from_hold)

    y_is : h' ≡ y
    y_is = same_items hs m h' y h_new (ap (slice_get hs) (sym at_m) ∙ p.to_hold)

    asked_there : slice_get (made_in x c) i ≡ Some d → IsHeldFor (tag_at t c) (seen_in y c) f.number d
    asked_there at =
        let of = held (before.gives from to g h colour pair in_to) i d
        (ap (λ (z : Hold). slice_get (made_in z colour) i) x_is ∙ (ap (λ (k : ℕ). slice_get (made_in x k) i) (sym same) ∙ at)) in
        subst (λ (r : Region). IsHeldFor (tag_at t c) (seen_in y c) r.number d) f_is
        (subst (λ (r : Region). IsHeldFor (tag_at r c) (seen_in y c) from.number d) t_is
        (subst (λ (z : Hold). IsHeldFor (tag_at to c) (seen_in z c) from.number d) y_is
        (subst (λ (k : ℕ). IsHeldFor (tag_at to k) (seen_in h' k) from.number d) (sym same) of)))

  -- of others there is nothing to say
  gives_on : (f t : Region) (x y k : Hold) (c : ℕ) (p : ArePair rs hs f t x y) → slice_get gs p.n ≡ Some k
      → (i : ℕ) (d : Told) → slice_get (made_in x c) i ≡ Some d
      → WasMade k c d ⊎ IsHeldFor (tag_at t c) (seen_in y c) f.number d
  gives_on f t x y k c p old i d at = by_made (made_of p.n k x old p.from_hold c i d at) where
    by_place : (p.m ≡ m) ⊎ (p.m ≢ m) → p.n ≡ n → c ≡ colour → (asked : ℕ)
        → d.entry.event ≡ events.Give to.number asked → IsHeldFor (tag_at t c) (seen_in y c) f.number d
    by_place (inl here) at_n same asked is = asked_there f t x y c p at_n here same i d at
    by_place (inr ne) at_n same asked is =
        λ other e. absurd (ne (sym (number_of p.m t p.to_there)
        ∙ (same_asker t.number to.number other asked (sym e ∙ is) ∙ number_of m to to_there))) where
          same_asker : (a b k l : ℕ) → events.Give a k ≡ events.Give b l → a ≡ b
          same_asker a b k l e = cc

    by_made : WasMade k c d ⊎ IsNew p.n c d → WasMade k c d ⊎ IsHeldFor (tag_at t c) (seen_in y c) f.number d
    by_made (inl was) = inl was
    by_made (inr (inl gave)) = inr (by_place (cases_eq p.m m) gave.0 gave.1 gave.2 gave.3)
    by_made (inr (inr carry)) =
        inr (λ asked e. absurd (apart_kinds from.number t.number carry.2 asked carry.3 (sym carry.4 ∙ e))) where
          apart_kinds : (a b k l : ℕ) (u : List Head) → events.Carry a k u ≡ events.Give b l → ⊥
          apart_kinds a b k l u e = cc

  pub truly_pulled : PullsTruly rs hs
  truly_pulled = truly_on rs gs hs holds many more gives_on before
