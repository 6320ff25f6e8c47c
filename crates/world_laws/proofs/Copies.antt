-- True copies stay true when histories grow.
use Rattle.std.proofs.Common.{◌≡◌, ℕ, ◌<◌, ◌≤◌, max, List, [], ◌∷◌, ◌++◌, length, take, drop, false, refl, subst, ap, sym, ◌∙◌, arith, append_assoc, append-nil}
use Rattle.std.specs.Prelude.{◌==◌, ◌≢◌}
use Rattle.std.specs.List.{flat_map}
use Rattle.std.proofs.lemmas.Bool.{eqb-true, eq-eqb}
use Rattle.std.proofs.lemmas.Grind.{flat_map-append}
use Rattle.std.proofs.lemmas.List.{length-append, length-map, take_at, take-take, take-append-drop}
use Rattle.log_node.specs.declared.node.Head.{Head}
use Rattle.col_core.specs.declared.Entry.{Entry}
use Rattle.col_core.specs.History.{line}
use Rattle.col_core.specs.Cuts.{Dated, entries_of, carried, chain, needs_of, noted_from, noted}
use Rattle.col_core.specs.Computed.{cut, dated}
use Rattle.col_core.specs.Copies.{IsTrueCopy, AreTrueCopies}
use Rattle.col_core.specs.Legal.{IsLawfulEvent, IsColumnHistory}
use Rattle.col_core.proofs.CallerLemmas.{dated-append, by_test, if_true, if_false, apart, chains_grow}
use Rattle.log_node.specs.declared.ids.Key.{Key}
use Rattle.world_laws.specs.Worlds.{World, chains_after, held_of, with_last}
use Rattle.world_laws.proofs.Basics.{updated_at-here, updated_at-not}
use Rattle.world_laws.proofs.Held.{Held}
use Rattle.world_laws.proofs.Histories.{history_longer}

-- One history

-- the own chain is as long as the line
pub own_chain_length : (own : ℕ) (ds : List Dated) → length (chain own ds own) ≡ length (line (entries_of ds))
own_chain_length own ds =
    ap length (if_true (own == own) _ _ (eq-eqb own own refl)) ∙ length-map (line (entries_of ds)) head_of where
      head_of : Key → Head
      head_of key = record { key = key; needs = needs_of ds key.id }

-- one event more adds to another region's chain what it carries
pub chain-last : (own region : ℕ) (ds : List Dated) (d : Dated) → region ≢ own
    → chain own (ds ++ d ∷ []) region ≡ chain own ds region ++ carried region d.entry.event
chain-last own region ds d ne =
    let other : (region == own) ≡ false = by_test _ (region == own)
    (λ t. absurd (ne (eqb-true region own t))) (λ f. f) in
    if_false (region == own) _ _ other
    ∙ (flat_map-append (λ (x : Dated). carried region x.entry.event) ds (d ∷ [])
    ∙ (ap (λ (l : List Head). flat_map (λ (x : Dated). carried region x.entry.event) ds ++ l)
    (append-nil (carried region d.entry.event))
    ∙ sym (ap (λ (l : List Head). l ++ carried region d.entry.event) (if_false (region == own) _ _ other))))

pub noted-last : (ds : List Dated) (d : Dated) (region : ℕ)
    → noted (ds ++ d ∷ []) region ≡ max (noted ds region) (noted_from region d.entry.event)
noted-last [] d region = omega arith
noted-last (x ∷ ds) d region = let h = noted-last ds d region in omega (arith, h)

-- the origin has one event more, and has not noted more than the copier holds
pub origin_grows : (origin copier regions : ℕ) (os cs : List Dated) (d : Dated)
    → IsColumnHistory origin regions (os ++ d ∷ []) → IsTrueCopy origin copier os cs
    → noted_from copier d.entry.event ≤ length (chain copier cs origin) → IsTrueCopy origin copier (os ++ d ∷ []) cs
origin_grows origin copier regions os cs d lawful t le =
    let g = chains_grow origin regions os (d ∷ []) lawful origin in
    let n = noted-last os d copier in
    let h = t.noted_held in
    record {
      rest = t.rest ++ g.0;
      beginning = sym (append_assoc (chain copier cs origin) t.rest g.0)
          ∙ (ap (λ (l : List Head). l ++ g.0) t.beginning ∙ g.1);
      noted_held = omega (arith, n, h, le);
    }

-- the copier has one event more, which brings what comes next in the origin's chain
pub copier_grows : (origin copier : ℕ) (os cs : List Dated) (d : Dated) (rest : List Head) → origin ≢ copier
    → (chain copier cs origin ++ carried origin d.entry.event) ++ rest ≡ chain origin os origin
    → IsTrueCopy origin copier os cs → IsTrueCopy origin copier os (cs ++ d ∷ [])
copier_grows origin copier os cs d rest ne next t =
    let more = chain-last copier origin cs d ne in
    let longer = ap length more in
    let sum = length-append (chain copier cs origin) (carried origin d.entry.event) in
    let h = t.noted_held in
    record {
      rest = rest;
      beginning = ap (λ (l : List Head). l ++ rest) more ∙ next;
      noted_held = omega (arith, longer, sum, h);
    }

-- what a copier holds is no longer than the origin's line
pub copy_within : (origin copier : ℕ) (os cs : List Dated) → IsTrueCopy origin copier os cs
    → length (chain copier cs origin) ≤ length (line (entries_of os))
copy_within origin copier os cs t =
    let a = length-append (chain copier cs origin) t.rest in
    let b = ap length t.beginning in
    let c = own_chain_length origin os in
    omega (arith, a, b, c)

-- a beginning of a list, with what the list has after it up to some number
pub next_part : {A : Type 0} (xs rest ys : List A) (n : ℕ) → xs ++ rest ≡ ys → length xs ≤ n
    → (xs ++ drop (length xs) (take n ys)) ++ drop n ys ≡ ys
next_part {A} xs rest ys n is le =
    let first : take (length xs) (take n ys) ≡ xs = take-take (length xs) n ys le
    ∙ (ap (take (length xs)) (sym is) ∙ take_at xs rest (length xs) refl) in
    let part : xs ++ drop (length xs) (take n ys) ≡ take n ys = ap
    (λ (l : List A). l ++ drop (length xs) (take n ys)) (sym first) ∙ take-append-drop (length xs) (take n ys) in
    ap (λ (l : List A). l ++ drop n ys) part ∙ take-append-drop n ys

-- A world with one entry more

-- what the event brings of the origin's chain comes next there
abbrev pub BringsNext : World → ℕ → ℕ → Entry → ℕ → Type 0
BringsNext w region colour e origin =
    (rest : List Head) × ((chains_after region (w.histories region colour) origin ++ carried origin e.event) ++ rest
    ≡ chains_after origin (w.histories origin colour) origin)

-- the event notes no more of a copier than that holds
abbrev pub NotesHeld : World → ℕ → ℕ → Entry → ℕ → Type 0
NotesHeld w region colour e copier = noted_from copier e.event ≤ held_of w region copier colour

module _ (w : World) (h : Held w) (region colour : ℕ) (e : Entry)
    (lawful : IsLawfulEvent region w.shape.regions (dated region (w.histories region colour)) e.event e.stamp) where
  abbrev longer : World
  longer = with_last w region colour e

  last_date : Dated
  last_date = record { entry = e; cut_before = cut region (dated region (w.histories region colour)) }

  dated_here : dated region (longer.histories region colour)
      ≡ dated region (w.histories region colour) ++ last_date ∷ []
  unfolding last_date
  dated_here =
      ap (dated region) (updated_at-here w.histories region colour (w.histories region colour ++ e ∷ []))
      ∙ dated-append region (w.histories region colour) e

  dated_there : (r c : ℕ) → (r ≡ region → c ≡ colour → ⊥)
      → dated r (longer.histories r c) ≡ dated r (w.histories r c)
  dated_there r c ne =
      ap (dated r) (updated_at-not w.histories region colour (w.histories region colour ++ e ∷ []) r c ne)

  lawful_here : IsColumnHistory region w.shape.regions (dated region (w.histories region colour) ++ last_date ∷ [])
  unfolding last_date
  lawful_here =
      subst (IsColumnHistory region w.shape.regions) (dated-append region (w.histories region colour) e)
      (history_longer region w.shape.regions (w.histories region colour) e (h.lawful region colour) lawful)

  as_origin : (copier : ℕ) → region < w.shape.regions → copier < w.shape.regions → region ≢ copier
      → NotesHeld w region colour e copier
      → IsTrueCopy region copier (dated region (longer.histories region colour))
      (dated copier (longer.histories copier colour))
  unfolding last_date
  as_origin copier lr lc ne held =
      subst (λ (ds : List Dated). IsTrueCopy region copier ds (dated copier (longer.histories copier colour)))
      (sym dated_here)
      (subst
      (λ (ds : List Dated). IsTrueCopy region copier (dated region (w.histories region colour) ++ last_date ∷ []) ds)
      (sym (dated_there copier colour (λ er _. ne (sym er))))
      (origin_grows region copier w.shape.regions (dated region (w.histories region colour))
      (dated copier (w.histories copier colour)) last_date lawful_here (h.copies colour region copier lr lc ne) held))

  as_copier : (origin : ℕ) → origin < w.shape.regions → region < w.shape.regions → origin ≢ region
      → BringsNext w region colour e origin
      → IsTrueCopy origin region (dated origin (longer.histories origin colour))
      (dated region (longer.histories region colour))
  unfolding last_date
  as_copier origin lo lr ne next =
      subst (λ (ds : List Dated). IsTrueCopy origin region ds (dated region (longer.histories region colour)))
      (sym (dated_there origin colour (λ er _. ne er)))
      (subst (λ (ds : List Dated). IsTrueCopy origin region (dated origin (w.histories origin colour)) ds)
      (sym dated_here)
      (copier_grows origin region (dated origin (w.histories origin colour)) (dated region (w.histories region colour))
      last_date next.0 ne next.1 (h.copies colour origin region lo lr ne)))

  as_neither : (origin copier c : ℕ) → origin < w.shape.regions → copier < w.shape.regions → origin ≢ copier
      → (origin ≡ region → c ≡ colour → ⊥) → (copier ≡ region → c ≡ colour → ⊥)
      → IsTrueCopy origin copier (dated origin (longer.histories origin c)) (dated copier (longer.histories copier c))
  as_neither origin copier c lo lc ne not_origin not_copier =
      subst (λ (ds : List Dated). IsTrueCopy origin copier ds (dated copier (longer.histories copier c)))
      (sym (dated_there origin c not_origin))
      (subst (λ (ds : List Dated). IsTrueCopy origin copier (dated origin (w.histories origin c)) ds)
      (sym (dated_there copier c not_copier)) (h.copies c origin copier lo lc ne))

  module _ (notes : (copier : ℕ) → copier < w.shape.regions → region ≢ copier → NotesHeld w region colour e copier)
      (brings : (origin : ℕ) → origin < w.shape.regions → region < w.shape.regions → origin ≢ region
      → BringsNext w region colour e origin) where
    at_colour : AreTrueCopies w.shape.regions (λ r. dated r (longer.histories r colour))
    at_colour origin copier lo lc ne =
        by_test (IsTrueCopy origin copier (dated origin (longer.histories origin colour))
        (dated copier (longer.histories copier colour))) (origin == region)
        (λ t. let is = eqb-true origin region t in
        subst (λ (o : ℕ). IsTrueCopy o copier (dated o (longer.histories o colour))
        (dated copier (longer.histories copier colour))) (sym is)
        (let other : region ≢ copier = λ same. ne (is ∙ same) in
        as_origin copier (subst (λ (o : ℕ). o < w.shape.regions) is lo) lc other (notes copier lc other)))
        (λ f. by_test (IsTrueCopy origin copier (dated origin (longer.histories origin colour))
        (dated copier (longer.histories copier colour))) (copier == region)
        (λ t. let is = eqb-true copier region t in
        subst (λ (k : ℕ). IsTrueCopy origin k (dated origin (longer.histories origin colour))
        (dated k (longer.histories k colour))) (sym is)
        (let other : origin ≢ region = λ same. ne (same ∙ sym is) in
        let lr : region < w.shape.regions = subst (λ (k : ℕ). k < w.shape.regions) is lc in
        as_copier origin lo lr other (brings origin lo lr other)))
        (λ g. as_neither origin copier colour lo lc ne (λ er _. apart (origin == region) (eq-eqb origin region er) f)
        (λ er _. apart (copier == region) (eq-eqb copier region er) g)))

    -- all copies stay true
    pub copies_last : (c : ℕ) → AreTrueCopies w.shape.regions (λ r. dated r (longer.histories r c))
    copies_last c =
        by_test (AreTrueCopies w.shape.regions (λ r. dated r (longer.histories r c))) (c == colour)
        (λ t. subst (λ (k : ℕ). AreTrueCopies w.shape.regions (λ r. dated r (longer.histories r k)))
        (sym (eqb-true c colour t)) at_colour)
        (λ f origin copier lo lc ne. as_neither origin copier c lo lc ne
        (λ _ ec. apart (c == colour) (eq-eqb c colour ec) f) (λ _ ec. apart (c == colour) (eq-eqb c colour ec) f))

-- an event that brings nothing
pub brings_nothing : (w : World) → Held w → (region colour : ℕ) (e : Entry)
    → ((other : ℕ) → carried other e.event ≡ []) → (origin : ℕ) → origin < w.shape.regions → region < w.shape.regions
    → origin ≢ region → BringsNext w region colour e origin
brings_nothing w h region colour e none origin lo lr ne =
    let t = h.copies colour origin region lo lr ne in
    let xs = chains_after region (w.histories region colour) origin in (
      t.rest,
      ap (λ (l : List Head). (xs ++ l) ++ t.rest) (none origin)
          ∙ (ap (λ (l : List Head). l ++ t.rest) (append-nil xs) ∙ t.beginning),
    )

-- an event that notes nothing and brings nothing
pub plain_copies_last : (w : World) (h : Held w) (region colour : ℕ) (e : Entry)
    → IsLawfulEvent region w.shape.regions (dated region (w.histories region colour)) e.event e.stamp
    → ((other : ℕ) → carried other e.event ≡ []) → ((other : ℕ) → noted_from other e.event ≡ 0)
    → (c : ℕ) → AreTrueCopies w.shape.regions (λ r. dated r ((with_last w region colour e).histories r c))
plain_copies_last w h region colour e lawful none zero = copies_last w h region colour e lawful
    (λ copier lc ne. let z = zero copier in omega (arith, z))
    (brings_nothing w h region colour e none)
