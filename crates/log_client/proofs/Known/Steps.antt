-- How many own steps what a client made is.
use Rattle.std.proofs.Common.{◌≡◌, ◌≢◌, ℕ, suc, ◌+◌, ◌≤◌, List, [], ◌∷◌, ◌++◌, length, Option, Some, None, Bool, true, cond, slice_get, refl, ap, sym, subst, ◌∙◌, arith, append-nil, length-append}
use Rattle.std.specs.Prelude.{IsTrue}
use Rattle.std.specs.List.{All, filter}
use Rattle.std.proofs.lemmas.List.{length-map}
use Rattle.std.proofs.lemmas.List.Elements.{All-map, All-weaker, filter-append}
use mathlib.Core.List.{IsPrefix}
use Rattle.log_node.specs.declared.node.At.{At}
use Rattle.col_core.specs.declared.Event as event_types
use Rattle.col_core.specs.declared.Entry.{Entry}
use Rattle.col_core.specs.Log.{is_own}
use Rattle.turn_cell.specs.Histories.{made_by}
use Rattle.chain_store.specs.declared.told.Told.{Told}
use Rattle.chain_store.specs.declared.hold.Hold.{Hold}
use Rattle.chain_store.specs.Histories.{entries_in, maker}
use Rattle.chain_store.specs.Passes.{MakesOne}
use Rattle.chain_store.specs.Holds.{entries_seen, made_in, seen_in}
use Rattle.chain_store.proofs.CallerLemmas.{made_with}
use Rattle.chain_store.specs.Going.{GoesOn}
use Rattle.append_core.proofs.CallerLemmas.{entries_split}
use Rattle.chain_store.proofs.CallerLemmas.{prefix_with}
use Rattle.lawful_run.specs.Callers.{Caller}
use Rattle.client_law.specs.Knowing.{SeesOn}
use Rattle.client_law.specs.Making.{made_of, is_own_step, own_steps, MakesNone, MakesAtHome}
use Rattle.client_law.specs.Appends.{EachStep}
use Rattle.client_law.proofs.CallerLemmas.{steps_among_made, steps_of_made}
use Rattle.log_client.specs.Fits.{entries_by, seen_by}
use Rattle.log_client.proofs.Lists.{apart_lengths, got_behind, got_last, got_onward, none_pass, one_passes}
use Rattle.log_client.proofs.Known.Seeing.{made_entries, made_there, seen_there}

-- OF ONE HISTORY THAT GREW

module _ (client : ℕ) (old new : List Entry) (p : IsPrefix old new) where
  since : own_steps client new ≡ own_steps client old ++ own_steps client p.0
  since = ap (own_steps client) (sym p.1) ∙ filter-append (is_own_step client) old p.0

  at_since : (n : ℕ) (e : Entry) → slice_get p.0 n ≡ Some e → slice_get new (length old + n) ≡ Some e
  at_since n e at = ap (λ (l : List Entry). slice_get l (length old + n)) (sym p.1) ∙ got_onward old p.0 n e at

  -- where no own step stands at a new place there are no more
  pub none_since : ((place : ℕ) (e : Entry) → length old ≤ place → slice_get new place ≡ Some e
      → is_own_step client e ≡ true → ⊥) → own_steps client new ≡ own_steps client old
  none_since none =
      since ∙ (ap (λ (l : List Entry). own_steps client old ++ l)
      (none_pass (is_own_step client) p.0 (λ n e at own. none (length old + n) e (omega arith) (at_since n e at) own))
      ∙ append-nil (own_steps client old))

  -- where one stands at a new place, and no other does, there is one more
  pub one_since : (place : ℕ) (e : Entry) → length old ≤ place → slice_get new place ≡ Some e
      → is_own_step client e ≡ true
      → ((i j : ℕ) (x y : Entry) → length old ≤ i → length old ≤ j → slice_get new i ≡ Some x → slice_get new j ≡ Some y
      → is_own_step client x ≡ true → is_own_step client y ≡ true → i ≡ j)
      → length (own_steps client new) ≡ length (own_steps client old) + 1
  one_since place e unseen there own once =
      let at = got_behind old p.0 place e unseen (ap (λ (l : List Entry). slice_get l place) p.1 ∙ there) in
      let one = one_passes (is_own_step client) p.0 at.0 e at.2 own (λ i j x y s t a b.
      let same = once (length old + i) (length old + j) x y (omega arith) (omega arith) (at_since i x s) (at_since j y t) a b in
      let f : i ≡ j = omega (arith, same) in f) in
      let parts = ap length since ∙ length-append (own_steps client old) (own_steps client p.0) in
      omega (arith, one, parts)

-- OF WHAT A CLIENT MADE

-- nothing more was made
pub none_made : (client : ℕ) (old new : List Told) → made_by maker client new ≡ made_by maker client old
    → own_steps client (entries_in new) ≡ own_steps client (entries_in old)
none_made client old new none =
    steps_among_made client (entries_in old) (entries_in new) []
    (made_entries client new
    ∙ (ap entries_in none ∙ (sym (made_entries client old) ∙ sym (append-nil (made_of client (entries_in old))))))
    ∙ append-nil (own_steps client (entries_in old))

-- these were made on top, each an own step
all_own : (client : ℕ) (more : List Told) → All (λ (t : Told). is_own client t.entry.event ≡ true) more
    → filter (λ (e : Entry). is_own client e.event) (entries_in more) ≡ entries_in more
all_own client [] all = refl
all_own client (t ∷ more) all =
    ap (λ (b : Bool). cond b (t.entry ∷ rest) rest) (all 0 t (omega arith))
    ∙ ap (λ (l : List Entry). t.entry ∷ l)
    (all_own client more (λ k d lt. all (suc k) d (omega (arith, lt)))) where
      rest : List Entry
      rest = filter (λ (e : Entry). is_own client e.event) (entries_in more)

pub all_made : (client : ℕ) (old new more : List Told)
    → made_by maker client new ≡ made_by maker client old ++ more
    → All (λ (t : Told). is_own client t.entry.event ≡ true) more
    → length (own_steps client (entries_in new)) ≡ length (own_steps client (entries_in old)) + length more
all_made client old new more made own =
    let sum = ap length (steps_among_made client (entries_in old) (entries_in new) (entries_in more)
    (made_entries client new ∙ (ap entries_in made ∙ (entries_split (made_by maker client old) more
    ∙ ap (λ (l : List Entry). l ++ entries_in more) (sym (made_entries client old)))))) in
    let parts = length-append (own_steps client (entries_in old)) (filter (λ (e : Entry). is_own client e.event) (entries_in more)) in
    let many = ap length (all_own client more own) ∙ length-map more (λ (t : Told). t.entry) in
    omega (arith, sum, parts, many)

-- one entry was made last
module _ (client : ℕ) (t : Told) (old new : List Told) (at : At) (m : MakesOne client t old new at)
    (by : maker t ≡ client) where
  pub made_last : made_by maker client new ≡ made_by maker client old ++ t ∷ []
  made_last = ap (made_by maker client) m.adds
      ∙ (made_with client m.before t by ∙ ap (λ (l : List Told). l ++ t ∷ []) m.none)

  pub more_last : IsPrefix old new
  more_last = subst (λ (l : List Told). IsPrefix old l) (sym m.adds) (prefix_with old m.before t m.more)

  pub stands_last : slice_get new (length m.before) ≡ Some t
  stands_last = ap (λ (l : List Told). slice_get l (length m.before)) m.adds ∙ got_last m.before t

  pub unseen_last : length old ≤ length m.before
  unseen_last = let a = ap length m.more.1 in let b = length-append old m.more.0 in omega (arith, a, b)

  pub long_last : length new ≡ length m.before + 1
  long_last = let a = ap length m.adds in let b = length-append m.before (t ∷ []) in omega (arith, a, b)

-- OF A HOLD THAT GOES ON

module _ (gs hs : List Hold) (caller : Caller) (g h : Hold) (at_g : slice_get gs caller.own ≡ Some g)
    (at_h : slice_get hs caller.own ≡ Some h) (is : g.passes.number ≡ caller.client) where
  module _ (Made : ℕ → event_types.Event → Type 0) (on : SeesOn caller (seen_by gs) (seen_by hs))
      (goes : GoesOn Made g h) where
    -- what was made on top, as entries
    made_more : (colour : ℕ) → made_of caller.client (seen_by hs caller.own colour)
        ≡ made_of caller.client (seen_by gs caller.own colour) ++ entries_in ((goes.made colour).0)
    made_more colour =
        let made = goes.made colour in
        ap (made_of caller.client) (seen_there hs caller.own h at_h colour)
        ∙ (made_there h caller.client colour (goes.number ∙ is)
        ∙ (ap entries_in made.1
        ∙ (entries_split (made_in g colour) made.0
        ∙ ap (λ (l : List Entry). l ++ entries_in made.0)
        (sym (ap (made_of caller.client) (seen_there gs caller.own g at_g colour)
        ∙ made_there g caller.client colour is)))))

    -- each own step of late is of the kind of those that were made
    pub steps_of_goes : (Is : event_types.Event → Type 0) (colour : ℕ)
        → ((e : event_types.Event) → Made colour e → IsTrue (is_own caller.client e) → Is e)
        → EachStep caller (seen_by gs) (seen_by hs) colour Is
    steps_of_goes Is colour each =
        let made = goes.made colour in
        steps_of_made caller (seen_by gs) (seen_by hs) colour Is (entries_in made.0) on (made_more colour)
        (All-map (λ (e : Entry). IsTrue (is_own caller.client e.event) → Is e.event) (λ (t : Told). t.entry) made.0
        (All-weaker (λ (t : Told). Made colour t.entry.event)
        (λ (t : Told). IsTrue (is_own caller.client t.entry.event) → Is t.entry.event)
        (λ t m. each t.entry.event m) made.0 made.2))

-- in other regions, where the holds are the same ones, nothing was made
pub same_there : (gs hs : List Hold) (client region colour : ℕ) → slice_get hs region ≡ slice_get gs region
    → own_steps client (seen_by hs region colour) ≡ own_steps client (seen_by gs region colour)
same_there gs hs client region colour same =
    ap (λ (o : Option Hold). own_steps client (entries_by o colour)) same

pub made_at_home : (gs hs : List Hold) (client own : ℕ)
    → ((region : ℕ) → region ≢ own → slice_get hs region ≡ slice_get gs region)
    → MakesAtHome client own (seen_by gs) (seen_by hs)
made_at_home gs hs client own same region colour ne = same_there gs hs client region colour (same region ne)

-- nothing was made in any column
pub made_nothing : (gs hs : List Hold) (client : ℕ)
    → length hs ≡ length gs
    → ((region : ℕ) (g h : Hold) → slice_get gs region ≡ Some g → slice_get hs region ≡ Some h
    → (g.passes.number ≡ client) × (h.passes.number ≡ client) × ((c : ℕ) → made_in h c ≡ made_in g c))
    → MakesNone client (seen_by gs) (seen_by hs)
made_nothing gs hs client many each region colour = by_holds (slice_get gs region) (slice_get hs region) refl refl where
  by_holds : (a b : Option Hold) → slice_get gs region ≡ a → slice_get hs region ≡ b
      → own_steps client (entries_by b colour) ≡ own_steps client (entries_by a colour)
  by_holds None None e f = refl
  by_holds None (Some h) e f = absurd (apart_lengths gs hs region h many e f)
  by_holds (Some g) None e f = absurd (apart_lengths hs gs region g (sym many) f e)
  by_holds (Some g) (Some h) e f =
      let k = each region g h e f in
      by_made k.0 k.1 (k.2 colour) where
        by_made : g.passes.number ≡ client → h.passes.number ≡ client → made_in h colour ≡ made_in g colour
            → own_steps client (entries_seen h colour) ≡ own_steps client (entries_seen g colour)
        by_made a b same =
            none_made client (seen_in g colour) (seen_in h colour)
            (subst (λ (n : ℕ). made_by maker n (seen_in h colour) ≡ made_in g colour) b same
            ∙ subst (λ (n : ℕ). made_in g colour ≡ made_by maker n (seen_in g colour)) a refl)
