-- Appends to one colour: from what a hold has seen and made to what a client knows.
use Rattle.std.proofs.Common.{◌≡◌, ◌≢◌, ℕ, ◌+◌, ◌≤◌, List, length, Some, true, slice_get, refl, ap, sym, subst, ◌∙◌, inl, inr, ◌⊎◌, arith}
use Rattle.std.specs.Prelude.{◌==◌, IsTrue}
use Rattle.std.proofs.lemmas.Bool.{and_from, eq-eqb, eqb-true, cases_eq}
use Rattle.std.proofs.lemmas.List.{length-map}
use Rattle.log_node.specs.declared.ids.Id.{Id}
use Rattle.log_node.specs.declared.node.Node.{Node}
use Rattle.log_node.specs.Order.{same_id}
use Rattle.col_core.specs.declared.Event as event_types
use Rattle.col_core.specs.declared.Event.TheVariants as events
use Rattle.col_core.specs.declared.Entry.{Entry}
use Rattle.col_core.specs.History.{enters, line}
use Rattle.col_core.specs.Rows.{node_wants}
use Rattle.col_core.specs.Log.{is_own}
use Rattle.col_core.specs.Keeping.{Kept}
use Rattle.col_core.proofs.CallerLemmas.{both, same_id-refl}
use Rattle.chain_store.specs.declared.told.Told.{Told}
use Rattle.chain_store.specs.declared.hold.Hold.{Hold}
use Rattle.chain_store.specs.Histories.{Names}
use Rattle.chain_store.specs.Columns.{told_single}
use Rattle.chain_store.specs.Holds.{seen_in}
use Rattle.append_core.specs.declared.stood.Stood.{Stood}
use Rattle.append_core.specs.Standing.{IsSingleOf}
use Rattle.append_core.specs.Standing.{HoldAppendsOne}
use Rattle.chain_store.specs.Going.{GoesOn}
use Rattle.lawful_run.specs.Callers.{Caller}
use Rattle.client_law.specs.Knowing.{Rest, SeesOn}
use Rattle.client_law.specs.Making.{is_own_step, own_steps, MakesOnly}
use Rattle.client_law.specs.Appends.{EachStep, SeesOne}
use Rattle.log_client.specs.Fits.{seen_by, FitsHolds}
use Rattle.log_client.proofs.Lists.{mapped}
use Rattle.log_client.proofs.Known.Seeing.{seen_there}
use Rattle.log_client.proofs.Known.Fitting.{listed}
use Rattle.log_client.proofs.Known.Once.{entered_once}
use Rattle.log_client.proofs.Known.Steps.{none_since, one_since, same_there, steps_of_goes}

-- how long what was seen is
pub seen_long : (hs : List Hold) (region : ℕ) (h : Hold) → slice_get hs region ≡ Some h → (colour : ℕ)
    → length (seen_by hs region colour) ≡ length (seen_in h colour)
seen_long hs region h at colour =
    ap length (seen_there hs region h at colour) ∙ length-map (seen_in h colour) (λ (t : Told). t.entry)

-- an entry that a hold has seen
pub seen_at : (hs : List Hold) (region : ℕ) (h : Hold) → slice_get hs region ≡ Some h → (colour place : ℕ) (t : Told)
    → slice_get (seen_in h colour) place ≡ Some t → slice_get (seen_by hs region colour) place ≡ Some t.entry
seen_at hs region h at colour place t there =
    ap (λ (l : List Entry). slice_get l place) (seen_there hs region h at colour)
    ∙ mapped (λ (u : Told). u.entry) (seen_in h colour) place t there

-- a single enters its id
pub single_enters : (id : Id) (ev : event_types.Event) → IsSingleOf id ev → enters id ev ≡ true
single_enters id (events.Single other floor wants) is = subst (λ (i : Id). same_id id i ≡ true) (sym is) (same_id-refl id)
single_enters id (events.Propose other floor wants) is = absurd is
single_enters id (events.Settle other outcome) is = absurd is
single_enters id (events.Raise to) is = absurd is
single_enters id (events.Give region from) is = absurd is
single_enters id (events.Carry region start heads) is = absurd is
single_enters id (events.Trim counts) is = absurd is

module _ (gs hs : List Hold) (caller : Caller) (g h : Hold) (at_g : slice_get gs caller.own ≡ Some g)
    (at_h : slice_get hs caller.own ≡ Some h) (is : g.passes.number ≡ caller.client) (x : Node) (colour : ℕ) (s : Stood)
    (a : HoldAppendsOne g h x colour s) where
  named : Names (seen_in h colour) x.id x
  named = record {
    place = a.place;
    told = told_single colour g.passes.number x a.stamp;
    there = a.entered;
    brought = (0, omega arith, refl);
    of_id = refl;
  }

  abbrev entry_made : Entry
  entry_made = record { by = g.passes.number; event = events.Single x.id x.floor (node_wants x colour); stamp = a.stamp }

  there : slice_get (seen_by hs caller.own colour) a.place ≡ Some entry_made
  there = seen_at hs caller.own h at_h colour a.place (told_single colour g.passes.number x a.stamp) a.entered

  unseen : length (seen_by gs caller.own colour) ≤ a.place
  unseen = let e = seen_long gs caller.own g at_g colour in let le = a.unseen in omega (arith, e, le)

  -- the append stands as the client's next node
  pub stands_alone : (rest : Rest) (kept : Kept) → FitsHolds hs rest
      → x.id ≡ record { client = caller.client; count = kept.ids } → x.floor ≡ kept.floor
      → node_wants x colour ≡ kept.starts colour
      → SeesOne (seen_by gs) (seen_by hs) rest caller kept x colour a.stamp a.place a.position
  stands_alone rest kept fits id floor wants = record {
    next = sym (ap (λ (i : Id). slice_get (rest.nodes i.client) i.count) id)
        ∙ listed hs rest caller.own h at_h fits colour x.id x named;
    unseen = unseen;
    entered = there
        ∙ (λ i. Some (record { by = is i; event = events.Single x.id (floor i) (wants i); stamp = a.stamp }));
    stands = ap (λ (l : List Entry). slice_get (line l) a.position) (seen_there hs caller.own h at_h colour) ∙ a.stands;
  }

  -- it is the client's only own step, where all else that it made is not its own
  module _ (Foreign : event_types.Event → Type 0) (on : SeesOn caller (seen_by gs) (seen_by hs))
      (others : (region : ℕ) → region ≢ caller.own → slice_get hs region ≡ slice_get gs region)
      (goes : GoesOn (λ c e. ((c ≡ colour) × IsSingleOf x.id e) ⊎ Foreign e) g h)
      (foreign : (e : event_types.Event) → Foreign e → IsTrue (is_own caller.client e) → ⊥) where
    each : (c : ℕ) → EachStep caller (seen_by gs) (seen_by hs) c (λ e. (c ≡ colour) × IsSingleOf x.id e)
    each c =
        steps_of_goes gs hs caller g h at_g at_h is
        (λ k e. ((k ≡ colour) × IsSingleOf x.id e) ⊎ Foreign e) on goes
        (λ e. (c ≡ colour) × IsSingleOf x.id e) c
        (λ e made own. elim made [ inl single ↦ single | inr other ↦ absurd (foreign e other own) ])

    own_at : (c place : ℕ) (e : Entry) → length (seen_by gs caller.own c) ≤ place
        → slice_get (seen_by hs caller.own c) place ≡ Some e → is_own_step caller.client e ≡ true
        → (c ≡ colour) × IsSingleOf x.id e.event
    own_at c place e new at own =
        let p = both (e.by == caller.client) (is_own caller.client e.event) own in
        each c place e new at (eqb-true e.by caller.client p.0) p.1

    here : length (own_steps caller.client (seen_by hs caller.own colour))
        ≡ length (own_steps caller.client (seen_by gs caller.own colour)) + 1
    here = one_since caller.client (seen_by gs caller.own colour) (seen_by hs caller.own colour) (on.more caller.own colour)
        a.place entry_made unseen there
        (and_from (g.passes.number == caller.client) true (eq-eqb g.passes.number caller.client is) refl)
        (λ i j y z new old s t p q.
        entered_once caller.own caller.regions (seen_by hs caller.own colour) (on.lawful caller.own colour) x.id i j y z s t
        (single_enters x.id y.event (own_at colour i y new s p).1)
        (single_enters x.id z.event (own_at colour j z old t q).1))

    elsewhere : (c : ℕ) → c ≢ colour
        → own_steps caller.client (seen_by hs caller.own c) ≡ own_steps caller.client (seen_by gs caller.own c)
    elsewhere c ne =
        none_since caller.client (seen_by gs caller.own c) (seen_by hs caller.own c) (on.more caller.own c)
        (λ place e new at own. ne (own_at c place e new at own).0)

    pub alone_makes_only : MakesOnly caller.client caller.own colour 1 (seen_by gs) (seen_by hs)
    alone_makes_only = record {
      here = here;
      others = λ r c ne. by_region r c ne (cases_eq r caller.own);
    } where
      by_region : (r c : ℕ) → (r ≢ caller.own) ⊎ (c ≢ colour) → (r ≡ caller.own) ⊎ (r ≢ caller.own)
          → own_steps caller.client (seen_by hs r c) ≡ own_steps caller.client (seen_by gs r c)
      by_region r c ne (inr away) = same_there gs hs caller.client r c (others r away)
      by_region r c (inl ne) (inl home) = absurd (ne home)
      by_region r c (inr ne) (inl home) =
          subst (λ (n : ℕ). own_steps caller.client (seen_by hs n c) ≡ own_steps caller.client (seen_by gs n c)) (sym home)
          (elsewhere c ne)
