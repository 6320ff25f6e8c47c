-- Trims and other single events of a hold, as what a client knows.
use Rattle.std.proofs.Common.{◌≡◌, ◌≢◌, ℕ, ◌+◌, ◌≤◌, List, [], ◌∷◌, length, map, take, Some, true, slice_get, ap, sym, subst, ◌∙◌, inl, inr, ◌⊎◌, arith, take_all}
use Rattle.std.proofs.lemmas.Bool.{cases_eq}
use Rattle.std.proofs.lemmas.List.Elements.{All-nil, All-cons}
use Rattle.log_node.specs.declared.ids.Counts.{Counts}
use Rattle.log_node.specs.declared.node.At.{At}
use Rattle.log_node.specs.declared.node.At.TheVariants.{Event}
use Rattle.col_core.specs.declared.Event.TheVariants as events
use Rattle.col_core.specs.declared.Entry.{Entry}
use Rattle.col_core.specs.Cuts.{base}
use Rattle.col_core.specs.Computed.{dated}
use Rattle.col_core.specs.Log.{is_own}
use Rattle.chain_store.specs.declared.told.Told.{Told}
use Rattle.chain_store.specs.declared.hold.Hold.{Hold}
use Rattle.chain_store.specs.declared.region.Region.{Region}
use Rattle.chain_store.specs.Columns.{told_event}
use Rattle.chain_store.specs.Moves.{base_in}
use Rattle.chain_store.specs.Regions.{tag_at}
use Rattle.chain_store.specs.Holds.{SameBut, MakesOneIn, TrimsIn, entries_seen, seen_in}
use Rattle.lawful_run.specs.Callers.{Caller}
use Rattle.client_law.specs.Making.{own_steps, MakesOnly}
use Rattle.log_client.specs.Fits.{seen_by}
use Rattle.log_client.proofs.Known.Seeing.{seen_there}
use Rattle.log_client.proofs.Known.Steps.{all_made, made_last, long_last, same_there, stands_last, unseen_last}
use Rattle.log_client.proofs.Append.Alone.{seen_at, seen_long}

module _ (gs hs : List Hold) (caller : Caller) (g h : Hold) (at_g : slice_get gs caller.own ≡ Some g)
    (at_h : slice_get hs caller.own ≡ Some h) (is : g.passes.number ≡ caller.client) (colour : ℕ) where
  -- an entry that was made last, in the client's own region
  module _ (t : Told) (at : At) (m : MakesOneIn colour g h t at) (by : t.entry.by ≡ caller.client) where
    by_number : t.entry.by ≡ g.passes.number
    by_number = by ∙ sym is

    pub made_there_last : (length (seen_by gs caller.own colour) ≤ length m.before)
        × (slice_get (seen_by hs caller.own colour) (length m.before) ≡ Some t.entry)
        × (take (length m.before + 1) (seen_by hs caller.own colour) ≡ seen_by hs caller.own colour)
    made_there_last =
        let old = seen_long gs caller.own g at_g colour in
        let new = seen_long hs caller.own h at_h colour in
        let unseen = unseen_last g.passes.number t (seen_in g colour) (seen_in h colour) at m by_number in
        let long = long_last g.passes.number t (seen_in g colour) (seen_in h colour) at m by_number in (
          omega (arith, old, unseen),
          seen_at hs caller.own h at_h colour (length m.before) t
              (stands_last g.passes.number t (seen_in g colour) (seen_in h colour) at m by_number),
          take_all (length m.before + 1) (seen_by hs caller.own colour) (omega (arith, new, long)),
        )

    -- which is an own step, the only one
    pub makes_only_last : is_own caller.client t.entry.event ≡ true → SameBut colour g h
        → ((region : ℕ) → region ≢ caller.own → slice_get hs region ≡ slice_get gs region)
        → MakesOnly caller.client caller.own colour 1 (seen_by gs) (seen_by hs)
    makes_only_last own but others = record {
      here = here;
      others = λ r c ne. by_region r c ne (cases_eq r caller.own);
    } where
      counted : length (own_steps g.passes.number (entries_seen h colour))
          ≡ length (own_steps g.passes.number (entries_seen g colour)) + 1
      counted = all_made g.passes.number (seen_in g colour) (seen_in h colour) (t ∷ [])
          (made_last g.passes.number t (seen_in g colour) (seen_in h colour) at m by_number)
          (All-cons (λ (u : Told). is_own g.passes.number u.entry.event ≡ true) t []
          (subst (λ (n : ℕ). is_own n t.entry.event ≡ true) (sym is) own)
          (All-nil (λ (u : Told). is_own g.passes.number u.entry.event ≡ true)))

      here : length (own_steps caller.client (seen_by hs caller.own colour))
          ≡ length (own_steps caller.client (seen_by gs caller.own colour)) + 1
      here =
          ap (λ (l : List Entry). length (own_steps caller.client l)) (seen_there hs caller.own h at_h colour)
          ∙ (subst (λ (n : ℕ). length (own_steps n (entries_seen h colour))
          ≡ length (own_steps n (entries_seen g colour)) + 1) is counted
          ∙ ap (λ (l : List Entry). length (own_steps caller.client l) + 1) (sym (seen_there gs caller.own g at_g colour)))

      elsewhere : (c : ℕ) → c ≢ colour
          → own_steps caller.client (seen_by hs caller.own c) ≡ own_steps caller.client (seen_by gs caller.own c)
      elsewhere c ne = ap (own_steps caller.client)
          (seen_there hs caller.own h at_h c
          ∙ (ap (map (λ (u : Told). u.entry)) (but.others c ne) ∙ sym (seen_there gs caller.own g at_g c)))

      by_region : (r c : ℕ) → (r ≢ caller.own) ⊎ (c ≢ colour) → (r ≡ caller.own) ⊎ (r ≢ caller.own)
          → own_steps caller.client (seen_by hs r c) ≡ own_steps caller.client (seen_by gs r c)
      by_region r c ne (inr away) = same_there gs hs caller.client r c (others r away)
      by_region r c (inl ne) (inl home) = absurd (ne home)
      by_region r c (inr ne) (inl home) =
          subst (λ (n : ℕ). own_steps caller.client (seen_by hs n c) ≡ own_steps caller.client (seen_by gs n c)) (sym home)
          (elsewhere c ne)

  -- a trim: its event, and the base after it
  pub trims_there : (r : Region) (counts answer : Counts) (at : At) → r.number ≡ caller.own → r.regions ≡ caller.regions
      → TrimsIn colour g h (tag_at r colour) counts at answer
      → (place : ℕ) × (at ≡ Event place) × (length (seen_by gs caller.own colour) ≤ place)
      × (slice_get (seen_by hs caller.own colour) place
      ≡ Some (record { by = caller.client; event = events.Trim counts; stamp = 0 }))
      × (answer ≡ base caller.own caller.regions (dated caller.own (take (place + 1) (seen_by hs caller.own colour))))
  trims_there r counts answer at own regions trims =
      let m = trims.0 in
      let t = told_event g.passes.number (events.Trim counts) in
      let p = made_there_last t at m is in (
        length m.before,
        m.place,
        p.0,
        p.1 ∙ (λ i. Some (record { by = is i; event = events.Trim counts; stamp = 0 })),
        trims.1 ∙ (shown r own regions ∙ ap (λ (l : List Entry). base caller.own caller.regions (dated caller.own l))
            (sym (p.2 ∙ seen_there hs caller.own h at_h colour))),
      ) where
        shown : (r : Region) → r.number ≡ caller.own → r.regions ≡ caller.regions
            → base_in (tag_at r colour) (seen_in h colour)
            ≡ base caller.own caller.regions (dated caller.own (entries_seen h colour))
        shown r own regions =
            ap (λ (n : ℕ). base n r.regions (dated n (entries_seen h colour))) own
            ∙ ap (λ (n : ℕ). base caller.own n (dated caller.own (entries_seen h colour))) regions
