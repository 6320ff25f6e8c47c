-- What a client helped stays complete as its holds go on, and who has only looked has helped nobody.
use Rattle.std.proofs.Common.{◌≡◌, ◌≢◌, ℕ, List, Some, slice_get, refl, ap, sym, subst, ◌∙◌, inl, inr, ◌⊎◌}
use Rattle.std.proofs.lemmas.Bool.{cases_eq}
use Rattle.std.proofs.lemmas.Option.{same_Some}
use Rattle.log_node.specs.declared.ids.Id.{Id}
use Rattle.col_core.specs.declared.Event.{Event}
use Rattle.col_core.specs.declared.Event.TheVariants.{Single, Propose, Settle, Raise, Give, Carry, Trim}
use Rattle.col_core.specs.Ids.{IsStepOf}
use Rattle.chain_store.specs.declared.told.Told.{Told}
use Rattle.chain_store.specs.declared.hold.Hold.{Hold}
use Rattle.chain_store.specs.declared.region.Region.{Region}
use Rattle.chain_store.specs.Going.{GoesOn}
use Rattle.chain_store.specs.Holds.{made_in}
use Rattle.append_core.specs.Settled.{HoldKnowsComplete}
use Rattle.append_core.proofs.CallerLemmas.{complete_later}
use Rattle.lawful_run.specs.Lawful.{IsHelp}
use Rattle.log_client.specs.declared.store.Store.{Store}
use Rattle.log_client.specs.declared.client.Client.{Client}
use Rattle.log_client.specs.Fits.{HasGoneOn}
use Rattle.log_client.specs.Ending.{HelpsWhole}
use Rattle.log_client.specs.Clients.{IsClient, Helps, holds_of}
use Rattle.log_client.proofs.Known.Truly.{WasMade}
use Rattle.log_client.proofs.Going.AtHome.{ChangesHome, gone_same, home_after, others_after}
use Rattle.log_client.proofs.Going.Looked.{made_since}

-- an event that is no step of an append to several colours
abbrev pub IsNoStep : Event → Type 0
IsNoStep (Single id floor wants) = Unit {0}
IsNoStep (Propose id floor wants) = ⊥
IsNoStep (Settle id outcome) = ⊥
IsNoStep (Raise to) = Unit {0}
IsNoStep (Give region from) = Unit {0}
IsNoStep (Carry region start heads) = Unit {0}
IsNoStep (Trim counts) = Unit {0}

-- helps nobody
pub no_help : (number : ℕ) (e : Event) → IsNoStep e → IsHelp number e → ⊥
no_help number (Single id floor wants) p q = q
no_help number (Propose id floor wants) p q = p
no_help number (Settle id outcome) p q = p
no_help number (Raise to) p q = q
no_help number (Give region from) p q = q
no_help number (Carry region start heads) p q = q
no_help number (Trim counts) p q = q

-- A hold of a region that has gone on: what it has helped since is of the client's own region, and complete.
pub record HelpsOn (number own region : ℕ) (g h : Hold) : Type 0 where
  pub on : HasGoneOn g h
  pub since : (colour n : ℕ) (t : Told) → slice_get (made_in h colour) n ≡ Some t → IsHelp number t.entry.event
      → WasMade g colour t ⊎ ((region ≡ own) × ((id : Id) → IsStepOf id t.entry.event → HoldKnowsComplete h id))

-- A hold that has gone on, and has helped nobody since.
pub record GoesIdle (number : ℕ) (g h : Hold) : Type 0 where
  pub on : HasGoneOn g h
  pub since : (colour n : ℕ) (t : Told) → slice_get (made_in h colour) n ≡ Some t → IsHelp number t.entry.event
      → WasMade g colour t

pub idle_helps : (number own region : ℕ) (g h : Hold) → GoesIdle number g h → HelpsOn number own region g h
idle_helps number own region g h idle = record {
  on = idle.on;
  since = λ colour n t at helps. inl (idle.since colour n t at helps);
}

pub idle_same : (number : ℕ) (g : Hold) → GoesIdle number g g
idle_same number g = record { on = gone_same g; since = λ colour n t at helps. (n, at) }

-- it made nothing
pub idle_looked : (number : ℕ) (g h : Hold) → HasGoneOn g h → ((colour : ℕ) → made_in h colour ≡ made_in g colour)
    → GoesIdle number g h
idle_looked number g h on made = record {
  on = on;
  since = λ colour n t at helps. (n, ap (λ (l : List Told). slice_get l n) (sym (made colour)) ∙ at);
}

-- it made such events as help nobody, or whatever is complete then
pub idle_on : (Made : ℕ → Event → Type 0) (number : ℕ) (g h : Hold) → HasGoneOn g h → GoesOn Made g h
    → ((colour : ℕ) (e : Event) → Made colour e → IsHelp number e → ⊥) → GoesIdle number g h
idle_on Made number g h on goes none = record {
  on = on;
  since = λ colour n t at helps. elim (made_since Made g h colour n t goes at) [
    | inl was ↦ was
    | inr made ↦ absurd (none colour t.entry.event made helps)
  ];
}

pub helps_on : (Made : ℕ → Event → Type 0) (number own : ℕ) (g h : Hold) → HasGoneOn g h → GoesOn Made g h
    → ((colour : ℕ) (e : Event) → Made colour e → IsHelp number e → (id : Id) → IsStepOf id e → HoldKnowsComplete h id)
    → HelpsOn number own own g h
helps_on Made number own g h on goes whole = record {
  on = on;
  since = λ colour n t at helps. elim (made_since Made g h colour n t goes at) [
    | inl was ↦ inl was
    | inr made ↦ inr (refl, whole colour t.entry.event made helps)
  ];
}

-- ALL HOLDS OF A CLIENT

-- all that it helped stays complete
pub helps_whole_on : (number own : ℕ) (gs hs : List Hold) → HelpsWhole number own gs
    → ((region : ℕ) (h : Hold) → slice_get hs region ≡ Some h
    → (g : Hold) × (slice_get gs region ≡ Some g) × HelpsOn number own region g h)
    → HelpsWhole number own hs
helps_whole_on number own gs hs whole each region h t by =
    let g = each region h by.there in
    elim (g.2.since by.colour by.n t by.made by.helps) [
      | inl was ↦
          (let before = whole region g.0 t
          (record { there = g.1; colour = by.colour; n = was.0; made = was.1; helps = by.helps }) in
          (before.0, λ id step. complete_later g.0 h g.2.on.more g.2.on.size g.2.on.learns id (before.1 id step)))
      | inr new ↦ new
    ]

-- of a client that is the same
module _ (s : Store) (c d : Client) (is : IsClient s c) (number : d.number ≡ c.number) (region : d.region ≡ c.region) where
  pub helps_client : ((n : ℕ) (h : Hold) → slice_get (holds_of d) n ≡ Some h
      → (g : Hold) × (slice_get (holds_of c) n ≡ Some g) × HelpsOn c.number c.region n g h)
      → HelpsWhole d.number d.region (holds_of d)
  helps_client each =
      subst (λ (n : ℕ). HelpsWhole n d.region (holds_of d)) (sym number)
      (subst (λ (n : ℕ). HelpsWhole c.number n (holds_of d)) (sym region)
      (helps_whole_on c.number c.region (holds_of c) (holds_of d) is.helps each))

  module _ (each : (n : ℕ) (h : Hold) → slice_get (holds_of d) n ≡ Some h
      → (g : Hold) × (slice_get (holds_of c) n ≡ Some g) × GoesIdle c.number g h) where
    pub idle_client : HelpsWhole d.number d.region (holds_of d)
    idle_client = helps_client (λ n h at.
        let g = each n h at in
        (g.0, g.1, idle_helps c.number c.region n g.0 h g.2))

    -- it had helped before
    pub helped_before : Helps d → Helps c
    helped_before helps =
        let n = helps.0 in
        let h = helps.1 in
        let t = helps.2 in
        let by = helps.3 in
        let g = each n h by.there in
        let its = subst (λ (k : ℕ). IsHelp k t.entry.event) number by.helps in
        let was = g.2.since by.colour by.n t by.made its in
        (n, g.0, t, record { there = g.1; colour = by.colour; n = was.0; made = was.1; helps = its })

-- of a client of which the hold of its region alone has changed
module _ (s : Store) (c d : Client) (r : Region) (g h : Hold) (is : IsClient s c) (ch : ChangesHome s c d r g h) where
  each_hold : (P : ℕ → Hold → Hold → Type 0) → P c.region g h → ((n : ℕ) (k : Hold) → n ≢ c.region → P n k k)
      → (n : ℕ) (l : Hold) → slice_get (holds_of d) n ≡ Some l → (k : Hold) × (slice_get (holds_of c) n ≡ Some k) × P n k l
  each_hold P home away n l at = elim (cases_eq n c.region) [
    | inl same ↦
        (let is_h : h ≡ l = same_Some h l (sym (home_after s c d r g h is ch)
        ∙ (ap (slice_get (holds_of d)) (sym same) ∙ at)) in (
          g,
          ap (slice_get (holds_of c)) same ∙ ch.before,
          subst (λ (m : ℕ). P m g l) (sym same) (subst (P c.region g) is_h home),
        ))
    | inr ne ↦ (l, sym (others_after s c d r g h is ch n ne) ∙ at, away n l ne)
  ]

  pub helps_at_home : (Made : ℕ → Event → Type 0) → GoesOn Made g h
      → ((colour : ℕ) (e : Event) → Made colour e → IsHelp c.number e → (id : Id) → IsStepOf id e → HoldKnowsComplete h id)
      → HelpsWhole d.number d.region (holds_of d)
  helps_at_home Made goes whole =
      helps_client s c d is ch.number ch.region
      (each_hold (λ n k l. HelpsOn c.number c.region n k l) (helps_on Made c.number c.region g h ch.on goes whole)
      (λ n k ne. idle_helps c.number c.region n k k (idle_same c.number k)))

  module _ (idle : GoesIdle c.number g h) where
    pub idle_at_home : HelpsWhole d.number d.region (holds_of d)
    idle_at_home = idle_client s c d is ch.number ch.region
        (each_hold (λ n k l. GoesIdle c.number k l) idle (λ n k ne. idle_same c.number k))

    pub helped_at_home : Helps d → Helps c
    helped_at_home = helped_before s c d is ch.number ch.region
        (each_hold (λ n k l. GoesIdle c.number k l) idle (λ n k ne. idle_same c.number k))
