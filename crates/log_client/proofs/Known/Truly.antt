-- What a client asked for stays true.
use Rattle.std.proofs.Common.{◌≡◌, ℕ, List, length, Some, slice_get, ap, sym, subst, ◌∙◌, inl, inr, ◌⊎◌, arith}
use Rattle.std.proofs.lemmas.List.Elements.{All-contains}
use Rattle.std.proofs.lemmas.Option.{slice_get_within}
use mathlib.Core.List.{IsPrefix}
use Rattle.col_core.specs.declared.Event as event_types
use Rattle.col_core.specs.declared.Event.TheVariants as events
use Rattle.col_core.proofs.CallerLemmas.{contains_in, slice_in}
use Rattle.chain_store.specs.declared.told.Told.{Told}
use Rattle.chain_store.specs.declared.hold.Hold.{Hold}
use Rattle.chain_store.specs.declared.region.Region.{Region}
use Rattle.chain_store.specs.Regions.{tag_at}
use Rattle.chain_store.specs.Holds.{made_in, seen_in}
use Rattle.chain_store.specs.Going.{GoesOn}
use Rattle.region_pull.specs.Origins.{IsHeldFor}
use Rattle.region_pull.proofs.CallerLemmas.{held_stays}
use Rattle.log_client.specs.Ending.{IsNoMove, AreHoldsIn, ArePair, PullsTruly}
use Rattle.log_client.proofs.Lists.{got, got_split}

-- an entry that the hold made is one that it had made
abbrev pub WasMade : Hold → ℕ → Told → Type 0
WasMade k colour t = (m : ℕ) × (slice_get (made_in k colour) m ≡ Some t)

module _ (rs : List Region) (gs hs : List Hold) (holds : AreHoldsIn rs hs) (many : length hs ≡ length gs)
    (more : (n : ℕ) (g h : Hold) → slice_get gs n ≡ Some g → slice_get hs n ≡ Some h
    → (c : ℕ) → IsPrefix (seen_in g c) (seen_in h c)) where
  -- where each entry that was made on top asks for what is held, or for nothing
  pub truly_on : ((from to : Region) (g h k : Hold) (colour : ℕ) (p : ArePair rs hs from to g h)
      → slice_get gs p.n ≡ Some k → (n : ℕ) (t : Told) → slice_get (made_in g colour) n ≡ Some t
      → WasMade k colour t ⊎ IsHeldFor (tag_at to colour) (seen_in h colour) from.number t)
      → PullsTruly rs gs → PullsTruly rs hs
  truly_on gave before = record {
    gives = λ from to g h colour p lt.
        let old = olds from to g h p in
        held_stays from to colour old.0 g old.1 h (holds.1 p.m to h p.to_there p.to_hold) lt
        (more p.m old.1 h old.3 p.to_hold colour) (λ n t at. gave from to g h old.0 colour p old.2 n t at)
        (before.gives from to old.0 old.1 colour (pair from to g h p old.0 old.1 old.2 old.3) lt);
  } where
    olds : (from to : Region) (g h : Hold) (p : ArePair rs hs from to g h)
        → (a : Hold) × (b : Hold) × (slice_get gs p.n ≡ Some a) × (slice_get gs p.m ≡ Some b)
    olds from to g h p =
        let n = slice_get_within hs p.n g p.from_hold in
        let m = slice_get_within hs p.m h p.to_hold in
        let a = got gs p.n (omega (arith, n, many)) in
        let b = got gs p.m (omega (arith, m, many)) in
        (a.0, b.0, a.1, b.1)

    pair : (from to : Region) (g h : Hold) (p : ArePair rs hs from to g h) (a b : Hold) → slice_get gs p.n ≡ Some a
        → slice_get gs p.m ≡ Some b → ArePair rs gs from to a b
    pair from to g h p a b at_a at_b = record {
      n = p.n;
      m = p.m;
      apart = p.apart;
      from_there = p.from_there;
      to_there = p.to_there;
      from_hold = at_a;
      to_hold = at_b;
    }

-- an event that moves nothing gives nothing
no_give : (ev : event_types.Event) (region from : ℕ) → IsNoMove ev → ev ≡ events.Give region from → ⊥
no_give ev region from none is = subst IsNoMove is none

-- an entry that a hold made, which goes on, it had made, or is one of those
pub made_split : (Made : ℕ → event_types.Event → Type 0) (g h : Hold) (colour n : ℕ) (t : Told) → GoesOn Made g h
    → slice_get (made_in h colour) n ≡ Some t → WasMade g colour t ⊎ Made colour t.entry.event
made_split Made g h colour n t goes at = by_place (got_split (made_in g colour) (goes.made colour).0 n t
    (ap (λ (l : List Told). slice_get l n) (sym (goes.made colour).1) ∙ at)) where
      by_place : (slice_get (made_in g colour) n ≡ Some t) ⊎ ((m : ℕ) × (slice_get (goes.made colour).0 m ≡ Some t))
          → WasMade g colour t ⊎ Made colour t.entry.event
      by_place (inl old) = inl (n, old)
      by_place (inr new) = inr (All-contains (λ (u : Told). Made colour u.entry.event) (goes.made colour).0 t
          (goes.made colour).2 (contains_in (goes.made colour).0 t (slice_in (goes.made colour).0 new.0 t new.1)))

-- a client whose holds go on without moving nodes
pub pulls_truly_stays : (rs : List Region) (gs hs : List Hold) → AreHoldsIn rs hs → length hs ≡ length gs
    → ((n : ℕ) (g h : Hold) → slice_get gs n ≡ Some g → slice_get hs n ≡ Some h → GoesOn (λ c e. IsNoMove e) g h)
    → PullsTruly rs gs → PullsTruly rs hs
pulls_truly_stays rs gs hs holds many goes =
    truly_on rs gs hs holds many (λ n g h a b. (goes n g h a b).more)
    (λ from to g h k colour p at n t made.
    elim (made_split (λ c e. IsNoMove e) k g colour n t (goes p.n k g at p.from_hold) made) [
      | inl old ↦ inl old
      | inr new ↦ inr (λ asked is. absurd (no_give t.entry.event to.number asked new is))
    ])
