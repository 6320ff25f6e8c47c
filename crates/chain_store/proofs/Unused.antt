-- Rings through which nothing has gone.
use Rattle.std.proofs.Common.{◌≡◌, ℕ, List, [], Some, slice_get, refl, sym, subst, ◌∙◌}
use Rattle.std.specs.List.{All}
use Rattle.std.proofs.lemmas.Option.{slice_get_within, get_or_from_slice_get}
use Rattle.ring_ends.specs.declared.rings.Rings.{Rings}
use Rattle.ring_ends.specs.declared.sends.Sends.{Sends}
use Rattle.ring_ends.specs.declared.receives.Receives.{Receives}
use Rattle.ring_ends.specs.Givens.{OfTheirHeads}
use Rattle.ring_ends.specs.NewRings.{AreUnused}
use Rattle.ring_ends.specs.declared.make.TheConstants.{RING_ROOM}
use Rattle.ring_ends.specs.Rings.{gone, got, room_of}
use Rattle.ring_ends.specs.Places.{ring_place}
use Rattle.chain_store.specs.declared.told.Tag.{Tag}
use Rattle.chain_store.specs.Rings.{AreSent, RingsFit}

pub all_at : {A : Type 0} (P : A → Type 0) (xs : List A) (k : ℕ) (x : A) → slice_get xs k ≡ Some x → All P xs → P x
all_at P xs k x at all = subst P (get_or_from_slice_get xs k x x at) (all k x (slice_get_within xs k x at))

none_sent : (t : Tag) → AreSent t [] []
none_sent t = record { begins = λ later p lawful. (_, refl); entered = λ n i at. absurd (let f : ⊥ = cc (at) in f) }

no_heads : (region : ℕ) → OfTheirHeads region []
no_heads region n i at = absurd (let f : ⊥ = cc (at) in f)

-- they fit the history with nothing in it
pub unused_fit : (t : Tag) (rings : Rings) → AreUnused rings → RingsFit t rings []
unused_fit t rings unused = record {
  sent = λ n s at. subst (AreSent t []) (sym (all_at (λ (x : Sends). (gone x ≡ []) × (room_of x ≡ RING_ROOM)) rings.sends.items n s at unused.0).0) (none_sent t);
  received = λ region r lt other at.
      let u = all_at (λ (x : Receives). (got x ≡ []) × (x.waiting.items ≡ [])) rings.receives.items
      (ring_place t.region region) r at unused.1 in record {
        carried = u.0 ∙ sym u.1;
        heads = subst (OfTheirHeads region) (sym u.1) (no_heads region);
      };
}
