-- The ends of rings, each with its ring's name and with what went through it.
use Rattle.std.specs.Prelude.{◌≡◌, ℕ, ◌-◌, List, length, map}
use base.Stored.{Coded, coded_via, coded_ℕ, coded_list, coded×}
use denote.RawPtr.{Ptr, coded_ptr}
use Rattle.rtrb.specs.Shared.{Names}
use Rattle.rtrb.specs.Ring.{sent, received, known_free, known_items}
use Rattle.log_node.specs.Seen.{PlacedNode}
use Rattle.ring_ends.specs.declared.sends.Sends.{Sends}
use Rattle.ring_ends.specs.declared.receives.Receives.{Receives}
use Rattle.ring_ends.specs.declared.rings.Rings.{Rings}

-- which ring it is: what both of its ends have in common
pub record RingName : Type 0 where
  pub words : Ptr
  pub slots : Ptr
  pub names : Names

abbrev pub ring_name_coded : Coded RingName
ring_name_coded = coded_via (coded× coded_ptr (coded× coded_ptr (coded× coded_ℕ (coded× coded_ℕ coded_ℕ))))
    (λ (r : RingName). (r.words, (r.slots, r.names)))
    (λ x y e i. record { words = (e i).0; slots = (e i).1.0; names = (e i).1.1 })

-- the rings of one column: those to the other regions, and those from them, each in the other regions' order
pub record RingNames : Type 0 where
  pub sends : List RingName
  pub receives : List RingName

abbrev pub ring_names_coded : Coded RingNames
ring_names_coded = coded_via (coded× (coded_list ring_name_coded) (coded_list ring_name_coded))
    (λ (r : RingNames). (r.sends, r.receives))
    (λ x y e i. record { sends = (e i).0; receives = (e i).1 })

-- the ring of each end
abbrev pub ring_sent : Sends → RingName
ring_sent s = let e = s.producer.end in record { words = e.words; slots = e.slots; names = e.names }

abbrev pub ring_received : Receives → RingName
ring_received r = let e = r.consumer.end in record { words = e.words; slots = e.slots; names = e.names }

-- what went into the ring, and what came out of it, the oldest first
abbrev pub gone : Sends → List PlacedNode
gone s = sent s.producer

abbrev pub got : Receives → List PlacedNode
got r = received r.consumer

-- what is known to be in the ring, the oldest first
abbrev pub left : Receives → List PlacedNode
left r = known_items r.consumer

-- how many places of the ring are known to be free
abbrev pub room_of : Sends → ℕ
room_of s = known_free s.producer

-- the rings of a column's ends
abbrev pub names_of : Rings → RingNames
names_of rings = record { sends = map ring_sent rings.sends.items; receives = map ring_received rings.receives.items }

-- there is a ring to each other region, and one from each
abbrev pub IsForRegions : ℕ → Rings → Type 0
IsForRegions regions rings =
    (length rings.sends.items ≡ regions - 1) × (length rings.receives.items ≡ regions - 1)
