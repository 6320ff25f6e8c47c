-- Small histories, computed.
use Rattle.std.proofs.Common.{◌≡◌, ℕ, List, [], ◌∷◌, true, false, refl}
use Rattle.log_node.specs.declared.ids.Id.{Id}
use Rattle.log_node.specs.Vectors.{zeros}
use Rattle.log_node.specs.declared.marks.Outcome.TheVariants.{Final}
use Rattle.log_node.specs.Standings.{queue_of}
use Rattle.col_core.specs.declared.Event.{Event}
use Rattle.col_core.specs.declared.Event.TheVariants.{Single, Propose, Settle, Give, Carry}
use Rattle.col_core.specs.declared.Entry.{Entry}
use Rattle.col_core.specs.History.{clock, line, entries, entry_key}
use Rattle.col_core.specs.Cuts.{base}
use Rattle.col_core.specs.Computed.{cut, dated}

abbrev id : ℕ → ℕ → Id
id client count = record { client = client; count = count }

abbrev entry : ℕ → Event → ℕ → Entry
entry by event stamp = record { by = by; event = event; stamp = stamp }

-- a stopped append of two colours that another client completes
abbrev completed : List Entry
completed =
    entry 0 (Propose (id 0 0) 0 zeros) 1
    ∷ entry 1 (Single (id 1 0) 0 zeros) 2
    ∷ entry 1 (Settle (id 0 0) (Final 1)) 0
    ∷ []

completed_clock : clock completed ≡ 2
completed_clock = refl

completed_line : line completed ≡ entry_key 1 (id 0 0) ∷ entry_key 2 (id 1 0) ∷ []
completed_line = refl

completed_queue : queue_of (entries completed) ≡ []
completed_queue = refl

-- before it is settled
stopped_queue : queue_of (entries (entry 0 (Propose (id 0 0) 0 zeros) 1 ∷ entry 1 (Single (id 1 0) 0 zeros) 2 ∷ [])) ≡ record { key = entry_key 1 (id 0 0); settled = false } ∷ record { key = entry_key 2 (id 1 0); settled = true } ∷ []
stopped_queue = refl

-- a second region carries a node of the first, and its own node needs it
second_region : List Entry
second_region =
    entry 1 (Carry 0 0 (record { key = entry_key 1 (id 0 0); needs = zeros } ∷ [])) 0
    ∷ entry 1 (Single (id 1 0) 1 (record { 0 = 1 ∷ 0 ∷ 0 ∷ 0 ∷ [] })) 2
    ∷ entry 0 (Give 0 0) 0
    ∷ []

second_cut : cut 1 (dated 1 second_region) ≡ record { 0 = 1 ∷ 1 ∷ 0 ∷ 0 ∷ [] }
unfolding second_region
second_cut = refl

second_base : base 1 2 (dated 1 second_region) ≡ zeros
unfolding second_region
second_base = refl
