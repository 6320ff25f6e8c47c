use Rattle.std.proofs.Common.{◌≡◌, map, take}
use Rattle.tree_fold.specs.Places.{place_of}
use Rattle.tree_fold.proofs.moving.places_of.Given as goal

-- the places of the first entries
abbrev pub invariant-loop-entry : goal.invariant-loop-entry
invariant-loop-entry l = l.places.items ≡ map (λ e. place_of e.path) (take l.entry-index l.entries)
