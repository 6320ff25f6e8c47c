use Rattle.std.proofs.Common.{◌≡◌, cond, None, take}
use Rattle.std.specs.BTreeMap.{IsOrdered, get}
use Rattle.std.specs.List.{AllByRecursion}
use Rattle.tree_fold.specs.declared.places.Place.{Place}
use Rattle.tree_fold.specs.Places.{IsPlaced, has_place, place_cmp}
use Rattle.tree_fold.proofs.moving.take_out.Given as goal

-- what stands at the first places is out
abbrev pub invariant-loop-place : goal.invariant-loop-place
invariant-loop-place l = record {
  placed : AllByRecursion IsPlaced l.entries.entries;
  ordered : IsOrdered place_cmp l.entries;
  out : (place : Place) → get place_cmp l.entries place ≡ cond (has_place place (take l.place-index l.places)) None (get place_cmp l.initial.entries place);
}
