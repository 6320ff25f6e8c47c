use Rattle.std.proofs.Common.{◌≡◌, ◌≤◌, length, map, take}
use Rattle.std.specs.Prelude.{vec_capacity}
use Rattle.run_script.specs.Opened.{unopened}
use Rattle.run_script.proofs.serving.opened.unopened.Given as goal

-- the slots so far
abbrev pub invariant-loop-object : goal.invariant-loop-object
invariant-loop-object l = record {
  slots_are : l.slots.items ≡ map unopened (take l._object-index l.objects);
  room : length l.objects ≤ vec_capacity l.slots;
}
