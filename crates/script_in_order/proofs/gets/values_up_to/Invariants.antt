use Rattle.std.proofs.Common.{◌≡◌, length, take}
use Rattle.col_core.specs.History.{line}
use Rattle.playback.specs.Merging.{up_to}
use Rattle.world_laws.specs.Worlds.{home_history}
use Rattle.lawful_run.specs.Asks.{colours_of_object, shards}
use Rattle.world_code.specs.WorldView.{world_of}
use Rattle.script_meaning.specs.Objects.{caller_in}
use Rattle.script_meaning.specs.Gets.{key_answers, value_up_to}
use Rattle.script_in_order.specs.Folds.{AreFolded, ShardsWithin}
use Rattle.script_in_order.proofs.gets.values_up_to.Given as goal

-- the values of the keys so far, and folds that are still within the stamp
abbrev pub invariant-loop-key : goal.invariant-loop-key
invariant-loop-key l = record {
  values : l.answers ≡ key_answers (value_up_to (world_of l.world) l.fn.client
      (colours_of_object (caller_in (world_of l.world) l.objects l.fn.client) l.fn.object) l.fn.stamp)
      (take l.key-index l.keys);
  folded : AreFolded (world_of l.world) l.objects l.folds;
  behind : ShardsWithin l.folds l.fn.object
      (shards (colours_of_object (caller_in (world_of l.world) l.objects l.fn.client) l.fn.object) l.keys)
      (λ colour. length (up_to l.fn.stamp (line (home_history (world_of l.world) l.fn.client colour))));
}
