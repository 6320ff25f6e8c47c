use Rattle.std.proofs.Common.{◌≡◌, List, ℕ, ap, sym, subst, get_or, map}
use Rattle.log_node.specs.Sets.{members}
use Rattle.object_fold.specs.Transactions.{value_of, writes_after, versions_after}
use Rattle.script_meaning.specs.Dequeues.{object_node_at}
use Rattle.script_meaning.specs.Gets.{key_answers}
use Rattle.log_node.specs.declared.node.Shape.{Shape}
use Rattle.script_text.specs.Fitting.{AreBelow, is_tx}
use Rattle.world_laws.specs.Worlds.{World}
use Rattle.world_code.specs.WorldView.{world_of}
use Rattle.script_meaning.specs.Stamped.{keys_read}
use Rattle.script_in_order.specs.Folds.{AreFolded}
use Rattle.script_in_order.specs.Telling.{rising_colours}
use Rattle.script_in_order.proofs.GetSteps.{its_read, read_folds}
use Rattle.script_in_order.proofs.ObjectSteps.{kind_is, small}
use Rattle.script_in_order.proofs.TransactionSteps.{tx_is, whole_members, whole_low, left_unraised, left_refused, left_without, left_found}
use Rattle.script_in_order.proofs.transactions.read.Goals as goal

pub all_colours-colours-requires-clause-telling : goal.all_colours-colours-requires-clause-telling
all_colours-colours-requires-clause-telling c =
    tx_is c.args.objects.now c.args.object c.index-objects-object.result c.requires.uses.0

pub all_colours-colours-requires-clause-colours : goal.all_colours-colours-requires-clause-colours
all_colours-colours-requires-clause-colours c =
    small c.args.world.now.shape.regions c.args.world.now.shape.colours c.is_whole.ensures.few_colours c.args.objects.now
    c.requires.kinds c.args.object is_tx c.requires.uses.0
    (get_or c.args.objects.now c.args.object c.index-objects-object.result).kind
    (kind_is c.args.objects.now c.args.object c.index-objects-object.result c.requires.uses.0)

pub stamped_read-requires-clause-within : goal.stamped_read-requires-clause-within
stamped_read-requires-clause-within c =
    whole_low c.args.world.now.shape.regions c.args.world.now.shape.colours c.is_whole.ensures.few_colours
    c.args.objects.now c.requires.kinds c.args.object c.requires.uses.0 c.index-objects-object.result
    c.all_colours-colours.result c.all_colours-colours.ensures

pub found-requires-clause-within : goal.found-requires-clause-within
found-requires-clause-within c =
    subst (λ (s : Shape). AreBelow s.colours c.all_colours-colours.result) (sym c.in_ok-stamped_read.ensures.shape)
    (whole_low c.args.world.now.shape.regions c.args.world.now.shape.colours c.is_whole.ensures.few_colours
    c.args.objects.now c.requires.kinds c.args.object c.requires.uses.0 c.index-objects-object.result
    c.all_colours-colours.result c.all_colours-colours.ensures)

pub found-requires-clause-may : goal.found-requires-clause-may
found-requires-clause-may c = (
  c.args.objects.now,
  c.requires.uses.0,
  read_folds (world_of c.args.world.now) (world_of c.stamped_read.new.world) c.args.command.now.client
      (members c.all_colours-colours.result) c.args.objects.now c.args.folds.now _ _ c.in-Whole.is
      c.is_whole.ensures.reached c.in_ok-stamped_read.ensures.ok c.requires.folded,
)

pub returns-in-Ok-clause-folded : goal.returns-in-Ok-clause-folded
returns-in-Ok-clause-folded c =
    c.found.ensures.folded c.args.objects.now c.requires.uses.0
    (read_folds (world_of c.args.world.now) (world_of c.stamped_read.new.world) c.args.command.now.client
    (members c.all_colours-colours.result) c.args.objects.now c.args.folds.now _ _ c.in-Whole.is
    c.is_whole.ensures.reached c.in_ok-stamped_read.ensures.ok c.requires.folded)

pub returns-in-Err-clause-folded : goal.returns-in-Err-clause-folded
returns-in-Err-clause-folded c =
    c.found.ensures.folded c.args.objects.now c.requires.uses.0
    (read_folds (world_of c.args.world.now) (world_of c.stamped_read.new.world) c.args.command.now.client
    (members c.all_colours-colours.result) c.args.objects.now c.args.folds.now _ _ c.in-Whole.is
    c.is_whole.ensures.reached c.in_ok-stamped_read.ensures.ok c.requires.folded)

pub returns-in-Unraised-clause-folded : goal.returns-in-Unraised-clause-folded
returns-in-Unraised-clause-folded c =
    read_folds (world_of c.args.world.now) (world_of c.stamped_read.new.world) c.args.command.now.client
    (members c.all_colours-colours.result) c.args.objects.now c.args.folds.now _ _ c.in-Unraised.is
    c.is_whole.ensures.reached c.in_ok-stamped_read.ensures.ok c.requires.folded

pub returns-in-Refused-clause-folded : goal.returns-in-Refused-clause-folded
returns-in-Refused-clause-folded c =
    read_folds (world_of c.args.world.now) (world_of c.stamped_read.new.world) c.args.command.now.client
    (members c.all_colours-colours.result) c.args.objects.now c.args.folds.now _ _ c.in-Refused.is
    c.is_whole.ensures.reached c.in_ok-stamped_read.ensures.ok c.requires.folded

pub returns-in_err-stamped_read-clause-folded : goal.returns-in_err-stamped_read-clause-folded
returns-in_err-stamped_read-clause-folded c =
    subst (λ (x : World). AreFolded x c.args.objects.now c.args.folds.now)
    (sym (ap world_of c.in_err-stamped_read.ensures.err)) c.requires.folded

pub returns-in-Unraised-clause-ok : goal.returns-in-Unraised-clause-ok
returns-in-Unraised-clause-ok c = λ taken.
    let old = world_of c.args.world.now in
    let new = world_of c.stamped_read.new.world in
    let members_are = whole_members c.args.world.now.shape.regions c.args.world.now.shape.colours
    c.is_whole.ensures.few_colours c.args.objects.now c.requires.kinds c.args.object c.requires.uses.0
    c.index-objects-object.result c.all_colours-colours.result c.all_colours-colours.ensures in
    left_unraised c.args.objects.now old new c.args.command.now c.args.object c.args.keys.now c.requires.asks taken
    (its_read old new c.args.command.now.client (members c.all_colours-colours.result)
    (rising_colours c.args.objects.now c.args.object) _ _ members_are c.in-Unraised.is c.in_ok-stamped_read.ensures.ok)

pub returns-in-Refused-clause-ok : goal.returns-in-Refused-clause-ok
returns-in-Refused-clause-ok c = λ taken.
    let old = world_of c.args.world.now in
    let new = world_of c.stamped_read.new.world in
    let members_are = whole_members c.args.world.now.shape.regions c.args.world.now.shape.colours
    c.is_whole.ensures.few_colours c.args.objects.now c.requires.kinds c.args.object c.requires.uses.0
    c.index-objects-object.result c.all_colours-colours.result c.all_colours-colours.ensures in
    left_refused c.args.objects.now old new c.args.command.now c.args.object c.args.keys.now c.requires.asks taken
    c.in-Refused.colour c.in-Refused.base
    (its_read old new c.args.command.now.client (members c.all_colours-colours.result)
    (rising_colours c.args.objects.now c.args.object) _ _ members_are c.in-Refused.is c.in_ok-stamped_read.ensures.ok)

pub returns-in-Err-clause-ok : goal.returns-in-Err-clause-ok
returns-in-Err-clause-ok c = λ taken.
    let old = world_of c.args.world.now in
    let new = world_of c.stamped_read.new.world in
    let cs = rising_colours c.args.objects.now c.args.object in
    let members_are = whole_members c.args.world.now.shape.regions c.args.world.now.shape.colours
    c.is_whole.ensures.few_colours c.args.objects.now c.requires.kinds c.args.object c.requires.uses.0
    c.index-objects-object.result c.all_colours-colours.result c.all_colours-colours.ensures in
    left_without c.args.objects.now old new c.args.command.now c.args.object c.args.keys.now c.requires.asks taken
    c.in-Whole.stamp c.in-Whole.raises c.in-Whole.syncs (keys_read new c.args.command.now.client c.in-Whole.stamp cs)
    (its_read old new c.args.command.now.client (members c.all_colours-colours.result) cs _ _ members_are c.in-Whole.is
    c.in_ok-stamped_read.ensures.ok)

pub returns-in-Ok-clause-ok : goal.returns-in-Ok-clause-ok
returns-in-Ok-clause-ok c = λ taken.
    let old = world_of c.args.world.now in
    let new = world_of c.stamped_read.new.world in
    let cs = rising_colours c.args.objects.now c.args.object in
    let members_are = whole_members c.args.world.now.shape.regions c.args.world.now.shape.colours
    c.is_whole.ensures.few_colours c.args.objects.now c.requires.kinds c.args.object c.requires.uses.0
    c.index-objects-object.result c.all_colours-colours.result c.all_colours-colours.ensures in
    let found = subst (λ (l : List ℕ).
    (c.in-Ok.keys ≡ key_answers (value_of (writes_after (map (object_node_at new)
    (keys_read new c.args.command.now.client c.in-Whole.stamp l)))) c.args.keys.now)
    × (c.in-Ok.versions ≡ versions_after (map (object_node_at new)
    (keys_read new c.args.command.now.client c.in-Whole.stamp l)) c.args.keys.now)) members_are c.in-Ok.ensures.found in
    left_found c.args.objects.now old new c.args.command.now c.args.object c.args.keys.now c.requires.asks taken
    c.in-Whole.stamp c.in-Whole.raises c.in-Whole.syncs (keys_read new c.args.command.now.client c.in-Whole.stamp cs)
    (its_read old new c.args.command.now.client (members c.all_colours-colours.result) cs _ _ members_are c.in-Whole.is
    c.in_ok-stamped_read.ensures.ok)
    c.in-Ok.keys c.in-Ok.versions found.0 found.1
