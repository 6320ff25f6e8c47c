use Rattle.std.proofs.Common.{[], refl, ap, sym, subst, get_or}
use Rattle.log_node.specs.Sets.{members}
use Rattle.log_node.specs.declared.node.Shape.{Shape}
use Rattle.script_text.specs.Fitting.{AreBelow, is_tree}
use Rattle.report_text.specs.declared.report.Answer.TheVariants as answers
use Rattle.world_laws.specs.Worlds.{World}
use Rattle.world_code.specs.WorldView.{world_of}
use Rattle.script_meaning.specs.Stamped.{keys_read}
use Rattle.script_in_order.specs.Folds.{AreFolded}
use Rattle.script_in_order.specs.Telling.{rising_colours}
use Rattle.script_in_order.proofs.CommandKinds.{does_what}
use Rattle.script_in_order.proofs.GetSteps.{shows_none, its_read, read_folds}
use Rattle.script_in_order.proofs.ObjectSteps.{kind_is, small}
use Rattle.script_in_order.proofs.StampedWholes.{told_whole, told_without, told_refused, told_unraised}
use Rattle.script_in_order.proofs.TransactionSteps.{whole_members, whole_low}
use Rattle.script_in_order.proofs.TreeSteps.{tree_is, tree_at, names_answering, listed_so}
use Rattle.script_in_order.proofs.trees.list_names.Goals as goal

pub all_colours-colours-requires-clause-telling : goal.all_colours-colours-requires-clause-telling
all_colours-colours-requires-clause-telling c =
    tree_is c.args.objects.now c.args.object c.index-objects-object.result c.requires.uses.0

pub all_colours-colours-requires-clause-colours : goal.all_colours-colours-requires-clause-colours
all_colours-colours-requires-clause-colours c =
    small c.args.world.now.shape.regions c.args.world.now.shape.colours c.is_whole.ensures.few_colours c.args.objects.now
    c.requires.kinds c.args.object is_tree c.requires.uses.0
    (get_or c.args.objects.now c.args.object c.index-objects-object.result).kind
    (kind_is c.args.objects.now c.args.object c.index-objects-object.result c.requires.uses.0)

pub stamped_read-requires-clause-within : goal.stamped_read-requires-clause-within
stamped_read-requires-clause-within c =
    whole_low c.args.world.now.shape.regions c.args.world.now.shape.colours c.is_whole.ensures.few_colours
    c.args.objects.now c.requires.kinds c.args.object c.requires.uses.0 c.index-objects-object.result
    c.all_colours-colours.result c.all_colours-colours.ensures

pub names-requires-clause-within : goal.names-requires-clause-within
names-requires-clause-within c =
    subst (λ (s : Shape). AreBelow s.colours c.all_colours-colours.result) (sym c.in_ok-stamped_read.ensures.shape)
    (whole_low c.args.world.now.shape.regions c.args.world.now.shape.colours c.is_whole.ensures.few_colours
    c.args.objects.now c.requires.kinds c.args.object c.requires.uses.0 c.index-objects-object.result
    c.all_colours-colours.result c.all_colours-colours.ensures)

pub names-requires-clause-may : goal.names-requires-clause-may
names-requires-clause-may c = (
  c.args.objects.now,
  tree_at c.args.objects.now c.args.object c.requires.uses.0,
  read_folds (world_of c.args.world.now) (world_of c.stamped_read.new.world) c.args.command.now.client
      (members c.all_colours-colours.result) c.args.objects.now c.args.folds.now _ _ c.in-Whole.is
      c.is_whole.ensures.reached c.in_ok-stamped_read.ensures.ok c.requires.folded,
)

pub returns-in-Ok-clause-folded : goal.returns-in-Ok-clause-folded
returns-in-Ok-clause-folded c =
    c.names.ensures.folded c.args.objects.now (tree_at c.args.objects.now c.args.object c.requires.uses.0)
    (read_folds (world_of c.args.world.now) (world_of c.stamped_read.new.world) c.args.command.now.client
    (members c.all_colours-colours.result) c.args.objects.now c.args.folds.now _ _ c.in-Whole.is
    c.is_whole.ensures.reached c.in_ok-stamped_read.ensures.ok c.requires.folded)

pub returns-clause-folded : goal.returns-clause-folded
returns-clause-folded c =
    c.names.ensures.folded c.args.objects.now (tree_at c.args.objects.now c.args.object c.requires.uses.0)
    (read_folds (world_of c.args.world.now) (world_of c.stamped_read.new.world) c.args.command.now.client
    (members c.all_colours-colours.result) c.args.objects.now c.args.folds.now _ _ c.in-Whole.is
    c.is_whole.ensures.reached c.in_ok-stamped_read.ensures.ok c.requires.folded)

pub returns-in-Unraised-clause-folded : goal.returns-in-Unraised-clause-folded
returns-in-Unraised-clause-folded c =
    read_folds (world_of c.args.world.now) (world_of c.stamped_read.new.world) c.args.command.now.client
    (members c.all_colours-colours.result) c.args.objects.now c.args.folds.now _ _ c.in-Unraised.is
    c.is_whole.ensures.reached c.in_ok-stamped_read.ensures.ok c.requires.folded

pub returns-in-Refused-clause-folded : goal.returns-in-Refused-clause-folded
returns-in-Refused-clause-folded c =
    read_folds (world_of c.args.world.now) (world_of c.stamped_read.new.world) c.args.command.now.client
    (members c.all_colours-colours.result) c.args.objects.now c.args.folds.now _ _ c.in-Refused.is
    c.is_whole.ensures.reached c.in_ok-stamped_read.ensures.ok c.requires.folded

pub returns-in_err-stamped_read-clause-folded : goal.returns-in_err-stamped_read-clause-folded
returns-in_err-stamped_read-clause-folded c =
    subst (λ (x : World). AreFolded x c.args.objects.now c.args.folds.now)
    (sym (ap world_of c.in_err-stamped_read.ensures.err)) c.requires.folded

pub returns-in-Unraised-clause-ok : goal.returns-in-Unraised-clause-ok
returns-in-Unraised-clause-ok c =
    let old = world_of c.args.world.now in
    let new = world_of c.stamped_read.new.world in
    let command = c.args.command.now in
    let cs = rising_colours c.args.objects.now c.args.object in
    let members_are = whole_members c.args.world.now.shape.regions c.args.world.now.shape.colours
    c.is_whole.ensures.few_colours c.args.objects.now c.requires.kinds c.args.object c.requires.uses.0
    c.index-objects-object.result c.all_colours-colours.result c.all_colours-colours.ensures in
    does_what c.args.objects.now command c.requires.asks
    (told_unraised old new command cs (names_answering c.args.path.now) shows_none []
    (its_read old new command.client (members c.all_colours-colours.result) cs _ _ members_are c.in-Unraised.is
    c.in_ok-stamped_read.ensures.ok) refl)

pub returns-in-Refused-clause-ok : goal.returns-in-Refused-clause-ok
returns-in-Refused-clause-ok c =
    let old = world_of c.args.world.now in
    let new = world_of c.stamped_read.new.world in
    let command = c.args.command.now in
    let cs = rising_colours c.args.objects.now c.args.object in
    let members_are = whole_members c.args.world.now.shape.regions c.args.world.now.shape.colours
    c.is_whole.ensures.few_colours c.args.objects.now c.requires.kinds c.args.object c.requires.uses.0
    c.index-objects-object.result c.all_colours-colours.result c.all_colours-colours.ensures in
    does_what c.args.objects.now command c.requires.asks
    (told_refused old new command cs (names_answering c.args.path.now) shows_none c.in-Refused.colour c.in-Refused.base []
    (its_read old new command.client (members c.all_colours-colours.result) cs _ _ members_are c.in-Refused.is
    c.in_ok-stamped_read.ensures.ok) refl)

pub returns-clause-ok : goal.returns-clause-ok
returns-clause-ok c =
    let old = world_of c.args.world.now in
    let new = world_of c.stamped_read.new.world in
    let command = c.args.command.now in
    let cs = rising_colours c.args.objects.now c.args.object in
    let members_are = whole_members c.args.world.now.shape.regions c.args.world.now.shape.colours
    c.is_whole.ensures.few_colours c.args.objects.now c.requires.kinds c.args.object c.requires.uses.0
    c.index-objects-object.result c.all_colours-colours.result c.all_colours-colours.ensures in
    does_what c.args.objects.now command c.requires.asks
    (told_without old new command cs (names_answering c.args.path.now) shows_none c.in-Whole.stamp c.in-Whole.raises
    c.in-Whole.syncs (keys_read new command.client c.in-Whole.stamp cs)
    (its_read old new command.client (members c.all_colours-colours.result) cs _ _ members_are c.in-Whole.is
    c.in_ok-stamped_read.ensures.ok) [] refl)

pub returns-in-Ok-clause-ok : goal.returns-in-Ok-clause-ok
returns-in-Ok-clause-ok c =
    let old = world_of c.args.world.now in
    let new = world_of c.stamped_read.new.world in
    let command = c.args.command.now in
    let cs = rising_colours c.args.objects.now c.args.object in
    let members_are = whole_members c.args.world.now.shape.regions c.args.world.now.shape.colours
    c.is_whole.ensures.few_colours c.args.objects.now c.requires.kinds c.args.object c.requires.uses.0
    c.index-objects-object.result c.all_colours-colours.result c.all_colours-colours.ensures in
    does_what c.args.objects.now command c.requires.asks
    (told_whole old new command cs (names_answering c.args.path.now) shows_none c.in-Whole.stamp c.in-Whole.raises
    c.in-Whole.syncs (keys_read new command.client c.in-Whole.stamp cs)
    (its_read old new command.client (members c.all_colours-colours.result) cs _ _ members_are c.in-Whole.is
    c.in_ok-stamped_read.ensures.ok)
    (answers.Listed c.in-Ok.names c.in-Whole.stamp c.in-Whole.raises c.in-Whole.syncs) []
    (listed_so new command.client c.in-Whole.stamp (members c.all_colours-colours.result) cs c.args.path.now
    c.as_bytes.result.now c.in_ok-path.path c.in-Ok.names members_are c.in_ok-path.ensures c.as_bytes.ensures
    c.in-Ok.ensures.names c.in-Whole.raises c.in-Whole.syncs) refl)
