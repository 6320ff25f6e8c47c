use Rattle.std.proofs.Common.{◌∙◌, ℕ, List, [], Some, refl, ap, sym, subst, get_or, length}
use Rattle.log_node.specs.Sets.{members}
use Rattle.col_core.specs.History.{line}
use Rattle.playback.specs.Merging.{up_to}
use Rattle.world_laws.specs.Worlds.{home_of, home_history}
use Rattle.script_text.specs.declared.script.Kind.TheVariants as kinds
use Rattle.script_text.specs.Fitting.{AreBelow, is_map}
use Rattle.report_text.specs.declared.report.Answer.TheVariants as answers
use Rattle.report_text.specs.declared.report.KeyAnswer.{KeyAnswer}
use Rattle.lawful_run.specs.Asks.{object_colours, shards}
use Rattle.world_code.specs.WorldView.{world_of}
use Rattle.script_meaning.specs.States.{kind_in}
use Rattle.script_meaning.specs.Gets.{key_answers, value_up_to}
use Rattle.script_meaning.specs.Stamped.{Whole, Refused, Unraised, keys_read}
use Rattle.script_in_order.specs.declared.stamped.Stamped.{Stamped}
use Rattle.script_in_order.specs.declared.stamped.Stamped.TheVariants as stamped
use Rattle.script_in_order.specs.Stamped.{ReadsStamped, end_in}
use Rattle.script_in_order.specs.Folds.{ShardsWithin}
use Rattle.script_in_order.proofs.FoldsKept.{folds_stay}
use Rattle.script_in_order.proofs.ObjectHomes.{map_at}
use Rattle.script_in_order.proofs.ObjectSteps.{kind_is, are_low}
use Rattle.script_in_order.proofs.StampedWholes.{told_whole, told_without, told_refused, told_unraised}
use Rattle.script_in_order.proofs.GetSteps.{key_answering, shows_none, read_to, reads_same, same_home, set_is, shards_behind}
use Rattle.script_in_order.proofs.CommandKinds.{does_what}
use Rattle.script_in_order.proofs.gets.get_keys.Goals as goal

pub stamped_read-requires-clause-within : goal.stamped_read-requires-clause-within
stamped_read-requires-clause-within c =
    let kind = (get_or c.args.objects.now c.args.object c.index-objects-object.result).kind in
    subst (AreBelow c.args.world.now.shape.colours) (sym c.key_shards-colours.ensures)
    (are_low c.args.world.now.shape.regions c.args.world.now.shape.colours c.is_whole.ensures.few_colours
    c.args.objects.now c.requires.kinds c.args.object is_map c.requires.uses.0 kind
    (kind_is c.args.objects.now c.args.object c.index-objects-object.result c.requires.uses.0)
    c.as_slice.result.now)

-- what the read of the shards came to
pub values_up_to-requires-clause-at_home : goal.values_up_to-requires-clause-at_home
values_up_to-requires-clause-at_home c =
    let w = world_of c.args.world.now in
    let v = world_of c.stamped_read.new.world in
    let client = c.args.command.now.client in
    let cs = members c.key_shards-colours.result in
    let at = map_at (home_of w client) c.args.objects.now c.args.object c.requires.near c.requires.uses.0 in
    let reads = subst (λ (s : Stamped). ReadsStamped w v client cs (end_in v client cs s)) c.in-Whole.is
    c.in_ok-stamped_read.ensures.ok in
    let to = read_to w v client cs
    (Whole c.in-Whole.stamp c.in-Whole.raises c.in-Whole.syncs (keys_read v client c.in-Whole.stamp cs)) reads in (
      at.0,
      at.1 ∙ ap (λ (h : ℕ). Some (kinds.Map h at.0)) (sym (same_home w v client to)),
    )

pub values_up_to-requires-clause-folded : goal.values_up_to-requires-clause-folded
values_up_to-requires-clause-folded c =
    let w = world_of c.args.world.now in
    let v = world_of c.stamped_read.new.world in
    let client = c.args.command.now.client in
    let cs = members c.key_shards-colours.result in
    let reads = subst (λ (s : Stamped). ReadsStamped w v client cs (end_in v client cs s)) c.in-Whole.is
    c.in_ok-stamped_read.ensures.ok in
    folds_stay w v c.is_whole.ensures.reached
    (read_to w v client cs
    (Whole c.in-Whole.stamp c.in-Whole.raises c.in-Whole.syncs (keys_read v client c.in-Whole.stamp cs)) reads)
    c.args.objects.now c.args.folds.now c.requires.folded

pub values_up_to-requires-clause-behind : goal.values_up_to-requires-clause-behind
values_up_to-requires-clause-behind c =
    let w = world_of c.args.world.now in
    let v = world_of c.stamped_read.new.world in
    let client = c.args.command.now.client in
    let at = map_at (home_of w client) c.args.objects.now c.args.object c.requires.near c.requires.uses.0 in
    let cs = members c.key_shards-colours.result in
    let wanted = shards (object_colours (kind_in c.args.objects.now c.args.object)) c.args.keys.now in
    let s = stamped.Whole c.in-Whole.stamp c.in-Whole.raises c.in-Whole.syncs in
    let reads = reads_same w v client cs wanted s
    (set_is c.args.objects.now c.args.object c.index-objects-object.result c.key_shards-colours.result
    c.as_slice.result.now c.args.keys.now c.requires.uses.0 c.key_shards-colours.ensures c.as_slice.ensures)
    (subst (λ (x : Stamped). ReadsStamped w v client cs (end_in v client cs x)) c.in-Whole.is
    c.in_ok-stamped_read.ensures.ok) in
    subst (λ (l : List (List ℕ)). ShardsWithin c.args.folds.now c.args.object
    (shards (object_colours (kind_in c.args.objects.now c.args.object)) l)
    (λ colour. length (up_to c.in-Whole.stamp (line (home_history v client colour))))) (sym c.as_slice-in-Whole.ensures)
    (shards_behind w v c.is_whole.ensures.reached c.args.objects.now c.args.folds.now c.requires.folded client
    c.args.object at.0 wanted c.in-Whole.stamp c.in-Whole.raises c.in-Whole.syncs
    (keys_read v client c.in-Whole.stamp wanted) at.1 reads)

pub returns-in-Unraised-clause-ok : goal.returns-in-Unraised-clause-ok
returns-in-Unraised-clause-ok c =
    let w = world_of c.args.world.now in
    let v = world_of c.stamped_read.new.world in
    let command = c.args.command.now in
    let cs = members c.key_shards-colours.result in
    let wanted = shards (object_colours (kind_in c.args.objects.now c.args.object)) c.args.keys.now in
    does_what c.args.objects.now c.args.command.now c.requires.asks (told_unraised w v command wanted (key_answering c.args.objects.now command.client c.args.object c.args.keys.now)
    shows_none []
    (reads_same w v command.client cs wanted stamped.Unraised
    (set_is c.args.objects.now c.args.object c.index-objects-object.result c.key_shards-colours.result
    c.as_slice.result.now c.args.keys.now c.requires.uses.0 c.key_shards-colours.ensures c.as_slice.ensures)
    (subst (λ (x : Stamped). ReadsStamped w v command.client cs (end_in v command.client cs x)) c.in-Unraised.is
    c.in_ok-stamped_read.ensures.ok)) refl)

pub returns-in-Unraised-clause-folded : goal.returns-in-Unraised-clause-folded
returns-in-Unraised-clause-folded c =
    let w = world_of c.args.world.now in
    let v = world_of c.stamped_read.new.world in
    let client = c.args.command.now.client in
    let cs = members c.key_shards-colours.result in
    folds_stay w v c.is_whole.ensures.reached
    (read_to w v client cs Unraised
    (subst (λ (x : Stamped). ReadsStamped w v client cs (end_in v client cs x)) c.in-Unraised.is
    c.in_ok-stamped_read.ensures.ok))
    c.args.objects.now c.args.folds.now c.requires.folded

pub returns-in-Refused-clause-ok : goal.returns-in-Refused-clause-ok
returns-in-Refused-clause-ok c =
    let w = world_of c.args.world.now in
    let v = world_of c.stamped_read.new.world in
    let command = c.args.command.now in
    let cs = members c.key_shards-colours.result in
    let wanted = shards (object_colours (kind_in c.args.objects.now c.args.object)) c.args.keys.now in
    does_what c.args.objects.now c.args.command.now c.requires.asks (told_refused w v command wanted (key_answering c.args.objects.now command.client c.args.object c.args.keys.now)
    shows_none c.in-Refused.colour c.in-Refused.base []
    (reads_same w v command.client cs wanted (stamped.Refused c.in-Refused.colour c.in-Refused.base)
    (set_is c.args.objects.now c.args.object c.index-objects-object.result c.key_shards-colours.result
    c.as_slice.result.now c.args.keys.now c.requires.uses.0 c.key_shards-colours.ensures c.as_slice.ensures)
    (subst (λ (x : Stamped). ReadsStamped w v command.client cs (end_in v command.client cs x)) c.in-Refused.is
    c.in_ok-stamped_read.ensures.ok)) refl)

pub returns-in-Refused-clause-folded : goal.returns-in-Refused-clause-folded
returns-in-Refused-clause-folded c =
    let w = world_of c.args.world.now in
    let v = world_of c.stamped_read.new.world in
    let client = c.args.command.now.client in
    let cs = members c.key_shards-colours.result in
    folds_stay w v c.is_whole.ensures.reached
    (read_to w v client cs (Refused c.in-Refused.colour c.in-Refused.base)
    (subst (λ (x : Stamped). ReadsStamped w v client cs (end_in v client cs x)) c.in-Refused.is
    c.in_ok-stamped_read.ensures.ok))
    c.args.objects.now c.args.folds.now c.requires.folded

pub returns-in-Ok-clause-ok : goal.returns-in-Ok-clause-ok
returns-in-Ok-clause-ok c =
    let w = world_of c.args.world.now in
    let v = world_of c.stamped_read.new.world in
    let command = c.args.command.now in
    let cs = members c.key_shards-colours.result in
    let wanted = shards (object_colours (kind_in c.args.objects.now c.args.object)) c.args.keys.now in
    does_what c.args.objects.now c.args.command.now c.requires.asks (told_whole w v command wanted (key_answering c.args.objects.now command.client c.args.object c.args.keys.now)
    shows_none c.in-Whole.stamp c.in-Whole.raises c.in-Whole.syncs (keys_read v command.client c.in-Whole.stamp wanted)
    (reads_same w v command.client cs wanted
    (stamped.Whole c.in-Whole.stamp c.in-Whole.raises c.in-Whole.syncs)
    (set_is c.args.objects.now c.args.object c.index-objects-object.result c.key_shards-colours.result
    c.as_slice.result.now c.args.keys.now c.requires.uses.0 c.key_shards-colours.ensures c.as_slice.ensures)
    (subst (λ (x : Stamped). ReadsStamped w v command.client cs (end_in v command.client cs x)) c.in-Whole.is
    c.in_ok-stamped_read.ensures.ok))
    (answers.GotKeys c.in-Whole.stamp c.in-Ok.keys c.in-Whole.raises c.in-Whole.syncs) []
    (ap (λ (l : List KeyAnswer). answers.GotKeys c.in-Whole.stamp l c.in-Whole.raises c.in-Whole.syncs)
    (c.in-Ok.ensures.values
    ∙ ap (key_answers (value_up_to v command.client (object_colours (kind_in c.args.objects.now c.args.object))
    c.in-Whole.stamp)) c.as_slice-in-Whole.ensures)) refl)

pub returns-in-Err-clause-ok : goal.returns-in-Err-clause-ok
returns-in-Err-clause-ok c =
    let w = world_of c.args.world.now in
    let v = world_of c.stamped_read.new.world in
    let command = c.args.command.now in
    let cs = members c.key_shards-colours.result in
    let wanted = shards (object_colours (kind_in c.args.objects.now c.args.object)) c.args.keys.now in
    does_what c.args.objects.now c.args.command.now c.requires.asks (told_without w v command wanted (key_answering c.args.objects.now command.client c.args.object c.args.keys.now)
    shows_none c.in-Whole.stamp c.in-Whole.raises c.in-Whole.syncs (keys_read v command.client c.in-Whole.stamp wanted)
    (reads_same w v command.client cs wanted
    (stamped.Whole c.in-Whole.stamp c.in-Whole.raises c.in-Whole.syncs)
    (set_is c.args.objects.now c.args.object c.index-objects-object.result c.key_shards-colours.result
    c.as_slice.result.now c.args.keys.now c.requires.uses.0 c.key_shards-colours.ensures c.as_slice.ensures)
    (subst (λ (x : Stamped). ReadsStamped w v command.client cs (end_in v command.client cs x)) c.in-Whole.is
    c.in_ok-stamped_read.ensures.ok)) [] refl)
