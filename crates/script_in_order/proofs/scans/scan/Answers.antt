use Rattle.std.proofs.Common.{subst}
use Rattle.log_node.specs.Sets.{members}
use Rattle.world_code.specs.WorldView.{world_of}
use Rattle.script_meaning.specs.Stamped.{keys_read}
use Rattle.script_in_order.specs.declared.stamped.Stamped.{Stamped}
use Rattle.script_in_order.specs.Stamped.{ReadsStamped, end_in}
use Rattle.script_in_order.proofs.StampedWholes.{scan_answers, scan_shows, scans_whole, told_without, told_refused, told_unraised}
use Rattle.script_in_order.proofs.CommandKinds.{does_what}
use Rattle.script_in_order.proofs.scans.scan.Goals as goal

pub returns-in-Unraised-clause-ok : goal.returns-in-Unraised-clause-ok
returns-in-Unraised-clause-ok c =
    let old = world_of c.args.world.now in
    let new = world_of c.stamped_read.new.world in
    let command = c.args.command.now in
    let cs = members c.args.colours in
    does_what c.args.objects.now c.args.command.now c.requires.asks (told_unraised old new command cs scan_answers scan_shows c.args.nodes.now
    (subst (λ (s : Stamped). ReadsStamped old new command.client cs (end_in new command.client cs s)) c.in-Unraised.is
    c.in_ok-stamped_read.ensures.ok) c.requires.none)

pub returns-in-Refused-clause-ok : goal.returns-in-Refused-clause-ok
returns-in-Refused-clause-ok c =
    let old = world_of c.args.world.now in
    let new = world_of c.stamped_read.new.world in
    let command = c.args.command.now in
    let cs = members c.args.colours in
    does_what c.args.objects.now c.args.command.now c.requires.asks (told_refused old new command cs scan_answers scan_shows c.in-Refused.colour c.in-Refused.base
    c.args.nodes.now
    (subst (λ (s : Stamped). ReadsStamped old new command.client cs (end_in new command.client cs s)) c.in-Refused.is
    c.in_ok-stamped_read.ensures.ok) c.requires.none)

pub returns-in-Ok-clause-ok : goal.returns-in-Ok-clause-ok
returns-in-Ok-clause-ok c =
    let old = world_of c.args.world.now in
    let new = world_of c.stamped_read.new.world in
    let command = c.args.command.now in
    let cs = members c.args.colours in
    does_what c.args.objects.now c.args.command.now c.requires.asks (scans_whole old new command cs c.in-Whole.stamp c.len-count.result c.in-Whole.raises c.in-Whole.syncs
    (keys_read new command.client c.in-Whole.stamp cs) c.in-Ok.items
    (subst (λ (s : Stamped). ReadsStamped old new command.client cs (end_in new command.client cs s)) c.in-Whole.is
    c.in_ok-stamped_read.ensures.ok) c.in-Ok.ensures c.len-count.ensures)

pub returns-in-Err-clause-ok : goal.returns-in-Err-clause-ok
returns-in-Err-clause-ok c =
    let old = world_of c.args.world.now in
    let new = world_of c.stamped_read.new.world in
    let command = c.args.command.now in
    let cs = members c.args.colours in
    does_what c.args.objects.now c.args.command.now c.requires.asks (told_without old new command cs scan_answers scan_shows c.in-Whole.stamp c.in-Whole.raises c.in-Whole.syncs
    (keys_read new command.client c.in-Whole.stamp cs)
    (subst (λ (s : Stamped). ReadsStamped old new command.client cs (end_in new command.client cs s)) c.in-Whole.is
    c.in_ok-stamped_read.ensures.ok) c.args.nodes.now c.requires.none)
