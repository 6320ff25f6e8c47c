use Rattle.std.proofs.Common.{◌≡◌, ◌∙◌, IfOk, List, subst}
use Rattle.log_node.specs.Sets.{members}
use Rattle.object_fold.specs.Maps.{Value}
use Rattle.atomic_map.proofs.MapLines.{few_tested, opens_goes, opens_map}
use Rattle.atomic_map.proofs.MapReads.{values_are}
use Rattle.atomic_map.proofs.atomic.AtomicMap.values_read.Goals as goal

pub open_lines-requires : goal.open_lines-requires
open_lines-requires c = few_tested c.args.self.now.colours c.requires.map.colours.few

pub fold_on-requires-clause-map : goal.fold_on-requires-clause-map
fold_on-requires-clause-map c =
    opens_map c.args.client.now c.args.self.now c.open_lines.new.self c.open_lines.ensures.opens c.requires.map

pub fold_on-requires-clause-goes : goal.fold_on-requires-clause-goes
fold_on-requires-clause-goes c =
    opens_goes c.args.client.now c.args.self.now c.open_lines.new.self c.args.read.now.stamp (members c.args.set)
    c.open_lines.ensures.opens c.requires.goes

pub returns-clause-map : goal.returns-clause-map
returns-clause-map c = record { colours = c.fold_on.ensures.map.colours; lines = c.fold_on.ensures.map.lines }

pub returns-clause-values : goal.returns-clause-values
returns-clause-values c =
    subst (λ (vs : List Value). IfOk c.values.result (λ values. values ≡ vs))
    (values_are c.args.client.now c.fold_on.new.self c.args.self.now.colours c.args.read.now.stamp (members c.args.set)
    c.args.keys.now c.fold_on.ensures.map (c.fold_on.ensures.same.1 ∙ c.open_lines.ensures.opens.same.1)
    c.in_ok-fold_on.ensures.whole) c.values.ensures.values
