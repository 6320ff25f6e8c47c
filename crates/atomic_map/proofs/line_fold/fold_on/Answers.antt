use Rattle.std.proofs.Common.{◌≡◌, max, min, length, take, arith}
use Rattle.atomic_map.specs.Writes.{items_up_to}
use Rattle.atomic_map.proofs.LineLemmas.{first_whole, ok_so, part_long}
use Rattle.atomic_map.proofs.line_fold.fold_on.Goals as goal

pub returns-clause-low : goal.returns-clause-low
returns-clause-low c =
    let end = c.count_up_to in
    let long = part_long end.result c.args.line.now (items_up_to c.args.stamp c.args.line.now) end.ensures.taken end.ensures.bound in
    let within = c.fold_to.ensures.within in
    let low = c.requires.low in
    let bound = end.ensures.bound in
    omega (arith, long, within, low, bound)

pub returns-clause-whole : goal.returns-clause-whole
returns-clause-whole c =
    let line = c.args.line.now in
    let part = items_up_to c.args.stamp line in
    let end = c.count_up_to in
    let bound = end.ensures.bound in
    let long = part_long end.result line part end.ensures.taken bound in
    let within = c.fold_to.ensures.within in
    let low = c.requires.low in
    let count = c.fold_to.new.self.count in
    ok_so c.fold_to.result (count ≡ max c.args.kept.now.count (min end.result (length line))) (take count line ≡ part)
    (λ same. first_whole end.result count line part end.ensures.taken bound (omega (arith, same, bound))
    (omega (arith, long, within, low, bound))) c.fold_to.ensures.whole
