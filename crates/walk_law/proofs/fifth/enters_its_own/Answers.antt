use Rattle.std.proofs.Common.{◌∙◌, ◌<◌, arith, length}
use Rattle.walk_law.proofs.EnteringLemmas.{own_off, own_told}
use Rattle.walk_law.proofs.fifth.enters_its_own.Goals as goal

pub returns-in-Some : goal.returns-in-Some
returns-in-Some c =
    let client = c.args.client in
    let walker = c.requires.walker in
    let many = c.agrees.ensures.clients in
    let low : client < length c.args.subject.now.script.shape.homes = omega (arith, walker, many) in
    own_told c.args.subject.now client c.args.places.now c.requires.places c.in_ok-keeping.field-0 c.in-Some.keeping c.in-Some.is
    c.in_ok-keeping.ensures c.places.result.now (c.places.ensures ∙ c.requires.ids client low) c.has_its_rows.result
    c.has_its_rows.ensures

pub returns-in-None : goal.returns-in-None
returns-in-None c =
    own_off c.args.subject.now c.args.client c.args.places.now c.requires.places c.in_ok-keeping.field-0 c.in-None.is
    c.in_ok-keeping.ensures
