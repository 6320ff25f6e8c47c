use Rattle.std.proofs.Common.{subst}
use Rattle.std.specs.Prelude.{List}
use mathlib.Core.List.{IsPrefix}
use Rattle.chain_store.specs.declared.told.Told.{Told}
use Rattle.chain_store.specs.Holds.{seen_in}
use Rattle.tests_log.proofs.Knowing.{append_heard}
use Rattle.tests_log.proofs.tests.regions.hears.Goals as goal

pub returns-clause-seen : goal.returns-clause-seen
returns-clause-seen c k =
    subst (λ (l : List Told). IsPrefix l (seen_in c.hear.new.hold k)) (c.in_ok-note.ensures.note.1.seen k)
    (c.hear.ensures.hears.seen k).1

pub returns-clause-knows : goal.returns-clause-knows
returns-clause-knows c =
    append_heard c.args.region.now c.args.one.now c.args.two.now c.hear.new.hold c.in_ok-note.note c.args.begun.now
    c.requires.one.0 c.hear.ensures.hold c.in_ok-note.ensures.note.1 c.hear.ensures.hears c.requires.two.1 c.requires.one.1
