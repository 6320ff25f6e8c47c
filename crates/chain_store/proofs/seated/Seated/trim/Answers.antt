use Rattle.std.proofs.Common.{◌<◌, List, length, subst}
use Rattle.col_core.specs.declared.Entry.{Entry}
use Rattle.chain_store.proofs.Moving.{trim_gains}
use Rattle.chain_store.proofs.seated.Seated.trim.Goals as goal

pub returns-in-Ok-clause-ok : goal.returns-in-Ok-clause-ok
returns-in-Ok-clause-ok c =
    trim_gains c.args.self.now.column c.trim.new.self c.args.self.now.seat c.args.self.now.rings c.args.by
    (subst (λ (l : List Entry). length l < 18446744073709551616) c.journal-few.ensures c.journal-few.type_inv.0)
    c.requires.maker c.args.counts c.in-Ok.ensures.column
