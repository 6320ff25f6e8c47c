use Rattle.std.proofs.Common.{◌<◌, List, length, subst}
use Rattle.col_core.specs.declared.Entry.{Entry}
use Rattle.chain_store.proofs.Moving.{raise_gains}
use Rattle.chain_store.proofs.seated.Seated.raise.Goals as goal

pub returns-in-Ok-clause-raised : goal.returns-in-Ok-clause-raised
returns-in-Ok-clause-raised c =
    (raise_gains c.args.self.now.column c.raise.new.self c.args.self.now.seat c.args.self.now.rings c.args.by
    (subst (λ (l : List Entry). length l < 18446744073709551616) c.journal-few.ensures c.journal-few.type_inv.0)
    c.requires.maker c.args.to c.clock.result c.clock.ensures c.in-Ok.ensures.column c.requires.to).0

pub returns-in-Ok-clause-look : goal.returns-in-Ok-clause-look
returns-in-Ok-clause-look c =
    (raise_gains c.args.self.now.column c.raise.new.self c.args.self.now.seat c.args.self.now.rings c.args.by
    (subst (λ (l : List Entry). length l < 18446744073709551616) c.journal-few.ensures c.journal-few.type_inv.0)
    c.requires.maker c.args.to c.clock.result c.clock.ensures c.in-Ok.ensures.column c.requires.to).1
