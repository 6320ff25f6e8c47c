use Rattle.std.proofs.Common.{List, ℕ, IfErr, IfOk, ap, arith, sym, subst, ◌∙◌}
use Rattle.log_node.specs.Sets.{members}
use Rattle.log_node.proofs.CallerLemmas.{members-one}
use Rattle.log_client.specs.Appends.{AreColoursOf}
use Rattle.log_client.specs.StampedReads.{ReadRefused, ReadsAll}
use Rattle.example_stalls.specs.Stalls.{cups}
use Rattle.example_stalls.proofs.Staying.{cups_are_of, stall_stays}
use Rattle.example_stalls.proofs.stall.Stall.own_cups.Goals as goal

pub stamped_read-requires-clause-colours : goal.stamped_read-requires-clause-colours
stamped_read-requires-clause-colours g c =
    subst (AreColoursOf c.args.store.now) (sym c.of.ensures) (cups_are_of c.args.store.now c.requires.shop)

pub returns-clause-stall : goal.returns-clause-stall
returns-clause-stall g c =
    stall_stays c.args.store.now c.args.self.now c.stamped_read.new.self c.requires.stall c.stamped_read.ensures.client
    c.stamped_read.ensures.grows

pub returns-clause-ok : goal.returns-clause-ok
returns-clause-ok g c =
    subst (λ (l : List ℕ). IfOk c.stamped_read.result (ReadsAll c.args.store.now c.args.self.now.client c.stamped_read.new.self l))
    (ap members c.of.ensures ∙ members-one cups (omega arith)) c.stamped_read.ensures.ok

pub returns-clause-err : goal.returns-clause-err
returns-clause-err g c =
    subst (λ (l : List ℕ). IfErr c.stamped_read.result (ReadRefused c.args.store.now c.args.self.now.client c.stamped_read.new.self l))
    (ap members c.of.ensures ∙ members-one cups (omega arith)) c.stamped_read.ensures.err
