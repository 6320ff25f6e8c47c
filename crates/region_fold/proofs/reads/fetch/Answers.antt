use Rattle.std.proofs.Common.{List, ℕ, IfErr, IfOk, ap, sym, subst, ◌∙◌}
use Rattle.log_node.specs.Sets.{members}
use Rattle.log_node.proofs.CallerLemmas.{members-set_of}
use Rattle.log_client.specs.Appends.{AreColoursOf}
use Rattle.log_client.specs.StampedReads.{ReadHidden, ReadRefused}
use Rattle.region_fold.proofs.ReadAnswers.{all_of_store, fetched, shows_each}
use Rattle.region_fold.proofs.reads.fetch.Goals as goal

pub read_on-requires-clause-colours : goal.read_on-requires-clause-colours
read_on-requires-clause-colours g c =
    subst (AreColoursOf c.args.store.now) (sym c.of.ensures)
    (all_of_store c.args.store.now c.args.client.now c.args.colours.now c.requires.client c.requires.colours)

pub returns-clause-ok : goal.returns-clause-ok
returns-clause-ok g c =
    let e = c.read_on.ensures in
    fetched c.args.store.now c.args.client.now c.read_on.new.self c.args.colours.now c.of.result
    (subst (AreColoursOf c.args.store.now) (sym c.of.ensures)
    (all_of_store c.args.store.now c.args.client.now c.args.colours.now c.requires.client c.requires.colours))
    (ap members c.of.ensures ∙ members-set_of c.args.colours.now) c.args.last c.read_on.result e.above e.ok e.named

pub returns-clause-shows : goal.returns-clause-shows
returns-clause-shows g c =
    let e = c.read_on.ensures in
    shows_each c.args.client.now c.read_on.new.self c.args.colours.now (members c.of.result)
    (ap members c.of.ensures ∙ members-set_of c.args.colours.now) c.read_on.result e.raises e.syncs e.played

pub returns-clause-hidden : goal.returns-clause-hidden
returns-clause-hidden g c =
    subst (λ (l : List ℕ). IfOk c.read_on.result (λ read. ReadHidden c.args.store.now c.args.client.now c.read_on.new.self l))
    (ap members c.of.ensures ∙ members-set_of c.args.colours.now) c.read_on.ensures.hidden

pub returns-clause-err : goal.returns-clause-err
returns-clause-err g c =
    subst (λ (l : List ℕ). IfErr c.read_on.result (ReadRefused c.args.store.now c.args.client.now c.read_on.new.self l))
    (ap members c.of.ensures ∙ members-set_of c.args.colours.now) c.read_on.ensures.err
