use Rattle.walk_law.proofs.TableLemmas.{none_is}
use Rattle.walk_law.proofs.ToldLemmas.{unproposed_told}
use Rattle.walk_law.proofs.rows.is_unproposed.Goals as goal

pub returns : goal.returns
returns c =
    unproposed_told c.args.id c.args.journal.now c.is_none.result c.proposal_in.result
    (none_is c.proposal_in.result c.is_none.result c.is_none.ensures) c.proposal_in.ensures
