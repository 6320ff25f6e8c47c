use Rattle.walk_law.proofs.CopiesLemmas.{copy_not, copy_told}
use Rattle.walk_law.proofs.copies.is_true_copy.Goals as goal

pub returns-in-Some : goal.returns-in-Some
returns-in-Some c =
    copy_told c.args.origin c.args.copier c.args.journal.now c.args.copies.now c.requires.apart c.in-Some.held c.in-Some.ensures
    c.notes_within.result c.notes_within.ensures

pub returns-in-None : goal.returns-in-None
returns-in-None c =
    copy_not c.args.origin c.args.copier c.args.journal.now c.args.copies.now c.requires.apart c.in-None.ensures
