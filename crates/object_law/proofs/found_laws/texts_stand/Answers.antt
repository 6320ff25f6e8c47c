use Rattle.object_law.proofs.FoundTexts.{texts_stand}
use Rattle.object_law.proofs.found_laws.texts_stand.Goals as goal

pub returns : goal.returns
returns c =
    texts_stand c.finds_tell.ensures c.found_account_decides.ensures c.region_order_is_lawful.ensures c.decisions_are_plain.ensures
