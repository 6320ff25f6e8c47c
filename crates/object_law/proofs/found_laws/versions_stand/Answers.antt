use Rattle.object_law.proofs.FoundVersions.{versions_stand}
use Rattle.object_law.proofs.found_laws.versions_stand.Goals as goal

pub returns : goal.returns
returns c =
    versions_stand c.finds_tell.ensures c.found_account_decides.ensures c.region_order_is_lawful.ensures c.region_order_is_unique.ensures
    c.read_items_last.ensures c.decisions_are_plain.ensures
