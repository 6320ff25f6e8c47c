use Rattle.lawful_run.proofs.ReadItems.{read_items_stay}
use Rattle.lawful_run.proofs.laws.read_items_last.Goals as goal

pub returns : goal.returns
returns c = read_items_stay
