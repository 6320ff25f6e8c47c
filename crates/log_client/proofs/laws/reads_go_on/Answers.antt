use Rattle.log_client.proofs.Read.ReadLater as later
use Rattle.log_client.proofs.laws.reads_go_on.Goals as goal

pub returns : goal.returns
returns c = later.reads_go_on c.read_items_last.ensures
