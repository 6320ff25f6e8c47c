use Rattle.std.proofs.Common.{refl}
use Rattle.log_client.proofs.reads.key_above.Goals as goal

pub returns : goal.returns
returns c = refl
