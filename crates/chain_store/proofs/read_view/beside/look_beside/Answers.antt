use Rattle.std.proofs.Common.{refl}
use Rattle.chain_store.proofs.CopySteps.{finds}
use Rattle.chain_store.proofs.read_view.beside.look_beside.Goals as goal

pub enter_as-requires : goal.enter_as-requires
enter_as-requires c x views h at = finds _ _ x x h.0 refl views h at
