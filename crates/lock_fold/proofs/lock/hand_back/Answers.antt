use Rattle.std.specs.Prelude.{◌==◌, not}
use Rattle.std.proofs.Common.{rules}
use Rattle.std.proofs.lemmas.Fn.{filter_same}
use Rattle.lock_fold.specs.declared.lock.Ticket.{Ticket}
use Rattle.lock_fold.proofs.lock.hand_back.Goals as goal

pub returns : goal.returns
returns c =
    filter_same _ (λ (t : Ticket). not (t.client == c.args.client)) _ (λ x b f' k. search rules) _ _ c.retain.ensures.filtered
