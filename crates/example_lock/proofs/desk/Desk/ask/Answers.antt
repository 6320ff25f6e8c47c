use Rattle.std.proofs.Common.{ℕ, sym, subst}
use Rattle.example_lock.specs.Desks.{Asks}
use Rattle.example_lock.proofs.Answers.{asks}
use Rattle.example_lock.proofs.desk.Desk.ask.Goals as goal

pub returns-clause-ok : goal.returns-clause-ok
returns-clause-ok g c =
    let s = c.args.store.now in
    let before = c.args.self.now.client in
    let after = c.write.new.self.client in
    let it = c.in_ok-token in
    subst (λ (n : ℕ). Asks s before after (record { token = it.token; before = n })) (sym c.unwrap_or.ensures)
    (asks s before after it.token it.told 0 it.ensures.ok)
