use Rattle.std.proofs.Common.{◌≡◌, ℕ, drop, ◌&&◌, ◌||◌, ◌==◌}
use Rattle.lawful_run.specs.Callers.{caller_of, commands_of}
use Rattle.run_rules.specs.Printed.{printed_all}
use Rattle.run_rules.specs.Telling.{is_among}
use Rattle.walk_law.specs.PlaceTables.{is_printed}
use Rattle.walk_law.proofs.printed.Printed.add_client.Given as goal

-- those of the replies that are left, and what is put in, are all
abbrev pub invariant-loop-at : goal.invariant-loop-at
invariant-loop-at l = (n r c p : ℕ)
    → ((l.client == n) && is_among p (printed_all (caller_of l.script l.client).own (drop l.at (commands_of l.script l.client)) (drop l.at l.replies) r c)
    || is_printed l.self n r c p)
    ≡ ((l.client == n) && is_among p (printed_all (caller_of l.script l.client).own (commands_of l.script l.client) l.replies r c)
    || is_printed l.fn.self n r c p)
