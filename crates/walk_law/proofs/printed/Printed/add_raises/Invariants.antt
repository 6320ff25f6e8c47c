use Rattle.std.proofs.Common.{◌≡◌, ℕ, drop, ◌&&◌, ◌||◌, ◌==◌}
use Rattle.run_rules.specs.Printed.{printed_raises}
use Rattle.run_rules.specs.Telling.{is_among}
use Rattle.walk_law.specs.PlaceTables.{is_printed}
use Rattle.walk_law.proofs.printed.Printed.add_raises.Given as goal

-- those of the raises that are left, and what is put in, are all
abbrev pub invariant-loop-raise : goal.invariant-loop-raise
invariant-loop-raise l = (n r c p : ℕ)
    → ((l.client == n) && is_among p (printed_raises l.own (drop l.raise-index l.raises) r c) || is_printed l.self n r c p)
    ≡ ((l.client == n) && is_among p (printed_raises l.own l.raises r c) || is_printed l.fn.self n r c p)
