use Rattle.std.proofs.Common.{◌==◌}
use Rattle.run_rules.specs.Printed.{printed_end, printed_raises}
use Rattle.walk_law.specs.PlaceTables.{is_printed}
use Rattle.walk_law.proofs.PrintLemmas.{both_parts}
use Rattle.walk_law.proofs.printed.Printed.add_decided.Goals as goal

pub returns : goal.returns
returns c = λ n r k p.
    both_parts (c.args.client == n) p (printed_raises c.args.own c.args.raises.now r k)
    (printed_end c.args.own c.args.ended.now r k) (is_printed c.args.self.now n r k p) (is_printed c.add_raises.new.self n r k p)
    (is_printed c.add_end.new.self n r k p) (c.in_ok-add_raises.ensures n r k p) (c.in_ok-add_end.ensures n r k p)
