use Rattle.walk_law.proofs.PrintLemmas.{one_print}
use Rattle.walk_law.proofs.printed.Printed.add.Goals as goal

pub returns : goal.returns
returns c = one_print c.args.self.now.prints.keys c.insert.new.self.keys
    (record { client = c.args.client; region = c.args.region; colour = c.args.colour; place = c.args.place }) c.in_ok-insert.ensures.updates.0
