use Rattle.log_map.proofs.MapAnswers.{unopened}
use Rattle.log_map.proofs.map.LogMap.open.Goals as goal

pub returns-clause-map : goal.returns-clause-map
returns-clause-map c = λ client are.
    unopened client (record { home = c.args.home; colours = c.args.colours; shards = c.new.result }) are c.new.ensures.items
