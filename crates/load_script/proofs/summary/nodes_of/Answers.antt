use Rattle.std.proofs.Common.{rules}
use Rattle.std.proofs.lemmas.Iterator.{YieldsList-from_slice}
use Rattle.std.proofs.lemmas.Iterator.Consumers.{YieldsList-from_filter, count_from_yields_List}
use borrow.Author.Tests.{tests}
use Rattle.load_script.specs.Summing.{appends}
use Rattle.load_script.proofs.summary.nodes_of.Goals as goal

pub returns : goal.returns
returns c = count_from_yields_List c.filter.result c.count.result c.count.ensures.ran
    (YieldsList-from_filter _ appends (YieldsList-from_slice c.args.commands.now cc) c.filter.ensures.closure
    (λ x r q k. search (rules, tests)))
