use Rattle.std.proofs.Common.{ap, ◌∙◌, rules}
use Rattle.log_node.specs.declared.ids.Counts.{Counts}
use Rattle.log_node.specs.Vectors.{at}
use Rattle.object_fold.proofs.CausalLemmas.{counts_fed}
use Rattle.object_fold.proofs.causal_map.CausalMap.counts.Goals as goal

pub returns-clause-value : goal.returns-clause-value
returns-clause-value c = search rules

pub returns-clause-fed : goal.returns-clause-fed
returns-clause-fed c = λ played is region few.
    ap (λ (v : Counts). at v region) (returns-clause-value c) ∙ counts_fed c.args.self.now played is region few
