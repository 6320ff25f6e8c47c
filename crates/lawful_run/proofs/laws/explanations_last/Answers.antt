use Rattle.lawful_run.proofs.Later.{explained_later}
use Rattle.lawful_run.proofs.laws.explanations_last.Goals as goal

pub returns : goal.returns
returns c = λ old new later caller commands replies kept e. explained_later old new later caller e
