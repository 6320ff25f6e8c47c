use Rattle.log_client.proofs.Telling.Hearing as hearing
use Rattle.log_client.proofs.laws.hearers_have_seen.Goals as goal

pub returns : goal.returns
returns c = hearing.hearers_have_seen
