use Rattle.std.proofs.Common.{rules}
use Rattle.walk_law.proofs.ReadingLemmas.{sync_told}
use Rattle.walk_law.proofs.keeping.Keeping.is_sync.Goals as goal

pub returns : goal.returns
returns c = λ nodes kept low is.
    sync_told c.args.subject.now nodes c.args.client kept c.args.self.now is c.args.sync c.seen-seen.result c.known.result c.start.result
    c.mark-mark.result c.known.ensures c.start.ensures c.own-own.result c.own-own.ensures.own (search rules)
    c.seen-seen.ensures c.mark-mark.ensures (search rules) c.is_synced_at.result c.is_synced_at.ensures
