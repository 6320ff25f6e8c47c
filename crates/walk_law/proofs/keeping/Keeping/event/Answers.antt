use Rattle.std.proofs.Common.{[], ◌∷◌, ◌++◌}
use Rattle.col_core.specs.Keeping.{updated_at}
use Rattle.walk_law.proofs.keeping.Keeping.event.Goals as goal

pub returns-clause-kept : goal.returns-clause-kept
returns-clause-kept c replies kept s =
    c.see.ensures.kept replies
    (record kept {
      made = updated_at kept.made c.args.region c.args.colour
          (kept.made c.args.region c.args.colour ++ c.args.place ∷ []);
    })
    (c.in_ok-make.ensures.kept replies kept s)
