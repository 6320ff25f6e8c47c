use Rattle.std.proofs.Common.{◌≡◌, ◌∙◌, ap, subst, ℕ, ◌++◌, arith}
use Rattle.col_core.specs.Keeping.{Kept, updated_at, kept_after_look, seen_past}
use Rattle.walk_law.specs.Keepings.{IsCounted}
use Rattle.walk_law.proofs.keeping.Keeping.places.Goals as goal

pub returns-clause-kept : goal.returns-clause-kept
returns-clause-kept c replies kept s =
    let made : Kept = record kept {
      made = updated_at kept.made c.args.region c.args.colour
          (kept.made c.args.region c.args.colour ++ c.args.places.now);
    } in
    let m : IsCounted replies made c.make.new.self = c.in_ok-make.ensures.kept replies kept s in
    let seen : c.seen.result ≡ kept.seen c.args.region c.args.colour =
    c.seen.ensures ∙ m.seen c.args.region c.args.colour (omega arith, omega arith) in
    let e : c.seen_past.result ≡ seen_past (kept.seen c.args.region c.args.colour) c.args.places.now =
    c.seen_past.ensures ∙ ap (λ (n : ℕ). seen_past n c.args.places.now) seen in
    subst (λ (n : ℕ). IsCounted replies (kept_after_look made c.args.region c.args.colour n) c.see.new.self) e
    (c.see.ensures.kept replies made m)
