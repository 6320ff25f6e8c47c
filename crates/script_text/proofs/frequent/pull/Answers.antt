use Rattle.std.proofs.Common.{◌≡◌, length, arith}
use Rattle.std.proofs.lemmas.Bool.{ne_eqb}
use Rattle.script_text.proofs.FrequentLemmas.{first_full, last_full, pull_read}
use Rattle.script_text.proofs.frequent.pull.Goals as goal

pub returns-in-Ok-colour_at-clause-full : goal.returns-in-Ok-colour_at-clause-full
returns-in-Ok-colour_at-clause-full c =
    let field = c.in-Some.field.now in
    let cut = c.in-Some.ensures in
    let whole : c.visible_front-end.result ≡ length field = omega (arith, c.visible_front-end.ensures.within, c.if-end-field.false) in
    first_full c.args.args.now c.in-Some.name.now field cut.fields cut.ascii cut.full
    (last_full field (rw whole at c.visible_front-end.ensures.front) (ne_eqb (length field) 0 (λ e. absurd (omega (arith, e, whole, c.if-end-eq0.false)))))

pub returns-in-Ok-colour_at-clause-what : goal.returns-in-Ok-colour_at-clause-what
returns-in-Ok-colour_at-clause-what c =
    let field = c.in-Some.field.now in
    let whole : c.visible_front-end.result ≡ length field = omega (arith, c.visible_front-end.ensures.within, c.if-end-field.false) in
    pull_read c.args.known.now c.args.args.now c.in-Some.name.now field c.in-Ok.region c.in-Ok-colour_at.colour c.in-Some.ensures.fields (rw whole at c.visible_front-end.ensures.front) c.in-Ok.ensures c.in-Ok-colour_at.ensures
