use Rattle.std.proofs.Common.{◌≡◌, length, arith}
use Rattle.std.proofs.lemmas.Bool.{ne_eqb}
use Rattle.script_text.proofs.FrequentLemmas.{last_full, sync_read}
use Rattle.script_text.proofs.frequent.sync.Goals as goal

pub returns-in-Ok-clause-full : goal.returns-in-Ok-clause-full
returns-in-Ok-clause-full c =
    let field = c.args.field.now in
    let whole : c.visible_front-end.result ≡ length field = omega (arith, c.visible_front-end.ensures.within, c.if-end-field.false) in
    last_full field (rw whole at c.visible_front-end.ensures.front) (ne_eqb (length field) 0 (λ e. absurd (omega (arith, e, whole, c.if-end-eq0.false))))

pub returns-in-Ok-clause-what : goal.returns-in-Ok-clause-what
returns-in-Ok-clause-what c =
    let field = c.args.field.now in
    let whole : c.visible_front-end.result ≡ length field = omega (arith, c.visible_front-end.ensures.within, c.if-end-field.false) in
    sync_read c.args.known.now field c.in-Ok.colour (rw whole at c.visible_front-end.ensures.front) c.in-Ok.ensures
