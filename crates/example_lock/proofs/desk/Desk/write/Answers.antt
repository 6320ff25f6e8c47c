use Rattle.std.proofs.Common.{◌≡◌, sym, subst, ◌∙◌}
use Rattle.std.proofs.lemmas.Result.{err_from_is_err_and}
use Rattle.log_node.specs.declared.ids.Colours.{Colours}
use Rattle.log_node.specs.Sets.{members}
use Rattle.log_client.specs.Appends.{AreColoursOf}
use Rattle.region_fold.specs.Reads.{AreOfObject}
use Rattle.example_lock.specs.Desks.{lock_colours}
use Rattle.example_lock.proofs.Answers.{writes, write_refused}
use Rattle.example_lock.proofs.Colours.{own_is, set_is}
use Rattle.example_lock.proofs.desk.Desk.write.Goals as goal

pub append_and_read-requires-clause-set : goal.append_and_read-requires-clause-set
append_and_read-requires-clause-set g c κs within =
    subst (AreColoursOf c.args.store.now) (sym c.of-set.ensures) (set_is c.args.store.now c.requires.colour)

pub append_and_read-requires-clause-own : goal.append_and_read-requires-clause-own
append_and_read-requires-clause-own g c κs within =
    subst (λ (set : Colours). AreOfObject lock_colours (members set)) (sym c.of-set.ensures) own_is

pub returns-in_err-told-clause-err : goal.returns-in_err-told-clause-err
returns-in_err-told-clause-err g c =
    let p = err_from_is_err_and c.from_residual.result c.from_residual.ensures.1 in
    let same : c.in-Ok.text ≡ c.args.text.now = c.in-Ok.ensures ∙ c.as_bytes.ensures.value in
    rw (p.1, p.2) (write_refused c.args.store.now c.args.self.now.client c.append_and_read.new.client c.args.text.now c.in-Ok.text
    c.in_err-told.field-0.0 c.of-set.result c.of-set.ensures same c.in_err-told.ensures.err)

pub returns-clause-ok : goal.returns-clause-ok
returns-clause-ok g c =
    writes c.args.store.now c.args.self.now.client c.append_and_read.new.client c.args.text.now c.in-Ok.text c.in_ok-told.told
    c.in_ok-told.own c.in_ok-told._read c.args.self.now.fold.kept.last c.of-set.result c.of-set.ensures (c.in-Ok.ensures ∙ c.as_bytes.ensures.value)
    c.in_ok-told.ensures.ok
