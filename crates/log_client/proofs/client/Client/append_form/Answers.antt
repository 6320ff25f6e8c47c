use Rattle.object_form.specs.Forms.{form_text}
use Rattle.log_client.proofs.Object.ObjectAppends.{append_stood, append_left, stands_in}
use Rattle.log_client.proofs.client.Client.append_form.Goals as goal

pub returns-in-Ok-append-clause-client : goal.returns-in-Ok-append-clause-client
returns-in-Ok-append-clause-client g c =
    let e = c.in-Ok-append.ensures in
    append_stood c.args.store.now c.args.self.now c.append.new.self e.client e.same e.goes e.grows c.in-Ok-append.appended
    e.finished

pub returns-in-Ok-append-clause-ok : goal.returns-in-Ok-append-clause-ok
returns-in-Ok-append-clause-ok g c =
    let e = c.in-Ok-append.ensures in
    stands_in c.args.store.now c.args.self.now c.append.new.self e.client e.same e.goes e.grows c.args.colours c.in-Ok.text
    (form_text c.args.form) c.in-Ok-append.appended c.in-Ok.ensures e.ok e.points

pub returns-in-Err-clause-client : goal.returns-in-Err-clause-client
returns-in-Err-clause-client g c =
    let e = c.in-Err.ensures in
    append_left c.args.store.now c.args.self.now c.append.new.self e.client e.same e.goes e.grows c.args.colours c.in-Ok.text
    c.in-Err.fault e.finished e.err
