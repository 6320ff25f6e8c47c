use Rattle.std.proofs.Common.{◌++◌, ◌∷◌, [], subst}
use Rattle.log_node.specs.declared.forms.Form.{Form}
use Rattle.object_fold.specs.Nodes.{keyed_node}
use Rattle.atomic_map.specs.Writes.{HoldsShardWrites, IsWritten}
use Rattle.atomic_map.proofs.WriteLemmas.{ok_so, one_more}
use Rattle.atomic_map.proofs.line_fold.LineWritesLineFold.feed.Goals as goal

pub returns-clause-ok : goal.returns-clause-ok
returns-clause-ok c = λ nodes stands.
    let old = c.args.self.now in
    let new = c.apply.new.self in
    let node = keyed_node c.args.key c.args.node.now in
    ok_so c.apply.result (IsWritten old node c.in_ok-form.form new) (HoldsShardWrites new (nodes ++ node ∷ [])) c.apply.ensures.ok
    (λ writes. one_more old new nodes node c.apply.ensures.colours
    (subst (λ (form : Form). IsWritten old node form new) c.in_ok-form.ensures.form writes) stands)
