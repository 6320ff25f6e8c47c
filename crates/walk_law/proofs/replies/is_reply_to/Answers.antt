use Rattle.std.proofs.Common.{◌∙◌, rules}
use Rattle.run_rules.specs.Told.{kept_at}
use Rattle.walk_law.proofs.Members.{ok_as}
use Rattle.walk_law.proofs.RepliesLemmas.{reply_told}
use Rattle.walk_law.proofs.replies.is_reply_to.Goals as goal

pub returns : goal.returns
returns c = λ caller step objects asked replied found.
    ok_as c.can_have.result _ _
    (λ b told. reply_told caller step c.args.command.now c.args.reply.now asked replied (search rules) (search rules) b told)
    (c.can_have.ensures caller (kept_at step) objects
    (c.as_slice.ensures ∙ c.in_ok-asked.ensures caller (kept_at step) objects found))
