use Rattle.std.proofs.Common.{List, ℕ, [], map, Vec, Global, refl, subst, ap, ◌∙◌}
use Rattle.script_beside.specs.Begins.{begins_in, IsMost}
use Rattle.script_text.specs.declared.script.Command.{Command}
use Rattle.script_beside.specs.Lists.{AreOwn, AreShares}
use Rattle.script_beside.proofs.BeginLemmas.{own_counts, is_most}
use Rattle.script_beside.proofs.ListLemmas.{later_nothing, no_shares, more_shares, all_dealt}
use Rattle.script_beside.proofs.dealing.deal.Goals as goal

pub returns : goal.returns
returns c =
    let commands = c.args.script.commands in
    let count = c.len-clients.result in
    let lists = c.in_ok-lists.lists.items in
    let own = subst (λ (l : List Command). AreOwn count l lists)
    (later_nothing c.replace-commands.result ∙ c.replace-commands.ensures.value) c.in_ok-lists.ensures in
    let shares = c.in_ok-shares.shares.items in
    let after = c.put_behind.new.shares in
    all_dealt c.args.script _ after _ refl (c.replace-commands.ensures.after ∙ c.new.ensures)
    (subst (λ (n : ℕ). AreShares n commands after.items) c.len-clients.ensures
    (more_shares count [] commands lists shares after.items (no_shares count shares c.in_ok-shares.ensures) own c.in_ok-put_behind.ensures))
    (subst (λ (n : ℕ). IsMost n commands c.greatest.result) c.len-clients.ensures
    (is_most count commands c.in_ok-counts.counts.items c.greatest.result
    (own_counts count commands lists c.in_ok-counts.counts.items own
    (c.in_ok-counts.ensures ∙ ap (map (λ (l : Vec Command Global). begins_in l.items)) c.as_slice.ensures.value))
    (rw c.as_slice-2.ensures.value at c.greatest.ensures)))
