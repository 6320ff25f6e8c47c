use Rattle.std.proofs.Common.{List, map, subst}
use Rattle.script_text.specs.declared.script.Command.{Command}
use Rattle.script_beside.specs.Joining.{later}
use Rattle.script_beside.specs.Lists.{HaveOwn}
use Rattle.script_beside.proofs.ListLemmas.{given_all}
use Rattle.script_beside.proofs.lists.own_lists.Goals as goal

pub returns : goal.returns
returns c =
    let lists = c.in_ok-lists.lists.items in
    let given = c.give.new.lists.items in
    given_all c.args.clients (map (later c.args.before) c.args.commands) lists given c.in_ok-lists.ensures
    (subst (λ (l : List Command). HaveOwn (map (later c.args.before) l) lists given) c.into_vec.ensures c.in_ok-give.ensures)
