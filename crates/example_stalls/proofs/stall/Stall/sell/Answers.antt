use Rattle.std.proofs.Common.{List, ℕ, None, IfOk, IfErr, sym, subst, ◌∙◌}
use Rattle.log_node.specs.declared.ids.Colours.{Colours}
use Rattle.log_client.specs.Appends.{AppendsAs, AppendRefused, AreColoursOf}
use Rattle.log_client.specs.Calls.{IsExplained}
use Rattle.example_stalls.specs.Stalls.{name_of}
use Rattle.example_stalls.proofs.Staying.{cups_are_of, nothing_done, stall_stays}
use Rattle.example_stalls.proofs.stall.Stall.sell.Goals as goal

pub append-requires-clause-colours : goal.append-requires-clause-colours
append-requires-clause-colours g c κs within =
    subst (AreColoursOf c.args.store.now) (sym c.of-set.ensures) (cups_are_of c.args.store.now c.requires.shop)

pub returns-clause-stall : goal.returns-clause-stall
returns-clause-stall g c =
    stall_stays c.args.store.now c.args.self.now c.append.new.self c.requires.stall c.append.ensures.client
    c.append.ensures.grows

pub returns-clause-ok : goal.returns-clause-ok
returns-clause-ok g c =
    let x = c.args.self.now.client in
    let y = c.append.new.self in
    subst (λ (set : Colours). IfOk c.append.result (λ a. IsExplained c.args.store.now x y
    (AppendsAs set (name_of c.args.self.now c.args.drink) a))) c.of-set.ensures
    (subst (λ (text : List ℕ). IfOk c.append.result (λ a. IsExplained c.args.store.now x y (AppendsAs c.of-set.result text a)))
    (c.in-Ok.ensures ∙ (c.as_bytes.ensures ∙ c.name.ensures)) c.append.ensures.ok)

pub returns-clause-err : goal.returns-clause-err
returns-clause-err g c =
    let x = c.args.self.now.client in
    let y = c.append.new.self in
    subst (λ (set : Colours). IfErr c.append.result (AppendRefused c.args.store.now x y set
    (name_of c.args.self.now c.args.drink) None)) c.of-set.ensures
    (subst (λ (text : List ℕ). IfErr c.append.result (AppendRefused c.args.store.now x y c.of-set.result text None))
    (c.in-Ok.ensures ∙ (c.as_bytes.ensures ∙ c.name.ensures)) c.append.ensures.err)

pub returns-in_default-clause-err : goal.returns-in_default-clause-err
returns-in_default-clause-err g c =
    nothing_done c.args.store.now c.args.self.now.client (name_of c.args.self.now c.args.drink)
