use Rattle.std.proofs.Common.{ℕ, List, refl, ap, sym, subst, ◌∙◌}
use Rattle.tree_fold.specs.Readings.{path_of}
use Rattle.script_text.specs.declared.script.Kind.TheVariants as kinds
use Rattle.script_text.specs.declared.commands.What.TheVariants as whats
use Rattle.report_text.specs.declared.report.Answer.TheVariants as answers
use Rattle.run_script.specs.declared.serving.opened.Opened.{Opened}
use Rattle.run_script.specs.declared.serving.opened.Opened.TheVariants as opened
use Rattle.run_script.specs.Opened.{kind_opened}
use Rattle.run_script.specs.Serving.{GivesTo}
use Rattle.run_script.proofs.FewShown.{shows_few_each}
use Rattle.run_script.proofs.GivingObjects.{gives_unasked_of}
use Rattle.run_script.proofs.GivingTrees.{gives_list}
use Rattle.run_script.proofs.ReadsFound.{tree_not_tx}
use Rattle.run_script.proofs.serving.trees.list.Goals as goal

pub returns-in_default-clause-gives : goal.returns-in_default-clause-gives
returns-in_default-clause-gives g c =
    gives_unasked_of c.args.store.now c.args.client.now c.args.opened.now (λ (object : ℕ). whats.Ls object c.args.path) c.requires.client
    (tree_not_tx (kind_opened c.args.opened.now) c.requires.kind) (λ object. refl)

pub returns-in_default-room_for-clause-gives : goal.returns-in_default-room_for-clause-gives
returns-in_default-room_for-clause-gives g c =
    subst (λ (x : Opened). GivesTo c.args.store.now c.args.client.now c.args.client.now c.args.opened.now x
    (λ object. whats.Ls object c.args.path) answers.NoMemory) c.in-Tree.is
    (gives_unasked_of c.args.store.now c.args.client.now c.args.opened.now (λ (object : ℕ). whats.Ls object c.args.path) c.requires.client
    (tree_not_tx (kind_opened c.args.opened.now) c.requires.kind) (λ object. refl))

pub names_shown-requires-clause-few : goal.names_shown-requires-clause-few
names_shown-requires-clause-few g c =
    shows_few_each c.in-Tree.tree.colours c.in-Ok-room_for.room c.args.client.now c.list-listed.new.client c.list-listed.result
    (λ r. r.1) _ c.colour_count.ensures c.in-Ok-room_for.ensures.places c.list-listed.ensures.shows

pub returns-clause-gives : goal.returns-clause-gives
returns-clause-gives g c =
    let e = c.list-listed.ensures in
    gives_list c.args.store.now c.args.client.now c.list-listed.new.client e.client c.args.opened.now
    (opened.Tree c.list-listed.new.self) c.in-Tree.tree (ap kind_opened c.in-Tree.is)
    (ap (λ (home : ℕ). kinds.Tree home c.list-listed.new.self.colours) e.same.0
    ∙ (ap (λ (colours : List ℕ). kinds.Tree c.in-Tree.tree.home colours) e.same.1 ∙ ap kind_opened (sym c.in-Tree.is))) c.args.path
    c.in-Some.place (ap path_of (sym c.as_bytes.ensures) ∙ (sym c.in-Ok.ensures ∙ c.in-Some.is)) c.list-listed.result c.names_shown.result c.names_shown.ensures
    e.away e.ok e.err
