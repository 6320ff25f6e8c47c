use Rattle.std.proofs.Common.{◌≡◌, ◌∙◌, sym, ap, refl, subst, rules, None}
use Rattle.script_text.specs.declared.uses.Use.TheVariants.{OfLog, OfObject}
use Rattle.script_text.specs.declared.uses.ReadUse.TheVariants.{Leaves, Takes, UsesUp}
use Rattle.walk_law.specs.Keepings.{IsFoundAt}
use Rattle.walk_law.specs.Replies.{place_read}
use Rattle.walk_law.proofs.RepliesLemmas.{found_in, found_there, past_by}
use Rattle.walk_law.proofs.replies.Progress.read.Goals as goal

pub returns-in-OfObject-default-Takes-clause-reads : goal.returns-in-OfObject-default-Takes-clause-reads
returns-in-OfObject-default-Takes-clause-reads c log caller shown kept replies at reads =
    let w = c.in-OfObject-default-Takes in
    let answer = c.args.reply.now.answer in
    past_by replies kept log caller shown c.args.command.now c.args.reply.now c.keep-in-OfObject-default-Takes.new.self.reads (OfObject w.object Takes)
    (sym c.use_of.ensures ∙ (w.is ∙ ap (OfObject w.object) w.read-is))
    (c.keep-in-OfObject-default-Takes.ensures.reads replies kept.reads (found_in answer)
    (subst (IsFoundAt replies (found_in answer)) (sym (c.place_read.ensures ∙ ap (place_read answer) (let e : c.keep.inside.next ≡ c.args.self.now.next = search rules in e)))
    (found_there replies c.args.self.now.next c.args.reply.now at answer refl)) reads)

pub returns-in-OfObject-default-UsesUp-clause-reads : goal.returns-in-OfObject-default-UsesUp-clause-reads
returns-in-OfObject-default-UsesUp-clause-reads c log caller shown kept replies at reads =
    let w = c.in-OfObject-default-UsesUp in
    past_by replies kept log caller shown c.args.command.now c.args.reply.now c.keep-in-OfObject-default-UsesUp.new.self.reads (OfObject w.object UsesUp)
    (sym c.use_of.ensures ∙ (w.is ∙ ap (OfObject w.object) w.read-is))
    (c.keep-in-OfObject-default-UsesUp.ensures.reads replies kept.reads None tt reads)

pub returns-in-OfObject-default-Leaves-clause-reads : goal.returns-in-OfObject-default-Leaves-clause-reads
returns-in-OfObject-default-Leaves-clause-reads c log caller shown kept replies at reads =
    let w = c.in-OfObject-default-Leaves in
    past_by replies kept log caller shown c.args.command.now c.args.reply.now c.args.self.now.reads (OfObject w._object Leaves)
    (sym c.use_of.ensures ∙ (w.is ∙ ap (OfObject w._object) w.read-is)) reads

pub returns-in-OfLog-clause-reads : goal.returns-in-OfLog-clause-reads
returns-in-OfLog-clause-reads c log caller shown kept replies at reads =
    let w = c.in-OfLog in
    past_by replies kept log caller shown c.args.command.now c.args.reply.now c.args.self.now.reads (OfLog w._stops)
    (sym c.use_of.ensures ∙ w.is) reads
