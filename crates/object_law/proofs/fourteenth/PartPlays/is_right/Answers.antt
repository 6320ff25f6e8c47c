use Rattle.std.proofs.Common.{Bool, IfOk, List, ap, arith, subst, sym, ℕ}
use Rattle.report_text.specs.declared.report.Answer.{Answer}
use Rattle.lawful_run.specs.Asks.{object_colours}
use Rattle.lawful_run.specs.Callers.{caller_of}
use Rattle.walk_law.proofs.CallerLemmas.{few_colours}
use Rattle.column_track.specs.Tracks.{Tells}
use Rattle.run_rules.specs.Answering.{CanHave}
use Rattle.object_law.specs.Fourteenth.{IsDecision, IsPartAnswer}
use Rattle.object_law.proofs.PartLemmas.{own_are}
use Rattle.object_law.proofs.fourteenth.PartPlays.is_right.Goals as goal

pub is_decision-requires-clause-own : goal.is_decision-requires-clause-own
is_decision-requires-clause-own c =
    (own_are c.args.subject.now.script c.agrees.ensures.may.1.fitting c.requires.stands.differ c.args.client c.args.what.now
    c.in-Some.own.now (sym (c.in-Some.ensures c.args.client))).within

pub is_decision-requires-clause-low : goal.is_decision-requires-clause-low
is_decision-requires-clause-low c = λ k d lt.
    let low = (own_are c.args.subject.now.script c.agrees.ensures.may.1.fitting c.requires.stands.differ c.args.client c.args.what.now
    c.in-Some.own.now (sym (c.in-Some.ensures c.args.client))).within.below k d lt in
    let few = few_colours c.args.subject.now.script c.agrees.ensures.may.1.fitting in
    omega (arith, low, few)

pub is_decision-requires-clause-differ : goal.is_decision-requires-clause-differ
is_decision-requires-clause-differ c =
    (own_are c.args.subject.now.script c.agrees.ensures.may.1.fitting c.requires.stands.differ c.args.client c.args.what.now
    c.in-Some.own.now (sym (c.in-Some.ensures c.args.client))).differ

pub returns-in-Got-clause-told : goal.returns-in-Got-clause-told
returns-in-Got-clause-told c = λ kept lines ids can.
    let walked = c.args.subject.now in
    let caller = caller_of walked.script c.args.client in
    let what = c.args.what.now in
    let have = subst (CanHave caller kept what lines) c.in-Got.is can in
    subst (λ (a : Answer). IfOk c.has_value.result (λ (b : Bool). Tells b (IsPartAnswer walked c.args.nodes.now caller kept what a)))
    (sym c.in-Got.is) (c.has_value.ensures.told have.1)

pub returns-in-Undecided-clause-told : goal.returns-in-Undecided-clause-told
returns-in-Undecided-clause-told c = λ kept lines ids can.
    let walked = c.args.subject.now in
    let caller = caller_of walked.script c.args.client in
    let what = c.args.what.now in
    let have = subst (CanHave caller kept what lines) c.in-Undecided.is can in
    subst (λ (a : Answer). IfOk c.is_undecided.result (λ (b : Bool). Tells b (IsPartAnswer walked c.args.nodes.now caller kept what a)))
    (sym c.in-Undecided.is) (c.is_undecided.ensures.told have.1 have.2 have.3 have.4)

pub returns-in-Some-clause-told : goal.returns-in-Some-clause-told
returns-in-Some-clause-told c = λ kept lines ids can.
    let walked = c.args.subject.now in
    let caller = caller_of walked.script c.args.client in
    let what = c.args.what.now in
    let d = c.in-Decided in
    let are = (own_are c.args.subject.now.script c.agrees.ensures.may.1.fitting c.requires.stands.differ c.args.client c.args.what.now
    c.in-Some.own.now (sym (c.in-Some.ensures c.args.client))) in
    subst (λ (a : Answer). IfOk c.is_decision.result (λ (b : Bool). Tells b (IsPartAnswer walked c.args.nodes.now caller kept what a)))
    (sym d.is)
    (subst (λ (own : List ℕ). IfOk c.is_decision.result (λ (b : Bool). Tells b
    (IsDecision walked c.args.nodes.now caller kept own d.commits d.stamp d.sync d.read_stamp d.ended)))
    (sym (ap object_colours are.kind)) (c.is_decision.ensures.told kept ids))
