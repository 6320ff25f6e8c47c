use Rattle.std.proofs.Common.{◌≡◌, ◌<◌, ◌∙◌, ap, refl, subst, sym, ℕ}
use Rattle.script_text.specs.Fitting.{IsWithin}
use Rattle.script_text.specs.declared.commands.What.{What}
use Rattle.report_text.specs.declared.report.Answer.TheVariants as answers
use Rattle.lawful_run.specs.Callers.{caller_of}
use Rattle.lawful_run.specs.Reads.{events_until}
use Rattle.run_rules.specs.Telling.{low_told, made_between, replies_to}
use Rattle.run_rules.specs.Naming.{CarriesOf, GivesTo, NamesPlace}
use Rattle.walk_law.specs.Walking.{journal_walked, log_walked}
use Rattle.walk_law.specs.Keepings.{seen_at}
use Rattle.walk_law.proofs.FourthLemmas.{cell_of, gives_told, place_named, pull_low, pull_told}
use Rattle.walk_law.proofs.Lists.{told_not, told_so}
use Rattle.walk_law.proofs.fourth.names_pull.Goals as goal

pub returns-then-not-have_all : goal.returns-then-not-have_all
returns-then-not-have_all c = λ kept untold count is told names.
    let walked = c.args.subject.now in
    let log = log_walked walked in
    let caller = caller_of walked.script c.args.client in
    let replies = replies_to walked.report c.args.client in
    let it = c.in-Pull in
    let low : untold.too_low ≡ made_between log caller kept it.region it.colour (events_until c.args.give) =
    told ∙ ap (λ (w : What). low_told log caller kept w (answers.Pulled count c.args.give c.args.carry)) it.is in
    let all = gives_told log caller it.region it.colour c.journal-journal.result.now c.own-own.result c.made_between-too_low.result.now
    untold.too_low c.have_all.result c.journal-journal.ensures c.own-own.ensures.own
    (c.made_between-too_low.ensures replies kept is
    ∙ (ap (made_between log caller kept it.region it.colour) c.events_until.ensures ∙ sym low)) c.have_all.ensures in
    told_not c.have_all.result all c.if-not-have_all.true
    (pull_low log untold caller kept c.args.what.now it.region it.colour count c.args.give c.args.carry it.is names)

pub returns : goal.returns
returns c = λ kept untold count is told.
    let walked = c.args.subject.now in
    let log = log_walked walked in
    let caller = caller_of walked.script c.args.client in
    let replies = replies_to walked.report c.args.client in
    let it = c.in-Pull in
    let low : untold.too_low ≡ made_between log caller kept it.region it.colour (events_until c.args.give) =
    told ∙ ap (λ (w : What). low_told log caller kept w (answers.Pulled count c.args.give c.args.carry)) it.is in
    let all = gives_told log caller it.region it.colour c.journal-journal.result.now c.own-own.result c.made_between-too_low.result.now
    untold.too_low c.have_all.result c.journal-journal.ensures c.own-own.ensures.own
    (c.made_between-too_low.ensures replies kept is
    ∙ (ap (made_between log caller kept it.region it.colour) c.events_until.ensures ∙ sym low)) c.have_all.ensures in
    let fits = c.agrees.ensures.may.1.fitting in
    let within = subst (IsWithin walked.script.shape.regions walked.script.shape.colours) it.is c.requires.within in
    let own = c.own-own.ensures.own in
    let given = place_named log caller kept it.region it.colour (GivesTo c.own-own.result) c.args.give c.args.client c.seen.result
    c.journal-journal.result.now c.is_named.result refl
    (c.seen.ensures ∙ is.seen it.region it.colour (cell_of walked.script fits it.region it.colour within.0 within.1))
    c.journal-journal.ensures c.is_named.ensures in
    let carried = place_named log caller kept caller.own it.colour (CarriesOf it.region) c.args.carry c.args.client c.seen-2.result
    c.journal.result.now c.is_named-2.result refl
    (c.seen-2.ensures ∙ (ap (λ (r : ℕ). seen_at c.args.keeping.now r it.colour) own ∙ is.seen caller.own it.colour
    (cell_of walked.script fits caller.own it.colour
    (subst (λ (r : ℕ). r < walked.script.shape.regions) own c.own-own.ensures.within) within.1)))
    (c.journal.ensures ∙ ap (λ (r : ℕ). journal_walked walked r it.colour) own) c.is_named-2.ensures in
    pull_told log untold caller kept c.args.what.now it.region it.colour count c.args.give c.args.carry c.is_named-2.result it.is
    (told_so c.have_all.result all c.if-not-have_all.false)
    (subst (λ (r : ℕ). NamesPlace log caller kept it.region it.colour (GivesTo r) c.args.give) own
    (told_so c.is_named.result given c.if-not-is_named.false)) carried
