use Rattle.std.proofs.Common.{◌≡◌, sym, subst, ℕ, Some, rules}
use Rattle.std.specs.Prelude.{slice_get}
use Rattle.col_core.specs.declared.Event.TheVariants as events
use Rattle.lawful_run.specs.Callers.{caller_of}
use Rattle.lawful_run.specs.Moves.{AsksFor}
use Rattle.run_rules.specs.Telling.{log_of}
use Rattle.walk_law.specs.Looks.{event_by}
use Rattle.walk_law.specs.Moving.{given_by}
use Rattle.walk_law.specs.Walking.{journal_walked}
use Rattle.walk_law.proofs.Lists.{told_not, told_so}
use Rattle.walk_law.proofs.MovingLemmas.{of_given, one_give}
use Rattle.walk_law.proofs.subject.Subject.given.Goals as goal

pub returns-then-not-asks_for : goal.returns-then-not-asks_for
returns-then-not-asks_for c = λ told from gives asks.
    let caller = caller_of c.args.self.now.script c.args.client in
    let log = log_of c.args.self.now.report told in
    let found : given_by c.own-own.result (event_by c.args.client (slice_get (journal_walked c.args.self.now c.args.region c.args.colour) c.args.place))
    ≡ Some c.in_ok-from.from = search rules in
    let there = subst (λ (o : ℕ). slice_get (journal_walked c.args.self.now c.args.region c.args.colour) c.args.place
    ≡ Some (record { by = c.args.client; event = events.Give o c.in_ok-from.from; stamp = 0 })) c.own-own.ensures.own
    (of_given (journal_walked c.args.self.now c.args.region c.args.colour) c.args.client c.own-own.result c.args.place c.in_ok-from.from found) in
    told_not c.asks_for.result (c.asks_for.ensures told caller (sym c.own-own.ensures.own)) c.if-not-asks_for.true
    (subst (AsksFor log caller c.args.region c.args.colour c.args.seen c.args.until c.args.place)
    (one_give log caller c.args.region c.args.colour c.args.place from c.in_ok-from.from gives there) asks)

pub returns : goal.returns
returns c = λ told.
    let found : given_by c.own-own.result (event_by c.args.client (slice_get (journal_walked c.args.self.now c.args.region c.args.colour) c.args.place))
    ≡ Some c.in_ok-from.from = search rules in (
      subst (λ (o : ℕ). slice_get (journal_walked c.args.self.now c.args.region c.args.colour) c.args.place
          ≡ Some (record { by = c.args.client; event = events.Give o c.in_ok-from.from; stamp = 0 })) c.own-own.ensures.own
          (of_given (journal_walked c.args.self.now c.args.region c.args.colour) c.args.client c.own-own.result c.args.place
          c.in_ok-from.from found),
      told_so c.asks_for.result (c.asks_for.ensures told (caller_of c.args.self.now.script c.args.client) (sym c.own-own.ensures.own))
          c.if-not-asks_for.false,
    )
