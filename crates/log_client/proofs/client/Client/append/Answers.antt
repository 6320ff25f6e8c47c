use Rattle.std.proofs.Common.{◌≡◌, ◌∙◌, None, arith, sym, subst}
use Rattle.chain_store.proofs.CallerLemmas.{member_has}
use Rattle.log_client.specs.Appends.{AppendsAs, AppendRefused}
use Rattle.log_client.specs.Calls.{IsExplained}
use Rattle.log_client.specs.Inside.{CallsAppend}
use Rattle.log_client.proofs.Append.AppendCases.{said_ok, said_on, said_err, is_asked, no_stop, only_one, not_none}
use Rattle.log_client.proofs.Append.AppendsNothing.{stopped_stays}
use Rattle.log_client.proofs.client.Client.append.Goals as goal

pub returns-then-eq-clause-err : goal.returns-then-eq-clause-err
returns-then-eq-clause-err g c =
    (stopped_stays c.args.store.now c.args.self.now c.args.colours c.args.text c.args.stop c.requires.client
    (is_asked c.args.stop 0 (sym c.if-eq.ensures))).answer

pub returns-then-eq-clause-full : goal.returns-then-eq-clause-full
returns-then-eq-clause-full g c =
    (stopped_stays c.args.store.now c.args.self.now c.args.colours c.args.text c.args.stop c.requires.client
    (is_asked c.args.stop 0 (sym c.if-eq.ensures))).full

pub returns-then-count-gt1-clause-ok : goal.returns-then-count-gt1-clause-ok
returns-then-count-gt1-clause-ok g c =
    said_ok (c.args.stop ≡ None)
    (λ a. IsExplained c.args.store.now c.args.self.now c.append_several.new.self (AppendsAs c.args.colours c.args.text a))
    (AppendRefused c.args.store.now c.args.self.now c.append_several.new.self c.args.colours c.args.text c.args.stop)
    c.append_several.result c.append_several.ensures.answer

pub returns-then-count-gt1-clause-whole : goal.returns-then-count-gt1-clause-whole
returns-then-count-gt1-clause-whole g c =
    said_on (c.args.stop ≡ None)
    (λ a. IsExplained c.args.store.now c.args.self.now c.append_several.new.self (AppendsAs c.args.colours c.args.text a))
    (AppendRefused c.args.store.now c.args.self.now c.append_several.new.self c.args.colours c.args.text c.args.stop)
    c.append_several.result c.append_several.ensures.answer

pub returns-then-count-gt1-clause-err : goal.returns-then-count-gt1-clause-err
returns-then-count-gt1-clause-err g c =
    said_err (c.args.stop ≡ None)
    (λ a. IsExplained c.args.store.now c.args.self.now c.append_several.new.self (AppendsAs c.args.colours c.args.text a))
    (AppendRefused c.args.store.now c.args.self.now c.append_several.new.self c.args.colours c.args.text c.args.stop)
    c.append_several.result c.append_several.ensures.answer

pub append_alone-requires-clause-colour : goal.append_alone-requires-clause-colour
append_alone-requires-clause-colour g c =
    c.requires.colours.within c.in-Some.colour
    (member_has c.args.colours 0 c.in-Some.colour (sym c.first.ensures ∙ c.in-Some.is))

pub append_alone-requires-clause-one : goal.append_alone-requires-clause-one
append_alone-requires-clause-one g c =
    let few = c.if-count-gt1.false in
    let count = c.count.ensures in
    only_one _ c.in-Some.colour (sym c.first.ensures ∙ c.in-Some.is) (omega (arith, few, count))

pub unreachable-requires : goal.unreachable-requires
unreachable-requires g c = not_none _ (sym c.first.ensures ∙ c.in-None.is) c.requires.colours.some

pub returns : goal.returns
returns g c =
    let few = c.if-count-gt1.false in
    let count = c.count.ensures in
    let none = no_stop c.args.colours c.args.stop c.requires.stop (omega (arith, few, count)) in
    let e = subst (λ stop. CallsAppend c.args.store.now c.args.self.now c.append_alone.new.self c.args.colours c.args.text stop
    c.append_alone.result) (sym none) c.append_alone.ensures in
    record {
      client = e.client;
      same = e.same;
      goes = e.goes;
      grows = e.grows;
      plays = e.plays;
      finished = e.finished;
      idle = e.idle;
      ok = said_ok (c.args.stop ≡ None)
          (λ a. IsExplained c.args.store.now c.args.self.now c.append_alone.new.self
          (AppendsAs c.args.colours c.args.text a))
          (AppendRefused c.args.store.now c.args.self.now c.append_alone.new.self c.args.colours c.args.text c.args.stop)
          c.append_alone.result e.answer;
      whole = said_on (c.args.stop ≡ None)
          (λ a. IsExplained c.args.store.now c.args.self.now c.append_alone.new.self
          (AppendsAs c.args.colours c.args.text a))
          (AppendRefused c.args.store.now c.args.self.now c.append_alone.new.self c.args.colours c.args.text c.args.stop)
          c.append_alone.result e.answer;
      points = e.points;
      err = said_err (c.args.stop ≡ None)
          (λ a. IsExplained c.args.store.now c.args.self.now c.append_alone.new.self
          (AppendsAs c.args.colours c.args.text a))
          (AppendRefused c.args.store.now c.args.self.now c.append_alone.new.self c.args.colours c.args.text c.args.stop)
          c.append_alone.result e.answer;
      at_once = λ asked. absurd (let f : ⊥ = cc (none, asked) in f);
      full = e.full;
    }
