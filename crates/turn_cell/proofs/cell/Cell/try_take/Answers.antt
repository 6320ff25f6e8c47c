use Rattle.std.proofs.Common.{rules, ◌≡◌, [], Some, refl, ap, append-nil, sym, subst, ◌∙◌}
use mathlib.Core.List.{IsPrefix}
use Rattle.turn_cell.specs.Steps.{Balances}
use Rattle.turn_cell.proofs.Turning.{takes_turn, as_rest, took_out, took_value}
use Rattle.turn_cell.proofs.cell.Cell.try_take.Goals as goal

pub compare_exchange-requires : goal.compare_exchange-requires
compare_exchange-requires g c = (search rules, search rules, takes_turn _ _ _ _ _ _ _)

pub exchange-requires : goal.exchange-requires
exchange-requires g c =
    let t = c.compare_exchange.ensures.2.0 c.if-compare_exchange-eq-FREE.true in
    (search rules, (Some t.0, as_rest _ _ _ (ap (λ m. m.1) t.2)))

pub returns-then-compare_exchange-eq-FREE : goal.returns-then-compare_exchange-eq-FREE
returns-then-compare_exchange-eq-FREE g c =
    let t = c.compare_exchange.ensures.2.0 c.if-compare_exchange-eq-FREE.true in
    let before : c.args.pass.now.seat.me ≡ c.args.pass.now.seat.me = refl in
    let e = took_out _ _ _ _ t.0 t.1 before c.requires.2 t.2 c.exchange.ensures.3 in
    let y : Some t.0 ≡ Some c.unwrap-value.result =
    took_value _ t.0 _ _ _ t.2 c.exchange.ensures.2 ∙ c.unwrap-value.ensures in
    let is : t.0 ≡ c.unwrap-value.result = cc (y) in record {
      turn = (
        ((search rules, ap (λ m. m.0.tag) e ∙ c.requires.0.1), ap (λ m. m.0.stage) e, ap (λ m. m.1) e),
        search rules,
      );
      value = (
        subst (λ x. g.V.HasHistory.stands x.value c.exchange.new.seat.me.0.seen) is
            (subst (g.V.HasHistory.stands t.0.value) (sym (ap (λ m. m.0.seen) e)) t.4),
        subst (λ x. g.V.HasHistory.tag x.value ≡ g.V.HasHistory.tag c.args.self.now.table.shared.key.value) is
            (t.5 _ c.requires.0.1),
      );
      seen = subst (IsPrefix c.args.pass.now.seat.me.0.seen) (sym (ap (λ m. m.0.seen) e)) t.3;
      made = (
        (ap (λ m. m.0.own) e, ap (λ m. m.0.met) e),
        subst (λ v. Balances g.V.HasHistory.by v.seen v) (sym (ap (λ m. m.0) e)) t.6,
      );
      none = λ no. absurd cc;
    }

pub returns : goal.returns
returns g c =
    let e = c.compare_exchange.ensures.2.1 c.if-compare_exchange-eq-FREE.false in record {
      turn = tt;
      value = tt;
      seen = subst (IsPrefix c.args.pass.now.seat.me.0.seen) (sym (ap (λ m. m.0.seen) e)) prefix_self;
      made = tt;
      none = λ _. (
        (
          (c.compare_exchange.ensures.0 ∙ c.requires.0.0, ap (λ m. m.0.tag) e ∙ c.requires.0.1),
          ap (λ m. m.0.stage) e ∙ c.requires.1,
          ap (λ m. m.1) e ∙ c.requires.2,
        ),
        (ap (λ m. m.0.seen) e, (ap (λ m. m.0.own) e, ap (λ m. m.0.met) e)),
      );
    } where
      prefix_self : IsPrefix c.args.pass.now.seat.me.0.seen c.args.pass.now.seat.me.0.seen
      prefix_self = ([], append-nil c.args.pass.now.seat.me.0.seen)
