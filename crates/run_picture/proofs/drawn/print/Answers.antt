use Rattle.std.proofs.Common.{◌≡◌, refl, rules}
use Rattle.report_text.proofs.CallerLemmas.{whole, whole_ok, whole_front, whole_cause}
use Rattle.run_picture.proofs.drawn.print.Goals as goal

pub returns : goal.returns
returns g c =
    let w = λ (end : g.row.K.Denot) (left : end ≡ c.finish.new.self.sink.now).
    whole g.K.Sink.holds g.K.Sink.faults c.args.sink.now c.over-page.result.sink.now c.finish.new.self.sink.now end _ c.finish.result _ _ _
    c.over-page.ensures.sink left refl refl c.over-page.ensures.empty c.over-page.ensures.clean c.put_drawing.ensures c.finish.ensures refl refl in
    record { ok = whole_ok _ _ _ _ _ _ (w _ (search rules)); front = whole_front _ _ _ _ _ _ (w _ (search rules)); cause = whole_cause _ _ _ _ _ _ (w _ (search rules)) }
