use Rattle.std.proofs.Common.{◌≡◌, ◌∙◌, sym, subst, List}
use Rattle.log_node.specs.declared.ids.Key.{Key}
use Rattle.column_track.specs.Tracks.{EndsAs, Tells, Tracked}
use Rattle.column_track.proofs.ClosingLemmas.{line_tells, other_base, other_clock, other_cut}
use Rattle.column_track.proofs.track.Track.ends_as.Goals as goal

pub returns-then-clock : goal.returns-then-clock
returns-then-clock c =
    subst (λ (t : Tracked). EndsAs t c.args.clock c.args.line.now c.args.cut c.args.base → ⊥) c.self.view_is
    (other_clock c.self.inside.column c.args.clock c.args.line.now c.args.cut c.args.base
    (λ same. c.if-clock.true (same ∙ sym c.clock.ensures)))

pub returns-then-not-same_counts : goal.returns-then-not-same_counts
returns-then-not-same_counts c =
    subst (λ (t : Tracked). EndsAs t c.args.clock c.args.line.now c.args.cut c.args.base → ⊥) c.self.view_is
    (other_cut c.self.inside.column c.args.clock c.args.line.now c.args.cut c.args.base
    (λ same. subst (λ b. Tells b (c.args.cut ≡ c.cut.result)) c.if-not-same_counts.true c.same_counts.ensures (same ∙ sym c.cut.ensures)))

pub returns-then-not-same_counts-2 : goal.returns-then-not-same_counts-2
returns-then-not-same_counts-2 c =
    subst (λ (t : Tracked). EndsAs t c.args.clock c.args.line.now c.args.cut c.args.base → ⊥) c.self.view_is
    (other_base c.self.inside.column c.args.clock c.args.line.now c.args.cut c.args.base
    (λ same. subst (λ b. Tells b (c.args.base ≡ c.base.result)) c.if-not-same_counts-2.true c.same_counts-2.ensures
    (same ∙ sym c.base.ensures)))

pub returns : goal.returns
returns c =
    subst (λ (t : Tracked). Tells c.same_line.result (EndsAs t c.args.clock c.args.line.now c.args.cut c.args.base)) c.self.view_is
    (line_tells c.self.inside.column c.args.clock c.args.line.now c.args.cut c.args.base
    (c.if-clock.false ∙ c.clock.ensures)
    (subst (λ b. Tells b (c.args.cut ≡ c.cut.result)) c.if-not-same_counts.false c.same_counts.ensures ∙ c.cut.ensures)
    (subst (λ b. Tells b (c.args.base ≡ c.base.result)) c.if-not-same_counts-2.false c.same_counts-2.ensures ∙ c.base.ensures)
    c.same_line.result
    (subst (λ (l : List Key). Tells c.same_line.result (c.args.line.now ≡ l)) c.line.ensures c.same_line.ensures))
