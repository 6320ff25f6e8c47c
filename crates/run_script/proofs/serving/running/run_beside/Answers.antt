use Rattle.std.proofs.Common.{◌<◌, subst, ℕ}
use Rattle.few_rows.specs.Needs.{with_rows}
use Rattle.run_script.proofs.FewerRows.{can_run_with, lawful_with, rows_are}
use Rattle.run_script.proofs.serving.running.run_beside.Goals as goal

pub rows_for-dealt-requires : goal.rows_for-dealt-requires
rows_for-dealt-requires g c =
    subst (λ (n : ℕ). 0 < n) (rows_are c.requires.0 c.args.dealt c.requires.1) c.requires.1.some_rows

pub run_in_store-requires-after_bounds : goal.run_in_store-requires-after_bounds
run_in_store-requires-after_bounds g c κs within =
    let e = c.rows_for-dealt.ensures in (
      with_rows c.requires.0 c.rows_for-dealt.result,
      can_run_with c.requires.0 c.args.dealt c.rows_for-dealt.result c.requires.1 e.some e.few,
    )

pub returns : goal.returns
returns g c =
    let e = c.rows_for-dealt.ensures in
    lawful_with c.args.dealt c.rows_for-dealt.result _ e.some e.few e.enough c.run_in_store.ensures
