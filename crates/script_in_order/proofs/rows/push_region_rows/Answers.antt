use Rattle.std.proofs.Common.{◌≡◌, ◌∙◌, ap, sym, ℕ, List, length, arith, eq-eqb}
use Rattle.std.specs.Prelude.{slice_index}
use Rattle.std.proofs.lemmas.Bool.{ne_eqb}
use Rattle.log_node.specs.declared.node.Shape.{Shape}
use Rattle.world_laws.specs.Worlds.{home_of}
use Rattle.world_code.specs.WorldView.{world_of}
use Rattle.script_in_order.proofs.RowsShown.{client_shows, client_hides}
use Rattle.script_in_order.proofs.rows.push_region_rows.Goals as goal
use Rattle.script_in_order.proofs.rows.push_region_rows.Goals.{then-home-region+in_ok-push_client_rows, else-home-region}

pub overflow_cast-client : goal.overflow_cast-client
overflow_cast-client c =
    let homes = c.as_slice-homes.ensures ∙ ap (λ (s : Shape). s.homes) c.shape.ensures in
    omega (arith, c.requires, c.loop-client-test.true, ap length homes)

pub loop-client-preserved : goal.loop-client-preserved
loop-client-preserved c =
    let w = world_of c.args.world.now in
    let region = c.args.region in
    let client = c.loop-client.client in
    let homes = c.as_slice-homes.ensures ∙ ap (λ (s : Shape). s.homes) c.shape.ensures in
    let home : slice_index c.as_slice-homes.result.now client ≡ home_of w client =
    ap (λ (l : List ℕ). slice_index l client) homes in
    elim c.if-home-region.branch [
      | then-home-region+in_ok-push_client_rows v ↦
          client_shows w region client c.args.reports.now c.loop-client.reports c.if-home-region.reports
          (eq-eqb (home_of w client) region (sym home ∙ v.if-home-region.true)) c.loop-client.invariant
          (v.reports-is ∙ v.in_ok-push_client_rows.ensures)
      | else-home-region v ↦
          client_hides w region client c.args.reports.now c.loop-client.reports c.if-home-region.reports
          (ne_eqb (home_of w client) region (λ e. v.if-home-region.false (home ∙ e))) c.loop-client.invariant
          v.reports-is
    ]
