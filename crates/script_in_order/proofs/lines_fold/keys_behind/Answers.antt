use Rattle.std.proofs.Common.{◌∙◌, ap, sym, subst}
use Rattle.col_core.specs.History.{line}
use Rattle.column.specs.Columns.{ColumnState}
use Rattle.playback.specs.Merging.{AreRising}
use Rattle.world_code.specs.WorldView.{world_of}
use Rattle.script_meaning.proofs.CallerLemmas.{rising_line}
use Rattle.script_in_order.proofs.LinesFolds.{first_at, at_place, rising_part}
use Rattle.script_in_order.proofs.lines_fold.keys_behind.Goals as goal

pub column-requires-clause-region : goal.column-requires-clause-region
column-requires-clause-region c =
    (at_place (world_of c.args.world.now) c.args.firsts.now c.loop-first.first-index c.loop-first-test.true
    c.requires.there).region

pub column-requires-clause-colour : goal.column-requires-clause-colour
column-requires-clause-colour c =
    (at_place (world_of c.args.world.now) c.args.firsts.now c.loop-first.first-index c.loop-first-test.true
    c.requires.there).colour

pub with_line-requires : goal.with_line-requires
with_line-requires c =
    let w = world_of c.args.world.now in
    let first = first_at c.args.firsts.now c.loop-first.first-index in record {
      rising = rising_part first.count c.line-line.result.now
          (subst AreRising
          (sym (c.line-line.ensures ∙ ap (λ (x : ColumnState). line x.journal) c.column.ensures))
          (rising_line w c.agrees.ensures first.region first.colour));
    }
