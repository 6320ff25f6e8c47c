-- The text of a drawing of a script's run, by its report.
use Rattle.std.specs.Prelude.{ℕ, List}
use Rattle.script_text.specs.declared.script.Script.{Script}
use Rattle.report_text.specs.declared.report.Report.{Report}
use Rattle.run_picture.specs.declared.asked.Drawing.{Drawing}
use Rattle.run_picture.specs.declared.asked.Drawing.TheVariants.{Picture, Timeline}
use Rattle.run_picture.specs.Boxes.{boxes}
use Rattle.run_picture.specs.Svg.{svg_text}
use Rattle.run_picture.specs.Timeline.{timeline_text}

-- the text of a drawing
abbrev pub drawing_text : Drawing → Script → Report → List ℕ
drawing_text Picture script report = svg_text script report (boxes script report)
drawing_text Timeline script report = timeline_text script report
