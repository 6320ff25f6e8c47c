use Rattle.std.proofs.Common.{◌≡◌, [], drop}
use Rattle.script_text.specs.Readings.{each_at, new_name_at, fields_in}
use Rattle.script_text.proofs.EachLemmas.{with_front}
use Rattle.script_text.proofs.names.new_names.Given as goal

abbrev pub invariant-loop-field : goal.invariant-loop-field
invariant-loop-field l =
    with_front l.names (each_at new_name_at l.names (drop l.field-index (fields_in l.fields))) ≡ each_at new_name_at [] (fields_in l.fields)
