use Rattle.std.proofs.Common.{◌≡◌, [], drop}
use Rattle.script_text.specs.Readings.{each_at, key_at, fields_in}
use Rattle.script_text.proofs.EachLemmas.{with_front}
use Rattle.script_text.proofs.keys.keys_at.Given as goal

abbrev pub invariant-loop-field : goal.invariant-loop-field
invariant-loop-field l =
    with_front l.keys (each_at key_at l.keys (drop l.field-index (fields_in l.fields))) ≡ each_at key_at [] (fields_in l.fields)
