use Rattle.std.proofs.Common.{◌≡◌, ℕ, Bool, [], take, drop}
use Rattle.script_text.specs.declared.known.Known.{Known}
use Rattle.script_text.specs.Readings.{each_at, object_colour_at, fields_in}
use Rattle.script_text.proofs.EachLemmas.{Reader, with_front}
use Rattle.script_text.proofs.object_colours.object_colours.Given as goal

-- how one colour is read
abbrev pub one : Known → Bool → Reader ℕ
one known alone = object_colour_at known.script.objects known.script.colours alone

abbrev pub invariant-loop-place : goal.invariant-loop-place
invariant-loop-place l =
    with_front l.colours (each_at (one l.known l.alone) (take l.place (fields_in l.fields)) (drop l.place (fields_in l.fields)))
    ≡ each_at (one l.known l.alone) [] (fields_in l.fields)
