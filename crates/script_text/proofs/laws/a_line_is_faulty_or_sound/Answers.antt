use Rattle.script_text.proofs.SoundLaws.{sound}
use Rattle.script_text.proofs.laws.a_line_is_faulty_or_sound.Goals as goal

pub returns : goal.returns
returns c = sound
