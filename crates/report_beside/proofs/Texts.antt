-- Texts that were made apart are whole.
use Rattle.std.proofs.Common.{◌≡◌, ℕ, List, [], ◌++◌, Some, Ok, ap, subst, ◌∙◌}
use Rattle.std.specs.declared.result.Result.{Result}
use Rattle.std.specs.Prelude.{OnOk}
use Rattle.std.specs.Io.KnownBytes.{Appends}
use Rattle.fuzzy_io.specs.Memory.{BytesHeld}

-- bytes in memory that held nothing before are the text that they took
pub is_text : {T E : Type 0} (start end : BytesHeld) (text : List ℕ) (r : Result T E) (x : T) → r ≡ Ok x → start.bytes ≡ [] →
    OnOk r (Appends (Some start.bytes) (Some end.bytes) text) → end.bytes ≡ text
is_text {T = T} {E = E} start end text r x is empty taken =
    let all : end.bytes ≡ start.bytes ++ text = subst (λ (a : Result T E). OnOk a (Appends (Some start.bytes) (Some end.bytes) text)) is taken in
    all ∙ ap (λ w. w ++ text) empty
