-- What the four commands that are most ask for, said without the table.
use Rattle.std.proofs.Common.{◌≡◌, ℕ, List, [], ◌∷◌, length, Result, Ok, Err, refl, arith}
use Rattle.std.proofs.lemmas.Bool.{ne_eqb}
use Rattle.log_node.specs.declared.ids.Colours.{Colours}
use Rattle.script_text.specs.declared.script.Reason.{Reason}
use Rattle.script_text.specs.declared.script.Reason.TheVariants as reasons
use Rattle.script_text.specs.declared.commands.Word.TheVariants as words
use Rattle.script_text.specs.declared.commands.What.TheVariants as whats
use Rattle.script_text.specs.declared.known.Known.{Known}
use Rattle.script_text.specs.Pieces.{names_in}
use Rattle.script_text.specs.Table.{nothing}
use Rattle.script_text.specs.Commands.{what_of}
use Rattle.script_text.specs.Readings.{◌>>=◌, number_at, colours_set_at, text_at, with_one, with_two}
use Rattle.script_text.specs.CommandReadings.{taken_at, given_at, ended_well, what_at, append_at, sync_at, trim_at, pull_at}

append_of : (set : Result (Colours × ℕ) Reason) (text : Result (List ℕ) Reason)
    → (((set >>= λ s. Ok (record nothing { colours = s.0; count = s.1 })) >>= λ next. (text >>= λ t. Ok (record next { text = t })) >>= λ last. Ok last)
    >>= λ given. Ok given >>= λ ended. Ok (what_of words.Append ended)) ≡ (set >>= λ s. text >>= λ t. Ok (whats.Append s.0 t))
append_of (Ok s) (Ok t) = refl
append_of (Ok s) (Err why) = refl
append_of (Err why) text = refl

pub append_is : (known : Known) (client : ℕ) (args : List (List ℕ)) → what_at known client words.Append args ≡ with_two (append_at known) args
unfolding what_at given_at taken_at ended_well append_at
append_is known client [] = refl
append_is known client (a ∷ []) = refl
append_is known client (cols ∷ text ∷ []) = append_of (colours_set_at known.script.colours (names_in cols)) (text_at known.script.objects text)
append_is known client (a ∷ b ∷ c ∷ later) = rw (ne_eqb (length (c ∷ later)) 0 (λ e. absurd (omega (arith, e)))) refl

sync_of : (colour : Result ℕ Reason)
    → (((colour >>= λ c. Ok (record nothing { colour = c })) >>= λ last. Ok last) >>= λ given. Ok given >>= λ ended. Ok (what_of words.Sync ended)) ≡ (colour >>= λ c. Ok (whats.Sync c))
sync_of (Ok c) = refl
sync_of (Err why) = refl

pub sync_is : (known : Known) (client : ℕ) (args : List (List ℕ)) → what_at known client words.Sync args ≡ with_one (sync_at known) args
unfolding what_at given_at taken_at ended_well sync_at
sync_is known client [] = refl
sync_is known client (field ∷ []) = sync_of (number_at reasons.UnknownColour known.script.colours field)
sync_is known client (a ∷ b ∷ later) = rw (ne_eqb (length (b ∷ later)) 0 (λ e. absurd (omega (arith, e)))) refl

trim_of : (colour : Result ℕ Reason)
    → (((colour >>= λ c. Ok (record nothing { colour = c })) >>= λ last. Ok last) >>= λ given. Ok given >>= λ ended. Ok (what_of words.Trim ended)) ≡ (colour >>= λ c. Ok (whats.Trim c))
trim_of (Ok c) = refl
trim_of (Err why) = refl

pub trim_is : (known : Known) (client : ℕ) (args : List (List ℕ)) → what_at known client words.Trim args ≡ with_one (trim_at known) args
unfolding what_at given_at taken_at ended_well trim_at
trim_is known client [] = refl
trim_is known client (field ∷ []) = trim_of (number_at reasons.UnknownColour known.script.colours field)
trim_is known client (a ∷ b ∷ later) = rw (ne_eqb (length (b ∷ later)) 0 (λ e. absurd (omega (arith, e)))) refl

pull_of : (region colour : Result ℕ Reason)
    → (((region >>= λ r. Ok (record nothing { region = r })) >>= λ next. (colour >>= λ c. Ok (record next { colour = c })) >>= λ last. Ok last)
    >>= λ given. Ok given >>= λ ended. Ok (what_of words.Pull ended)) ≡ (region >>= λ r. colour >>= λ c. Ok (whats.Pull r c))
pull_of (Ok r) (Ok c) = refl
pull_of (Ok r) (Err why) = refl
pull_of (Err why) colour = refl

pub pull_is : (known : Known) (client : ℕ) (args : List (List ℕ)) → what_at known client words.Pull args ≡ with_two (pull_at known) args
unfolding what_at given_at taken_at ended_well pull_at
pull_is known client [] = refl
pull_is known client (a ∷ []) = refl
pull_is known client (name ∷ field ∷ []) = pull_of (number_at reasons.UnknownRegion known.script.regions name) (number_at reasons.UnknownColour known.script.colours field)
pull_is known client (a ∷ b ∷ c ∷ later) = rw (ne_eqb (length (c ∷ later)) 0 (λ e. absurd (omega (arith, e)))) refl
