-- Pulls and trims.
use Rattle.std.proofs.Common.{◌≡◌, ◌≢◌, ℕ, ◌-◌, Bool, false, [], ◌∷◌, length, refl, ap, sym, ◌∙◌}
use Rattle.std.specs.Prelude.{nat_lt, slice_index, if◌then◌else◌}
use Rattle.std.proofs.lemmas.Bool.{eq-eqb, ne_eqb}
use Rattle.log_node.specs.declared.ids.Counts.{Counts}
use Rattle.log_node.specs.declared.node.At.{At}
use Rattle.log_node.specs.declared.node.At.TheVariants as ats
use Rattle.log_node.specs.declared.node.Shape.{Shape}
use Rattle.col_core.specs.History.{line}
use Rattle.world_laws.specs.declared.steps.Step.TheVariants.{Give, Carry, Trim}
use Rattle.world_laws.specs.Worlds.{World, home_of, home_history, held_of, base_after, after}
use Rattle.script_text.specs.declared.script.Command.{Command}
use Rattle.report_text.specs.declared.report.Answer.{Answer}
use Rattle.report_text.specs.declared.report.Answer.TheVariants as answers
use Rattle.script_meaning.specs.States.{State, Grants, all_granted, answered}
use Rattle.script_meaning.specs.Moves.{lacking, with_give, with_carry, next_at, pulled_from, pulled, trimmed}
use Rattle.script_in_order.specs.Doing.{DoneBy, with_replies}
use Rattle.script_in_order.proofs.Finals.{run_shape}

-- a pull from the own region
pub pulls_own : (command : Command) (w : World) (region colour : ℕ) → region ≡ home_of w command.client
    → DoneBy (λ grants state. pulled grants state command region colour) command w w answers.SameRegion []
pulls_own command w region colour same = record {
  grants = all_granted;
  begun = refl;
  is = λ replies.
      let state = with_replies w replies in
      ap (λ (b : Bool). if b then answered state command w answers.SameRegion []
      else pulled_from all_granted state command region colour) (eq-eqb region (home_of w command.client) same);
}

-- a pull from another region
pub pulls_other : (command : Command) (w new : World) (region colour : ℕ) (answer : Answer)
    → region ≢ home_of w command.client
    → DoneBy (λ grants state. pulled_from grants state command region colour) command w new answer []
    → DoneBy (λ grants state. pulled grants state command region colour) command w new answer []
pulls_other command w new region colour answer other d = record {
  grants = d.grants;
  begun = d.begun;
  is = λ replies.
      let state = with_replies w replies in
      ap (λ (b : Bool). if b then answered state command w answers.SameRegion []
      else pulled_from d.grants state command region colour) (ne_eqb region (home_of w command.client) other)
      ∙ d.is replies;
}

-- it carries all that the region lacks
pub pulls_all : (command : Command) (w given new : World) (region own colour held count : ℕ) (give carry : At)
    → own ≡ home_of w command.client → held ≡ held_of w region own colour
    → count ≡ length (line (w.histories region colour)) - held
    → give ≡ ats.Event (length (w.histories region colour)) → carry ≡ next_at (w.histories own colour) (nat_lt 0 count)
    → given ≡ after w (Give command.client region own colour held)
    → new ≡ after given (Carry command.client region own colour held count)
    → DoneBy (λ grants state. pulled_from grants state command region colour) command w new
    (answers.Pulled count give carry) []
pulls_all command w given new region own colour held count give carry mine has lacks gives carries is_given is_new =
    record {
      grants = all_granted;
      begun = refl;
      is = λ replies.
          let shown : World → ℕ → At → At → State =
          λ x n g a. answered (with_replies w replies) command x (answers.Pulled n g a) [] in
          ap (λ (x : World). shown x lack (ats.Event (length (w.histories region colour))) at_home) (sym worlds)
          ∙ (ap (λ (n : ℕ). shown new n (ats.Event (length (w.histories region colour))) at_home) (sym counts)
          ∙ (ap (λ (g : At). shown new count g at_home) (sym gives)
          ∙ ap (λ (a : At). shown new count give a) (sym carried)));
    } where
      client : ℕ
      client = command.client

      home : ℕ
      home = home_of w client

      lack : ℕ
      lack = lacking w client region colour

      at_home : At
      at_home = next_at (home_history w client colour) (nat_lt 0 lack)

      held_home : held ≡ held_of w region home colour
      held_home = has ∙ ap (λ (o : ℕ). held_of w region o colour) mine

      counts : count ≡ lack
      counts = lacks ∙ ap (λ (h : ℕ). length (line (w.histories region colour)) - h) held_home

      carried : carry ≡ at_home
      carried = carries ∙ (ap (λ (o : ℕ). next_at (w.histories o colour) (nat_lt 0 count)) mine
          ∙ ap (λ (n : ℕ). next_at (home_history w client colour) (nat_lt 0 n)) counts)

      moved : ℕ → ℕ → ℕ → World
      moved = λ o h n. after (after w (Give client region o colour h)) (Carry client region o colour h n)

      worlds : new ≡ with_carry w client region colour
      worlds = is_new ∙ (ap (λ (x : World). after x (Carry client region own colour held count)) is_given
          ∙ (ap (λ (o : ℕ). moved o held count) mine
          ∙ (ap (λ (h : ℕ). moved home h count) held_home
          ∙ ap (λ (n : ℕ). moved home (held_of w region home colour) n) counts)))

-- it finds no memory for what it carries
pub pulls_none : (command : Command) (w given new : World) (region own colour held : ℕ)
    → own ≡ home_of w command.client → held ≡ held_of w region own colour
    → given ≡ after w (Give command.client region own colour held) → new ≡ given
    → DoneBy (λ grants state. pulled_from grants state command region colour) command w new answers.NoMemory []
pulls_none command w given new region own colour held mine has is_given same = record {
  grants = without;
  begun = refl;
  is = λ replies. ap (λ (x : World). answered (with_replies w replies) command x answers.NoMemory []) (sym worlds);
} where
  without : Grants
  without = record all_granted { carry = false }

  client : ℕ
  client = command.client

  home : ℕ
  home = home_of w client

  worlds : new ≡ with_give w client region colour
  worlds = same ∙ (is_given
      ∙ (ap (λ (o : ℕ). after w (Give client region o colour held)) mine
      ∙ ap (λ (h : ℕ). after w (Give client region home colour h))
      (has ∙ ap (λ (o : ℕ). held_of w region o colour) mine)))

-- a trim up to what the client has played
pub trims : (command : Command) (w new : World) (own colour : ℕ) (at : At) (played base : Counts)
    → own ≡ home_of w command.client → at ≡ ats.Event (length (w.histories own colour))
    → played ≡ (w.clients command.client).played colour
    → new ≡ after w (Trim command.client own colour played)
    → base ≡ base_after new.shape.regions own (new.histories own colour)
    → DoneBy (λ _ state. trimmed state command colour) command w new (answers.Based at base) []
trims command w new own colour at played base mine many upto is_new is_base = record {
  grants = all_granted;
  begun = refl;
  is = λ replies.
      let shown : World → At → Counts → State =
      λ x a v. answered (with_replies w replies) command x (answers.Based a v) [] in
      ap (λ (x : World). shown x (ats.Event (length (home_history w client colour)))
      (base_after w.shape.regions home (home_history x client colour))) (sym worlds)
      ∙ (ap (λ (a : At). shown new a (base_after w.shape.regions home (home_history new client colour)))
      (sym (many ∙ ap (λ (o : ℕ). ats.Event (length (w.histories o colour))) mine))
      ∙ ap (λ (v : Counts). shown new at v) (sym bases));
} where
  client : ℕ
  client = command.client

  home : ℕ
  home = home_of w client

  worlds : new ≡ after w (Trim client home colour ((w.clients client).played colour))
  worlds = is_new ∙ (ap (λ (o : ℕ). after w (Trim client o colour played)) mine
      ∙ ap (λ (v : Counts). after w (Trim client home colour v)) upto)

  shape : new.shape ≡ w.shape
  shape = run_shape w new (Trim client own colour played ∷ []) (sym is_new)

  bases : base ≡ base_after w.shape.regions home (home_history new client colour)
  bases = is_base ∙ (ap (λ (s : Shape). base_after s.regions own (new.histories own colour)) shape
      ∙ (ap (λ (o : ℕ). base_after w.shape.regions o (new.histories o colour)) mine
      ∙ ap (λ (s : Shape). base_after w.shape.regions home (new.histories (slice_index s.homes client) colour))
      (sym shape)))
