-- What is read as a script has no command of a client after its stop.
use Rattle.std.proofs.Common.{◌≡◌, ◌≢◌, ◌⊎◌, inl, inr, ℕ, List, [], ◌∷◌, ◌++◌, Option, Some, None, Bool, true, false, refl, ap, sym, subst, ◌∙◌, arith, append-nil, append_assoc}
use Rattle.std.specs.Prelude.{IsTrue, nat_lt, length, ◌==◌, ◌&&◌, not}
use Rattle.std.specs.List.{AllPairs, cons_option, enumerate_from}
use Rattle.std.proofs.lemmas.Bool.{and_from, eq-eqb}
use Rattle.std.proofs.lemmas.List.Elements.{filter_map-append}
use Rattle.std.proofs.lemmas.List.Kept.{AllPairs-cons}
use Rattle.col_core.proofs.CallerLemmas.{apart, not_true, In}
use Rattle.world_laws.proofs.CallerLemmas.{in_append, all_in}
use Rattle.script_text.specs.declared.script.Command.{Command}
use Rattle.script_text.specs.declared.item.Item.{Item}
use Rattle.script_text.specs.declared.item.Item.TheVariants as items
use Rattle.script_text.specs.Items.{is_stop, client_names, commands, commands_in, has_stopped, has_begun}
use Rattle.script_text.specs.Pieces.{lines_of}
use Rattle.script_text.specs.Grammar.{may_follow, Say, said_lines}
use Rattle.script_meaning.specs.States.{StopsAreLast}
use Rattle.script_meaning.specs.Laws.{ScriptsStopLast}
use Rattle.script_meaning.proofs.Append.FirstProposal.{in_any}

-- a command that comes after another is of a client that did not stop with it
abbrev ComesAfter : Command → Command → Type 0
ComesAfter c d = IsTrue (is_stop c.what) → d.client ≢ c.client

-- so of each and all later ones
Last : List Command → Type 0
Last [] = Unit {0}
Last (c ∷ cs) = ((d : Command) → In d cs → ComesAfter c d) × Last cs

last_pairs : (cs : List Command) → Last cs → AllPairs ComesAfter cs
unfolding Last
last_pairs [] l = λ i j d lt within. absurd (let f : ⊥ = omega (arith, within) in f)
last_pairs (c ∷ cs) l = AllPairs-cons ComesAfter c cs (all_in (ComesAfter c) cs l.0) (last_pairs cs l.1)

last_more : (cs : List Command) (d : Command) → Last cs → ((c : Command) → In c cs → ComesAfter c d) → Last
    (cs ++ d ∷ [])
unfolding Last
last_more [] d l h = (λ x i. absurd i, tt)
last_more (c ∷ cs) d l h =
    (λ x i. turn x (in_append x cs (d ∷ []) i), last_more cs d l.1 (λ x i. h x (inr i))) where
      turn : (x : Command) → In x cs ⊎ In x (d ∷ []) → ComesAfter c x
      turn x (inl i) = l.0 x i
      turn x (inr (inl e)) = subst (ComesAfter c) e (h c (inl refl))
      turn x (inr (inr none)) = absurd none

-- one item more
command_more : (before : List Item) (item : Item) (c : Command) → commands_in item ≡ Some c
    → commands (before ++ item ∷ []) ≡ commands before ++ c ∷ []
command_more before item c e =
    filter_map-append commands_in before (item ∷ [])
    ∙ ap (λ (o : Option Command). commands before ++ cons_option o []) e

same_more : (before : List Item) (item : Item) → commands_in item ≡ None
    → commands (before ++ item ∷ []) ≡ commands before
same_more before item e =
    filter_map-append commands_in before (item ∷ [])
    ∙ (ap (λ (o : Option Command). commands before ++ cons_option o []) e ∙ append-nil (commands before))

going_on : (before : List Item) (d : Command) → has_stopped before d.client ≡ false → (c : Command)
    → In c (commands before) → ComesAfter c d
going_on before d none c i stop same =
    apart (has_stopped before d.client)
    (in_any (λ (x : Command). (x.client == d.client) && is_stop x.what) (commands before) c i
    (and_from (c.client == d.client) _ (eq-eqb c.client d.client (sym same)) stop)) none

item_last : (before : List Item) (item : Item) → Last (commands before) → IsTrue (may_follow before item)
    → Last (commands (before ++ item ∷ []))
item_last before (items.Version version) l ok = subst Last (sym (same_more before (items.Version version) refl)) l
item_last before (items.Regions names) l ok = subst Last (sym (same_more before (items.Regions names) refl)) l
item_last before (items.Colours names) l ok = subst Last (sym (same_more before (items.Colours names) refl)) l
item_last before (items.Rows number) l ok = subst Last (sym (same_more before (items.Rows number) refl)) l
item_last before (items.Client name home) l ok = subst Last (sym (same_more before (items.Client name home) refl)) l
item_last before (items.Declared object) l ok = subst Last (sym (same_more before (items.Declared object) refl)) l
item_last before items.Begin l ok = subst Last (sym (same_more before items.Begin refl)) l
item_last before (items.Asks command) l ok =
    let none : has_stopped before command.client ≡ false =
    not_true (has_stopped before command.client) (middle ok) in
    subst Last (sym (command_more before (items.Asks command) command refl))
    (last_more (commands before) command l (going_on before command none)) where
      pick : (a b c : Bool) → (a && b && c) ≡ true → c ≡ true
      pick true true c e = e
      pick true false c e = absurd (let f : ⊥ = cc in f)
      pick false b c e = absurd (let f : ⊥ = cc in f)

      middle : IsTrue (may_follow before (items.Asks command)) → not (has_stopped before command.client) ≡ true
      middle e = pick (has_begun before) (nat_lt command.client (length (client_names before)))
          (not (has_stopped before command.client)) e

all_last : (before : List Item) (lines : List (ℕ × List ℕ)) (said : List Item) → Last (commands before)
    → Say before lines said → Last (commands (before ++ said))
all_last before [] [] l say = subst (λ (x : List Item). Last (commands x)) (sym (append-nil before)) l
all_last before [] (item ∷ later) l say = absurd say
all_last before (line ∷ lines) [] l say = absurd say
all_last before (line ∷ lines) (item ∷ later) l say =
    subst (λ (x : List Item). Last (commands x)) (append_assoc before (item ∷ []) later)
    (all_last (before ++ item ∷ []) lines later (item_last before item l say.1) say.2)

pub scripts_stop_last : ScriptsStopLast
unfolding Last
scripts_stop_last bytes script is =
    subst StopsAreLast (sym is.same)
    (last_pairs (commands is.said) (all_last [] (said_lines (enumerate_from 1
    (lines_of bytes))) is.said tt is.lines.say))
