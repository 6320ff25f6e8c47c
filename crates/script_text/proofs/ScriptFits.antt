-- What is read as a script has numbers that name what there is.
use Rattle.std.proofs.Common.{◌≡◌, ℕ, ◌≤◌, cond, Bool, true, false, List, [], ◌∷◌, ◌++◌, length, Option, Some, None, refl, sym, subst, ◌∙◌, arith, append-nil, append_assoc}
use Rattle.std.specs.Prelude.{not}
use Rattle.std.specs.List.{cons_option, filter, filter_map, enumerate_from}
use Rattle.std.proofs.lemmas.List.{length-map}
use Rattle.std.proofs.lemmas.List.FromFn.{length-enumerate_from}
use Rattle.script_text.specs.declared.script.Command.{Command}
use Rattle.script_text.specs.declared.script.Script.{Script}
use Rattle.script_text.specs.declared.item.Item.{Item}
use Rattle.script_text.specs.Pieces.{lines_of, fields_of}
use Rattle.script_text.specs.Items.{stage_of, has_begun, clients_in, commands_in, region_names, colour_names, client_homes, commands, script_of}
use Rattle.script_text.specs.Grammar.{said_lines, is_passed_over, Say, AreLines, IsScript}
use Rattle.script_text.specs.Fitting.{IsFitting}
use Rattle.script_text.proofs.FittingLemmas.{Fit, at_commands, fit_nothing, more_item}
use Rattle.script_text.proofs.ObjectLemmas.{Names, names_nothing, more_named}

-- the items of some lines, one after another
all_fit : (before : List Item) (lines : List (ℕ × List ℕ)) (said : List Item) → Fit before × Names before → Say before lines said → Fit (before ++ said) × Names (before ++ said)
unfolding Fit
all_fit before [] [] fit say = subst (λ (l : List Item). Fit l × Names l) (sym (append-nil before)) fit
all_fit before [] (item ∷ later) fit say = absurd say
all_fit before (line ∷ lines) [] fit say = absurd say
all_fit before (line ∷ lines) (item ∷ later) fit say =
    subst (λ (l : List Item). Fit l × Names l) (append_assoc before (item ∷ []) later)
    (all_fit (before ++ item ∷ []) lines later
    (more_item before fit.0 line.0 (fields_of line.1) item say.0 say.1, more_named before fit.0 fit.1 line.0 (fields_of line.1) item say.0 say.1) say.2)

-- there are no more commands than lines
commands_few : (said : List Item) → length (commands said) ≤ length said
commands_few [] = omega arith
commands_few (item ∷ later) = let r = commands_few later in of (commands_in item) r where
  of : (o : Option Command) → length (commands later) ≤ length later → length (cons_option o (commands later)) ≤ length (item ∷ later)
  of None r = omega arith
  of (Some c) r = omega arith

items_few : (before : List Item) (lines : List (ℕ × List ℕ)) (said : List Item) → Say before lines said → length said ≤ length lines
items_few before [] [] say = omega arith
items_few before [] (item ∷ later) say = absurd say
items_few before (line ∷ lines) [] say = omega arith
items_few before (line ∷ lines) (item ∷ later) say = let r = items_few (before ++ item ∷ []) lines later say.2 in omega arith

said_few : (p : ℕ × List ℕ → Bool) (lines : List (ℕ × List ℕ)) → length (filter p lines) ≤ length lines
said_few p [] = omega arith
said_few p (line ∷ lines) = let r = said_few p lines in of (p line) r where
  of : (b : Bool) → length (filter p lines) ≤ length lines → length (cond b (line ∷ filter p lines) (filter p lines)) ≤ length (line ∷ lines)
  of true r = omega arith
  of false r = omega arith

fitting : (said : List Item) (lines : List (List ℕ)) → Fit said → Names said → has_begun said ≡ true → AreLines lines said → IsFitting (script_of said)
unfolding Fit
fitting said lines fit names begun are =
    let early = at_commands (stage_of said) (length (region_names said)) (length (colour_names said)) (client_homes said) (commands said) begun fit.early in
    let asked = commands_few said in
    let many = items_few [] (said_lines (enumerate_from 1 lines)) said are.say in
    let here = said_few (λ line. not (is_passed_over line)) (enumerate_from 1 lines) in
    let numbered = length-enumerate_from 1 lines in
    let few = are.few in record {
      version = fit.of_version;
      shape = record {
        a_region = early.0;
        few_regions = fit.few_regions;
        a_colour = early.1;
        few_colours = fit.few_colours;
        a_client = early.2;
        few_clients = fit.few_clients;
        homes = fit.are_homes;
      };
      regions = refl;
      colours = refl;
      clients = length-map (filter_map clients_in said) (λ (c : List ℕ × ℕ). c.0) ∙ sym (length-map (filter_map clients_in said) (λ (c : List ℕ × ℕ). c.1));
      callers = fit.callers;
      commands = fit.within;
      objects = names.kinds;
      uses = names.uses;
      few = omega arith;
    }

-- what is read as a script has numbers that name what there is
pub script_fits : (bytes : List ℕ) (script : Script) → IsScript bytes script → IsFitting script
script_fits bytes script is =
    let all = all_fit [] (said_lines (enumerate_from 1 (lines_of bytes))) is.said (fit_nothing, names_nothing) is.lines.say in
    subst (λ (s : Script). IsFitting s) (sym is.same) (fitting is.said (lines_of bytes) all.0 all.1 is.begun is.lines)
