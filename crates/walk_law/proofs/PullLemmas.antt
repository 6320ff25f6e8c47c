-- A pull, from what is looked up of it.
use Rattle.std.proofs.Common.{◌≡◌, ◌∙◌, ap, sym, subst, ℕ, ◌<◌, ◌≤◌, Bool, true, false, List, [], length, take, Option, Some, None, arith}
use Rattle.std.specs.Prelude.{◌≢◌, is_some, not}
use Rattle.std.specs.List.{All}
use Rattle.std.proofs.lemmas.Bool.{true≢false}
use Rattle.std.proofs.lemmas.Option.{slice_get_within}
use Rattle.log_node.specs.declared.node.At.{At}
use Rattle.log_node.specs.declared.node.Node.{Node}
use Rattle.col_core.specs.Cuts.{chain}
use Rattle.col_core.specs.History.{line}
use Rattle.col_core.specs.Keeping.{Kept, seen_after}
use Rattle.col_core.specs.Log.{Log, first}
use Rattle.column_track.specs.Tracks.{Tells}
use Rattle.lawful_run.specs.Callers.{Caller, caller_of}
use Rattle.lawful_run.specs.Moves.{AsksFor, CarriesNodes, GivesTooLow, Pulls}
use Rattle.lawful_run.specs.Reads.{events_until}
use Rattle.log_node.specs.declared.node.At.TheVariants.{Event}
use Rattle.script_text.specs.declared.commands.What.{What}
use Rattle.script_text.specs.declared.commands.What.TheVariants as whats
use Rattle.report_text.specs.declared.report.Answer.TheVariants as answers
use Rattle.run_rules.specs.Shown.{Shows}
use Rattle.run_rules.specs.Told.{Untold}
use Rattle.run_rules.specs.Telling.{log_of, low_told, made_between, replies_to}
use Rattle.walk_law.specs.Keepings.{Counted, IsCell, IsCounted, seen_at}
use Rattle.walk_law.specs.Moving.{IsGiven, held_of}
use Rattle.walk_law.specs.Walking.{Walked, journal_walked}
use Rattle.walk_law.proofs.Members.{told_as}

module _ (walked : Walked) (told : ℕ → List Node) (client : ℕ) (kept : Kept) (counted : Counted)
    (is : IsCounted (replies_to walked.report client) kept counted) (region colour nodes place : ℕ) (carry : At) (own : ℕ)
    (own_is : own ≡ (caller_of walked.script client).own) (cell : IsCell own colour) (seen : ℕ) (seen_is : seen ≡ seen_at counted own colour)
    (until : ℕ) (until_is : until ≡ events_until carry) where
  abbrev caller : Caller
  caller = caller_of walked.script client

  abbrev log : Log
  log = log_of walked.report told

  saw : seen ≡ kept.seen caller.own colour
  saw = seen_is ∙ (is.seen own colour cell ∙ ap (λ (o : ℕ). kept.seen o colour) own_is)

  pub pull_none : (made : List ℕ) (o : Option ℕ) → IsGiven log caller region colour seen until place o → (b : Bool) → is_some o ≡ not b
      → b ≡ true → Pulls log caller kept region colour nodes place carry made → ⊥
  pull_none made None given b n t x =
      given x.from x.gives (subst (λ (s : ℕ). AsksFor log caller region colour s until place x.from) (sym saw)
      (subst (λ (u : ℕ). AsksFor log caller region colour (kept.seen caller.own colour) u place x.from) (sym until_is) x.asks))
  pull_none made (Some from) given b n t x = true≢false (n ∙ ap not t)

  pub pull_there : (made : List ℕ) → length (journal_walked walked region colour) < place
      → Pulls log caller kept region colour nodes place carry made → ⊥
  pull_there made lt x =
      let low = slice_get_within (journal_walked walked region colour) place _ x.gives in let f : ⊥ = omega (arith, low, lt) in f

  held_is : (behind : ℕ) → behind ≡ seen_after carry
      → held_of walked own colour region behind ≡ length (chain caller.own (first log caller.own colour (seen_after carry)) region)
  held_is behind e =
      ap (λ (k : ℕ). held_of walked own colour region k) e
      ∙ ap (λ (o : ℕ). held_of walked o colour region (seen_after carry)) own_is

  pub pull_short : (made : List ℕ) (behind : ℕ) → behind ≡ seen_after carry
      → held_of walked own colour region behind < length (line (take place (journal_walked walked region colour)))
      → Pulls log caller kept region colour nodes place carry made → ⊥
  pull_short made behind e lt x =
      let h = held_is behind e in
      let le = x.holds in
      let f : ⊥ = omega (arith, h, le, lt) in f

  low_of : (made : List ℕ) → All (GivesTooLow log caller region colour seen until) made
      → All (GivesTooLow log caller region colour (kept.seen caller.own colour) (events_until carry)) made
  low_of made all =
      subst (λ (s : ℕ). All (GivesTooLow log caller region colour s (events_until carry)) made) saw
      (subst (λ (u : ℕ). All (GivesTooLow log caller region colour seen u) made) until_is all)

  low_back : (made : List ℕ) → All (GivesTooLow log caller region colour (kept.seen caller.own colour) (events_until carry)) made
      → All (GivesTooLow log caller region colour seen until) made
  low_back made all =
      subst (λ (u : ℕ). All (GivesTooLow log caller region colour seen u) made) (sym until_is)
      (subst (λ (s : ℕ). All (GivesTooLow log caller region colour s (events_until carry)) made) (sym saw) all)

  pub pull_told : region ≢ own → kept.seen region colour ≤ place → CarriesNodes log caller kept region colour nodes carry → (behind : ℕ)
      → behind ≡ seen_after carry → (o : Option ℕ) → IsGiven log caller region colour seen until place o → (n : Bool)
      → is_some o ≡ not n → n ≡ false
      → length (line (take place (journal_walked walked region colour))) ≤ held_of walked own colour region behind
      → (made : List ℕ) (b : Bool) → Tells b (All (GivesTooLow log caller region colour seen until) made)
      → Tells b (Pulls log caller kept region colour nodes place carry made)
  pull_told another unseen carries behind behind_is None given n e f holds made b tells =
      absurd (true≢false (sym (e ∙ ap not f)))
  pull_told another unseen carries behind behind_is (Some from) given n e f holds made b tells =
      told_as b (All (GivesTooLow log caller region colour seen until) made) (Pulls log caller kept region colour nodes place carry made)
      (λ all. record {
        another = λ same. another (same ∙ sym own_is);
        made_again = low_of made all;
        unseen = unseen;
        from = from;
        gives = given.0;
        asks = subst (λ (s : ℕ). AsksFor log caller region colour s (events_until carry) place from) saw
            (subst (λ (u : ℕ). AsksFor log caller region colour seen u place from) until_is given.1);
        carries = carries;
        holds = let h = held_is behind behind_is in omega (arith, h, holds);
      }) (λ x. low_back made x.made_again) tells

-- AS AN ANSWER

module _ (log other : Log) (untold : Untold) (caller : Caller) (kept : Kept) (what : What) (region colour : ℕ)
    (is : what ≡ whats.Pull region colour) (nodes place : ℕ) (give : At) (given : give ≡ Event place) (carry : At)
    (low : untold.too_low ≡ low_told other caller kept what (answers.Pulled nodes give carry)) where
  lows : untold.too_low ≡ made_between other caller kept region colour place
  lows =
      low
      ∙ (ap (λ (w : What). low_told other caller kept w (answers.Pulled nodes give carry)) is
      ∙ ap (λ (g : At). made_between other caller kept region colour (events_until g)) given)

  pub shows_pulled : Pulls log caller kept region colour nodes place carry (made_between other caller kept region colour place)
      → Shows log untold caller kept what [] (answers.Pulled nodes give carry)
  shows_pulled pulls =
      (region, colour, is, place, given, subst (Pulls log caller kept region colour nodes place carry) (sym lows) pulls)

  pub pull_shown : Shows log untold caller kept what [] (answers.Pulled nodes give carry)
      → Pulls log caller kept region colour nodes place carry (made_between other caller kept region colour place)
  pull_shown x =
      let same : whats.Pull x.0 x.1 ≡ whats.Pull region colour = sym x.2 ∙ is in
      let r : x.0 ≡ region = cc (same) in
      let k : x.1 ≡ colour = cc (same) in
      let at : Event x.3 ≡ Event place = sym x.4 ∙ given in
      let p : x.3 ≡ place = cc (at) in
      subst (Pulls log caller kept region colour nodes place carry) lows
      (subst (λ (p : ℕ). Pulls log caller kept region colour nodes p carry untold.too_low) p
      (subst (λ (c : ℕ). Pulls log caller kept region c nodes x.3 carry untold.too_low) k
      (subst (λ (q : ℕ). Pulls log caller kept q x.1 nodes x.3 carry untold.too_low) r x.5)))
