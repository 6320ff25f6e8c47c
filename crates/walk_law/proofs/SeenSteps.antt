-- Own steps of an id beside what was seen, by the marks of its row.
use Rattle.std.proofs.Common.{◌≡◌, ◌∙◌, ap, sym, subst, ℕ, ◌+◌, ◌<◌, ◌≤◌, Bool, true, false, List, length, get_or, Some, None, arith}
use Rattle.std.specs.Prelude.{◌≢◌, slice_get, slice_index}
use Rattle.std.specs.List.{All}
use Rattle.std.proofs.lemmas.Option.{slice_get-get_or}
use Rattle.log_node.specs.declared.limits.TheConstants.{MAX_COLOURS}
use Rattle.log_node.specs.declared.marks.ColourMark.{ColourMark}
use Rattle.col_core.specs.Keeping.{Kept, seen_past, with_made}
use Rattle.report_text.specs.declared.report.RowReport.{RowReport}
use Rattle.lawful_run.specs.Callers.{caller_of}
use Rattle.column_track.specs.Tracks.{Tells, Tracked}
use Rattle.run_rules.specs.Naming.{NamesSteps}
use Rattle.run_rules.specs.Told.{Untold}
use Rattle.walk_law.specs.Behind.{LeavesOutSteps, steps_untold}
use Rattle.walk_law.specs.Fourth.{Sees, Sighted}
use Rattle.walk_law.specs.PlaceTables.{row_with}
use Rattle.walk_law.specs.Walking.{MayWalk, Walked, log_walked}
use Rattle.walk_law.proofs.FourthLemmas.{StepsSo, steps_end, steps_first, steps_more, steps_on, steps_stop}
use Rattle.walk_law.proofs.RowSteps.{behind_all, colour_low, mark_here, marks_top, none_at_all, none_between, past_marks}

module _ (walked : Walked) (tracks : List Tracked) (may : MayWalk walked.script walked.report tracks) (count : ℕ)
    (own first : Sighted) (walker : own.client < length walked.report.clients) (r : RowReport)
    (found : row_with (caller_of walked.script own.client).own (record { client = own.client; count = count }) walked.report.rows ≡ Some r)
    (marks : List ColourMark) (is_its : marks ≡ r.marks) where
  module _ (n : ℕ) (d : ColourMark) (lt : n < length marks) where
    abbrev m : ColourMark
    m = get_or marks n d

    at_mark : slice_get marks n ≡ Some m
    at_mark = slice_get-get_or marks n d lt

    low : m.colour < MAX_COLOURS
    low = colour_low walked tracks may own.client walker count r found marks is_its n d lt

    module _ (client : ℕ) (is_client : client ≡ own.client) (steps : List ℕ) (seen : ℕ) (b : Bool)
        (listed : steps ≡ steps_untold walked client count m.colour)
        (is_seen : m.colour < MAX_COLOURS → seen ≡ slice_index own.seen m.colour) (told : Tells b (All (λ p. seen ≤ p) steps)) where
      its_steps : steps ≡ steps_untold walked own.client count m.colour
      its_steps = listed ∙ ap (λ (k : ℕ). steps_untold walked k count m.colour) is_client

      -- none of its steps was seen
      pub mark_unseen : b ≡ true → (old new : Sighted) (places : List ℕ) → places ≡ steps
          → StepsSo walked count own first old (past_marks 0 marks n)
          → new.client ≡ old.client → new.region ≡ old.region → new.known ≡ old.known
          → slice_index new.seen m.colour ≡ seen_past (slice_index old.seen m.colour) places
          → ((c : ℕ) → c ≢ m.colour → slice_index new.seen c ≡ slice_index old.seen c)
          → StepsSo walked count own first new (past_marks 0 marks (n + 1))
      mark_unseen t old new places same so client_is region known behind others =
          let there = mark_here walked tracks may own.client walker count r found marks is_its n m at_mark in
          subst (StepsSo walked count own first new) (sym there.1)
          (steps_more walked count own first m.colour old new steps seen b
          (steps_on walked count own first (past_marks 0 marks n) m.colour old there.0
          (none_between walked tracks may own.client walker count r found marks is_its n m at_mark) so)
          its_steps (is_seen low) told t client_is region known
          (behind ∙ ap (seen_past (slice_index old.seen m.colour)) same) others)

      -- or one was
      pub mark_seen : b ≡ false → (kept after : Kept) (untold : Untold) → Sees (caller_of walked.script own.client) kept own
          → count ≡ kept.ids → LeavesOutSteps walked own.client count untold
          → NamesSteps (log_walked walked) (caller_of walked.script own.client) kept untold.places → ⊥
      mark_seen f kept after untold s ids left_out =
          steps_stop walked count own first kept after untold s ids left_out m.colour steps seen b low its_steps (is_seen low) told f

  pub marks_end : (n : ℕ) → n ≡ length marks → (behind : Sighted) → StepsSo walked count own first behind (past_marks 0 marks n)
      → (kept after : Kept) (untold : Untold) → Sees (caller_of walked.script own.client) kept own
      → count ≡ kept.ids → LeavesOutSteps walked own.client count untold → Sees (caller_of walked.script own.client) after first
      → NamesSteps (log_walked walked) (caller_of walked.script own.client) kept untold.places
      × Sees (caller_of walked.script own.client) (with_made after (caller_of walked.script own.client).own untold.places) behind
  marks_end n end behind so kept after untold s ids left_out t =
      let colours = walked.script.shape.colours in
      steps_end walked count own first kept after untold s ids left_out tracks may colours behind (omega arith)
      (steps_on walked count own first (past_marks 0 marks n) colours behind
      (marks_top walked tracks may own.client walker count r found marks is_its n)
      (λ colour over less. behind_all walked tracks may own.client walker count r found marks is_its n end colour over) so)
      (omega arith) t

-- and where there is no row
pub no_marks : (walked : Walked) (tracks : List Tracked) → MayWalk walked.script walked.report tracks → (count : ℕ)
    (own first : Sighted) → own.client < length walked.report.clients
    → row_with (caller_of walked.script own.client).own (record { client = own.client; count = count }) walked.report.rows ≡ None
    → (kept after : Kept) (untold : Untold) → Sees (caller_of walked.script own.client) kept own
    → count ≡ kept.ids → LeavesOutSteps walked own.client count untold → Sees (caller_of walked.script own.client) after first
    → NamesSteps (log_walked walked) (caller_of walked.script own.client) kept untold.places
    × Sees (caller_of walked.script own.client) (with_made after (caller_of walked.script own.client).own untold.places) first
no_marks walked tracks may count own first walker none kept after untold s ids left_out t =
    let colours = walked.script.shape.colours in
    steps_end walked count own first kept after untold s ids left_out tracks may colours first (omega arith)
    (steps_on walked count own first 0 colours first (omega arith)
    (λ colour over less. none_at_all walked tracks may own.client walker count none colour)
    (steps_first walked count own first))
    (omega arith) t
