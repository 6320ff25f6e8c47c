-- Appends, syncs, pulls and trims, cut at their first spaces, are read as their lines are.
use Rattle.std.proofs.Common.{◌≡◌, ◌≢◌, ℕ, zero, suc, ◌<◌, ◌≤◌, ◌++◌, true, false, eqb, List, [], ◌∷◌, length, get_or, Option, Some, None, Result, Ok, Err, refl, ◌∙◌, arith}
use Rattle.std.specs.List.{list_all}
use Rattle.std.proofs.lemmas.Bool.{and_parts, le-leb, ne_eqb}
use Rattle.std.specs.declared.alloc.AllocError.{AllocError}
use Rattle.std.specs.Borrow.{Bor}
use Rattle.std.specs.Option.{IfSome, MatchOption}
use Rattle.std.specs.Result.{IfOk}
use Rattle.log_node.specs.declared.ids.Colours.{Colours}
use Rattle.script_text.specs.declared.commands.What.{What}
use Rattle.script_text.specs.declared.commands.What.TheVariants as whats
use Rattle.script_text.specs.declared.script.Reason.TheVariants as reasons
use Rattle.script_text.specs.declared.commands.Word.TheVariants as words
use Rattle.script_text.specs.declared.item.Item.TheVariants as items
use Rattle.script_text.specs.declared.known.Known.{Known}
use Rattle.script_text.specs.Pieces.{fields_of, names_in, is_ascii_line, is_between, is_text, is_transactional}
use Rattle.script_text.specs.Words.{word_text}
use Rattle.script_text.specs.Items.{is_begun}
use Rattle.script_text.specs.Grammar.{is_passed_over}
use Rattle.script_text.specs.Readings.{with_one, with_two, colours_set_at, number_at, text_at}
use Rattle.script_text.specs.CommandReadings.{append_at, sync_at, trim_at, pull_at, asked_at, worded_at, caller_at, command_at}
use Rattle.script_text.specs.LineReadings.{IsWellCut, IsAsked, item_at, full_item_at, said_at, line_at}
use Rattle.script_text.proofs.PieceLemmas.{IsVisibleFront, cut_whole}
use Rattle.script_text.proofs.FullLaws.{is_empty, text_full}
use Rattle.script_text.proofs.DirectLaws.{append_is, sync_is, trim_is, pull_is}

-- ---- fields

visible_at : (bs : List ℕ) (k : ℕ) → list_all (is_between 33 126) bs ≡ true → k < length bs → is_between 33 126 (get_or bs k 0) ≡ true
visible_at [] k h lt = absurd (omega arith)
visible_at (b ∷ bs) zero h lt = (and_parts (is_between 33 126 b) (list_all (is_between 33 126) bs) h).0
visible_at (b ∷ bs) (suc k) h lt = visible_at bs k (and_parts (is_between 33 126 b) (list_all (is_between 33 126) bs) h).1 (omega arith)

pub last_full : (bs : List ℕ) → IsVisibleFront bs (length bs) → is_empty bs ≡ false → IsWellCut bs
last_full bs front some =
    let whole = cut_whole bs front in
    record { ascii = whole.1; full = rw (whole.0, some) refl }

text_front : (text : List ℕ) → is_text text ≡ true → IsVisibleFront text (length text)
text_front text h k lt = visible_at text k (and_parts (is_between 1 200 (length text)) (list_all (is_between 33 126) text) h).1 lt

pub first_full : (bytes first rest : List ℕ) → fields_of bytes ≡ first ∷ fields_of rest → is_ascii_line bytes ≡ is_ascii_line rest → 0 < length first → IsWellCut rest → IsWellCut bytes
first_full bytes first rest fields ascii some full = record {
  ascii = ascii ∙ full.ascii;
  full = rw (fields, ne_eqb (length first) 0 (λ e. absurd (omega (arith, some, e))), full.full) refl;
}

pub append_full : (args cols text : List ℕ) → fields_of args ≡ cols ∷ fields_of text → is_ascii_line args ≡ is_ascii_line text → 0 < length cols → is_text text ≡ true → IsWellCut args
append_full args cols text fields ascii some h = first_full args cols text fields ascii some (last_full text (text_front text h) (text_full text h))

-- ---- the word

pub stripped : (bytes word : List ℕ) (found : Option (Bor (List ℕ))) → MatchOption found ((rest : List ℕ) → bytes ≢ word ++ rest) (λ x. bytes ≡ word ++ x.now)
    → IfSome found (λ rest. bytes ≡ word ++ rest.now)
stripped bytes word (Some x) m = m
stripped bytes word None m = tt

-- ---- what is asked for

pub append_read : (known : Known) (args cols text : List ℕ) (set : Colours × ℕ) → fields_of args ≡ cols ∷ fields_of text → is_text text ≡ true → is_transactional text ≡ false
    → colours_set_at known.script.colours (names_in cols) ≡ Ok set → with_two (append_at known) (fields_of args) ≡ Ok (whats.Append set.0 text)
unfolding append_at text_at
append_read known args cols text set fields h plain read =
    let whole = cut_whole text (text_front text h) in
    rw (fields, whole.0, read, h, plain) refl

pub sync_read : (known : Known) (field : List ℕ) (colour : ℕ) → IsVisibleFront field (length field)
    → number_at reasons.UnknownColour known.script.colours field ≡ Ok colour → with_one (sync_at known) (fields_of field) ≡ Ok (whats.Sync colour)
unfolding sync_at
sync_read known field colour front read =
    let whole = cut_whole field front in
    rw (whole.0, read) refl

pub trim_read : (known : Known) (field : List ℕ) (colour : ℕ) → IsVisibleFront field (length field)
    → number_at reasons.UnknownColour known.script.colours field ≡ Ok colour → with_one (trim_at known) (fields_of field) ≡ Ok (whats.Trim colour)
unfolding trim_at
trim_read known field colour front read =
    let whole = cut_whole field front in
    rw (whole.0, read) refl

pub pull_read : (known : Known) (args name field : List ℕ) (region colour : ℕ) → fields_of args ≡ name ∷ fields_of field → IsVisibleFront field (length field)
    → number_at reasons.UnknownRegion known.script.regions name ≡ Ok region → number_at reasons.UnknownColour known.script.colours field ≡ Ok colour
    → with_two (pull_at known) (fields_of args) ≡ Ok (whats.Pull region colour)
unfolding pull_at
pull_read known args name field region colour fields front there read =
    let whole = cut_whole field front in
    rw (fields, whole.0, there, read) refl

append_asked : (known : Known) → 1 ≤ known.script.version → (args : List ℕ) (what : What) → IsWellCut args → with_two (append_at known) (fields_of args) ≡ Ok what
    → IsAsked known (97 ∷ 112 ∷ 112 ∷ 101 ∷ 110 ∷ 100 ∷ 32 ∷ args) what
unfolding asked_at worded_at
append_asked known some args what full read = record {
  whole = record { ascii = full.ascii; full = full.full };
  asks = λ client. rw (le-leb 1 known.script.version some) (append_is known client (fields_of args) ∙ read);
}

sync_asked : (known : Known) → 1 ≤ known.script.version → (field : List ℕ) (what : What) → IsWellCut field → with_one (sync_at known) (fields_of field) ≡ Ok what
    → IsAsked known (115 ∷ 121 ∷ 110 ∷ 99 ∷ 32 ∷ field) what
unfolding asked_at worded_at
sync_asked known some field what full read = record {
  whole = record { ascii = full.ascii; full = full.full };
  asks = λ client. rw (le-leb 1 known.script.version some) (sync_is known client (fields_of field) ∙ read);
}

trim_asked : (known : Known) → 1 ≤ known.script.version → (field : List ℕ) (what : What) → IsWellCut field → with_one (trim_at known) (fields_of field) ≡ Ok what
    → IsAsked known (116 ∷ 114 ∷ 105 ∷ 109 ∷ 32 ∷ field) what
unfolding asked_at worded_at
trim_asked known some field what full read = record {
  whole = record { ascii = full.ascii; full = full.full };
  asks = λ client. rw (le-leb 1 known.script.version some) (trim_is known client (fields_of field) ∙ read);
}

pull_asked : (known : Known) → 1 ≤ known.script.version → (args : List ℕ) (what : What) → IsWellCut args → with_two (pull_at known) (fields_of args) ≡ Ok what
    → IsAsked known (112 ∷ 117 ∷ 108 ∷ 108 ∷ 32 ∷ args) what
unfolding asked_at worded_at
pull_asked known some args what full read = record {
  whole = record { ascii = full.ascii; full = full.full };
  asks = λ client. rw (le-leb 1 known.script.version some) (pull_is known client (fields_of args) ∙ read);
}

pub found_append : (known : Known) → 1 ≤ known.script.version → (bytes args : List ℕ) (found : Result (Option What) AllocError) → bytes ≡ word_text words.Append ++ 32 ∷ args
    → IfOk found (λ f. IfSome f (λ what. IsWellCut args)) → IfOk found (λ f. IfSome f (λ what. with_two (append_at known) (fields_of args) ≡ Ok what))
    → IfOk found (λ f. IfSome f (λ what. IsAsked known bytes what))
found_append known some bytes args (Ok (Some what)) cut full read = rw cut (append_asked known some args what full read)
found_append known some bytes args (Ok None) cut full read = tt
found_append known some bytes args (Err e) cut full read = tt

pub found_sync : (known : Known) → 1 ≤ known.script.version → (bytes field : List ℕ) (found : Option What) → bytes ≡ word_text words.Sync ++ 32 ∷ field
    → IfSome found (λ what. IsWellCut field) → IfSome found (λ what. with_one (sync_at known) (fields_of field) ≡ Ok what)
    → IfSome found (λ what. IsAsked known bytes what)
found_sync known some bytes field (Some what) cut full read = rw cut (sync_asked known some field what full read)
found_sync known some bytes field None cut full read = tt

pub found_trim : (known : Known) → 1 ≤ known.script.version → (bytes field : List ℕ) (found : Option What) → bytes ≡ word_text words.Trim ++ 32 ∷ field
    → IfSome found (λ what. IsWellCut field) → IfSome found (λ what. with_one (trim_at known) (fields_of field) ≡ Ok what)
    → IfSome found (λ what. IsAsked known bytes what)
found_trim known some bytes field (Some what) cut full read = rw cut (trim_asked known some field what full read)
found_trim known some bytes field None cut full read = tt

pub found_pull : (known : Known) → 1 ≤ known.script.version → (bytes args : List ℕ) (found : Option What) → bytes ≡ word_text words.Pull ++ 32 ∷ args
    → IfSome found (λ what. IsWellCut args) → IfSome found (λ what. with_two (pull_at known) (fields_of args) ≡ Ok what)
    → IfSome found (λ what. IsAsked known bytes what)
found_pull known some bytes args (Some what) cut full read = rw cut (pull_asked known some args what full read)
found_pull known some bytes args None cut full read = tt

-- ---- the line

pub line_asked : (known : Known) (number : ℕ) (line name bytes : List ℕ) (client : ℕ) (what : What)
    → is_begun known.stage ≡ true → is_passed_over (number, line) ≡ false → eqb number 1 ≡ false
    → fields_of line ≡ name ∷ fields_of bytes → is_ascii_line line ≡ is_ascii_line bytes → 0 < length name
    → caller_at known name ≡ Ok client → IsAsked known bytes what
    → line_at known number line ≡ Ok (Some (items.Asks (record { line = number; client = client; what = what })))
unfolding line_at said_at full_item_at item_at command_at
line_asked known number line name bytes client what begun passed later fields ascii some called asked =
    let full = first_full line name bytes fields ascii some asked.whole in
    rw (passed, full.ascii, later, full.full, fields, begun, called, asked.asks client) refl
