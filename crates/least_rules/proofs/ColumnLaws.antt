-- Columns that break the second rule, and replies that break the first one by the names or numbers of columns.
use Rattle.std.proofs.Common.{◌≡◌, ℕ, ◌<◌, List, [], ◌∷◌, None, true, inl, refl, ap, arith}
use Rattle.std.specs.Prelude.{slice_index}
use Rattle.log_node.specs.declared.ids.Counts.{Counts}
use Rattle.log_node.specs.declared.ids.Key.{Key}
use Rattle.log_node.specs.Vectors.{at}
use Rattle.col_core.specs.Computed.{dated}
use Rattle.col_core.specs.declared.Entry.{Entry}
use Rattle.col_core.proofs.CallerLemmas.{cut-is_greatest, cut_unique}
use Rattle.report_text.specs.declared.report.QueueKey.{QueueKey}
use Rattle.run_rules.specs.Rules.{IsReplyTo, IsNamed, IsLawfulColumn}
use Rattle.run_rules.specs.Keeping.{Keeps, one}
use Rattle.run_rules.proofs.CallerLemmas.{rule2}
use Rattle.wrong_reports.specs.Cases.{a, x, id, key, counts}
use Rattle.least_rules.specs.Breaking.{Breaks}
use Rattle.wrong_reports.specs.Columns.{single, one_append, another_clock, another_line, another_queue, another_cut, another_base}
use Rattle.wrong_reports.specs.Columns.{another_regions_name, another_colours_name, a_missing_column, another_version}
use Rattle.least_rules.proofs.Tools.{breaks_first, breaks_next}
use Rattle.least_rules.proofs.Alone.{scr, rep, col, acc, caller, told, rule1_of, one_of}
use Rattle.least_rules.proofs.Lists.{all_at, some_same}
use Rattle.log_node.specs.declared.marks.Outcome.TheVariants.{Final}
use Rattle.col_core.specs.declared.Event.TheVariants.{Settle, Trim}
use Rattle.script_text.specs.declared.script.Script.{Script}
use Rattle.script_text.specs.declared.commands.Word.TheVariants as words
use Rattle.report_text.specs.declared.report.Answer.TheVariants as answers
use Rattle.report_text.specs.declared.report.ReplyLine.{ReplyLine}
use Rattle.report_text.specs.declared.report.Report.{Report}
use Rattle.wrong_reports.specs.Cases.{b, by, enters, point, replies}
use Rattle.wrong_reports.specs.Events.{a_stamp_that_is_not_next, an_id_that_enters_twice, a_settling_of_what_is_not_open}
use Rattle.wrong_reports.specs.Events.{a_trim_with_a_stamp, an_event_by_nobody}

-- one append that stood, told under this stamp, with this journal and closing line
module _ (stamp : ℕ) (journal : List Entry) (clock : ℕ) (line : List Key) (queue : List QueueKey) (cut base : Counts) where
  abbrev told_so : List ReplyLine
  told_so = replies 6 words.Append (answers.Stood stamp None (point x 0 0 ∷ [])) ∷ []

  abbrev s : Script
  s = scr 1 [] one_append.commands told_so journal clock line queue cut base []

  abbrev r : Report
  r = rep 1 [] one_append.commands told_so journal clock line queue cut base []

  keeps_1 : Keeps s r 1
  keeps_1 = (
    acc 1 [] one_append.commands told_so journal clock line queue cut base [],
    told 1 [] one_append.commands told_so journal clock line queue cut base [] refl,
    (
      tt,
      one (rule1_of 1 [] one_append.commands told_so journal clock line queue cut base []
          (one_of (IsReplyTo (caller 1 [] one_append.commands told_so journal clock line queue cut base [])) _
          (record { line = refl; word = refl; answer = (refl, inl refl, (refl, refl)) }))),
    ),
  )

  -- the second rule is the least where the column is not lawful
  breaks_second : (IsLawfulColumn s (col 1 [] one_append.commands told_so journal clock line queue cut base []) → ⊥)
      → Breaks (record { script = s; report = r }) 2
  breaks_second broken = breaks_next (record { script = s; report = r }) 1 (omega arith) (omega arith) keeps_1
      (λ keeps. broken (all_at (IsLawfulColumn s)
      (col 1 [] one_append.commands told_so journal clock line queue cut base [] ∷ []) 0 _ refl (rule2 keeps.2.1).each))

-- CLOSING LINES
pub clock : Breaks another_clock 2
clock = breaks_second 1 (single ∷ []) 2 (key 1 (id a 0) ∷ []) [] (counts 1 0) (counts 0 0)
    (λ l. let s = l.closing.clock_shown in cc (s))

pub line : Breaks another_line 2
line = breaks_second 1 (single ∷ []) 1 [] [] (counts 1 0) (counts 0 0) (λ l. let s = l.closing.line_shown in cc (s))

pub queue : Breaks another_queue 2
queue = breaks_second 1 (single ∷ []) 1 (key 1 (id a 0) ∷ []) (record { key = key 1 (id a 0); settled = true } ∷ []) (counts 1 0)
    (counts 0 0) (λ l. let s = l.closing.queue_shown in cc (s))

pub cut_shown : Breaks another_cut 2
cut_shown = breaks_second 1 (single ∷ []) 1 (key 1 (id a 0) ∷ []) [] (counts 0 0) (counts 0 0) (λ l.
    let h = cut_unique _ _ _ l.closing.cut_shown (cut-is_greatest 0 (dated 0 (single ∷ []))) in
    let f : 0 ≡ 1 = ap (λ (v : Counts). at v 0) h in omega (arith, f))

pub base : Breaks another_base 2
base = breaks_second 1 (single ∷ []) 1 (key 1 (id a 0) ∷ []) [] (counts 1 0) (counts 1 0) (λ l.
    let s = l.closing.base_shown in
    let f : 1 ≡ 0 = ap (λ (v : Counts). at v 0) s in omega (arith, f))

-- NAMES AND NUMBERS
pub region_name : Breaks another_regions_name 1
region_name = breaks_first another_regions_name (λ account told rule.
    let s = some_same _ _ (all_at (IsNamed another_regions_name.script) another_regions_name.report.columns 0 _ refl
    rule.named).region in
    let f : 101 ≡ 119 = ap (λ (name : List ℕ). slice_index name 0) s in omega (arith, f))

pub colour_name : Breaks another_colours_name 1
colour_name = breaks_first another_colours_name (λ account told rule.
    let s = some_same _ _ (all_at (IsNamed another_colours_name.script) another_colours_name.report.columns 0 _ refl
    rule.named).colour in
    let f : 120 ≡ 121 = ap (λ (name : List ℕ). slice_index name 0) s in omega (arith, f))

pub missing : Breaks a_missing_column 1
missing = breaks_first a_missing_column (λ account told rule. let s = rule.columns in cc (s))

pub version : Breaks another_version 1
version = breaks_first another_version (λ account told rule. let s = rule.version in cc (s))

-- EVENTS
-- one event more
pub enters_twice : Breaks an_id_that_enters_twice 2
enters_twice = breaks_second 1 (single ∷ enters a (id a 0) 1 2 ∷ []) 2 (key 1 (id a 0) ∷ key 2 (id a 0) ∷ []) []
    (counts 1 0) (counts 0 0) (λ l. let f = (l.legal 1 _ refl).fresh in cc (f))

pub not_open : Breaks a_settling_of_what_is_not_open 2
not_open = breaks_second 1 (single ∷ by a (Settle (id a 1) (Final 2)) 0 ∷ []) 2 (key 1 (id a 0) ∷ key 2 (id a 1) ∷ []) []
    (counts 1 0) (counts 0 0) (λ l. (l.legal 1 _ refl).1)

pub trim_with_stamp : Breaks a_trim_with_a_stamp 2
trim_with_stamp = breaks_second 1 (single ∷ by a (Trim (counts 0 0)) 1 ∷ []) 1 (key 1 (id a 0) ∷ []) [] (counts 1 0)
    (counts 0 0) (λ l. let f = l.legal 1 _ refl in cc (f))

pub by_nobody : Breaks an_event_by_nobody 2
by_nobody = breaks_second 1 (single ∷ by b (Trim (counts 0 0)) 0 ∷ []) 1 (key 1 (id a 0) ∷ []) [] (counts 1 0) (counts 0 0)
    (λ l. let f = l.makers 1 single (omega arith) in let g : 1 < 1 = f in omega (arith, g))

pub not_next : Breaks a_stamp_that_is_not_next 2
not_next = breaks_second 2 (enters a (id a 0) 0 2 ∷ []) 2 (key 2 (id a 0) ∷ []) [] (counts 1 0) (counts 0 0)
    (λ l. let f = (l.legal 0 _ refl).stamped in cc (f))
