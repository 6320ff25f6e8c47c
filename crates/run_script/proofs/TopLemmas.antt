-- What the parts of the top call say together.
use Rattle.std.proofs.Common.{◌≡◌, ℕ, ◌+◌, ◌<◌, ◌^◌, List, ◌++◌, length, take, drop}
use Rattle.std.proofs.Common.{Option, Some, None, refl, sym, subst, ◌∙◌, replicate, inl, inr, ◌⊎◌, arith}
use Rattle.std.specs.Prelude.{IfSome, ◌≢◌}
use Rattle.std.specs.Io.KnownBytes.{Appends}
use Rattle.std.proofs.lemmas.List.{take-append-drop, length-replicate}
use Rattle.fuzzy_io.specs.Causes.{AppendsFront}
use Rattle.script_text.specs.declared.script.Script.{Script}
use Rattle.script_text.specs.declared.script.Reason.{Reason}
use Rattle.script_text.specs.declared.script.Reason.TheVariants.{ScriptTooLong}
use Rattle.script_text.specs.Words.{reason_text}
use Rattle.script_text.specs.Grammar.{IsScript}
use Rattle.report_text.specs.ReportText.{report_bytes, refusal_bytes}
use Rattle.run_script.specs.declared.asked.Asked.{Asked}
use Rattle.run_script.specs.declared.status.Status.{Status}
use Rattle.run_script.specs.declared.status.Status.TheVariants.{Done, BadWords, Refused, ReadFault, WriteFault, NoMemory, Unlawful}
use Rattle.run_check.specs.Refusals.{IsTheScript, IsRefusedFor}
use Rattle.run_script.specs.Refusals.{IsAScript}
use Rattle.run_script.specs.TopCall.{IsRunOf, IsRunText, IsRefusalText, WritesWhole, WritesFront, Shows, ShowsFront}

-- the beginning of a text is the beginning of it and of the rest
cut_text : (P : List ℕ → Type 0) (n : ℕ) (text : List ℕ) → P text → P (take n text ++ drop n text)
cut_text P n text p = subst P (sym (take-append-drop n text)) p

-- a refusal of bytes, by its reason
pub refusal_written : (bytes : List ℕ) (old new : Option (List ℕ)) (line : ℕ) (why : Reason) → IsRefusedFor bytes line why
    → Appends old new (refusal_bytes line (reason_text why)) → WritesWhole IsRefusalText (Some bytes) old new
refusal_written bytes old new line why is out = (
  bytes,
  refusal_bytes line (reason_text why),
  refl,
  record { line = line; why = why; refused = is; shown = refl },
  out,
)

pub refusal_begun : (asked : Asked) (bytes : List ℕ) (old new : Option (List ℕ)) (line : ℕ) (why : Reason)
    → IsRefusedFor bytes line why → AppendsFront old new (refusal_bytes line (reason_text why))
    → WritesFront asked (Some bytes) old new
refusal_begun asked bytes old new line why is out =
    let text = refusal_bytes line (reason_text why) in (
      bytes,
      take out.0 text,
      drop out.0 text,
      refl,
      inr (cut_text (IsRefusalText bytes) out.0 text (record { line = line; why = why; refused = is; shown = refl })),
      out.2,
    )

-- a run of the script that the bytes are, done as the words ask
pub run_written : (asked did : Asked) (bytes : List ℕ) (old new : Option (List ℕ)) (script : Script) → asked ≡ did
    → IsTheScript bytes script → Shows did script old new → WritesWhole (IsRunText asked) (Some bytes) old new
run_written asked did bytes old new script same is (report, run, out) = (
  bytes,
  report_bytes report,
  refl,
  record {
    script = script;
    report = report;
    read = is;
    run = subst (λ (a : Asked). IsRunOf a script report) (sym same) run;
    shown = refl;
  },
  out,
)

pub front_begun : (asked did : Asked) (bytes : List ℕ) (old new : Option (List ℕ)) (script : Script) → asked ≡ did
    → IsTheScript bytes script → ShowsFront did script old new → WritesFront asked (Some bytes) old new
front_begun asked did bytes old new script same is (report, run, out) = (
  bytes,
  take out.0 (report_bytes report),
  drop out.0 (report_bytes report),
  refl,
  inl (cut_text (IsRunText asked bytes) out.0 (report_bytes report) (record {
    script = script;
    report = report;
    read = is;
    run = subst (λ (a : Asked). IsRunOf a script report) (sym same) run;
    shown = refl;
  })),
  out.2,
)

-- what was left is what was read, where it is told
told : (left : Option (List ℕ)) (read bytes shown : List ℕ) → IfSome left (λ all. read ≡ all) → bytes ≡ read
    → bytes ≡ shown → IfSome left (λ all. all ≡ shown)
told None read bytes shown same is e = tt
told (Some all) read bytes shown same is e = sym same ∙ (sym is ∙ e)

-- what is said of the bytes that were read is said of those that were left
pub written_of : (IsText : List ℕ → List ℕ → Type 0) (read bytes : List ℕ) (left old new : Option (List ℕ))
    → bytes ≡ read → IfSome left (λ all. read ≡ all) → WritesWhole IsText (Some bytes) old new → WritesWhole IsText left old new
written_of IsText read bytes left old new is same w = (w.0, w.1, told left read bytes w.0 same is w.2, w.3, w.4)

pub begun_of : (asked : Asked) (read bytes : List ℕ) (left old new : Option (List ℕ))
    → bytes ≡ read → IfSome left (λ all. read ≡ all) → WritesFront asked (Some bytes) old new → WritesFront asked left old new
begun_of asked read bytes left old new is same w = (w.0, w.1, w.2, told left read bytes w.0 same is w.3, w.4, w.5)

-- more bytes than a script may have are refused as too long
too_long : (bytes : List ℕ) → 2 ^ 20 < length bytes → IsRefusedFor bytes 0 ScriptTooLong
too_long bytes long = record {
  refused = inl (long, refl, refl);
  none = λ script is. let s = is.short in omega (arith, long, s);
}

-- bytes that are more than so many
more_than : (n : ℕ) → (bytes : List ℕ) × (n < length bytes)
more_than n = (replicate (n + 1) 0, let l = length-replicate {A = ℕ} (n + 1) 0 in omega (arith, l))

-- bytes that are too many: what was left, where it is told
many_bytes : (left : Option (List ℕ)) → IfSome left (λ all. 2 ^ 20 < length all)
    → (bytes : List ℕ) × (2 ^ 20 < length bytes) × IfSome left (λ all. bytes ≡ all)
many_bytes None long = let m = more_than (2 ^ 20) in (m.0, m.1, tt)
many_bytes (Some all) long = (all, long, refl)

pub too_long_written : (left old new : Option (List ℕ)) → IfSome left (λ all. 2 ^ 20 < length all)
    → Appends old new (refusal_bytes 0 (reason_text ScriptTooLong)) → WritesWhole IsRefusalText left old new
too_long_written left old new long out =
    let m = many_bytes left long in
    written_of IsRefusalText m.0 m.0 left old new refl m.2
    (refusal_written m.0 old new 0 ScriptTooLong (too_long m.0 m.1) out)

pub too_long_begun : (asked : Asked) (left old new : Option (List ℕ)) → IfSome left (λ all. 2 ^ 20 < length all)
    → AppendsFront old new (refusal_bytes 0 (reason_text ScriptTooLong)) → WritesFront asked left old new
too_long_begun asked left old new long out =
    let m = many_bytes left long in
    begun_of asked m.0 m.0 left old new refl m.2
    (refusal_begun asked m.0 old new 0 ScriptTooLong (too_long m.0 m.1) out)

-- a script is not refused
pub script_not_refused : (left old new : Option (List ℕ)) → IsAScript left → WritesWhole IsRefusalText left old new → ⊥
script_not_refused None old new (bytes, script, e, is) w = let g : ⊥ = cc in g
script_not_refused (Some all) old new (bytes, script, e, is) (shown, text, same, refused, out) =
    refused.refused.none script (subst (λ b. IsScript b script) (some_is e ∙ same) is) where
      some_is : Some all ≡ Some bytes → bytes ≡ all
      some_is f = cc

-- with no fault and a script, it is done or memory was refused
pub completes : (status : Status) (left old new : Option (List ℕ)) (read_fault write_fault : Type 0)
    → (status ≢ BadWords) × (status ≢ Unlawful) → (status ≡ Refused → WritesWhole IsRefusalText left old new)
    → (status ≡ ReadFault → read_fault) → (status ≡ WriteFault → write_fault)
    → (read_fault → ⊥) → (write_fault → ⊥) → IsAScript left → (status ≡ Done) ⊎ (status ≡ NoMemory)
completes Done left old new r w others refused reading writing no_r no_w script = inl refl
completes BadWords left old new r w others refused reading writing no_r no_w script = absurd (others.0 refl)
completes Refused left old new r w others refused reading writing no_r no_w script =
    absurd (script_not_refused left old new script (refused refl))
completes ReadFault left old new r w others refused reading writing no_r no_w script = absurd (no_r (reading refl))
completes WriteFault left old new r w others refused reading writing no_r no_w script = absurd (no_w (writing refl))
completes NoMemory left old new r w others refused reading writing no_r no_w script = inr refl
completes Unlawful left old new r w others refused reading writing no_r no_w script = absurd (others.1 refl)
