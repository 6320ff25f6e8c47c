-- Decisions: what is written of one is read as it, and what is read as a decision has its text.
use Rattle.std.proofs.Common.{◌≡◌, ◌↔◌, ℕ, ◌<◌, Bool, true, false, eqb, List, [], ◌∷◌, ◌++◌, length, Option, Some, None, inl, inr, refl, ap, sym, ◌∙◌, arith, length-append}
use Rattle.std.specs.Prelude.{codes}
use Rattle.std.specs.Str.{bytes_eq}
use Rattle.std.specs.Fmt.{decimal}
use Rattle.std.proofs.lemmas.Bool.{cases_Bool, eqb-true}
use Rattle.std.proofs.lemmas.Slice.Eq.{bytes_eq-Decides}
use Rattle.std.proofs.lemmas.Fmt.{length-decimal-le}
use Rattle.log_node.specs.declared.ids.Key.{Key}
use Rattle.log_node.specs.declared.forms.Form.TheVariants.{Plain}
use Rattle.log_node.specs.Texts.{IsTextLength}
use Rattle.object_form.specs.Forms.{dot, equals, is_writer, writer_text}
use Rattle.object_form.specs.Readings.{before, after, is_key, key_of, key_in, form_of}
use Rattle.object_form.proofs.CallerLemmas.{before_cut, after_cut, cut_back, ranged, key_read, key_lacks, key_back, key_ranged}
use Rattle.part_fold.specs.declared.decision.Decision.{Decision}
use Rattle.part_fold.specs.Decisions.{outcome_text, decision_text, IsDecision, IsSaidAs, outcome_of, decision_by, decision_after, decision_of}

-- ---- what is written is read

outcome_read : (commits : Bool) → outcome_of (outcome_text commits) ≡ Some commits
outcome_read true = refl
outcome_read false = refl

pub reads_back : (decision : Decision) → IsDecision decision → decision_of (decision_text decision) ≡ Some decision
reads_back decision h =
    let r = ranged decision.key h in
    let lacks = key_lacks equals decision.key refl refl r in
    let text = writer_text (Some decision.key) in
    let front = before_cut equals text (outcome_text decision.commits) lacks in
    let rest = after_cut equals text (outcome_text decision.commits) lacks in
    let read = key_read decision.key r in
    rw (front, rest, read.0, read.1, outcome_read decision.commits) refl

-- ---- what is read has its text

record IsOutcome (bytes : List ℕ) (commits : Bool) : Type 0 where
  text : outcome_text commits ≡ bytes
  some : 0 < length bytes

outcome_back : (bytes : List ℕ) (commits : Bool) → outcome_of bytes ≡ Some commits → IsOutcome bytes commits
outcome_back bytes commits e = elim (cases_Bool (bytes_eq bytes (codes "1"))) [
  | inl one ↦
      let same : bytes ≡ codes "1" = (bytes_eq-Decides bytes (codes "1")).0 one in
      is_one commits same (rw one at e)
  | inr other ↦ elim (cases_Bool (bytes_eq bytes (codes "0"))) [
    | inl none ↦
        let same : bytes ≡ codes "0" = (bytes_eq-Decides bytes (codes "0")).0 none in
        is_none commits same (rw (other, none) at e)
    | inr neither ↦ absurd (no_outcome commits (rw (other, neither) at e))
  ]
] where
  no_outcome : (c : Bool) → None ≡ Some c → ⊥
  no_outcome c h = cc

  is_one : (c : Bool) → bytes ≡ codes "1" → Some true ≡ Some c → IsOutcome bytes c
  is_one true same h = record { text = sym same; some = rw same (omega arith) }
  is_one false same h = absurd cc

  is_none : (c : Bool) → bytes ≡ codes "0" → Some false ≡ Some c → IsOutcome bytes c
  is_none true same h = absurd cc
  is_none false same h = record { text = sym same; some = rw same (omega arith) }

-- what a decision is by, if it is one
record IsBy (key : Option Key) (outcome : Option Bool) (decision : Decision) : Type 0 where
  same_key : key ≡ Some decision.key
  same_outcome : outcome ≡ Some decision.commits

parts_of : (key : Option Key) (outcome : Option Bool) (decision : Decision) → decision_by key outcome ≡ Some decision → IsBy key outcome decision
parts_of (Some key) (Some commits) decision e = record {
  same_key = ap (λ (o : Option Decision). key_or o) e;
  same_outcome = ap (λ (o : Option Decision). outcome_or o) e;
} where
  key_or : Option Decision → Option Key
  key_or None = None
  key_or (Some d) = Some d.key

  outcome_or : Option Decision → Option Bool
  outcome_or None = None
  outcome_or (Some d) = Some d.commits
parts_of (Some key) None decision e = absurd cc
parts_of None (Some commits) decision e = absurd cc
parts_of None None decision e = absurd cc

key_in_is : (bytes : List ℕ) (key : Key) → key_in bytes ≡ Some key → (is_key bytes ≡ true) × (key_of bytes ≡ key)
key_in_is bytes key e = elim (cases_Bool (is_key bytes)) [
  | inl is ↦ (is, some_is (key_of bytes) key (rw is at e))
  | inr other ↦ absurd (let h : None ≡ Some key = rw other at e in cc)
] where
  some_is : (a b : Key) → Some a ≡ Some b → a ≡ b
  some_is a b h = cc

after_back : (bytes : List ℕ) (decision : Decision) → decision_after bytes ≡ Some decision → IsSaidAs decision (122 ∷ 58 ∷ bytes)
after_back bytes decision e =
    let by = parts_of (key_in (before equals bytes)) (outcome_of (after equals bytes)) decision e in
    let key = key_in_is (before equals bytes) decision.key by.same_key in
    let outcome = outcome_back (after equals bytes) decision.commits by.same_outcome in
    let named : writer_text (Some decision.key) ≡ before equals bytes = ap (λ (k : Key). writer_text (Some k)) (sym key.1) ∙ key_back (before equals bytes) key.0 in (
      ap (λ (k : Key). is_writer (Some k)) (sym key.1) ∙ key_ranged (before equals bytes) key.0,
      rw (named, outcome.text) (ap (λ (t : List ℕ). 122 ∷ 58 ∷ t) (cut_back equals bytes outcome.some)),
    )

has_back : (text : List ℕ) (decision : Decision) → decision_of text ≡ Some decision → IsSaidAs decision text
has_back [] decision e = absurd cc
has_back (letter ∷ []) decision e = absurd cc
has_back (letter ∷ sign ∷ bytes) decision e = elim (cases_Bool (eqb letter 122)) [
  | inl z ↦ elim (cases_Bool (eqb sign 58)) [
    | inl colon ↦ rw (eqb-true letter 122 z, eqb-true sign 58 colon) (after_back bytes decision (rw (z, colon) at e))
    | inr other ↦ absurd (let h : None ≡ Some decision = rw (z, other) at e in cc)
  ]
  | inr other ↦ absurd (let h : None ≡ Some decision = rw other at e in cc)
]

-- ---- the laws

pub reads_decisions : (text : List ℕ) (decision : Decision) → IsSaidAs decision text ↔ (decision_of text ≡ Some decision)
reads_decisions text decision = (λ has. ap decision_of (sym has.1) ∙ reads_back decision has.0, has_back text decision)

pub decisions_differ : (decision other : Decision) (text : List ℕ) → IsSaidAs decision text → IsSaidAs other text → decision ≡ other
decisions_differ decision other text h k =
    let same : Some decision ≡ Some other = sym ((reads_decisions text decision).0 h) ∙ (reads_decisions text other).0 k in
    cc

-- what is read as a decision is plain to other objects
pub plain_after : (text : List ℕ) (decision : Decision) → decision_of text ≡ Some decision → form_of text ≡ Plain
plain_after text decision e = ap form_of (sym (has_back text decision e).1)

pub decisions_are_plain : (decision : Decision) → form_of (decision_text decision) ≡ Plain
decisions_are_plain decision = refl

outcome_size : (commits : Bool) → length (outcome_text commits) ≡ 1
outcome_size true = refl
outcome_size false = refl

pub decisions_fit : (decision : Decision) → IsDecision decision → IsTextLength (length (decision_text decision))
decisions_fit decision h =
    let r = ranged decision.key h in
    let s = length-decimal-le 19 decision.key.stamp (omega arith) (omega (arith, r.stamp)) (omega arith) in
    let c = length-decimal-le 3 decision.key.id.client (omega arith) (omega (arith, r.client)) (omega arith) in
    let n = length-decimal-le 19 decision.key.id.count (omega arith) (omega (arith, r.count)) (omega arith) in
    let later = decimal decision.key.id.client ++ dot ∷ decimal decision.key.id.count in
    let e1 = length-append (decimal decision.key.id.client) (dot ∷ decimal decision.key.id.count) in
    let e2 = length-append (decimal decision.key.stamp) (dot ∷ later) in
    let e3 = length-append (writer_text (Some decision.key)) (equals ∷ outcome_text decision.commits) in
    let one = outcome_size decision.commits in
    (omega arith, omega arith)
