-- What an output has taken, when it writes.
use Rattle.std.proofs.Common.{◌≡◌, ℕ, ◌+◌, Bool, false, List, [], ◌++◌, length, take, Option, Some, None, Ok, Err, refl, ap, sym, subst, ◌∙◌, arith, append_assoc, append-nil, length-append}
use Rattle.std.proofs.Math.Seq.{take-append-add}
use Rattle.std.specs.declared.result.Result.{Result}
use Rattle.std.specs.Prelude.{OnOk, OnErr, is_err, MatchResult}
use Rattle.std.specs.Io.KnownBytes.{Appends}
use Rattle.fuzzy_io.specs.Causes.{Rose, CountsFaults, AppendsFront}
use Rattle.report_text.specs.Output.{OutputState, HasTaken, HasTakenBy, Adds, Ends}

pub appends_both : (a b c : Option (List ℕ)) (xs ys : List ℕ) → Appends a b xs → Appends b c ys → Appends a c (xs ++ ys)
appends_both None b c xs ys p q = tt
appends_both (Some x) None c xs ys p q = absurd p
appends_both (Some x) (Some y) None xs ys p q = absurd q
appends_both (Some x) (Some y) (Some z) xs ys p q = q ∙ ap (λ w. w ++ ys) p ∙ append_assoc x xs ys

pub front_after : (a b c : Option (List ℕ)) (xs ys : List ℕ) → Appends a b xs → AppendsFront b c ys → AppendsFront a c (xs ++ ys)
front_after a b c xs ys p q =
    let more : Appends a c (xs ++ take q.0 ys) = appends_both a b c xs (take q.0 ys) p q.2 in
    (length xs + q.0, let less = q.1 in omega (arith, less, length-append xs ys), rw (take-append-add xs ys q.0) more)

-- bytes that were sent, with those that waited before them: all, or a front
sends : {T E : Type 0} (old new : OutputState) (bytes piece : List ℕ) (r : Result T E) (holds : Option (List ℕ)) (faults : ℕ) (text : List ℕ) →
    old.pending ++ piece ≡ bytes → new.pending ≡ [] → OnOk r (Appends old.holds new.holds bytes) → OnErr r (AppendsFront old.holds new.holds bytes) → CountsFaults old.faults new.faults r →
    HasTakenBy false holds faults text old → HasTakenBy (is_err r) holds faults (text ++ piece) new
sends old new bytes piece (Ok x) holds faults text e left ok err count h =
    let sent = h.0 in
    let all : text ++ piece ≡ sent ++ bytes = ap (λ w. w ++ piece) h.2 ∙ append_assoc sent old.pending piece ∙ ap (λ w. sent ++ w) e in (
      sent ++ bytes,
      appends_both holds old.holds new.holds sent bytes h.1 ok,
      all ∙ sym (append-nil (sent ++ bytes)) ∙ ap (λ w. (sent ++ bytes) ++ w) (sym left),
      count ∙ h.3,
    )
sends old new bytes piece (Err x) holds faults text e left ok err count h =
    let sent = h.0 in
    let all : text ++ piece ≡ sent ++ bytes = ap (λ w. w ++ piece) h.2 ∙ append_assoc sent old.pending piece ∙ ap (λ w. sent ++ w) e in (
      rw all (front_after holds old.holds new.holds sent bytes h.1 err),
      subst (λ (n : ℕ). Rose n new.faults) h.3 count,
    )

pub writes : {T E : Type 0} (old new : OutputState) (bytes piece : List ℕ) (r : Result T E) → new.sink ≡ old.sink → old.failed ≡ false → new.failed ≡ is_err r →
    old.pending ++ piece ≡ bytes → new.pending ≡ [] → OnOk r (Appends old.holds new.holds bytes) → OnErr r (AppendsFront old.holds new.holds bytes) → CountsFaults old.faults new.faults r → Adds old new piece
writes old new bytes piece r same clean answer e left ok err count = record {
  same = same;
  more = λ holds faults text h. subst (λ (b : Bool). HasTakenBy b holds faults (text ++ piece) new) (sym answer)
      (sends old new bytes piece r holds faults text e left ok err count (subst (λ (b : Bool). HasTakenBy b holds faults text old) clean h));
}

-- two pieces, one after the other
pub adds_then : (a b c : OutputState) (s t : List ℕ) → Adds a b s → Adds b c t → Adds a c (s ++ t)
adds_then a b c s t p q = record {
  same = q.same ∙ p.same;
  more = λ holds faults text h. subst (λ (w : List ℕ). HasTaken holds faults w c) (append_assoc text s t) (q.more holds faults (text ++ s) (p.more holds faults text h));
}

appends_nothing : (a : Option (List ℕ)) → Appends a a []
appends_nothing None = tt
appends_nothing (Some x) = sym (append-nil x)

-- an output that has taken nothing
fresh : (a : OutputState) → a.pending ≡ [] → a.failed ≡ false → HasTaken a.holds a.faults [] a
fresh a empty clean =
    let taken : HasTakenBy false a.holds a.faults [] a = ([], appends_nothing a.holds, sym empty, refl) in
    subst (λ (b : Bool). HasTakenBy b a.holds a.faults [] a) (sym clean) taken

-- a text that an output took whole, and what the sink then has
abbrev pub IsWhole : {T E : Type 0} → Option (List ℕ) → Option (List ℕ) → ℕ → ℕ → List ℕ → Result T E → Type 0
IsWhole old new before now text r =
    MatchResult r (λ _. Appends old new text × (now ≡ before)) (λ _. AppendsFront old new text × Rose before now)

pub whole : {K T E : Type 0} (holds : K → Option (List ℕ)) (faults : K → ℕ) (start first last end : K) (text : List ℕ) (r : Result T E) (a b d : OutputState) →
    first ≡ start → end ≡ last → a.holds ≡ holds first → a.faults ≡ faults first → a.pending ≡ [] → a.failed ≡ false → Adds a b text → Ends b d r → d.holds ≡ holds last → d.faults ≡ faults last →
    IsWhole (holds start) (holds end) (faults start) (faults end) text r
whole holds faults start first last end text r a b d e₁ e₂ h₁ f₁ empty clean adds ends h₂ f₂ =
    let all : IsWhole a.holds d.holds a.faults d.faults text r = ends.all a.holds a.faults text (adds.more a.holds a.faults [] (fresh a empty clean)) in
    let one : IsWhole (holds start) d.holds (faults start) d.faults text r =
    subst (λ (n : ℕ). IsWhole (holds start) d.holds n d.faults text r) (f₁ ∙ ap faults e₁) (subst (λ (o : Option (List ℕ)). IsWhole o d.holds a.faults d.faults text r) (h₁ ∙ ap holds e₁) all) in
    subst (λ (n : ℕ). IsWhole (holds start) (holds end) (faults start) n text r) (f₂ ∙ ap faults (sym e₂)) (subst (λ (o : Option (List ℕ)). IsWhole (holds start) o (faults start) d.faults text r) (h₂ ∙ ap holds (sym e₂)) one)

pub whole_ok : {T E : Type 0} (old new : Option (List ℕ)) (before now : ℕ) (text : List ℕ) (r : Result T E) → IsWhole old new before now text r → OnOk r (Appends old new text)
whole_ok old new before now text (Ok x) w = w.0
whole_ok old new before now text (Err x) w = tt

pub whole_front : {T E : Type 0} (old new : Option (List ℕ)) (before now : ℕ) (text : List ℕ) (r : Result T E) → IsWhole old new before now text r → OnErr r (AppendsFront old new text)
whole_front old new before now text (Ok x) w = tt
whole_front old new before now text (Err x) w = w.0

pub whole_cause : {T E : Type 0} (old new : Option (List ℕ)) (before now : ℕ) (text : List ℕ) (r : Result T E) → IsWhole old new before now text r → CountsFaults before now r
whole_cause old new before now text (Ok x) w = w.1
whole_cause old new before now text (Err x) w = w.1
