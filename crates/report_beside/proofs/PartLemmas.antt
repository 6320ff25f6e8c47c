-- How the parts of a report come behind one another.
use Rattle.std.proofs.Common.{◌≡◌, Bool, true, ℕ, List, [], ◌∷◌, ◌++◌, length, ap, subst, refl, sym, ◌∙◌, arith, append_assoc, append-nil}
use Rattle.std.specs.Prelude.{◌==◌}
use Rattle.std.specs.List.{flat_map}
use Rattle.std.proofs.lemmas.List.{flat_map_more}
use Rattle.std.proofs.lemmas.List.Concat.{flat_map-append}
use Rattle.report_text.specs.declared.report.Report.{Report}
use Rattle.report_text.specs.Output.{OutputState, Adds}
use Rattle.report_text.proofs.CallerLemmas.{adds_then}
use Rattle.report_beside.specs.declared.parts.Part.{Part}
use Rattle.report_beside.specs.Parts.{part_text, HaveMore}

-- no parts more
pub no_more : (parts : List Part) → HaveMore (λ r. []) parts parts
no_more parts report = sym (append-nil (flat_map (part_text report) parts))

-- one part more
pub one_more : (text : Report → List ℕ) (old new after : List Part) (part : Part) → HaveMore text old new → after ≡ new ++ part ∷ []
    → HaveMore (λ r. text r ++ part_text r part) old after
one_more text old new after part more is report =
    ap (λ (l : List Part). flat_map (part_text report) l) is
    ∙ (sym (flat_map_more (part_text report) [] new part)
    ∙ (ap (λ (l : List ℕ). l ++ part_text report part) (more report)
    ∙ append_assoc (flat_map (part_text report) old) (text report) (part_text report part)))

-- The texts of some of the items stand behind the parts, and those of the rest do not.
pub record SoFar {A : Type 0} (text : Report → A → List ℕ) (items rest : List A) (old new : List Part) : Type 0 where
  pub front : List A
  pub whole : items ≡ front ++ rest
  pub more : HaveMore (λ r. flat_map (text r) front) old new

pub none_yet : {A : Type 0} (text : Report → A → List ℕ) (items : List A) (parts : List Part) → SoFar text items items parts parts
none_yet text items parts = record { front = []; whole = refl; more = no_more parts }

-- some items more
pub some_more : {A : Type 0} (text : Report → A → List ℕ) (items rest some later : List A) (old new after : List Part) (part : Part)
    → SoFar text items rest old new → ((r : Report) → part_text r part ≡ flat_map (text r) some) → rest ≡ some ++ later
    → after ≡ new ++ part ∷ [] → SoFar text items later old after
some_more {A} text items rest some later old new after part so same cut is = record {
  front = so.front ++ some;
  whole = so.whole ∙ (ap (λ (l : List A). so.front ++ l) cut ∙ sym (append_assoc so.front some later));
  more = λ report.
      one_more (λ r. flat_map (text r) so.front) old new after part so.more is report
      ∙ ap (λ (l : List ℕ). flat_map (part_text report) old ++ l)
      (ap (λ (l : List ℕ). flat_map (text report) so.front ++ l) (same report)
      ∙ sym (flat_map-append (text report) so.front some));
}

-- an empty list, as it is told
pub is_none : {A : Type 0} (rest : List A) (empty : Bool) → empty ≡ (length rest == 0) → empty ≡ true → rest ≡ []
is_none [] empty told is = refl
is_none (x ∷ rest) empty told is = absurd (let f : ⊥ = grind (arith, told, is) in f)

-- all items
pub all_of : {A : Type 0} (text : Report → A → List ℕ) (items rest : List A) (old new : List Part) → SoFar text items rest old new
    → rest ≡ [] → HaveMore (λ r. flat_map (text r) items) old new
all_of {A} text items rest old new so none report =
    so.more report
    ∙ ap (λ (l : List A). flat_map (part_text report) old ++ flat_map (text report) l)
    (sym (so.whole ∙ (ap (λ (l : List A). so.front ++ l) none ∙ append-nil so.front)))

-- a beginning, then all parts
pub put_all : (a b c : OutputState) (head parts all : List ℕ) → Adds a b head → Adds b c parts → parts ≡ all → Adds a c (head ++ all)
put_all a b c head parts all first next is =
    subst (λ (l : List ℕ). Adds a c (head ++ l)) is (adds_then a b c head parts first next)
