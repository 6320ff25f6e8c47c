-- The list of held reads says of each client and object what the commands say.
use Rattle.std.proofs.Common.{◌≡◌, ℕ, inl, inr, Bool, true, false, not, ◌&&◌, ◌||◌, cond, eqb, List, [], ◌∷◌, ◌++◌, refl, sym, ap, ◌∙◌}
use Rattle.std.specs.List.{list_any, filter, fold}
use Rattle.std.proofs.lemmas.Bool.{cases_Bool, and_parts, eqb-true, eqb-false, ne_eqb, eq-eqb}
use Rattle.std.proofs.lemmas.List.Folds.{list_any-append}
use Rattle.script_text.specs.declared.commands.What.{What}
use Rattle.script_text.specs.declared.script.Command.{Command}
use Rattle.script_text.specs.declared.reads.HeldRead.{HeldRead}
use Rattle.script_text.specs.declared.uses.ReadUse.TheVariants.{Takes, UsesUp}
use Rattle.script_text.specs.declared.uses.Use.{Use}
use Rattle.script_text.specs.declared.uses.Use.TheVariants.{OfObject}
use Rattle.script_text.specs.Commands.{use_of}
use Rattle.script_text.specs.Reads.{same_read, holds, with_read, without_read, reads_by, reads_after, held_after}
use Rattle.script_text.specs.Items.{held_by, holds_read}
use Rattle.log_node.proofs.CallerLemmas.{or_false}

pub held_push : (reads : List HeldRead) (cs : List Command) (c : Command) → held_after reads (cs ++ c ∷ []) ≡ reads_after (held_after reads cs) c.client c.what
held_push reads [] c = refl
held_push reads (d ∷ cs) c = held_push (reads_after reads d.client d.what) cs c

eqb_turn : (a b : ℕ) → eqb a b ≡ eqb b a
eqb_turn a b =
    elim (cases_Bool (eqb a b)) [
      | inl e ↦ e ∙ sym (eq-eqb b a (sym (eqb-true a b e)))
      | inr e ↦ e ∙ sym (ne_eqb b a (λ k. eqb-false a b e (sym k)))
    ]

abbrev of : ℕ → ℕ → HeldRead
of client object = record { client = client; object = object }

-- what is added
cond_same : {A : Type 0} (b : Bool) (x : A) → cond b x x ≡ x
cond_same true x = refl
cond_same false x = refl

added : (reads : List HeldRead) (caller o client object : ℕ) (same_client same_object known : Bool) → eqb caller client ≡ same_client → eqb o object ≡ same_object → holds reads (of caller o) ≡ known
    → holds (with_read reads (of caller o)) (of client object) ≡ cond same_client (holds reads (of client object) || same_object) (holds reads (of client object))
added reads caller o client object true true true a b k =
    let c : caller ≡ client = eqb-true caller client a in
    let d : o ≡ object = eqb-true o object b in
    let here : holds reads (of client object) ≡ true = rw (← c, ← d) k in
    rw (k, here) refl
added reads caller o client object true false true a b k = rw k (sym (or_false (holds reads (of client object))))
added reads caller o client object false same_object true a b k = rw k refl
added reads caller o client object true true false a b k =
    rw (k, list_any-append (same_read (of client object)) reads (of caller o ∷ []), eqb_turn client caller, a, eqb_turn object o, b) refl
added reads caller o client object true false false a b k =
    rw (k, list_any-append (same_read (of client object)) reads (of caller o ∷ []), eqb_turn client caller, a, eqb_turn object o, b) refl
added reads caller o client object false same_object false a b k =
    rw (k, list_any-append (same_read (of client object)) reads (of caller o ∷ []), eqb_turn client caller, a) (or_false (holds reads (of client object)))

-- what is taken out
any_filtered : {X : Type 0} (p t : X → Bool) (xs : List X) → list_any p (filter t xs) ≡ list_any (λ x. t x && p x) xs
any_filtered p t [] = refl
any_filtered p t (x ∷ xs) =
    elim (cases_Bool (t x)) [
      | inl e ↦ rw (e, any_filtered p t xs) refl
      | inr e ↦ rw (e, any_filtered p t xs) refl
    ]

any_alike : {X : Type 0} (p q : X → Bool) (xs : List X) → ((x : X) → p x ≡ q x) → list_any p xs ≡ list_any q xs
any_alike p q [] h = refl
any_alike p q (x ∷ xs) h = rw (h x, any_alike p q xs h) refl

any_never : {X : Type 0} (xs : List X) → list_any (λ (x : X). false) xs ≡ false
any_never [] = refl
any_never (x ∷ xs) = any_never xs

same_turn : (a b : HeldRead) → same_read a b ≡ same_read b a
same_turn a b = rw (eqb_turn a.client b.client, eqb_turn a.object b.object) refl

not_and : (b : Bool) → (not b && b) ≡ false
not_and true = refl
not_and false = refl

same_is : (a b : HeldRead) → same_read a b ≡ true → (a.client ≡ b.client) × (a.object ≡ b.object)
same_is a b e = let p = and_parts (eqb a.client b.client) (eqb a.object b.object) e in (eqb-true a.client b.client p.0, eqb-true a.object b.object p.1)

-- of the read itself nothing is left, of others all
taken : (reads : List HeldRead) (q r : HeldRead) → same_read q r ≡ true → holds (without_read reads q) r ≡ false
taken reads q r same =
    any_filtered (same_read r) (λ other. not (same_read other q)) reads
    ∙ any_alike (λ other. not (same_read other q) && same_read r other) (λ other. false) reads (λ other.
    let k = same_is q r same in
    let e : same_read other q ≡ same_read r other = rw (k.0, k.1) (same_turn other r) in
    rw e (not_and (same_read r other)))
    ∙ any_never reads

left : (reads : List HeldRead) (q r : HeldRead) → same_read q r ≡ false → holds (without_read reads q) r ≡ holds reads r
left reads q r other_read =
    any_filtered (same_read r) (λ other. not (same_read other q)) reads
    ∙ any_alike (λ other. not (same_read other q) && same_read r other) (same_read r) reads (λ other.
    elim (cases_Bool (same_read r other)) [
      | inl e ↦
          let k = same_is r other e in
          let apart : same_read other q ≡ false = rw (← k.0, ← k.1) (same_turn r q ∙ other_read) in
          rw (e, apart) refl
      | inr e ↦ rw e (and_false (not (same_read other q)))
    ]) where
      and_false : (b : Bool) → (b && false) ≡ false
      and_false true = refl
      and_false false = refl

used : (reads : List HeldRead) (caller o client object : ℕ) (same_client same_object : Bool) → eqb caller client ≡ same_client → eqb o object ≡ same_object
    → holds (without_read reads (of caller o)) (of client object) ≡ cond same_client (holds reads (of client object) && not same_object) (holds reads (of client object))
used reads caller o client object true true a b = taken reads (of caller o) (of client object) (rw (a, b) refl) ∙ sym (and_false (holds reads (of client object))) where
  and_false : (b : Bool) → (b && false) ≡ false
  and_false true = refl
  and_false false = refl
used reads caller o client object true false a b = left reads (of caller o) (of client object) (rw (a, b) refl) ∙ sym (and_true (holds reads (of client object))) where
  and_true : (b : Bool) → (b && true) ≡ b
  and_true true = refl
  and_true false = refl
used reads caller o client object false same_object a b = left reads (of caller o) (of client object) (rw a refl)

step : (reads : List HeldRead) (caller : ℕ) (what : What) (client object : ℕ)
    → holds (reads_after reads caller what) (of client object) ≡ cond (eqb caller client) (holds_read object (holds reads (of client object)) what) (holds reads (of client object))
step reads caller what client object = by (use_of what) where
  by : (u : Use) → holds (reads_by reads caller u) (of client object)
      ≡ cond (eqb caller client) (held_by object (holds reads (of client object)) u) (holds reads (of client object))
  by (OfObject o Takes) = added reads caller o client object (eqb caller client) (eqb o object) (holds reads (of caller o)) refl refl refl
  by (OfObject o UsesUp) = used reads caller o client object (eqb caller client) (eqb o object) refl refl
  by _ = sym (cond_same (eqb caller client) (holds reads (of client object)))

abbrev follow : ℕ → ℕ → Bool → Command → Bool
follow client object held c = cond (eqb c.client client) (holds_read object held c.what) held

held_from : (reads : List HeldRead) (cs : List Command) (client object : ℕ) → holds (held_after reads cs) (of client object) ≡ fold (follow client object) (holds reads (of client object)) cs
held_from reads [] client object = refl
held_from reads (c ∷ cs) client object =
    held_from (reads_after reads c.client c.what) cs client object ∙ ap (λ held. fold (follow client object) held cs) (step reads c.client c.what client object)

pub held_is : (cs : List Command) (client object : ℕ) → holds (held_after [] cs) (of client object) ≡ fold (follow client object) false cs
held_is cs client object = held_from [] cs client object
