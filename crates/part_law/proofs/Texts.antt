-- Texts that are neither a transaction's nor a decision's say nothing to a part.
use Rattle.std.proofs.Common.{◌≡◌, ℕ, Bool, true, false, cond, ◌&&◌, ◌||◌, List, [], ◌∷◌, length, map, Option, None, refl, ap, sym, subst, ◌∙◌}
use Rattle.std.specs.Prelude.{◌==◌}
use Rattle.std.specs.List.{cons_option, filter, filter_map}
use Rattle.log_node.specs.declared.ids.Key.{Key}
use Rattle.log_node.specs.declared.forms.Form.{Form}
use Rattle.log_node.specs.declared.forms.Form.TheVariants as forms
use Rattle.object_form.specs.Forms.{equals, is_word}
use Rattle.object_form.specs.Readings.{before, after, parts, is_pair, pair_of, are_pairs, form_of, form_after, put_of, delete_of, put_all_of, transaction_of, enqueue_of, dequeue_of, causal_of}
use Rattle.object_fold.specs.Nodes.{ObjectNode}
use Rattle.part_fold.specs.declared.decision.Decision.{Decision}
use Rattle.part_fold.specs.Decisions.{decision_of, decision_after}
use Rattle.part_fold.specs.Parts.{transaction_by, transactions, decisions}
use Rattle.script_text.specs.Pieces.{is_transactional}
use Rattle.col_core.proofs.CallerLemmas.{apart, choice, if_false}

-- the form is no transaction
abbrev IsOther : Form → Type 0
IsOther form = (key : Key) → transaction_by key form ≡ None

other_or : (b : Bool) (x y : Form) → IsOther x → IsOther y → IsOther (cond b x y)
other_or true x y p q = p
other_or false x y p q = q

or_none : (a b : Bool) → (a || b) ≡ false → (a ≡ false) × (b ≡ false)
or_none true b e = absurd (let f : ⊥ = cc in f)
or_none false b e = (refl, e)

or_plain : (b : Bool) (x : Form) → IsOther x → IsOther (cond b x forms.Plain)
or_plain true x p = p
or_plain false x p = λ k. refl

not_after : (letter : ℕ) (bytes : List ℕ) → letter == 116 ≡ false → IsOther (form_after letter bytes)
not_after letter bytes non =
    other_or (letter == 112) (put_of bytes) _
    (or_plain (is_pair bytes) (forms.Put (before equals bytes) (after equals bytes)) (λ k. refl))
    (other_or (letter == 100) (delete_of bytes) _ (or_plain (is_word bytes) (forms.Delete bytes) (λ k. refl))
    (other_or (letter == 109) (put_all_of bytes) _
    (or_plain (are_pairs 4 (parts bytes)) (forms.PutAll (map pair_of (parts bytes))) (λ k. refl))
    (subst IsOther (sym (if_false (letter == 116) (transaction_of bytes) _ non))
    (other_or (letter == 101) (enqueue_of bytes) _ (or_plain (is_word bytes) (forms.Enqueue bytes) (λ k. refl))
    (other_or (letter == 113) (dequeue_of bytes) _ (or_plain (length bytes == 0) forms.Dequeue (λ k. refl))
    (other_or (letter == 99) (causal_of bytes) _
    (or_plain (is_pair bytes) (forms.Causal (before equals bytes) (after equals bytes)) (λ k. refl)) (λ k. refl)))))))

pub no_transaction : (text : List ℕ) → is_transactional text ≡ false → (key : Key)
    → transaction_by key (form_of text) ≡ None
no_transaction [] non key = refl
no_transaction (a ∷ []) non key = refl
no_transaction (a ∷ b ∷ bytes) non key =
    choice (λ (form : Form). transaction_by key form ≡ None) (b == 58) (form_after a bytes) forms.Plain
    (λ t. not_after a bytes (or_none (a == 116) (a == 122) (first ((a == 116) || (a == 122)) (b == 58) non t)).0 key)
    (λ f. refl) where
      first : (x y : Bool) → (x && y) ≡ false → y ≡ true → x ≡ false
      first true y e t = absurd (apart y t e)
      first false y e t = refl

pub no_decision : (text : List ℕ) → is_transactional text ≡ false → decision_of text ≡ None
no_decision [] non = refl
no_decision (a ∷ []) non = refl
no_decision (a ∷ b ∷ bytes) non =
    choice (λ (o : Option Decision). o ≡ None) (a == 122) (cond (b == 58) (decision_after bytes) None) None
    (λ t. if_false (b == 58) (decision_after bytes) None (second (a == 116) (a == 122) (b == 58) non t)) (λ f. refl) where
      second : (x y z : Bool) → ((x || y) && z) ≡ false → y ≡ true → z ≡ false
      second true y z e t = e
      second false true z e t = e
      second false false z e t = absurd (let f : ⊥ = cc in f)

-- the text is a transaction's or a decision's
abbrev pub is_said : ObjectNode → Bool
is_said n = is_transactional n.text

-- a filter that leaves out what gives nothing
kept : {A B : Type 0} (f : A → Option B) (test : A → Bool) → ((x : A) → test x ≡ false → f x ≡ None) → (xs : List A)
    → filter_map f xs ≡ filter_map f (filter test xs)
kept f test none [] = refl
kept {A} {B} f test none (x ∷ xs) =
    choice (λ (l : List A). filter_map f (x ∷ xs) ≡ filter_map f l) (test x) (x ∷ filter test xs) (filter test xs)
    (λ t. ap (cons_option (f x)) (kept f test none xs))
    (λ non. ap (λ (o : Option B). cons_option o (filter_map f xs)) (none x non) ∙ kept f test none xs)

pub same_transactions : (ns : List ObjectNode) → transactions ns ≡ transactions (filter is_said ns)
same_transactions ns = kept (λ (n : ObjectNode). transaction_by n.key (form_of n.text)) is_said
    (λ n non. no_transaction n.text non n.key) ns

pub same_decisions : (ns : List ObjectNode) → decisions ns ≡ decisions (filter is_said ns)
same_decisions ns = kept (λ (n : ObjectNode). decision_of n.text) is_said (λ n non. no_decision n.text non) ns
