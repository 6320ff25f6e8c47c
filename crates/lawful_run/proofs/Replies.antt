-- The replies of a client one by one, each with its command and with what the client kept.
use Rattle.std.proofs.Common.{◌≡◌, ℕ, zero, suc, ◌+◌, ◌<◌, ◌≤◌, List, [], ◌∷◌, ◌++◌, length, false, Some, slice_get, slice_index_or, refl, ap, sym, subst, ◌∙◌, ◌⊎◌, inl, inr, arith, length-append}
use Rattle.std.specs.Prelude.{◌==◌}
use Rattle.std.specs.List.{Contains}
use Rattle.std.proofs.lemmas.Bool.{eqb-true, eq-eqb, false_from_ne_true}
use Rattle.col_core.specs.Log.{Log}
use Rattle.col_core.specs.Keeping.{Kept}
use Rattle.col_core.proofs.CallerLemmas.{if_true, if_false}
use Rattle.script_text.specs.declared.script.Command.{Command}
use Rattle.report_text.specs.declared.report.ReplyLine.{ReplyLine}
use Rattle.lawful_run.specs.Callers.{Caller}
use Rattle.lawful_run.specs.Explains.{Answers, Explained, start, next}
use Rattle.lawful_run.specs.Readings.{kept_at}
use Rattle.lawful_run.proofs.Prefixes.{get-append, get_within}
pub use Rattle.log_node.proofs.CallerLemmas.{get_last as get-last}

-- LISTS
pub last_or_before : {A : Type 0} (xs : List A) (x r : A) (k : ℕ) → slice_get (xs ++ x ∷ []) k ≡ Some r
    → (slice_get xs k ≡ Some r) ⊎ ((k ≡ length xs) × (x ≡ r))
last_or_before [] x r zero e = inr (refl, cc)
last_or_before [] x r (suc k) e = absurd (let f : ⊥ = cc in f)
last_or_before (y ∷ ys) x r zero e = inl e
last_or_before (y ∷ ys) x r (suc k) e = more (last_or_before ys x r k e) where
  more : (slice_get ys k ≡ Some r) ⊎ ((k ≡ length ys) × (x ≡ r)) → (slice_get (y ∷ ys) (suc k) ≡ Some r) ⊎
      ((suc k ≡ suc (length ys)) × (x ≡ r))
  more (inl c) = inl c
  more (inr f) = inr (ap suc f.0, f.1)

-- an element by its place
pub contains_at : {A : Type 0} (xs : List A) (k : ℕ) (x : A) → slice_get xs k ≡ Some x → Contains xs x
contains_at [] k x e = absurd (let f : ⊥ = cc in f)
contains_at (y ∷ ys) zero x e = (0, omega arith, cc)
contains_at (y ∷ ys) (suc k) x e = let c = contains_at ys k x e in let l = c.1 in (suc c.0, omega (arith, l), c.2)

pub place_of : {A : Type 0} (xs : List A) (x : A) → Contains xs x → (k : ℕ) × (slice_get xs k ≡ Some x)
place_of {A} xs x c = at xs c.0 c.1 c.2 where
  at : (ys : List A) (k : ℕ) → k < length ys → slice_index_or ys k x ≡ x → (n : ℕ) × (slice_get ys n ≡ Some x)
  at [] k lt e = absurd (let f : ⊥ = omega (arith, lt) in f)
  at (y ∷ ys) zero lt e = (0, ap (λ (z : A). Some z) e)
  at (y ∷ ys) (suc k) lt e = let r = at ys k (omega (arith, lt)) e in (suc r.0, r.1)

-- STEPS
-- the reply number k, explained over what the client kept before it
pub record Step {log : Log} {caller : Caller} {commands : List Command} {replies : List ReplyLine} {kept : Kept}
    (e : Explained log caller commands replies kept) (k : ℕ) : Type 0 where
  pub command : Command
  pub reply : ReplyLine
  pub asked : slice_get commands k ≡ Some command
  pub replied : slice_get replies k ≡ Some reply
  pub after : Kept
  pub answers : Answers log caller (kept_at e k) command reply after
  pub next_is : kept_at e (k + 1) ≡ after

differ : (a b : ℕ) → a < b → (a == b) ≡ false
differ a b lt = false_from_ne_true (a == b) (λ t. let e = eqb-true a b t in absurd
    (let f : ⊥ = omega (arith, lt, e) in f))

module _ {log : Log} {caller : Caller} where
  pub kept_before : {commands : List Command} {replies : List ReplyLine} {kept after : Kept} (command : Command)
      (reply : ReplyLine)
      (e : Explained log caller commands replies kept) (a : Answers log caller kept command reply after) (k : ℕ)
      → k ≤ length replies
      → kept_at (next command reply e a) k ≡ kept_at e k
  kept_before {commands} {replies} {kept} {after} command reply e a k le =
      if_false (k == length replies + 1) after (kept_at e k) (differ k (length replies + 1) (omega (arith, le)))

  pub kept_behind : {commands : List Command} {replies : List ReplyLine} {kept after : Kept} (command : Command)
      (reply : ReplyLine)
      (e : Explained log caller commands replies kept) (a : Answers log caller kept command reply after)
      → kept_at (next command reply e a) (length replies + 1) ≡ after
  kept_behind {commands} {replies} {kept} {after} command reply e a =
      if_true (length replies + 1 == length replies + 1) after (kept_at e (length replies + 1))
      (eq-eqb (length replies + 1) (length replies + 1) refl)

  pub lengths : {commands : List Command} {replies : List ReplyLine} {kept : Kept}
      → Explained log caller commands replies kept → length commands ≡ length replies
  lengths start = refl
  lengths (next {commands} {replies} command reply e a) =
      length-append commands (command ∷ []) ∙ (ap (λ n. n + 1) (lengths e) ∙ sym (length-append replies (reply ∷ [])))

  -- what is kept in the end
  pub kept_end : {commands : List Command} {replies : List ReplyLine} {kept : Kept}
      (e : Explained log caller commands replies kept) → kept_at e (length replies) ≡ kept
  kept_end start = refl
  kept_end (next {commands} {replies} {kept} {after} command reply e a) =
      ap (kept_at (next command reply e a)) (length-append replies (reply ∷ [])) ∙ kept_behind command reply e a

  abbrev pub step_later : {commands : List Command} {replies : List ReplyLine} {kept after : Kept} (command : Command)
      (reply : ReplyLine)
      (e : Explained log caller commands replies kept) (a : Answers log caller kept command reply after) (k : ℕ)
      → Step e k → Step (next command reply e a) k
  step_later {commands} {replies} command reply e a k s =
      let lt = get_within replies k s.reply s.replied in record {
        command = s.command;
        reply = s.reply;
        asked = get-append commands (command ∷ []) k s.command s.asked;
        replied = get-append replies (reply ∷ []) k s.reply s.replied;
        after = s.after;
        answers = subst (λ (kept : Kept). Answers log caller kept s.command s.reply s.after)
            (sym (kept_before command reply e a k (omega (arith, lt)))) s.answers;
        next_is = kept_before command reply e a (k + 1) (omega (arith, lt)) ∙ s.next_is;
      }

  abbrev pub newest_step : {commands : List Command} {replies : List ReplyLine} {kept after : Kept} (command : Command)
      (reply : ReplyLine)
      (e : Explained log caller commands replies kept) (a : Answers log caller kept command reply after) → Step
      (next command reply e a) (length replies)
  newest_step {commands} {replies} {kept} {after} command reply e a = record {
    command = command;
    reply = reply;
    asked = subst (λ (n : ℕ). slice_get (commands ++ command ∷ []) n ≡ Some command) (lengths e)
        (get-last commands command);
    replied = get-last replies reply;
    after = after;
    answers = subst (λ (k : Kept). Answers log caller k command reply after)
        (sym (kept_before command reply e a (length replies) (omega arith) ∙ kept_end e)) a;
    next_is = kept_behind command reply e a;
  }

  -- each reply has its step
  pub step_of : {commands : List Command} {replies : List ReplyLine} {kept : Kept}
      (e : Explained log caller commands replies kept)
      (k : ℕ) (reply : ReplyLine) → slice_get replies k ≡ Some reply → (s : Step e k) × (s.reply ≡ reply)
  step_of start k reply there = absurd (let f : ⊥ = cc in f)
  step_of (next {commands} {replies} {kept} {after} command last e a) k reply there =
      turn (step_of e k reply) (last_or_before replies last reply k there) where
        turn : (slice_get replies k ≡ Some reply → (s : Step e k) × (s.reply ≡ reply))
            → (slice_get replies k ≡ Some reply) ⊎ ((k ≡ length replies) × (last ≡ reply)) →
            (s : Step (next command last e a) k) × (s.reply ≡ reply)
        turn old (inl before) = let s = old before in (step_later command last e a k s.0, s.1)
        turn old (inr same) =
            subst (λ (n : ℕ). (s : Step (next command last e a) n) × (s.reply ≡ reply)) (sym same.0)
            (newest_step command last e a, same.1)
