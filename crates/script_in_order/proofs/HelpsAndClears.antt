-- Helps, one after another.
use Rattle.std.proofs.Common.{◌≡◌, ℕ, zero, suc, ◌+◌, Bool, List, [], ◌∷◌, ◌++◌, length, get_or, true, refl, ap, sym}
use Rattle.std.proofs.Common.{subst, ◌∙◌, arith, add-zero, length-append}
use Rattle.std.specs.List.{fold}
use Rattle.log_node.specs.declared.ids.Key.{Key}
use Rattle.log_node.specs.declared.ids.Row.{Row}
use Rattle.world_laws.specs.Worlds.{World, home_history, run_steps}
use Rattle.world_laws.specs.Completing.{complete_steps}
use Rattle.world_laws.proofs.CallerLemmas.{run_steps-append}
use Rattle.world_code.specs.declared.completing.Completed.{Completed}
use Rattle.world_code.specs.Completed.{IsCompleted}
use Rattle.world_code.specs.Looks.{IsFirstBelow}
use Rattle.script_meaning.specs.States.{Grants}
use Rattle.script_meaning.specs.Helping.{Helping, open_below, helped_row, helped_node, helped_first, helped_times}
use Rattle.script_meaning.specs.Helping.{cleared}
use Rattle.script_in_order.specs.Helps.{FindsNext, HelpsLead}

finds_split : (grants : Grants) (count : ℕ) (xs ys : List (ℕ → Bool)) → FindsNext grants count (xs ++ ys)
    → FindsNext grants count xs × FindsNext grants (count + length xs) ys
finds_split grants count [] ys f = (tt, subst (λ (n : ℕ). FindsNext grants n ys) (sym (add-zero count)) f)
finds_split grants count (x ∷ xs) ys f =
    let rest = finds_split grants (count + 1) xs ys f.1 in
    let e : count + 1 + length xs ≡ count + length (x ∷ xs) = omega arith in
    ((f.0, rest.0), subst (λ (n : ℕ). FindsNext grants n ys) e rest.1)

-- the world after so many helps
abbrev pub helping : World → ℕ → Helping
helping w n = record { world = w; helps = n }

pub helps_none : (w : World) → HelpsLead (λ grants h. h) w w
helps_none w = record {
  finds = [];
  is = λ grants count f. ap (helping w) (sym (add-zero count));
  steps = [];
  run = refl;
}

pub helps_then : (f g : Grants → Helping → Helping) (a b c : World) → HelpsLead f a b → HelpsLead g b c
    → HelpsLead (λ grants h. g grants (f grants h)) a c
helps_then f g a b c p q = record {
  finds = p.finds ++ q.finds;
  is = λ grants count t.
      let s = finds_split grants count p.finds q.finds t in
      let e : count + length p.finds + length q.finds ≡ count + length (p.finds ++ q.finds) =
      simp length-append (omega arith) in
      ap (g grants) (p.is grants count s.0) ∙ (q.is grants (count + length p.finds) s.1 ∙ ap (helping c) e);
  steps = p.steps ++ q.steps;
  run = run_steps-append a p.steps q.steps ∙ (ap (λ (w : World). run_steps w q.steps) p.run ∙ q.run);
}

-- helps of one meaning, where another is the same there
pub helps_as : (f g : Grants → Helping → Helping) (a b : World)
    → ((grants : Grants) (count : ℕ) → g grants (helping a count) ≡ f grants (helping a count)) → HelpsLead f a b → HelpsLead g a b
helps_as f g a b same p = record {
  finds = p.finds;
  is = λ grants count t. same grants count ∙ p.is grants count t;
  steps = p.steps;
  run = p.run;
}

-- the first of the open entries below the key is helped
pub first_helped : (old new : World) (by home colour : ℕ) (key : Key) (row : Row) (completed : Completed)
    → IsFirstBelow old home colour key row → IsCompleted old by row new completed
    → (meaning : Grants → Helping → Helping)
    → ((grants : Grants) (count : ℕ) → meaning grants (helping old count)
    ≡ helped_first grants by (helping old count) (open_below key (old.histories home colour)))
    → HelpsLead meaning old new
first_helped old new by home colour key row completed first done meaning is = record {
  finds = done.found ∷ [];
  is = λ grants count t.
      is grants count
      ∙ (ap (helped_first grants by (helping old count)) first.is_first
      ∙ (ap (helped_node grants by (helping old count)) first.node
      ∙ (ap (helped_row grants by (helping old count)) first.named
      ∙ ap (λ (w : World). helping w (count + 1))
      (ap (λ (g : ℕ → Bool). run_steps old (complete_steps old by row g)) t.0 ∙ sym done.world))));
  steps = complete_steps old by row done.found;
  run = sym done.world;
}

pub none_helped : (old : World) (by home colour : ℕ) (key : Key) → open_below key (old.histories home colour) ≡ []
    → (meaning : Grants → Helping → Helping)
    → ((grants : Grants) (count : ℕ) → meaning grants (helping old count)
    ≡ helped_first grants by (helping old count) (open_below key (old.histories home colour)))
    → HelpsLead meaning old old
none_helped old by home colour key none meaning is =
    helps_as (λ grants h. h) meaning old old
    (λ grants count. is grants count ∙ ap (helped_first grants by (helping old count)) none) (helps_none old)

-- the first one of these is helped
abbrev pub next_helped : ℕ → ℕ → Key → Grants → Helping → Helping
next_helped by colour key grants h = helped_first grants by h (open_below key (home_history h.world by colour))

helped_last : (n : ℕ) (grants : Grants) (by colour : ℕ) (key : Key) (h : Helping)
    → helped_times (suc n) grants by colour key h ≡ next_helped by colour key grants (helped_times n grants by colour key
    h)
helped_last zero grants by colour key h = refl
helped_last (suc n) grants by colour key h = helped_last n grants by colour key (next_helped by colour key grants h)

-- one help more
pub helps_more : (n by colour : ℕ) (key : Key) (a b c : World)
    → HelpsLead (λ grants h. helped_times n grants by colour key h) a b → HelpsLead (next_helped by colour key) b c
    → HelpsLead (λ grants h. helped_times (n + 1) grants by colour key h) a c
helps_more n by colour key a b c p q =
    let s : n + 1 ≡ suc n = omega arith in
    helps_as (λ grants h. next_helped by colour key grants (helped_times n grants by colour key h))
    (λ grants h. helped_times (n + 1) grants by colour key h) a c
    (λ grants count. ap (λ (k : ℕ). helped_times k grants by colour key (helping a count)) s
    ∙ helped_last n grants by colour key (helping a count))
    (helps_then (λ grants h. helped_times n grants by colour key h) (next_helped by colour key) a b c p q)

-- as many helps as there are open entries below the key
pub clears_colour : (n by colour : ℕ) (key : Key) (a b : World)
    → n ≡ length (open_below key (home_history a by colour))
    → HelpsLead (λ grants h. helped_times n grants by colour key h) a b → HelpsLead (λ grants h. cleared grants by key h colour) a b
clears_colour n by colour key a b is p =
    helps_as (λ grants h. helped_times n grants by colour key h) (λ grants h. cleared grants by key h colour) a b
    (λ grants count. ap (λ (k : ℕ). helped_times k grants by colour key (helping a count)) (sym is)) p

-- some colours are cleared: whoever clears those that are left clears them all
abbrev pub ClearsFirst : ℕ → Key → List ℕ → List ℕ → World → World → Type 0
ClearsFirst by key left colours old now =
    (new : World) → HelpsLead (λ grants h. fold (cleared grants by key) h left) now new
    → HelpsLead (λ grants h. fold (cleared grants by key) h colours) old new

pub clears_none : (by : ℕ) (key : Key) (left colours : List ℕ) (old : World) → left ≡ colours
    → ClearsFirst by key left colours old old
clears_none by key left colours old all new p =
    subst (λ (l : List ℕ). HelpsLead (λ grants h. fold (cleared grants by key) h l) old new) all p

-- one colour more
pub clears_next : (by : ℕ) (key : Key) (colour : ℕ) (left rest colours : List ℕ) (a b c : World) → left ≡ colour ∷ rest
    → ClearsFirst by key left colours a b → HelpsLead (λ grants h. cleared grants by key h colour) b c
    → ClearsFirst by key rest colours a c
clears_next by key colour left rest colours a b c e so_far one new p =
    so_far new (subst (λ (l : List ℕ). HelpsLead (λ grants h. fold (cleared grants by key) h l) b new) (sym e)
    (helps_then (λ grants h. cleared grants by key h colour) (λ grants h. fold (cleared grants by key) h rest) b c new one
    p))

-- all of them
pub clears_all : (by : ℕ) (key : Key) (left colours : List ℕ) (old now : World) → left ≡ []
    → ClearsFirst by key left colours old now → HelpsLead (λ grants h. fold (cleared grants by key) h colours) old now
clears_all by key left colours old now none so_far =
    so_far now (subst (λ (l : List ℕ). HelpsLead (λ grants h. fold (cleared grants by key) h l) now now) (sym none)
    (helps_none now))

-- where memory was granted for a command's helps, and in its own marks
abbrev pub found_with : (ℕ → Bool) → List (ℕ → Bool) → Grants
found_with marks finds = record {
  start = true;
  marks = marks;
  helps = λ n. get_or finds n (λ _. true);
  carry = true;
  fold = true;
  raises = λ _. true;
  read_helps = λ _ _. true;
  items = true;
  own = true;
}

finds_from : (marks : ℕ → Bool) (before finds : List (ℕ → Bool))
    → FindsNext (found_with marks (before ++ finds)) (length before) finds
finds_from marks before [] = tt
finds_from marks before (x ∷ finds) =
    let rest = finds_from marks (before ++ x ∷ []) finds in
    let n : length (before ++ x ∷ []) ≡ length before + 1 = simp length-append refl in (
      here before,
      subst (λ (l : List (ℕ → Bool)). FindsNext (found_with marks l) (length before + 1) finds)
          (assoc before) (subst (λ (k : ℕ). FindsNext (found_with marks ((before ++ x ∷ []) ++ finds)) k finds) n rest),
    ) where
      here : (l : List (ℕ → Bool)) → get_or (l ++ x ∷ finds) (length l) (λ _. true) ≡ x
      here [] = refl
      here (y ∷ l) = here l

      assoc : (l : List (ℕ → Bool)) → (l ++ x ∷ []) ++ finds ≡ l ++ x ∷ finds
      assoc [] = refl
      assoc (y ∷ l) = ap (λ (m : List (ℕ → Bool)). y ∷ m) (assoc l)

pub finds_all : (marks : ℕ → Bool) (finds : List (ℕ → Bool)) → FindsNext (found_with marks finds) 0 finds
finds_all marks finds = finds_from marks [] finds
