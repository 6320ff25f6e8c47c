-- Ranges, items of which something holds, and one item more at the end of a list.
use Rattle.std.proofs.Common.{◌≡◌, ◌≢◌, ℕ, ◌<◌, List, [], ◌∷◌, ◌++◌, length, Bool, true, cond, refl, ap, sym, subst, ◌∙◌, inl, inr, arith, eq-eqb, ne_eqb, append-nil}
use Rattle.std.specs.Prelude.{◌==◌, map}
use Rattle.std.specs.List.{All, filter, list_all}
use Rattle.std.proofs.lemmas.Bool.{and_from}
use Rattle.std.proofs.lemmas.List.Elements.{filter-append}
use Rattle.col_core.proofs.CallerLemmas.{both, contains_in, In}
use Rattle.script_text.specs.declared.script.Command.{Command}
pub use Rattle.col_core.proofs.CallerLemmas.{range_has as range_in}
pub use Rattle.col_core.proofs.CallerLemmas.{in_range}
pub use Rattle.col_core.proofs.CallerLemmas.{in_map-back as in_map_back}

-- what holds of all items holds of one
pub all_at : {A : Type 0} (P : A → Type 0) (xs : List A) → All P xs → (x : A) → In x xs → P x
all_at P xs all x i = let c = contains_in xs x i in subst P c.2 (all c.0 x c.1)

pub some_in : (xs : List ℕ) → 1 < length xs → (x : ℕ) × In x xs
some_in [] lt = absurd (let f : ⊥ = omega (arith, lt) in f)
some_in (x ∷ xs) lt = (x, inl refl)

pub each_of : (test : ℕ → Bool) (xs : List ℕ) → list_all test xs ≡ true → (x : ℕ) → In x xs → test x ≡ true
each_of test [] e x i = absurd i
each_of test (y ∷ xs) e x (inl is) = ap test (sym is) ∙ (both (test y) _ e).0
each_of test (y ∷ xs) e x (inr i) = each_of test xs (both (test y) _ e).1 x i

pub each_true : (test : ℕ → Bool) (xs : List ℕ) → ((x : ℕ) → In x xs → test x ≡ true) → list_all test xs ≡ true
each_true test [] h = refl
each_true test (x ∷ xs) h = and_from (test x) _ (h x (inl refl)) (each_true test xs (λ y i. h y (inr i)))

pub map_same : (f : ℕ → ℕ) (xs : List ℕ) → ((x : ℕ) → f x ≡ x) → map f xs ≡ xs
map_same f [] h = refl
map_same f (x ∷ xs) h = ap (λ (y : ℕ). y ∷ map f xs) (h x) ∙ ap (λ (l : List ℕ). x ∷ l) (map_same f xs h)

-- the commands of a client
abbrev pub asked_by : ℕ → List Command → List Command
asked_by client commands = filter (λ (c : Command). c.client == client) commands

pub asked-own : (client : ℕ) (commands : List Command) (command : Command) → command.client ≡ client
    → asked_by client (commands ++ command ∷ []) ≡ asked_by client commands ++ command ∷ []
asked-own client commands command e =
    filter-append (λ (c : Command). c.client == client) commands (command ∷ [])
    ∙ ap (λ b. asked_by client commands ++ cond b (command ∷ []) []) (eq-eqb command.client client e)

pub asked-other : (client : ℕ) (commands : List Command) (command : Command) → command.client ≢ client
    → asked_by client (commands ++ command ∷ []) ≡ asked_by client commands
asked-other client commands command n =
    filter-append (λ (c : Command). c.client == client) commands (command ∷ [])
    ∙ (ap (λ b. asked_by client commands ++ cond b (command ∷ []) []) (ne_eqb command.client client n)
    ∙ append-nil (asked_by client commands))
