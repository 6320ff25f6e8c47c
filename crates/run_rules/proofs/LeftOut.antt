-- What the answers of two accounts leave out is the same, by what their clients made in the end.
use Rattle.std.proofs.Common.{◌≡◌, ◌∙◌, refl, ap, sym, subst, Bool, true, false, cond, ℕ, zero, suc, ◌<◌, ◌≤◌, List, [], ◌∷◌, ◌++◌, map, Some, None, ◌⊎◌, inl, inr, arith}
use Rattle.std.specs.Prelude.{◌==◌, slice_get}
use Rattle.std.specs.List.{All}
use Rattle.std.proofs.lemmas.Bool.{eq-eqb, eqb-true}
use Rattle.std.proofs.lemmas.List.Elements.{All-contains, All-head, All-tail}
use Rattle.log_node.specs.declared.ids.Id.{Id}
use Rattle.col_core.specs.declared.Event as events
use Rattle.col_core.specs.declared.Event.TheVariants.{Single, Propose, Settle, Raise, Give, Carry, Trim}
use Rattle.col_core.specs.declared.Entry.{Entry}
use Rattle.col_core.specs.Ids.{IsStepOf}
use Rattle.col_core.specs.Log.{Log}
use Rattle.col_core.specs.Keeping.{Kept, updated}
use Rattle.col_core.proofs.CallerLemmas.{In, in_append, in_left, in_right, contains_in}
use Rattle.script_text.specs.declared.commands.What.{What}
use Rattle.script_text.specs.declared.commands.What.TheVariants as whats
use Rattle.script_text.specs.declared.script.Command.{Command}
use Rattle.script_text.specs.declared.script.Script.{Script}
use Rattle.script_text.specs.Fitting.{IsWithin}
use Rattle.report_text.specs.declared.report.Answer.{Answer}
use Rattle.report_text.specs.declared.report.Answer.TheVariants as answers
use Rattle.report_text.specs.declared.report.ReplyLine.{ReplyLine}
use Rattle.lawful_run.specs.Callers.{Caller}
use Rattle.lawful_run.proofs.CallerLemmas.{before_is}
use Rattle.run_rules.specs.Told.{Untold, Step, Follow, AreKeysFound, is_several, kept_at, kept_past}
use Rattle.run_rules.specs.Naming.{Names, NamesSteps, GivesTo, Has}
use Rattle.run_rules.specs.Answering.{CanHave}
use Rattle.run_rules.specs.Shown.{begins_row}
use Rattle.run_rules.specs.Agreeing.{began_row}
use Rattle.run_rules.specs.Printed.{nowhere, only_at, printed, printed_all}
use Rattle.run_rules.proofs.Growing.{row_part, low_part, step_part, steps_part, step_grows}

-- PLACES OF ONE COLUMN

pub own_part : (b : Bool) (own : ℕ) (places : ℕ → List ℕ) (c : ℕ) → b ≡ true → row_part b own places own c ≡ places c
own_part true own places c t = ap (λ (x : Bool). (cond x places (nowhere 0)) c) (eq-eqb own own refl)
own_part false own places c t = absurd (let f : ⊥ = cc (t) in f)

pub only_own : (region colour : ℕ) (xs : List ℕ) → only_at region colour xs region colour ≡ xs
only_own region colour xs =
    ap (λ (x : Bool). (cond x (updated (nowhere 0) colour xs) (nowhere 0)) colour) (eq-eqb region region refl)
    ∙ ap (λ (x : Bool). cond {A = List ℕ} x xs []) (eq-eqb colour colour refl)

in_choice : (b : Bool) (xs : ℕ → List ℕ) (c p : ℕ) → In p ((cond b xs (nowhere 0)) c) → (b ≡ true) × In p (xs c)
in_choice true xs c p i = (refl, i)
in_choice false xs c p i = absurd i

pub in_row : (b : Bool) (own : ℕ) (places : ℕ → List ℕ) (r c p : ℕ) → In p (row_part b own places r c)
    → (b ≡ true) × (r ≡ own) × In p (places c)
in_row true own places r c p i =
    let x = in_choice (r == own) places c p i in (refl, eqb-true r own x.0, x.1)
in_row false own places r c p i = absurd i

in_if : (b : Bool) (xs : List ℕ) (p : ℕ) → In p (cond b xs []) → (b ≡ true) × In p xs
in_if true xs p i = (refl, i)
in_if false xs p i = absurd i

pub in_only : (region colour : ℕ) (xs : List ℕ) (r c p : ℕ) → In p (only_at region colour xs r c)
    → (r ≡ region) × (c ≡ colour) × In p xs
in_only region colour xs r c p i =
    let x = in_choice (r == region) (updated (nowhere 0) colour xs) c p i in
    let y = in_if (c == colour) xs p x.1 in
    (eqb-true r region x.0, eqb-true c colour y.0, y.1)

-- WHAT STANDS THERE

-- a step of an id of the client with this number or a later one, or a give to its region
abbrev pub IsLeftOut : ℕ → ℕ → ℕ → events.Event → Type 0
IsLeftOut client own ids event =
    ((m : ℕ) × (ids ≤ m) × IsStepOf (record { client = client; count = m }) event) ⊎ GivesTo own event

abbrev pub StandsLeftOut : Log → Caller → ℕ → ℕ → ℕ → ℕ → Type 0
StandsLeftOut log caller ids r c p =
    (e : Entry) × (slice_get (log.histories r c) p ≡ Some e) × IsLeftOut caller.client caller.own ids e.event

pub one_id : (x y : Id) (event : events.Event) → IsStepOf x event → IsStepOf y event → x ≡ y
one_id x y (Single id floor wants) s t = absurd s
one_id x y (Propose id floor wants) s t = sym s ∙ t
one_id x y (Settle id outcome) s t = sym s ∙ t
one_id x y (Raise to) s t = absurd s
one_id x y (Give region from) s t = absurd s
one_id x y (Carry region start heads) s t = absurd s
one_id x y (Trim counts) s t = absurd s

pub no_give : (x : Id) (own : ℕ) (event : events.Event) → IsStepOf x event → GivesTo own event → ⊥
no_give x own (Single id floor wants) s g = g
no_give x own (Propose id floor wants) s g = g
no_give x own (Settle id outcome) s g = g
no_give x own (Raise to) s g = g
no_give x own (Give region from) s g = s
no_give x own (Carry region start heads) s g = g
no_give x own (Trim counts) s g = g

-- a step of an earlier id is none of these
pub not_later : (client own ids k : ℕ) (event : events.Event) → k < ids → IsStepOf (record { client = client; count = k }) event
    → IsLeftOut client own ids event → ⊥
not_later client own ids k event lt s (inl x) =
    let e = ap (λ (i : Id). i.count) (one_id (record { client = client; count = k }) (record { client = client; count = x.0 })
    event s x.2) in
    let le = x.1 in
    omega (arith, e, le, lt)
not_later client own ids k event lt s (inr g) = no_give (record { client = client; count = k }) own event s g

pub same_entry : (h : List Entry) (p : ℕ) (d e : Entry) → slice_get h p ≡ Some d → slice_get h p ≡ Some e → d ≡ e
same_entry h p d e x y = let z : Some d ≡ Some e = sym x ∙ y in let w : d ≡ e = cc (z) in w

-- ONE STEP

-- what rules 1 and 4 say of a step
pub record Obeys (script : Script) (log : Log) (caller : Caller) (step : Step) : Type 0 where
  pub can : CanHave caller (kept_at step) step.command.what step.reply.nodes step.reply.answer
  pub names : Names log step.untold caller (kept_at step) step.command.what step.reply.answer
  pub keys : AreKeysFound step.untold.found step.reply.answer
  pub within : IsWithin script.shape.regions script.shape.colours step.command.what

module _ (log : Log) (untold : Untold) (caller : Caller) (kept : Kept) (what : What) where
  pub steps_of_row : (answer : Answer) → begins_row (is_several caller kept what) answer ≡ true
      → Names log untold caller kept what answer → NamesSteps log caller kept untold.places
  steps_of_row (answers.Stood stamp None points) t n = absurd (let f : ⊥ = cc (t) in f)
  steps_of_row (answers.Stood stamp (Some number) points) t n = n.1
  steps_of_row (answers.StampEnd colour) t n = n t
  steps_of_row (answers.Stopped zero) t n = absurd (let f : ⊥ = cc (t) in f)
  steps_of_row (answers.Stopped (suc steps)) t n = n
  steps_of_row (answers.Ruled conflict stamp None points read_stamp raises syncs) t n = absurd (let f : ⊥ = cc (t) in f)
  steps_of_row (answers.Ruled conflict stamp (Some number) points read_stamp raises syncs) t n = n.0.1
  steps_of_row (answers.Changed failed stamp None points read_stamp raises syncs) t n = absurd (let f : ⊥ = cc (t) in f)
  steps_of_row (answers.Changed failed stamp (Some number) points read_stamp raises syncs) t n = n.0.1
  steps_of_row _ t n = absurd (let f : ⊥ = cc (t) in f)

  pub low_gives : (answer : Answer) (r c p : ℕ)
      → Names log untold caller kept what answer → In p (low_part untold answer what r c)
      → (e : Entry) × (slice_get (log.histories r c) p ≡ Some e) × GivesTo caller.own e.event
  low_gives (answers.Pulled count give carry) r c p n i = of_pull what n.2 i where
    of_pull : (w : What) → w ≡ whats.Pull n.0 n.1 → In p (low_part untold (answers.Pulled count give carry) w r c)
        → (e : Entry) × (slice_get (log.histories r c) p ≡ Some e) × GivesTo caller.own e.event
    of_pull (whats.Pull region colour) e i =
        let er : region ≡ n.0 = cc (e) in
        let ec : colour ≡ n.1 = cc (e) in
        let x = in_only region colour untold.too_low r c p i in
        let h = All-contains (Has caller.client (log.histories n.0 n.1) (GivesTo caller.own)) untold.too_low p n.3.0
        (contains_in untold.too_low p x.2) in (
          h.0,
          ap (λ (k : ℕ). slice_get (log.histories k c) p) (x.0 ∙ er)
              ∙ (ap (λ (k : ℕ). slice_get (log.histories n.0 k) p) (x.1 ∙ ec) ∙ h.1),
          h.3,
        )
    of_pull _ e i = absurd i
  low_gives _ r c p n i = absurd i

pub no_low : (several : Bool) (untold : Untold) (what : What) (answer : Answer) (r c p : ℕ) → begins_row several answer ≡ true
    → In p (low_part untold answer what r c) → ⊥
no_low several untold what (answers.Pulled count give carry) r c p t i = let f : ⊥ = cc (t) in f
no_low several untold what _ r c p t i = i

-- the ids before a step's answer
pub ids_at : (step : Step) → (kept_at step).ids ≡ step.kept.ids
ids_at step = before_is (λ (k : Kept). k.ids ≡ step.kept.ids) step.command.what step.kept refl (λ object. refl)

-- an own step of a row at a place
abbrev pub IsStepAt : Log → Caller → Kept → ℕ → ℕ → Type 0
IsStepAt log caller kept colour place =
    (kept.seen caller.own colour ≤ place)
    × Has caller.client (log.histories caller.own colour)
    (IsStepOf (record { client = caller.client; count = kept.ids })) place

-- where a row was begun, each of the places has one
pub row_step : (log : Log) (caller : Caller) (step : Step)
    → Names log step.untold caller (kept_at step) step.command.what step.reply.answer → began_row caller step ≡ true
    → (colour p : ℕ) → In p (step.untold.places colour) → IsStepAt log caller (kept_at step) colour p
row_step log caller step names t colour p i =
    All-contains (IsStepAt log caller (kept_at step) colour) (step.untold.places colour) p
    (steps_of_row log step.untold caller (kept_at step) step.command.what step.reply.answer t names colour)
    (contains_in (step.untold.places colour) p i)

-- what a step leaves out is there
left_there : (script : Script) (log : Log) (caller : Caller) (step : Step) → Obeys script log caller step → (r c p : ℕ)
    → In p (row_part (began_row caller step) caller.own step.untold.places r c)
    ⊎ In p (low_part step.untold step.reply.answer step.command.what r c)
    → StandsLeftOut log caller step.kept.ids r c p
left_there script log caller step o r c p (inl i) =
    let x = in_row (began_row caller step) caller.own step.untold.places r c p i in
    let s = row_step log caller step o.names x.0 c p x.2 in
    let ids = ids_at step in (
      s.1.0,
      ap (λ (k : ℕ). slice_get (log.histories k c) p) x.1 ∙ s.1.1,
      inl ((kept_at step).ids, omega (arith, ids), s.1.3),
    )
left_there script log caller step o r c p (inr i) =
    let g = low_gives log step.untold caller (kept_at step) step.command.what step.reply.answer r c p o.names i in
    (g.0, g.1, inr g.2)

-- LATER STEPS

later_out : (log : Log) (caller : Caller) (ids more r c p : ℕ) → ids ≤ more → StandsLeftOut log caller more r c p
    → StandsLeftOut log caller ids r c p
later_out log caller ids more r c p le s = (s.0, s.1, turn s.2) where
  turn : IsLeftOut caller.client caller.own more s.0.event → IsLeftOut caller.client caller.own ids s.0.event
  turn (inl x) = let m = x.1 in inl (x.0, omega (arith, le, m), x.2)
  turn (inr g) = inr g

-- the places that steps print
abbrev pub printed_by : Caller → List Step → ℕ → ℕ → List ℕ
printed_by caller steps r c =
    printed_all caller.own (map (λ (s : Step). s.command) steps) (map (λ (s : Step). s.reply) steps) r c

-- what steps print they add
pub by_parts : (caller : Caller) (ys : List Step) (r c p : ℕ) → In p (printed_by caller ys r c) → In p (steps_part caller ys r c)
by_parts caller [] r c p i = i
by_parts caller (y ∷ ys) r c p i =
    turn (in_append p (printed caller.own y.reply.answer y.command.what r c) (printed_by caller ys r c) i)
    (λ j. by_parts caller ys r c p j) where
      turn : In p (printed caller.own y.reply.answer y.command.what r c) ⊎ In p (printed_by caller ys r c)
          → (In p (printed_by caller ys r c) → In p (steps_part caller ys r c))
          → In p (step_part caller y r c ++ steps_part caller ys r c)
      turn (inl j) more =
          in_left p (step_part caller y r c) (steps_part caller ys r c)
          (in_right p (row_part (began_row caller y) caller.own y.untold.places r c)
          (low_part y.untold y.reply.answer y.command.what r c ++ printed caller.own y.reply.answer y.command.what r c)
          (in_right p (low_part y.untold y.reply.answer y.command.what r c)
          (printed caller.own y.reply.answer y.command.what r c) j))
      turn (inr j) more = in_right p (step_part caller y r c) (steps_part caller ys r c) (more j)

-- what steps add they print, or it is left out
pub parts_in : (script : Script) (log : Log) (caller : Caller) (xs : List Step)
    → All (Obeys script log caller) xs → (kept last : Kept) → Follow log caller kept xs last → (r c p : ℕ)
    → In p (steps_part caller xs r c) → In p (printed_by caller xs r c) ⊎ StandsLeftOut log caller kept.ids r c p
parts_in script log caller [] o kept last follow r c p i = absurd i
parts_in script log caller (x ∷ xs) o kept last follow r c p i =
    turn (in_append p (step_part caller x r c) (steps_part caller xs r c) i)
    (λ j. parts_in script log caller xs (All-tail (Obeys script log caller) x xs o) (kept_past log caller x) last follow.1
    r c p j) where
      its_ids : x.kept.ids ≡ kept.ids
      its_ids = ap (λ (k : Kept). k.ids) follow.0

      out : In p (row_part (began_row caller x) caller.own x.untold.places r c)
          ⊎ In p (low_part x.untold x.reply.answer x.command.what r c) → StandsLeftOut log caller kept.ids r c p
      out j =
          subst (λ (n : ℕ). StandsLeftOut log caller n r c p) its_ids
          (left_there script log caller x (All-head (Obeys script log caller) x xs o) r c p j)

      behind : In p (low_part x.untold x.reply.answer x.command.what r c)
          ⊎ In p (printed caller.own x.reply.answer x.command.what r c)
          → In p (printed_by caller (x ∷ xs) r c) ⊎ StandsLeftOut log caller kept.ids r c p
      behind (inl j) = inr (out (inr j))
      behind (inr j) = inl (in_left p (printed caller.own x.reply.answer x.command.what r c) (printed_by caller xs r c) j)

      here : In p (row_part (began_row caller x) caller.own x.untold.places r c)
          ⊎ In p (low_part x.untold x.reply.answer x.command.what r c ++ printed caller.own x.reply.answer x.command.what r c)
          → In p (printed_by caller (x ∷ xs) r c) ⊎ StandsLeftOut log caller kept.ids r c p
      here (inl j) = inr (out (inl j))
      here (inr j) =
          behind (in_append p (low_part x.untold x.reply.answer x.command.what r c)
          (printed caller.own x.reply.answer x.command.what r c) j)

      later : In p (printed_by caller xs r c) ⊎ StandsLeftOut log caller (kept_past log caller x).ids r c p
          → In p (printed_by caller (x ∷ xs) r c) ⊎ StandsLeftOut log caller kept.ids r c p
      later (inl j) = inl (in_right p (printed caller.own x.reply.answer x.command.what r c) (printed_by caller xs r c) j)
      later (inr s) =
          let g = (step_grows log caller x).ids in
          let k = its_ids in
          inr (later_out log caller kept.ids (kept_past log caller x).ids r c p (omega (arith, g, k)) s)

      turn : In p (step_part caller x r c) ⊎ In p (steps_part caller xs r c)
          → (In p (steps_part caller xs r c)
          → In p (printed_by caller xs r c) ⊎ StandsLeftOut log caller (kept_past log caller x).ids r c p)
          → In p (printed_by caller (x ∷ xs) r c) ⊎ StandsLeftOut log caller kept.ids r c p
      turn (inl j) more =
          here (in_append p (row_part (began_row caller x) caller.own x.untold.places r c)
          (low_part x.untold x.reply.answer x.command.what r c ++ printed caller.own x.reply.answer x.command.what r c) j)
      turn (inr j) more = later (more j)

-- what one account's steps add the other's add, or it is left out there
pub steps_in : (script : Script) (log : Log) (caller : Caller) (xs ys : List Step)
    → map (λ (s : Step). s.command) xs ≡ map (λ (s : Step). s.command) ys
    → map (λ (s : Step). s.reply) xs ≡ map (λ (s : Step). s.reply) ys
    → All (Obeys script log caller) xs → (kept last : Kept) → Follow log caller kept xs last → (r c p : ℕ)
    → In p (steps_part caller xs r c) → In p (steps_part caller ys r c) ⊎ StandsLeftOut log caller kept.ids r c p
steps_in script log caller xs ys e f o kept last follow r c p i =
    turn (parts_in script log caller xs o kept last follow r c p i) where
      same : printed_by caller xs r c ≡ printed_by caller ys r c
      same = ap (λ (cs : List Command). printed_all caller.own cs (map (λ (s : Step). s.reply) xs) r c) e
          ∙ ap (λ (rs : List ReplyLine). printed_all caller.own (map (λ (s : Step). s.command) ys) rs r c) f

      turn : In p (printed_by caller xs r c) ⊎ StandsLeftOut log caller kept.ids r c p
          → In p (steps_part caller ys r c) ⊎ StandsLeftOut log caller kept.ids r c p
      turn (inl j) = inl (by_parts caller ys r c p (subst (In p) same j))
      turn (inr s) = inr s
