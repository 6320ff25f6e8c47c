-- What a loop over a list has had, and what comes next.
use Rattle.std.proofs.Common.{◌≡◌, ℕ, zero, suc, ◌<◌, ◌≤◌, List, [], ◌∷◌, ◌++◌, length, take, get_or, Option, Some, slice_get, ap, sym, ◌∙◌, inl, inr, arith}
use Rattle.std.proofs.lemmas.List.{append_assoc}
use Rattle.script_text.specs.declared.script.Command.{Command}
use Rattle.script_text.specs.declared.script.Object.{Object}
use Rattle.report_text.specs.declared.report.ReplyLine.{ReplyLine}
use Rattle.log_client.specs.declared.client.Client.{Client}
use Rattle.log_client.specs.declared.store.Store.{Store}
use Rattle.log_client.specs.Clients.{Finished}
use Rattle.run_script.specs.declared.serving.opened.Opened.{Opened}
use Rattle.run_script.specs.Serving.{Serves, StopsLast}

pub there : {A : Type 0} (xs : List A) (n : ℕ) (x : A) → (n < length xs) × (x ≡ get_or xs n x) → slice_get xs n ≡ Some x
there [] n x here = absurd (let lt = here.0 in let f : ⊥ = omega (arith, lt) in f)
there (y ∷ ys) zero x here = ap Some (sym here.1)
there (y ∷ ys) (suc n) x here = there ys n x (let lt = here.0 in (omega (arith, lt), here.1))

-- the items before a place, the one there, and those after it
pub split_there : {A : Type 0} (xs : List A) (n : ℕ) (x : A) → slice_get xs n ≡ Some x
    → (after : List A) × (xs ≡ take n xs ++ x ∷ after)
split_there [] n x at = absurd (let f : ⊥ = cc (at) in f)
split_there {A} (y ∷ ys) zero x at = (ys, ap (λ (z : A). z ∷ ys) (let e : y ≡ x = cc (at) in e))
split_there {A} (y ∷ ys) (suc n) x at = let r = split_there ys n x at in (r.0, ap (λ (l : List A). y ∷ l) r.1)

-- a client who is to be served another of its commands has finished
pub finished_before : (s : Store) (objects : List Object) (c : Client) (commands : List Command) (n : ℕ) (next : Command)
    (xs : List (Option Opened)) (done : List Command) (replies : List ReplyLine) → StopsLast commands
    → slice_get commands n ≡ Some next → done ≡ take n commands → Serves s objects c xs done replies → Finished c
finished_before s objects c commands n next xs done replies last at are v = elim v.finished [
  | inl still ↦ still
  | inr stop ↦ absurd (
      let r = split_there commands n next at in
      let split : commands ≡ stop.before ++ stop.command ∷ (next ∷ r.0) =
      r.1 ∙ (ap (λ (l : List Command). l ++ next ∷ r.0) (sym are ∙ stop.asked)
      ∙ append_assoc stop.before (stop.command ∷ []) (next ∷ r.0)) in
      let none = last stop.before (next ∷ r.0) stop.command split stop.stops in
      let f : ⊥ = cc (none) in f)
]

-- there is room for one more reply
pub room_left : (len replies yielded commands capacity first : ℕ) → len ≡ replies → replies ≡ yielded → yielded < commands
    → commands ≤ first → capacity ≡ first → len < capacity
room_left len replies yielded commands capacity first is count low room same = omega (arith, is, count, low, room, same)
