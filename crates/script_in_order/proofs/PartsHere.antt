-- A map that is played by its parts, where a command of a client at its home names it.
use Rattle.std.proofs.Common.{◌≡◌, ◌∙◌, ℕ, List, [], Some, None, Result, get_or, set, ap, sym, subst}
use Rattle.std.specs.Prelude.{IfOk, OnErr}
use Rattle.std.specs.declared.alloc.AllocError.{AllocError}
use Rattle.world_laws.specs.Laws.{IsReached}
use Rattle.world_laws.specs.Worlds.{World, home_of}
use Rattle.script_text.specs.Apart.{is_parts}
use Rattle.script_text.specs.declared.commands.What.{What}
use Rattle.script_text.specs.declared.script.Command.{Command}
use Rattle.script_text.specs.declared.script.Kind.TheVariants as kinds
use Rattle.script_text.specs.declared.script.Object.{Object}
use Rattle.script_text.specs.Fitting.{HasObject}
use Rattle.report_text.specs.declared.report.Answer.{Answer}
use Rattle.lawful_run.specs.Asks.{object_home}
use Rattle.lawful_run.proofs.CallerLemmas.{get_within}
use Rattle.script_meaning.specs.Objects.{caller_in, other_home, refusing_home}
use Rattle.script_meaning.specs.States.{kind_in}
use Rattle.script_in_order.specs.declared.folds.Fold.{Fold}
use Rattle.script_in_order.specs.declared.folds.Fold.TheVariants as folds
use Rattle.script_in_order.specs.declared.tx_folds.TxFolds.{TxFolds}
use Rattle.script_in_order.specs.Doing.{DoesAtHome}
use Rattle.script_in_order.specs.Folds.{AreFolded, AreTxFolds}
use Rattle.script_in_order.proofs.CausalKept.{kind_at}
use Rattle.script_in_order.proofs.GetSteps.{folded_on}
use Rattle.script_in_order.proofs.ObjectHomes.{parts_home}
use Rattle.script_in_order.proofs.PartSteps.{parts_at, parts_put}

-- what stands in the list of folds that is shown stands in that of which it is a view
pub fold_now : (shown all : List Fold) (n : ℕ) (fold : Fold) → shown ≡ all → fold ≡ get_or shown n fold → fold ≡ get_or all n fold
fold_now shown all n fold view there = there ∙ ap (λ (l : List Fold). get_or l n fold) view

-- the object that is found with these colours
module _ (w : World) (objects : List Object) (command : Command) (object : ℕ) (has : HasObject objects object is_parts)
    (near : other_home (home_of w command.client) (object_home (kind_in objects object)) ≡ None) (other : Object)
    (home : ℕ) (listed colours : List ℕ) (found : (get_or objects object other).kind ≡ kinds.Parts home listed)
    (same : colours ≡ listed) where
  abbrev own : ℕ
  own = home_of w command.client

  pub its_kind : kind_in objects object ≡ Some (kinds.Parts own colours)
  its_kind =
      parts_home own objects object near home listed
      (kind_at objects object other (kinds.Parts home listed) (get_within objects object has.found has.there) found)
      ∙ ap (λ (l : List ℕ). Some (kinds.Parts own l)) (sym same)

  -- by what is folded of each object
  module _ (shown all : List Fold) (view : shown ≡ all) (f : AreFolded w objects all) where
    pub its_fold : (fold : Fold) (tx : TxFolds) → fold ≡ get_or shown object fold → fold ≡ folds.Tx tx
        → AreTxFolds w (kinds.Parts own colours) tx
    its_fold fold tx there =
        parts_at w objects all object f has own colours its_kind fold tx (fold_now shown all object fold view there)

    -- what is done to it leaves all folds right
    pub its_put : (v : World) (what : What) (r : Result Answer AllocError) (tx : TxFolds) → IsReached w
        → command.what ≡ what → refusing_home (caller_in w objects command.client) what ≡ None
        → IfOk r (λ answer. DoesAtHome objects command w v answer []) → OnErr r (v ≡ w)
        → AreTxFolds v (kinds.Parts own colours) tx → AreFolded v objects (set shown object (folds.Tx tx))
    its_put v what r tx reached asks free ok err right =
        let free_still = subst (λ (x : What). refusing_home (caller_in w objects command.client) x ≡ None) (sym asks) free in
        subst (λ (l : List Fold). AreFolded v objects (set l object (folds.Tx tx))) (sym view)
        (parts_put v objects all object (folded_on objects command w v [] r reached free_still ok err all f) has own colours
        its_kind tx right)
