-- A command of an object at the object's slot, which is opened there first where it was not.
use Rattle.std.proofs.Common.{◌≡◌, ℕ, ◌<◌, ◌≤◌, List, [], length, get_or, Option, Some, None, slice_get, refl, ap, sym, subst, ◌∙◌, inr, arith}
use Rattle.std.specs.Option.{option_map}
use Rattle.std.proofs.lemmas.Option.{slice_get_read, slice_get_within}
use Rattle.log_node.specs.declared.forms.Version.{Version}
use Rattle.log_node.specs.declared.limits.TheConstants.{MAX_COLOURS}
use Rattle.col_core.specs.Keeping.{Kept, updated}
use Rattle.script_text.specs.Fitting.{IsKindWithin}
use Rattle.script_text.specs.declared.script.Kind.{Kind}
use Rattle.script_text.specs.declared.script.Object.{Object}
use Rattle.script_text.specs.declared.commands.What.{What}
use Rattle.script_text.specs.declared.uses.ReadUse.TheVariants.{Leaves, Takes, UsesUp}
use Rattle.script_text.specs.declared.uses.Use.{Use}
use Rattle.script_text.specs.declared.uses.Use.TheVariants.{OfLog, OfObject}
use Rattle.script_text.specs.Commands.{use_of}
use Rattle.report_text.specs.declared.report.Answer.{Answer}
use Rattle.report_text.specs.declared.report.Answer.TheVariants as answers
use Rattle.lawful_run.specs.Refusals.{before_by, behind_by, kept_before, kept_behind}
use Rattle.lawful_run.proofs.CallerLemmas.{explained_keeps}
use Rattle.client_law.specs.Knowing.{log_seen}
use Rattle.script_meaning.specs.States.{kind_in}
use Rattle.log_client.specs.declared.store.Store.{Store}
use Rattle.log_client.specs.declared.client.Client.{Client}
use Rattle.log_client.specs.Clients.{IsClient, caller_of, seen_of}
use Rattle.log_client.proofs.CallerLemmas.{rests_same, zip_at, zip_long}
use Rattle.run_script.specs.declared.serving.opened.Opened.{Opened}
use Rattle.run_script.specs.Opened.{AreKept, AreOf, HasCommand, IsKept, IsKeptOf, IsOpenable, IsOpenedOf, IsSlotOf, IsUnfolded, KeepsReadsBut, kind_opened, object_asked, object_in, versions_in}
use Rattle.run_script.specs.Serving.{KnowsSlot, ServesObject, ServesSlot}
use Rattle.run_script.proofs.Giving.{knowing}
use Rattle.run_script.proofs.GivingObjects.{gives_none}
use Rattle.run_script.proofs.ObjectFrames.{named}
use Rattle.run_script.proofs.ReadsFound.{keeps_but}

-- WHICH SLOT

pub slot_within : (objects : List Object) (slots : List (Option Opened)) (n : ℕ) (o : Object) → AreOf objects slots
    → slice_get objects n ≡ Some o → n < length slots
slot_within objects slots n o of at =
    let lt = slice_get_within objects n o at in
    let long = zip_long IsSlotOf objects slots of in
    omega (arith, lt, long)

-- the kind of the object with the number
pub kind_at : (objects : List Object) (n : ℕ) (o : Object) → slice_get objects n ≡ Some o → kind_in objects n ≡ Some o.kind
kind_at objects n o at = ap (option_map (λ (o : Object). o.kind)) at

-- the one that is found at an object's number
pub slot_there : (c : Client) (objects : List Object) (slots : List (Option Opened)) (n : ℕ) (o : Object)
    (slot : Option Opened) → AreOf objects slots → AreKept c slots → slice_get objects n ≡ Some o
    → slot ≡ get_or slots n slot → IsKeptOf c o slot
slot_there c objects slots n o slot of kept at is =
    let lt = slot_within objects slots n o of at in (
      zip_at IsSlotOf objects slots n o slot of at (slice_get_read slots (length slots) n slot refl lt is),
      subst (IsKept c) (sym is) (kept n slot lt),
    )

-- WHAT IS OPENED THERE

module _ (object : Object) (x : Opened) where
  -- what was opened already
  pub kept_there : (c : Client) (slot : Option Opened) → slot ≡ Some x → IsKeptOf c object slot
      → (kind_opened x ≡ object.kind) × IsOpenedOf c x
  kept_there c slot is kept = subst (IsKeptOf c object) is kept

  -- what is opened now
  pub opened_kept : (s : Store) (c : Client) → IsClient s c → IsOpenable s object → kind_opened x ≡ object.kind → IsUnfolded x
      → IsOpenedOf c x
  opened_kept s c is can kind unfolded =
      unfolded.1 c (length s.regions) (subst (λ (k : ℕ). k ≤ MAX_COLOURS) (sym is.colours) can.0)
      (subst (λ (k : ℕ). IsKindWithin (length s.regions) k (kind_opened x)) (sym is.colours)
      (subst (IsKindWithin (length s.regions) s.size.colours) (sym kind) can.1))

  pub has_there : (what : What) → kind_opened x ≡ object.kind → HasCommand object.kind what → HasCommand (kind_opened x) what
  has_there what kind has = subst (λ (k : Kind). HasCommand k what) (sym kind) has

-- WHAT IS GIVEN

-- Where nothing was read, what was kept of reads stays by a command that finds nothing: it could only let a read go, or use it up.
finds_nothing : (object : ℕ) (what : What) (kept answered : Kept) → object_asked what ≡ Some object → kept.reads object ≡ None
    → answered.reads ≡ (kept_before what kept).reads → KeepsReadsBut object None kept (kept_behind what answered)
finds_nothing object what kept answered asked none = by (use_of what) asked where
  by : (u : Use) → object_in u ≡ Some object → answered.reads ≡ (before_by u kept).reads
      → KeepsReadsBut object None kept (behind_by u answered)
  by (OfLog stops) at same = absurd (let f : ⊥ = cc (at) in f)
  by (OfObject k Leaves) at same = keeps_but object None kept answered none same
  by (OfObject k Takes) at same = λ n.
      ap (λ (reads : ℕ → Option (List Version)). reads n) same
      ∙ ap (λ (m : ℕ). updated kept.reads m None n) (named k object at)
  by (OfObject k UsesUp) at same = λ n.
      ap (λ (reads : ℕ → Option (List Version)). updated reads k None n) same
      ∙ ap (λ (m : ℕ). updated kept.reads m None n) (named k object at)

module _ (s : Store) (objects : List Object) (c : Client) (object : ℕ) (what : What) where
  -- where there is no memory to open the object nothing is done
  pub given_unopened : (slot : Option Opened) → slot ≡ None → IsClient s c → object_asked what ≡ Some object
      → ServesSlot s objects c c object slot slot what answers.NoMemory
  given_unopened slot shut is asked =
      subst (λ (z : Option Opened). ServesSlot s objects c c object z z what answers.NoMemory) (sym shut)
      (knowing s objects c c what answers.NoMemory [] (KnowsSlot c object None) (KeepsReadsBut object None)
      (gives_none s c c (rests_same s c is) objects what (inr (λ helps. helps)) refl) (λ kept knows. tt)
      (λ kept answered rest knows fits explains left.
      finds_nothing object what kept answered asked (knows rest fits)
      (explained_keeps (log_seen (seen_of c) rest) (caller_of s c objects) (kept_before what kept) what answers.NoMemory [] answered
      explains (inr (λ stamp shown raises syncs e. let f : ⊥ = cc (e) in f)))))

  module _ (d : Client) (x y : Opened) (answer : Answer) (v : ServesObject s objects c d object x y what answer) where
    -- what it was opened to before
    pub given_there : (slot : Option Opened) → slot ≡ Some x → ServesSlot s objects c d object slot (Some y) what answer
    given_there slot is =
        subst (λ (z : Option Opened). ServesSlot s objects c d object z (Some y) what answer) (sym is) v

    -- what it is opened to now
    pub given_opened : (slot : Option Opened) → slot ≡ None → versions_in x ≡ None
        → ServesSlot s objects c d object slot (Some y) what answer
    given_opened slot is unread =
        subst (λ (z : Option Opened). ServesSlot s objects c d object z (Some y) what answer) (sym is)
        (knowing s objects c d what answer [] (KnowsSlot c object None) (KeepsReadsBut object (versions_in y)) v
        (λ kept knows rest fits. knows rest fits ∙ sym unread) (λ kept answered rest knows fits explains left. left))
