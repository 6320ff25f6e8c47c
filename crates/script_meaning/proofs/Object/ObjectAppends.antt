-- What a command of an object does that appends, as an append does it.
use Rattle.std.proofs.Common.{◌≡◌, ◌≢◌, inl, inr, ℕ, List, refl, ap, sym, subst, ◌∙◌}
use Rattle.std.specs.Prelude.{IsTrue}
use Rattle.log_node.specs.declared.ids.Colours.{Colours}
use Rattle.log_node.specs.Seen.{PlacedNode}
use Rattle.col_core.specs.declared.Entry.{Entry}
use Rattle.col_core.specs.Log.{Log}
use Rattle.col_core.specs.Keeping.{Kept}
use Rattle.world_laws.specs.Worlds.{World, home_of}
use Rattle.world_laws.specs.Laws.{log_of}
use Rattle.script_text.specs.declared.script.Object.{Object}
use Rattle.script_text.specs.declared.commands.What.{What}
use Rattle.script_text.specs.declared.commands.What.TheVariants as whats
use Rattle.report_text.specs.declared.report.Answer.{Answer}
use Rattle.report_text.specs.declared.report.Answer.TheVariants as answers
use Rattle.lawful_run.specs.Callers.{Caller, node_of}
use Rattle.lawful_run.specs.Asks.{Manner, Appending, Stopping, may_help, tells_stamp_end}
use Rattle.lawful_run.specs.Deeds.{AsksToAppend, manner_of}
use Rattle.lawful_run.specs.Appends.{IsGoneForMemory}
use Rattle.lawful_run.specs.Explains.{Explains, IsNoStopAtOnce}
use Rattle.lawful_run.specs.Shapes.{AppendsBy}
use Rattle.lawful_run.specs.Refusals.{FindsNoMemory, nothing, gone, gave, hidden}
use Rattle.script_meaning.proofs.World.Additions.{adds_map}
use Rattle.script_meaning.proofs.Client.Kept.{caller_in, MadeBy, Does}

-- the command of the client asks for an append, in any world and whatever the client keeps
abbrev pub AsksIn : List Object → ℕ → What → Colours → List ℕ → Type 0
AsksIn objects u what colours text =
    (w : World) (kept : Kept) → AsksToAppend (caller_in w objects u) kept what colours text

-- what the command appends is what this append does
module _ (log : Log) (caller : Caller) (kept : Kept) (what : What) (colours : Colours) (text : List ℕ)
    (asks : AsksToAppend caller kept what colours text) where
  pub by_asks : (Says : Colours → List ℕ → Type 0) → AppendsBy caller kept (whats.Append colours text) Says
      → AppendsBy caller kept what Says
  by_asks Says e = (
    colours,
    text,
    asks,
    subst (λ (c : Colours). Says c text) e.2.0 (subst (λ (t : List ℕ). Says e.0 t) e.2.1 e.3),
  )

  pub finds_no_memory : (after : Kept) → FindsNoMemory log caller kept (whats.Append colours text) after
      → FindsNoMemory log caller kept what after
  finds_no_memory after nothing = nothing
  finds_no_memory after (gone c t places is g) =
      gone colours text places asks
      (subst (λ (x : Colours). IsGoneForMemory log caller kept (node_of caller kept x text) places) is.0
      (subst (λ (x : List ℕ). IsGoneForMemory log caller kept (node_of caller kept c x) places) is.1 g))
  finds_no_memory after (gave region colour looked too_low gives is g) = absurd (let f : ⊥ = cc in f)
  finds_no_memory after (hidden other h) =
      subst (λ (k : Kept). FindsNoMemory log caller kept what k) (sym h) nothing

module _ (objects : List Object) (u : ℕ) (what : What) (colours : Colours) (text : List ℕ)
    (appending : manner_of what ≡ Appending) (asks : AsksIn objects u what colours text) where
  not_stopping : manner_of what ≢ Stopping
  not_stopping e = let x : Appending ≡ Stopping = sym appending ∙ e in absurd (let f : ⊥ = cc in f)

  no_stop : IsNoStopAtOnce what
  no_stop c t e = not_stopping (ap manner_of e)

  explains_as : (log : Log) (w : World) (kept : Kept) (answer : Answer) (nodes : List PlacedNode) (after : Kept)
      → Explains log (caller_in w objects u) kept (whats.Append colours text) answer nodes after
      → Explains log (caller_in w objects u) kept what answer nodes after
  explains_as log w kept answers.NoMemory nodes after e =
      (e.0, finds_no_memory log (caller_in w objects u) kept what colours text (asks w kept) after e.1)
  explains_as log w kept (answers.Stood stamp row points) nodes after e =
      (e.0, inl appending, by_asks log (caller_in w objects u) kept what colours text (asks w kept) _ e.2)
  explains_as log w kept (answers.StampEnd colour) nodes after e = (e.0, ap tells_stamp_end appending, by_asks log (caller_in w objects u) kept what colours text (asks w kept) _ e.2)
  explains_as log w kept (answers.Full used) nodes after e = (e.0, no_stop, e.2, by_asks log (caller_in w objects u) kept what colours text (asks w kept) _ e.3)
  explains_as log w kept (answers.Stopped steps) nodes after e = let x = e.3 in absurd (let f : ⊥ = cc in f)
  explains_as log w kept (answers.Synced sync plays) nodes after e = let x = e.0 in absurd (let f : ⊥ = cc in f)
  explains_as log w kept (answers.Scanned stamp count raises syncs) nodes after e =
      let x = e.1 in absurd (let f : ⊥ = cc in f)
  explains_as log w kept (answers.Pulled count give carry) nodes after e =
      let x = e.3 in absurd (let f : ⊥ = cc in f)
  explains_as log w kept answers.SameRegion nodes after e = let x = e.3 in absurd (let f : ⊥ = cc in f)
  explains_as log w kept (answers.Based at base) nodes after e = let x = e.2 in absurd (let f : ⊥ = cc in f)
  explains_as log w kept (answers.Got value sync) nodes after e = absurd (elim e.1.2 [
    | inl g ↦ let x = g.2.1.uses in let f : ⊥ = cc in f
    | inr d ↦ let x = d.1.2 in let f : ⊥ = cc in f
  ])
  explains_as log w kept (answers.GotMany values sync) nodes after e =
      let x = e.3.uses in absurd (let f : ⊥ = cc in f)
  explains_as log w kept (answers.GotKeys stamp shown raises syncs) nodes after e = let t = e.2 in absurd (elim t.5 [
    | inl g ↦ let x = g.2 in let f : ⊥ = cc in f
    | inr g ↦ let x = g.2 in let f : ⊥ = cc in f
  ])
  explains_as log w kept (answers.Ruled conflict stamp row points read_stamp raises syncs) nodes after e =
      let x = e.1.0 in absurd (let f : ⊥ = cc in f)
  explains_as log w kept (answers.Changed failed stamp row points read_stamp raises syncs) nodes after e =
      let x = e.1.0 in absurd (let f : ⊥ = cc in f)
  explains_as log w kept (answers.Listed names stamp raises syncs) nodes after e =
      let x = e.3 in absurd (let f : ⊥ = cc in f)
  explains_as log w kept (answers.Undecided stamp sync) nodes after e =
      let x = e.1.2.3.1.uses in absurd (let f : ⊥ = cc in f)
  explains_as log w kept (answers.Decided commits stamp sync read_stamp raises syncs ended) nodes after e =
      let x = e.2.2 in absurd (let f : ⊥ = cc in f)
  explains_as log w kept (answers.Moved lined waiting colour events) nodes after e =
      let x = e.2 in absurd (let f : ⊥ = cc in f)
  explains_as log w kept answers.NoTx nodes after e = let x = e.4 in absurd (let f : ⊥ = cc in f)
  explains_as log w kept (answers.Took value point sync) nodes after e =
      let x = e.1 in absurd (let f : ⊥ = cc in f)
  explains_as log w kept (answers.UnreadTrimmed stamp colour base) nodes after e = absurd (elim e.1 [
    | inl x ↦ let f : ⊥ = cc in f
    | inr x ↦ let f : ⊥ = cc in f
  ])
  explains_as log w kept (answers.UnreadNoMemory stamp) nodes after e = absurd (elim e.1 [
    | inl x ↦ let f : ⊥ = cc in f
    | inr x ↦ let f : ⊥ = cc in f
  ])
  explains_as log w kept (answers.Trimmed colour base) nodes after e = absurd (elim e.1 [
    | inl x ↦ let f : ⊥ = cc in f
    | inr y ↦ elim y [
      | inl x ↦ let f : ⊥ = cc in f
      | inr z ↦ elim z [
        | inl x ↦ let f : ⊥ = cc in f
        | inr x ↦ let f : ⊥ = cc in f
      ]
    ]
  ])
  explains_as log w kept (answers.NotHome home) nodes after e = let x = e.2 in absurd (let f : ⊥ = cc in f)

  pub does_as : (w w' : World) (answer : Answer) (nodes : List PlacedNode)
      → Does objects u (whats.Append colours text) w w' answer nodes → Does objects u what w w' answer nodes
  does_as w w' answer nodes d = record {
    steps = d.steps;
    run = d.run;
    shape = d.shape;
    others = d.others;
    adds = λ r c. adds_map (MadeBy u (whats.Append colours text) w' (home_of w u) r)
        (MadeBy u what w' (home_of w u) r) (w.histories r c) (w'.histories r c) (λ e m. made_as r e m) (d.adds r c);
    keeps = λ kept k. let a = d.keeps kept k in record {
      after = a.after;
      keeps = a.keeps;
      explains = explains_as (log_of w') w' kept answer nodes a.after a.explains;
    };
  } where
    may : IsTrue (may_help (manner_of what))
    may = subst (λ (m : Manner). IsTrue (may_help m)) (sym appending) refl

    made_as : (r : ℕ) (e : Entry) → MadeBy u (whats.Append colours text) w' (home_of w u) r e
        → MadeBy u what w' (home_of w u) r e
    made_as r e m = record {
      made = m.made;
      help = λ h. let x = m.help h in record { may = may; home = x.home; complete = x.complete };
    }
