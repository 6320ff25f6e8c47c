-- The twelfth rule at the account with what reads found and node lines show, and at the one with no nodes.
use Rattle.std.proofs.Common.{◌≡◌, ◌∙◌, refl, ap, sym, subst, ℕ, ◌<◌, List, map, Option, Some, None, inl, inr}
use Rattle.std.specs.Prelude.{◌↔◌, slice_get}
use Rattle.std.specs.List.{All}
use Rattle.std.proofs.lemmas.List.Elements.{All-contains}
use Rattle.log_node.specs.declared.ids.Counts.{Counts}
use Rattle.log_node.specs.Vectors.{at}
use Rattle.col_core.specs.Log.{Log}
use Rattle.col_core.specs.Keeping.{Kept}
use Rattle.col_core.proofs.CallerLemmas.{In, all_in, contains_in, in_map-back}
use Rattle.script_text.specs.declared.commands.What.{What}
use Rattle.script_text.specs.declared.script.Command.{Command}
use Rattle.script_text.specs.declared.script.Script.{Script}
use Rattle.script_text.specs.Fitting.{IsFitting, IsWithin}
use Rattle.report_text.specs.declared.report.Answer.{Answer}
use Rattle.report_text.specs.declared.report.Answer.TheVariants as answers
use Rattle.report_text.specs.declared.report.ClientReport.{ClientReport}
use Rattle.report_text.specs.declared.report.PointPiece.{PointPiece}
use Rattle.report_text.specs.declared.report.ReplyLine.{ReplyLine}
use Rattle.report_text.specs.declared.report.Report.{Report}
use Rattle.lawful_run.specs.Callers.{Caller, caller_of}
use Rattle.lawful_run.specs.Appends.{WasNext}
use Rattle.lawful_run.specs.Refusals.{kept_before}
use Rattle.log_node.specs.Seen.{PlacedNode}
use Rattle.run_rules.specs.Told.{Account, Step, colours_asked, kept_at}
use Rattle.run_rules.specs.Telling.{IsWellFormed, account_of, no_nodes}
use Rattle.run_rules.specs.Answering.{CanHave, HasPoints}
use Rattle.run_rules.specs.Agreeing.{AreStepsAlike, KeepSame}
use Rattle.run_rules.specs.Deciding.{account_showing}
use Rattle.run_rules.specs.Keeping.{RulesTo}
use Rattle.run_rules.specs.Laws.{ComputedAccountAgrees, FindsTell}
use Rattle.run_rules.specs.Rules.{IsReplyTo, Rule1}
use Rattle.run_rules.specs.Shown.{Rule12, StandsNext}
use Rattle.run_rules.proofs.CallerLemmas.{rule1}
use Rattle.walk_law.specs.Twelfth.{TwelfthIsBare}
use Rattle.walk_law.proofs.SameKeeping.{before_same, long_same, turned}
use Rattle.walk_law.proofs.ShapeColours.{appended_within}
use Rattle.walk_law.proofs.ShownSteps.{home_low, its_within, to_bare, to_shown}

-- a point's colour is one of those on which a command appends
pub point_asked : (colours : List ℕ) (row : Option ℕ) (points : List PointPiece) → HasPoints colours row points → (p : PointPiece)
    → In p points → In p.colour colours
point_asked colours row points h p i =
    subst (In p.colour) (by row h) (in_map-back (λ (k : PointPiece). k.colour) points p i) where
      by : (r : Option ℕ) → HasPoints colours r points → map (λ (k : PointPiece). k.colour) points ≡ colours
      by None x = x.0
      by (Some number) x = x.0

module _ (script : Script) (fits : IsFitting script) (n : ℕ) (one two : Log)
    (same : (colour : ℕ) → one.histories (caller_of script n).own colour ≡ two.histories (caller_of script n).own colour)
    (home : (caller_of script n).own < script.shape.regions) where
  abbrev who : Caller
  who = caller_of script n

  module _ {a b : Kept} (s : KeepSame script a b) where
    next_same : (p : PointPiece) → p.colour < script.shape.colours → WasNext one who a p → WasNext two who b p
    next_same p lt x = (
      x.0,
      x.1,
      long_same script n one two same home s p.colour lt x.0 p.position 0 x.2,
      x.3 ∙ ap (λ (v : Counts). at v who.own) (s.starts p.colour),
    )

    -- `can` is of either one
    stands_same : (what : What) (kept : Kept) (nodes : List PlacedNode) (answer : Answer)
        → IsWithin script.shape.regions script.shape.colours what → CanHave who kept what nodes answer
        → StandsNext one who a what answer → StandsNext two who b what answer
    stands_same what kept nodes (answers.Stood stamp row points) within can x = λ guards.
        all_in (WasNext two who b) points (λ p i.
        next_same p
        (appended_within script fits n kept what within p.colour (point_asked (colours_asked who kept what) row points can.2 p i))
        (All-contains (WasNext one who a) points p (x guards) (contains_in points p i)))
    stands_same what kept nodes (answers.Moved lined waiting colour events) within can x =
        let lt : colour < script.shape.colours =
        subst (IsWithin script.shape.regions script.shape.colours) x.1 within in (
          x.0,
          x.1,
          long_same script n one two same home s colour lt events lined waiting x.2,
          elim x.3 [ inl waits ↦ inl waits | inr moved ↦ inr (λ e. moved (e ∙ ap (λ (v : Counts). at v who.own) (sym (s.starts colour)))) ],
        )
    stands_same what kept nodes _ within can x = tt

module _ (tell : FindsTell) (agrees : ComputedAccountAgrees) (script : Script) (report : Report) (fits : IsFitting script)
    (well : IsWellFormed script report) (rules : RulesTo script report (account_showing script report) 4) where
  abbrev shown : Account
  shown = account_showing script report

  abbrev bare : Account
  bare = account_of script report no_nodes

  first : Rule1 script report shown
  first = rule1 rules.0.0.0.1

  abbrev Next : Log → ℕ → Step → Type 0
  Next log n x = StandsNext log (caller_of script n) (kept_at x) x.command.what x.reply.answer

  module _ (n : ℕ) (c : ClientReport) (there : slice_get report.clients n ≡ Some c) where
    abbrev it : Caller
    it = caller_of script n

    home : it.own < script.shape.regions
    home = home_low tell agrees script report fits well rules n c there

    -- the step of the other account has the same command and reply
    moved : (log : Log) (x y : Step) → AreStepsAlike script it x y
        → StandsNext log it (kept_before x.command.what y.kept) x.command.what x.reply.answer ≡ Next log n y
    moved log x y s =
        ap (λ (d : Command). StandsNext log it (kept_before d.what y.kept) d.what x.reply.answer) s.command
        ∙ ap (λ (r : ReplyLine). StandsNext log it (kept_at y) y.command.what r.answer) s.reply

    can_of : (x : Step) → In x (shown.steps n) → CanHave it (kept_at x) x.command.what x.reply.nodes x.reply.answer
    can_of x i =
        (All-contains (IsReplyTo it) (shown.steps n) x (first.replies n c there) (contains_in (shown.steps n) x i)).answer

    onto : All (Next shown.log n) (shown.steps n) → All (Next bare.log n) (bare.steps n)
    onto = to_bare tell agrees script report fits well rules n c there (Next shown.log n) (Next bare.log n) (λ x y i r next.
        subst (λ (T : Type 0). T) (moved bare.log x y r.alike)
        (stands_same script fits n shown.log bare.log (λ colour. refl) home (before_same r.alike.kept x.command.what)
        x.command.what (kept_at x) x.reply.nodes x.reply.answer (its_within tell agrees script report fits well rules n c there x i)
        (can_of x i) next))

    back : All (Next bare.log n) (bare.steps n) → All (Next shown.log n) (shown.steps n)
    back = to_shown tell agrees script report fits well rules n c there (Next shown.log n) (Next bare.log n) (λ x y i r next.
        stands_same script fits n bare.log shown.log (λ colour. refl) home (turned (before_same r.alike.kept x.command.what))
        x.command.what (kept_at x) x.reply.nodes x.reply.answer (its_within tell agrees script report fits well rules n c there x i)
        (can_of x i) (subst (λ (T : Type 0). T) (sym (moved bare.log x y r.alike)) next))

  both : Rule12 script report bare ↔ Rule12 script report shown
  both = (
    λ rule. record { next = λ n c there. back n c there (rule.next n c there) },
    λ rule. record { next = λ n c there. onto n c there (rule.next n c there) },
  )

pub twelfth_is_bare : FindsTell → ComputedAccountAgrees → TwelfthIsBare
twelfth_is_bare tell agrees script report fits well rules =
    both tell agrees script report fits well rules.0.0.0.0.0.0
