-- What single answers say of the log.
use Rattle.std.proofs.Common.{◌≡◌, ℕ, List, [], ◌∷◌, length, None, ap, subst, ◌∙◌, arith, Some}
use Rattle.log_node.specs.declared.ids.Counts.{Counts}
use Rattle.log_node.specs.declared.ids.Colours.{Colours}
use Rattle.log_node.specs.declared.node.At.TheVariants.{Event}
use Rattle.log_node.specs.declared.node.Node.{Node}
use Rattle.log_node.specs.Sets.{members}
use Rattle.script_text.specs.declared.script.Command.{Command}
use Rattle.script_text.specs.declared.commands.What.TheVariants as whats
use Rattle.script_text.specs.declared.commands.Word.TheVariants as words
use Rattle.report_text.specs.declared.report.Answer.TheVariants as answers
use Rattle.report_text.specs.declared.report.PointPiece.{PointPiece}
use Rattle.report_text.specs.declared.report.ReplyLine.{ReplyLine}
use Rattle.col_core.specs.Log.{Log}
use Rattle.col_core.specs.Keeping.{Kept, nothing_kept, kept_after_event, kept_after_single, with_made, with_row}
use Rattle.col_core.specs.Keeping.{with_floor}
use Rattle.lawful_run.specs.Callers.{Caller, node_of}
use Rattle.lawful_run.specs.Appends.{AppendsOne, AppendsSeveral, kept_after_points, HadNoStamp, HasNoStamp}
use Rattle.lawful_run.specs.Appends.{none_for_one, none_for_several}
use Rattle.lawful_run.specs.Moves.{Trims}
use Rattle.lawful_run.specs.Explains.{Explained, Answers}
use Rattle.wrong_reports.specs.Cases.{asks, replies, point}
use Rattle.wrong_reports.proofs.Tools.{ends_with, only}

-- what two replies say, one after the other
pub record Two (log : Log) (caller : Caller) (c : Command) (r : ReplyLine) (d : Command) (s : ReplyLine)
    (after : Kept) : Type 0 where
  pub kept : Kept
  pub first : Answers log caller nothing_kept c r kept
  pub second : Answers log caller kept d s after

module _ (log : Log) (caller : Caller) where
  pub two : (c : Command) (r : ReplyLine) (d : Command) (s : ReplyLine) (after : Kept)
      → Explained log caller (c ∷ d ∷ []) (r ∷ s ∷ []) after → Two log caller c r d s after
  two c r d s after e =
      let t = ends_with log caller (c ∷ []) (r ∷ []) d s after e in
      record { kept = t.kept; first = only log caller c r t.kept t.before; second = t.last }

  -- a trim
  pub trim_says : (kept after : Kept) (line client colour place : ℕ) (base : Counts)
      → Answers log caller kept (asks line client (whats.Trim colour)) (replies line words.Trim (answers.Based
      (Event place) base)) after
      → Trims log caller kept colour place base × (after ≡ kept_after_event kept caller.own colour place)
  trim_says kept after line client colour place base a =
      let said = a.explained in
      let c : said.1 ≡ colour = (let h = said.2 in cc (h)) in
      let p : said.3 ≡ place = (let h = said.4 in cc (h)) in (
        subst (λ q. Trims log caller kept colour q base) p (subst
            (λ d. Trims log caller kept d said.3 base) c said.5),
        a.after_is ∙ said.6 ∙ ap (λ d. kept_after_event kept caller.own d said.3) c
            ∙ ap (λ q. kept_after_event kept caller.own colour q) p,
      )

  -- an append to one colour
  pub stood_says : (kept after : Kept) (line client : ℕ) (colours : Colours) (text : List ℕ)
      (stamp colour place position : ℕ)
      → Answers log caller kept (asks line client (whats.Append colours text))
      (replies line words.Append (answers.Stood stamp None (point colour place position ∷ []))) after
      → AppendsOne log caller kept (node_of caller kept colours text) colour stamp place position
      × (after ≡ kept_after_single kept caller.own colour place stamp position)
  stood_says kept after line client colours text stamp colour place position a =
      let said = a.explained.2 in
      let c : said.0 ≡ colours = said.2.0 in
      let t : said.1 ≡ text = said.2.1 in
      let appends = said.3 in
      let p : appends.1 ≡ place = (let h = appends.2 in cc (h)) in (
        subst (λ q. AppendsOne log caller kept (node_of caller kept colours text) colour stamp q position) p
            (subst (λ s. AppendsOne log caller kept (node_of caller kept colours s) colour stamp appends.1 position) t
            (subst (λ cs. AppendsOne log caller kept
            (node_of caller kept cs said.1) colour stamp appends.1 position) c appends.3)),
        a.after_is ∙ appends.4 ∙ ap (λ q. kept_after_single kept caller.own colour q stamp position) p,
      )

  -- an append to several colours
  pub several_says : (kept after : Kept) (line client : ℕ) (colours : Colours) (text : List ℕ)
      (stamp number : ℕ) (points : List PointPiece)
      → Answers log caller kept (asks line client (whats.Append colours text))
      (replies line words.Append (answers.Stood stamp (Some number) points)) after
      → (number ≡ kept.rows) × (places : ℕ → List ℕ)
      × AppendsSeveral log caller kept (node_of caller kept colours text) stamp points places
      × (after ≡ with_made (with_row (with_floor (kept_after_points kept caller.own points) stamp)) caller.own places)
  several_says kept after line client colours text stamp number points a =
      let said = a.explained.2 in
      let c : said.0 ≡ colours = said.2.0 in
      let t : said.1 ≡ text = said.2.1 in
      let appends = said.3 in (
        appends.0,
        appends.1,
        subst (λ s. AppendsSeveral log caller kept (node_of caller kept colours s) stamp points appends.1) t
            (subst (λ cs. AppendsSeveral log caller kept
            (node_of caller kept cs said.1) stamp points appends.1) c appends.2),
        a.after_is ∙ appends.3,
      )

  -- no stamp is left for a node of one colour
  pub no_stamp_says : (kept after : Kept) (node : Node) (colour : ℕ) → length (members node.colours) ≡ 1
      → HasNoStamp log caller kept node colour after → HadNoStamp log caller kept colour
  no_stamp_says kept after node colour one (none_for_one is had) = had
  no_stamp_says kept after node colour one (none_for_several places gone) =
      absurd (let s = gone.begins.several in omega (arith, s, one))
