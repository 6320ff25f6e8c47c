-- What the rules say of one step; and the colours on which a command appends.
use Rattle.std.proofs.Common.{◌≡◌, ℕ, ◌<◌, List, Option, Some, None, ap}
use Rattle.std.specs.Prelude.{IsTrue}
use Rattle.log_node.specs.declared.ids.Colours.{Colours}
use Rattle.log_node.specs.Seen.{PlacedNode}
use Rattle.log_node.specs.Sets.{members}
use Rattle.col_core.specs.Log.{Log}
use Rattle.col_core.specs.Keeping.{Kept}
use Rattle.script_text.specs.declared.commands.What.{What}
use Rattle.script_text.specs.Commands.{use_of}
use Rattle.report_text.specs.declared.report.Answer.{Answer}
use Rattle.lawful_run.specs.Callers.{Caller}
use Rattle.lawful_run.specs.Asks.{object_colours, kind_asked}
use Rattle.lawful_run.specs.Deeds.{Reach, NoColours, Named, One, ShardsOf, Whole, Listed, ShardThenWhole, Saying, Reaches, SaysNode, AsksToAppend, colours_reached, saying_of, found_by}
use Rattle.run_rules.specs.Told.{Untold, colours_said, colours_asked, is_several}
use Rattle.run_rules.specs.Naming.{Names}
use Rattle.run_rules.specs.Answering.{CanHave}
use Rattle.run_rules.specs.Rules.{UsesNode, Stands, StopsAsTold}
use Rattle.run_rules.specs.Shown.{Shows, AnswersRight, HasCause, begins_row, StandsNext, TreeAnswers, PartAnswers}

-- each rule's part of a step, of a client that keeps this while it is answered
pub record Facts (log : Log) (caller : Caller) (untold : Untold) (kept : Kept) (what : What) (nodes : List PlacedNode)
    (answer : Answer) : Type 0 where
  pub can : CanHave caller kept what nodes answer
  pub names : Names log untold caller kept what answer
  pub used : UsesNode log caller kept what answer
  pub stands : Stands log untold caller kept what answer
  pub stops : StopsAsTold log untold caller kept what answer
  pub shows : Shows log untold caller kept what nodes answer
  pub right : AnswersRight log untold caller kept what answer
  pub caused : HasCause log untold caller kept what answer
  pub room : IsTrue (begins_row (is_several caller kept what) answer) → kept.rows < caller.rows
  pub next : StandsNext log caller kept what answer
  pub tree : TreeAnswers log caller kept what answer
  pub part : PartAnswers log caller kept what answer

colours_are : (own : List ℕ) (reach : Reach) (colours : Colours) → Reaches own reach colours
    → members colours ≡ colours_reached own reach
colours_are own NoColours colours r = r
colours_are own (Named asked) colours r = ap members r
colours_are own (One colour) colours r = r
colours_are own (ShardsOf keys) colours r = r
colours_are own Whole colours r = r
colours_are own Listed colours r = r
colours_are own (ShardThenWhole key) colours r = r

said_colours : (own : List ℕ) (saying : Option Saying) (colours : Colours) (text : List ℕ) → SaysNode own saying colours text
    → members colours ≡ colours_said own saying
said_colours own None colours text s = absurd s
said_colours own (Some saying) colours text s = colours_are own saying.reach colours s.0

-- the node that a command asks for has the colours on which it appends
pub asked_colours : (caller : Caller) (kept : Kept) (what : What) (colours : Colours) (text : List ℕ)
    → AsksToAppend caller kept what colours text → members colours ≡ colours_asked caller kept what
asked_colours caller kept what colours text asks =
    said_colours (object_colours (kind_asked caller what))
    (saying_of (kind_asked caller what) (found_by (use_of what) kept) what) colours text asks
