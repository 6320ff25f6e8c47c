use Rattle.std.proofs.Common.{◌∙◌, ap}
use Rattle.col_core.specs.History.{line}
use Rattle.script_text.specs.declared.script.Script.{Script}
use Rattle.object_law.specs.ObjectAnswers.{colours_used}
use Rattle.walk_law.specs.Walking.{journal_walked}
use Rattle.object_law.proofs.shard_plays.ShardPlay.open.Goals as goal

pub returns-clause-holds : goal.returns-clause-holds
returns-clause-holds c = λ table. record {
  holds = c.of.ensures.holds table (line (journal_walked c.args.subject.now c.args.region c.args.colour));
  colours = ap (λ p. p.0) c.of.ensures.opened
      ∙ (c.open.ensures.colours
      ∙ (c.in_ok-colours.ensures
      ∙ (c.colours_used.ensures ∙ ap (λ (s : Script). colours_used s c.args.object) c.script.ensures)));
  shard = ap (λ p. p.1) c.of.ensures.opened ∙ c.open.ensures.shard;
}
