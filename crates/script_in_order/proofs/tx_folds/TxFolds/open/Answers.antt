use Rattle.std.proofs.Common.{◌≤◌, Vec, Global, length, sym, subst}
use Rattle.log_node.specs.declared.limits.TheConstants.{MAX_COLOURS}
use Rattle.object_fold.specs.declared.kept_line.KeptLine.{KeptLine}
use Rattle.part_fold.specs.declared.part_fold.PartFold.{PartFold}
use Rattle.script_text.specs.Apart.{colours_of}
use Rattle.script_text.specs.declared.script.Kind.{Kind}
use Rattle.script_in_order.specs.Folds.{AreItsParts}
use Rattle.script_in_order.proofs.FoldsKept.{no_parts}
use Rattle.script_in_order.proofs.tx_folds.TxFolds.open.Goals as goal
use Rattle.script_in_order.proofs.tx_folds.TxFolds.open.Goals.{in-Parts+in_ok-parts-in-Parts, in_default}

pub returns : goal.returns
returns c = λ w. record {
  map = c.open.ensures.folded w;
  parts = elim c.match-kind.branch [
    | in-Parts+in_ok-parts-in-Parts b ↦
        (subst (λ (v : Vec (KeptLine PartFold) Global). AreItsParts w c.args.kind.now v.items) (sym b.parts-is)
        (subst (λ (k : Kind). AreItsParts w k b.in_ok-parts-in-Parts.parts.items) (sym b.in-Parts.is)
        (b.in_ok-parts-in-Parts.ensures w b.in-Parts._home)))
    | in_default b ↦ no_parts w c.args.kind.now c.match-kind.parts.items b.in_default.not-Parts
  ];
  ruled = c.open-2.ensures.folded w;
}

pub open_parts-requires : goal.open_parts-requires
open_parts-requires c = subst (λ (k : Kind). length (colours_of k) ≤ MAX_COLOURS) c.in-Parts.is c.requires
