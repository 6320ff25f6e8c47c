use Rattle.std.proofs.Common.{◌≡◌, ◌<◌, ◌++◌, ℕ, map}
use Rattle.std.specs.List.{All}
use Rattle.log_node.specs.declared.marks.ColourMark.{ColourMark}
use Rattle.log_node.specs.Sets.{members}
use Rattle.world_laws.specs.Worlds.{row_of}
use Rattle.world_code.specs.WorldView.{world_of}
use Rattle.script_in_order.proofs.rows.marks_of.Given as goal

-- the marks so far, and the colours that are left
abbrev pub invariant-loop-colour : goal.invariant-loop-colour
invariant-loop-colour l =
    let f : ℕ → ColourMark = λ colour. record {
      colour = colour;
      mark = (row_of (world_of l.world) l.row).marks colour;
    } in record {
      made : l.marks ++ map f l.colour-iterator ≡ map f (members l.fn.colours);
      low : All (λ c. c < l.world.shape.colours) l.colour-iterator;
    }
