use Rattle.stamp_board.specs.declared.blank.TheConstants.{BLANK_ROWS}
use Rattle.stamp_board.proofs.blank.blank_words.Goals as goal
use Rattle.stamp_board.proofs.Zeros.{first_zeros, first_many}

pub slice_bounds-result-end : goal.slice_bounds-result-end
slice_bounds-result-end c = first_many BLANK_ROWS 1024 c.args.count c.as_flattened.result.now c.as_flattened.ensures.value
    c.requires

pub returns : goal.returns
returns c = first_zeros BLANK_ROWS 1024 c.args.count c.as_flattened.result.now c.as_flattened.ensures.value c.requires
