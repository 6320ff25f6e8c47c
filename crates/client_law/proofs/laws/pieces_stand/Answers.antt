use Rattle.client_law.proofs.Pieces.{kept_after_a_piece, kept_untold, played_untold}
use Rattle.client_law.proofs.laws.pieces_stand.Goals as goal

pub returns : goal.returns
returns c = record {
  kept = kept_after_a_piece;
  untold = played_untold;
  kept_untold = kept_untold;
}
