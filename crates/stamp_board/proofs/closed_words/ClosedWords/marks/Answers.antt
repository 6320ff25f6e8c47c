use Rattle.std.proofs.Common.{◌≡◌, ℕ, ◌/◌, ◌%◌, ◌^◌, ◌∷◌, ◌++◌, [], true, false, sym, ap, ◌∙◌}
use Rattle.std.proofs.Common.{arith, eq-eqb, ne_eqb}
use Rattle.std.specs.Mem.Slots.{slots_items}
use Rattle.log_node.specs.declared.marks.ColourMark.{ColourMark}
use Rattle.stamp_board.specs.Words.{mark_from}
use Rattle.stamp_board.specs.Rows.{colours_in}
use Rattle.stamp_board.proofs.Colours.{has_bit, below, below_skip, below_one, below_members}
use Rattle.stamp_board.proofs.Ending.{marked}
use Rattle.stamp_board.proofs.closed_words.ClosedWords.marks.Goals as goal
use Rattle.stamp_board.proofs.closed_words.ClosedWords.marks.Goals.{
  then-bits-colour-eq1+in_ok-push,
  else-bits-colour-eq1,
}

pub loop-colour-preserved : goal.loop-colour-preserved
loop-colour-preserved c = let b = c.args.self.now in let l = c.loop-colour in let bits : ℕ = c.word-bits.result in
    let f = marked b.size (slots_items b.closed.words) c.args.row in
    elim c.if-bits-colour-eq1.branch [
      | then-bits-colour-eq1+in_ok-push w ↦
          let bit : has_bit bits l.colour ≡ true = eq-eqb (bits / 2 ^ l.colour % 2) 1 w.if-bits-colour-eq1.true in
          let mark : w.mark_of-mark.result ≡ (f l.colour).mark = w.mark_of-mark.ensures
          ∙ ap mark_from w.word.ensures in
          w.marks-is ∙ w.in_ok-push.ensures.ok
          ∙ (λ i. l.invariant i ++ (let m : ColourMark = record { colour = l.colour; mark = mark i } in m) ∷ [])
          ∙ sym (below_one f bits l.colour bit)
      | else-bits-colour-eq1 w ↦
          let unset : has_bit bits l.colour ≡ false = ne_eqb (bits / 2 ^ l.colour % 2) 1 w.if-bits-colour-eq1.false in
          w.marks-is ∙ l.invariant ∙ sym (below_skip f bits l.colour unset)
    ]

pub returns : goal.returns
returns c = let b = c.args.self.now in let k = b.size in let ws = slots_items b.closed.words in let l = c.loop-colour in
    let f = marked k ws c.args.row in
    let a = l.auto.colour-end in let d = c.loop-colour-test.false in let last : l.colour ≡ k.colours = omega arith in
    l.invariant ∙ (λ i. below f (c.word-bits.ensures i) (last i))
    ∙ sym (below_members f (colours_in k ws c.args.row) k.colours b.is_size.few_colours c.requires.colours.within)
