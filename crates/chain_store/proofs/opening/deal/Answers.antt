use Rattle.std.proofs.Common.{◌≡◌, ◌+◌, ◌<◌, ◌∷◌, [], rules, refl, length, slice_get, ap, sym, ◌∙◌, arith, length-append, length-set}
use Rattle.std.proofs.lemmas.Option.{slice_get_read}
use Rattle.chain_store.proofs.Entering.{get_last, get_old}
use Rattle.chain_store.proofs.Dealing.{dealt_one}
use Rattle.chain_store.proofs.opening.deal.Goals as goal

pub loop-pass-preserved : goal.loop-pass-preserved
loop-pass-preserved c =
    let i = c.loop-pass.invariant in
    let rest = c.pop.new.self.items in
    let p = c.in-Some.pass in
    let e = c.in-Some.ensures.items in
    let left = c.pop-in-Some.new.self.items in
    let q = c.in-Some-pop.other in
    let f = c.in-Some-pop.ensures.items in
    let cs = c.loop-pass.clients.items in
    let wide : length c.loop-pass.passes.items ≡ length rest + 1 = ap length e ∙ length-append rest (p ∷ []) in
    let many : length c.loop-pass.copies.items ≡ length left + 1 = ap length f ∙ length-append left (q ∷ []) in
    let both = i.both in
    let alike : length left ≡ length rest = omega (arith, wide, many, both) in
    let m = c.len-number.result in
    let is : m ≡ length rest = search rules in
    let at = i.left (length rest) p (ap (λ l. slice_get l (length rest)) e ∙ get_last rest p) in
    let there = i.too (length left) q (ap (λ l. slice_get l (length left)) f ∙ get_last left q) in
    let short = i.short in
    let near : m < length cs = omega (arith, short, wide, is) in
    let d = c.get.new.self in
    let long = length-set cs m d in
    record {
      left = λ n x here. i.left n x (ap (λ l. slice_get l n) e ∙ get_old rest (p ∷ []) n x here);
      too = λ n x here. i.too n x (ap (λ l. slice_get l n) f ∙ get_old left (q ∷ []) n x here);
      both = alike;
      short = omega (arith, short, wide, long);
      dealt = dealt_one c.args.clients.now.items cs c.args.passes.items c.args.copies.items (length c.loop-pass.passes.items) m
          (length rest) is c.index_mut.result.now d p q i.dealt wide at
          (ap (slice_get c.args.copies.items) (sym alike) ∙ there)
          (slice_get_read cs (length cs) m c.index_mut.result.now refl near c.index_mut.ensures.value)
          c.in_ok-get-in-Some-pop.ensures;
    }
