use Rattle.std.proofs.Common.{◌≡◌, ◌<◌, ◌+◌, ◌∷◌, ◌++◌, [], rules, length, slice_get, ap, sym, ◌∙◌, arith, length-append}
use Rattle.chain_store.proofs.Entering.{get_last, get_old}
use Rattle.chain_store.proofs.Holding.{passes_set, set_other}
use Rattle.chain_store.proofs.Notes.{reached_at, met_holder, met_heard, heard_more}
use Rattle.chain_store.proofs.telling.meet_all.Goals as goal

pub meet-requires-clause-pass : goal.meet-requires-clause-pass
meet-requires-clause-pass c =
    let l = c.loop-other in
    let e = c.in-Some.ensures.items in
    let rest = c.pop.new.self.items in
    let m = c.len-colour.result in
    let is : m ≡ length rest = search rules in
    let wide = ap length e ∙ length-append rest (c.in-Some.other ∷ []) in
    let short = l.invariant.short in
    let many = c.requires.told.0 in
    let near : m < length c.args.cells.now = omega (arith, is, wide, short, many) in
    (reached_at c.args.cells.now c.args.passes.now.number l.passes.items.items m c.index-cells-colour.result
    c.index_mut.result.now l.invariant.passes near c.index-cells-colour.is c.index_mut.ensures.value).2.ready

pub meet-requires-clause-other : goal.meet-requires-clause-other
meet-requires-clause-other c =
    let l = c.loop-other in
    let e = c.in-Some.ensures.items in
    let rest = c.pop.new.self.items in
    let t = c.in-Some.other in
    let m = c.len-colour.result in
    let is : m ≡ length rest = search rules in
    let wide = ap length e ∙ length-append rest (t ∷ []) in
    let short = l.invariant.short in
    let many = c.requires.told.0 in
    let near : m < length c.args.cells.now = omega (arith, is, wide, short, many) in
    let at = reached_at c.args.cells.now c.args.passes.now.number l.passes.items.items m c.index-cells-colour.result
    c.index_mut.result.now l.invariant.passes near c.index-cells-colour.is c.index_mut.ensures.value in
    let tat = l.invariant.left m t (ap (λ x. slice_get x m) e ∙ ap (slice_get (rest ++ t ∷ [])) is ∙ get_last rest t) in
    (c.requires.told.1 m c.index-cells-colour.result t at.0 tat).ready

pub loop-other-preserved : goal.loop-other-preserved
loop-other-preserved c =
    let l = c.loop-other in
    let i = l.invariant in
    let n = c.args.passes.now.number in
    let e = c.in-Some.ensures.items in
    let rest = c.pop.new.self.items in
    let t = c.in-Some.other in
    let p = c.index_mut.result.now in
    let q = c.meet.new.pass in
    let cell = c.index-cells-colour.result in
    let m = c.len-colour.result in
    let is : m ≡ length rest = search rules in
    let wide : length l.told.items ≡ length rest + 1 = ap length e ∙ length-append rest (t ∷ []) in
    let more : length l.told.items ≡ m + 1 = omega (arith, wide, is) in
    let short = i.short in
    let many = c.requires.told.0 in
    let near : m < length c.args.cells.now = omega (arith, is, wide, short, many) in
    let at = reached_at c.args.cells.now n l.passes.items.items m cell p i.passes near c.index-cells-colour.is
    c.index_mut.ensures.value in
    let tat = i.left m t (ap (λ x. slice_get x m) e ∙ ap (slice_get (rest ++ t ∷ [])) is ∙ get_last rest t) in
    let told = c.requires.told.1 m cell t at.0 tat in
    let o = c.meet.ensures in
    record {
      left = λ k d here. i.left k d (ap (λ x. slice_get x k) e ∙ get_old rest (t ∷ []) k d here);
      short = omega (arith, short, wide);
      passes = passes_set c.args.cells.now l.passes.items.items n m cell q at.0
          (met_holder cell n p t q at.2 told o.ready o.seen o.own o.accounted) i.passes;
      number = i.number;
      early = λ k lt. set_other l.passes.items.items m k q (λ z. omega (arith, z, lt, is))
          ∙ i.early k (omega (arith, lt, wide));
      heard = λ k le. heard_more n c.args.passes.now.items.items c.args.told.items l.passes.items.items
          (length l.told.items) m p t q more (sym (i.early m (omega (arith, more))) ∙ at.1) tat at.1
          (met_heard cell n p t q at.2 told o.ready o.seen o.own o.accounted) i.heard k (omega (arith, le, is));
    }
