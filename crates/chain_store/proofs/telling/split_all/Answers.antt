use Rattle.std.proofs.Common.{◌≡◌, ◌<◌, rules, length, ap, sym, ◌∙◌, arith}
use Rattle.chain_store.specs.Holds.{history_seen}
use Rattle.chain_store.proofs.Notes.{reached_at, split_step, split_told, told_more, alike_more, alike_all, long}
use Rattle.chain_store.proofs.telling.split_all.Goals as goal

pub split-requires : goal.split-requires
split-requires c =
    let l = c.loop-colour in
    let near : l.colour < length c.args.cells.now = search rules in
    (reached_at c.args.cells.now c.args.passes.now.number l.passes.items.items l.colour c.index-cells-colour.result
    c.index_mut.result.now l.invariant.passes near c.index-cells-colour.is c.index_mut.ensures.value).2.ready

pub returns-in_err-push-clause-passes : goal.returns-in_err-push-clause-passes
returns-in_err-push-clause-passes c =
    let l = c.loop-colour in
    let n = c.args.passes.now.number in
    let near : l.colour < length c.args.cells.now = search rules in
    let p = c.index_mut.result.now in
    let cell = c.index-cells-colour.result in
    let at = reached_at c.args.cells.now n l.passes.items.items l.colour cell p l.invariant.passes near
    c.index-cells-colour.is c.index_mut.ensures.value in
    (split_step c.args.cells.now n c.args.passes.now.items.items l.passes.items.items l.colour cell p c.split.new.pass
    l.invariant.passes l.invariant.same at.0 at.1 at.2 c.split.ensures.pass).0

pub returns-in_err-push-clause-same : goal.returns-in_err-push-clause-same
returns-in_err-push-clause-same c =
    let l = c.loop-colour in
    let n = c.args.passes.now.number in
    let near : l.colour < length c.args.cells.now = search rules in
    let p = c.index_mut.result.now in
    let cell = c.index-cells-colour.result in
    let at = reached_at c.args.cells.now n l.passes.items.items l.colour cell p l.invariant.passes near
    c.index-cells-colour.is c.index_mut.ensures.value in
    (split_step c.args.cells.now n c.args.passes.now.items.items l.passes.items.items l.colour cell p c.split.new.pass
    l.invariant.passes l.invariant.same at.0 at.1 at.2 c.split.ensures.pass).1

pub loop-colour-preserved : goal.loop-colour-preserved
loop-colour-preserved c =
    let l = c.loop-colour in
    let i = l.invariant in
    let n = c.args.passes.now.number in
    let near : l.colour < length c.args.cells.now = search rules in
    let p = c.index_mut.result.now in
    let cell = c.index-cells-colour.result in
    let t = c.split.result in
    let at = reached_at c.args.cells.now n l.passes.items.items l.colour cell p i.passes near c.index-cells-colour.is
    c.index_mut.ensures.value in
    let step = split_step c.args.cells.now n c.args.passes.now.items.items l.passes.items.items l.colour cell p
    c.split.new.pass i.passes i.same at.0 at.1 at.2 c.split.ensures.pass in
    let told = split_told cell n p t at.2 c.split.ensures.ready c.split.ensures.seen in
    let more = c.in_ok-push.ensures.items in
    record {
      passes = step.0;
      number = i.number;
      same = step.1;
      count = long c.args.cells.now l.all.items c.push.new.self.items l.colour cell t i.count at.0 told more;
      told = told_more c.args.cells.now l.all.items c.push.new.self.items l.colour cell t i.count at.0 told more i.told;
      alike = alike_more c.args.cells.now l.all.items c.push.new.self.items l.colour cell t i.count at.0 told more
          c.args.passes.now.items.items (c.split.ensures.seen ∙ ap history_seen (sym at.1) ∙ i.same l.colour) i.alike;
    }

pub returns-clause-told : goal.returns-clause-told
returns-clause-told c =
    let l = c.loop-colour in
    let i = l.invariant in
    let end : l.colour ≡ length c.args.cells.now = search rules in
    let many = c.requires.0 in (
      (i.count ∙ end, i.told),
      alike_all c.args.passes.now.items.items l.all.items (i.count ∙ end ∙ sym many)
          (λ k lt. i.alike k (omega (arith, lt, end, many))),
    )
