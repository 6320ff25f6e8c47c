use Rattle.std.proofs.Common.{ℕ, ap, sym, subst, ◌∙◌}
use Rattle.script_text.specs.declared.script.Kind.TheVariants as kinds
use Rattle.run_script.specs.declared.serving.opened.Opened.TheVariants as opened
use Rattle.run_script.specs.Opened.{IsOpenedOf, kind_opened}
use Rattle.run_script.proofs.GivingGets.{a_point, gives_deq}
use Rattle.run_script.proofs.serving.gets.deq.Goals as goal

pub deq-deq-requires-clause-queue : goal.deq-deq-requires-clause-queue
deq-deq-requires-clause-queue g c κs within = subst (IsOpenedOf c.args.client.now) c.in-Queue.is c.requires.kept

pub took-requires : goal.took-requires
took-requires g c =
    a_point c.args.store.now c.args.client.now c.deq-deq.new.client c.in-Queue.queue.colour c.deq-deq.result
    c.deq-deq.ensures.ok

pub returns-clause-stays : goal.returns-clause-stays
returns-clause-stays g c =
    let same = c.deq-deq.ensures.same in (
      ap (λ (home : ℕ). kinds.Queue home c.deq-deq.new.self.colour) same.0
          ∙ (ap (λ (colour : ℕ). kinds.Queue c.in-Queue.queue.home colour) same.1 ∙ ap kind_opened (sym c.in-Queue.is)),
      c.deq-deq.ensures.queue,
    )

pub returns-clause-gives : goal.returns-clause-gives
returns-clause-gives g c =
    let e = c.deq-deq.ensures in
    gives_deq c.args.store.now c.args.client.now c.deq-deq.new.client e.client c.args.opened.now
    (opened.Queue c.deq-deq.new.self) (returns-clause-stays g c).0 c.took.result c.in-Queue.queue.home
    c.in-Queue.queue.colour c.deq-deq.result (ap kind_opened c.in-Queue.is) c.took.ensures.ok c.took.ensures.err e.away e.ok e.err
