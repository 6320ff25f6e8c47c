use Rattle.std.proofs.Common.{length, refl, subst, ◌∙◌, rules}
use Rattle.std.proofs.lemmas.Option.{get_or_from_slice_get, slice_get_within, slice_get_read}
use Rattle.run_script.specs.declared.serving.served.Served.{Served}
use Rattle.run_script.specs.Served.{IsServedIfDone}
use Rattle.run_script.proofs.serving.beside.serve_beside.Goals as goal

pub for_each_mut-requires-clause-accepts : goal.for_each_mut-requires-clause-accepts
for_each_mut-requires-clause-accepts g c κs within = λ i p lt e.
    (c.requires i p.now (slice_get_read c.args.served.now (length c.args.served.now) i p.now refl lt e), search rules)

pub returns-clause-served : goal.returns-clause-served
returns-clause-served g c = λ i x y at after.
    let w = c.for_each_mut.ensures i x (slice_get_within c.args.served.now i x at) in
    let was = w.1.argument_is ∙ get_or_from_slice_get c.args.served.now i x x at in
    let is = w.1.left ∙ get_or_from_slice_get c.for_each_mut.new.items i y x after in
    subst (λ (z : Served). IsServedIfDone c.args.store.now c.args.objects.now x z) is
    (subst (λ (z : Served). IsServedIfDone c.args.store.now c.args.objects.now z w.1.after_call.now) was w.1.call)
