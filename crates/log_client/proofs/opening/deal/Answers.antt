use Rattle.std.proofs.Common.{◌≡◌, ◌+◌, ◌<◌, ◌∷◌, [], rules, refl, length, slice_get, ap, ◌∙◌, arith, length-append}
use Rattle.std.proofs.lemmas.Option.{slice_get_read}
use Rattle.lawful_run.proofs.CallerLemmas.{get-append}
use Rattle.log_client.specs.declared.client.Client.{Client}
use Rattle.log_client.proofs.Lists.{got_last}
use Rattle.log_client.proofs.Going.AtHome.{set_long}
use Rattle.log_client.proofs.Dealing.{dealt_one}
use Rattle.log_client.proofs.opening.deal.Goals as goal

pub loop-hold-preserved : goal.loop-hold-preserved
loop-hold-preserved c =
    let i = c.loop-hold.invariant in
    let rest = c.pop.new.self.items in
    let h = c.in-Some.hold in
    let e = c.in-Some.ensures.items in
    let cs = c.loop-hold.clients.items in
    let wide : length c.loop-hold.holds.items ≡ length rest + 1 = ap length e ∙ length-append rest (h ∷ []) in
    let m = c.len-number.result in
    let is : m ≡ length rest = search rules in
    let at = i.left (length rest) h (ap (λ l. slice_get l (length rest)) e ∙ got_last rest h) in
    let short = i.short in
    let near : m < length cs = omega (arith, short, wide, is) in
    let d : Client = record c.index_mut.result.now { holds = c.push.new.self } in
    let long = set_long cs m d in
    record {
      left = λ n q here. i.left n q (ap (λ l. slice_get l n) e ∙ get-append rest (h ∷ []) n q here);
      short = omega (arith, short, wide, long);
      dealt = dealt_one c.args.clients.now.items cs c.args.holds.items (length c.loop-hold.holds.items) m (length rest)
          is c.index_mut.result.now d h i.dealt wide at
          (slice_get_read cs (length cs) m c.index_mut.result.now refl near c.index_mut.ensures.value)
          (record {
            number = refl;
            region = refl;
            floor = refl;
            count = refl;
            rows = refl;
            tracks = refl;
            holds = c.in_ok-push.ensures.items;
          });
    }
