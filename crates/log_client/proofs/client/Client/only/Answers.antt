use Rattle.std.proofs.Common.{◌<◌, ◌∙◌, [], ap, arith, length, refl, subst, sym}
use Rattle.std.proofs.lemmas.List.Elements.{All-cons, All-nil}
use Rattle.log_node.specs.declared.limits.TheConstants.{MAX_COLOURS}
use Rattle.log_node.specs.Sets.{members}
use Rattle.log_node.proofs.CallerLemmas.{members-one}
use Rattle.lawful_run.specs.Callers.{row_taken}
use Rattle.log_client.specs.Appends.{AreColoursOf}
use Rattle.log_client.specs.Clients.{nodes_of_rows}
use Rattle.log_client.proofs.Append.AppendReplies.{single_counts_on, single_next, single_fits}
use Rattle.log_client.proofs.Append.NextReplies.{colour_low, next_explained, next_idle, next_point, next_rests, left_idle, left_rests, refused_so}
use Rattle.log_client.proofs.Going.Explaining.{rests_same}
use Rattle.log_client.proofs.Object.ColourSets.{one_of_store}
use Rattle.log_client.proofs.client.Client.only.Goals as goal

pub of-requires : goal.of-requires
of-requires g c =
    All-cons (λ k. k < MAX_COLOURS) c.args.colour []
    (colour_low c.args.store.now c.args.self.now.region c.region-region.result.now c.region-region.ensures.there c.args.colour
    c.requires.colour) (All-nil (λ k. k < MAX_COLOURS))

pub next_node-requires-clause-colours : goal.next_node-requires-clause-colours
next_node-requires-clause-colours g c k of =
    let low = colour_low c.args.store.now c.args.self.now.region c.region-region.result.now c.region-region.ensures.there
    c.args.colour c.requires.colour in
    let are = subst (AreColoursOf c.args.store.now) (sym c.of.ensures)
    (one_of_store c.args.store.now c.args.colour c.requires.colour low) in
    let lt = are.within k of in
    let many = c.requires.client.colours in
    omega (arith, lt, many)

pub next_node-requires-clause-row : goal.next_node-requires-clause-row
next_node-requires-clause-row g c =
    let low = colour_low c.args.store.now c.args.self.now.region c.region-region.result.now c.region-region.ensures.there
    c.args.colour c.requires.colour in
    sym (ap (row_taken c.args.self.now.number (length (nodes_of_rows c.args.self.now)))
    (ap members c.of.ensures ∙ members-one c.args.colour low))

pub returns-in_default : goal.returns-in_default
returns-in_default g c = record {
  client = rests_same c.args.store.now c.args.self.now c.requires.client;
  plays = refl;
  idle = λ helps. helps;
  ok = tt;
  point = tt;
  err = λ objects kept finished keeps. (kept, keeps, λ rest fits. refl);
}

pub only-requires-clause-id : goal.only-requires-clause-id
only-requires-clause-id g c =
    let low = colour_low c.args.store.now c.args.self.now.region c.region-region.result.now c.region-region.ensures.there
    c.args.colour c.requires.colour in
    single_next
    c.args.store.now c.args.self.now c.region-region.result.now c.index_mut-hold.result.now c.args.colour c.of.result
    c.args.text c.in-Ok.node.value c.requires.client c.requires.colour
    (ap members c.of.ensures ∙ members-one c.args.colour low) c.region-region.ensures.there
    c.index_mut-hold.ensures.value c.in-Ok.ensures

pub only-requires-clause-node : goal.only-requires-clause-node
only-requires-clause-node g c =
    let low = colour_low c.args.store.now c.args.self.now.region c.region-region.result.now c.region-region.ensures.there
    c.args.colour c.requires.colour in
    single_fits
    c.args.store.now c.args.self.now c.region-region.result.now c.index_mut-hold.result.now c.args.colour c.of.result
    c.args.text c.in-Ok.node.value c.requires.client c.requires.colour
    (ap members c.of.ensures ∙ members-one c.args.colour low) c.region-region.ensures.there
    c.index_mut-hold.ensures.value c.in-Ok.ensures

pub only-requires-clause-row : goal.only-requires-clause-row
only-requires-clause-row g c =
    let low = colour_low c.args.store.now c.args.self.now.region c.region-region.result.now c.region-region.ensures.there
    c.args.colour c.requires.colour in
    ap (λ y. y.row) c.in-Ok.ensures
    ∙ ap (row_taken c.args.self.now.number (length (nodes_of_rows c.args.self.now)))
    (ap members c.of.ensures ∙ members-one c.args.colour low)

pub overflow_add-self : goal.overflow_add-self
overflow_add-self g c =
    let low = colour_low c.args.store.now c.args.self.now.region c.region-region.result.now c.region-region.ensures.there
    c.args.colour c.requires.colour in
    let few = single_counts_on
    c.args.store.now c.args.self.now c.region-region.result.now c.index_mut-hold.result.now c.args.colour c.of.result
    c.args.text c.in-Ok.node.value c.requires.client c.requires.colour
    (ap members c.of.ensures ∙ members-one c.args.colour low) c.region-region.ensures.there
    c.index_mut-hold.ensures.value c.in-Ok.ensures in
    omega (arith, few)

pub returns-in-Ok-only : goal.returns-in-Ok-only
returns-in-Ok-only g c =
    let low = colour_low c.args.store.now c.args.self.now.region c.region-region.result.now c.region-region.ensures.there
    c.args.colour c.requires.colour in
    let one = ap members c.of.ensures ∙ members-one c.args.colour low in
    let s = c.args.store.now in
    let old = c.args.self.now in
    let r = c.region-region.result.now in
    let hold = c.index_mut-hold.result.now in
    let x = c.in-Ok.node.value in
    let there = c.region-region.ensures.there in
    let is_hold = c.index_mut-hold.ensures.value in
    let x_is = c.in-Ok.ensures in
    let e = c.in-Ok-only.ensures in
    let st = c.in-Ok-only.stood in record {
      client = next_rests s old r hold c.args.colour c.of.result c.args.text x c.requires.client c.requires.colour one there
          is_hold x_is c.only.new.hold e.hold st e.ok e.seat e.next c.max-self.result c.max-self.ensures;
      plays = refl;
      idle = next_idle s old r hold c.args.colour c.of.result c.args.text x c.requires.client c.requires.colour one there
          is_hold x_is c.only.new.hold e.hold st e.ok e.seat e.next c.max-self.result c.max-self.ensures;
      ok = next_explained s old r hold c.args.colour c.of.result c.args.text x c.requires.client c.requires.colour one there
          is_hold x_is c.only.new.hold e.hold st e.ok e.seat e.next c.max-self.result c.max-self.ensures
          c.deref.result.now.id (ap (λ y. y.id) c.deref.ensures);
      point = next_point s old r hold c.args.colour c.of.result c.args.text x c.requires.client c.requires.colour one there
          is_hold x_is c.only.new.hold e.hold st e.ok e.seat e.next c.max-self.result c.max-self.ensures
          c.deref.result.now.id;
      err = tt;
    }

pub returns : goal.returns
returns g c =
    let low = colour_low c.args.store.now c.args.self.now.region c.region-region.result.now c.region-region.ensures.there
    c.args.colour c.requires.colour in
    let one = ap members c.of.ensures ∙ members-one c.args.colour low in
    let s = c.args.store.now in
    let old = c.args.self.now in
    let r = c.region-region.result.now in
    let hold = c.index_mut-hold.result.now in
    let x = c.in-Ok.node.value in
    let there = c.region-region.ensures.there in
    let is_hold = c.index_mut-hold.ensures.value in
    let x_is = c.in-Ok.ensures in
    let e = c.in-Err.ensures in record {
      client = left_rests s old r hold c.args.colour c.of.result c.args.text x c.requires.client c.requires.colour one there
          is_hold x_is c.only.new.hold e.hold e.others (e.seat, e.err.1) e.err.0;
      plays = refl;
      idle = left_idle s old r hold c.args.colour c.of.result c.args.text x c.requires.client c.requires.colour one there
          is_hold x_is c.only.new.hold e.hold e.others (e.seat, e.err.1) e.err.0;
      ok = tt;
      point = tt;
      err = refused_so s old r hold c.args.colour c.of.result c.args.text x c.requires.client c.requires.colour one there
          is_hold x_is c.only.new.hold e.hold e.others (e.seat, e.err.1) e.err.0 c.in-Err.fault e.cause;
    }
