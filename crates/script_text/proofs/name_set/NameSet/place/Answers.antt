use Rattle.std.proofs.Common.{◌∙◌, sym, arith}
use Rattle.script_text.proofs.NameKeyLemmas.{numbered, as_many, too_long, walked_place}
use Rattle.script_text.proofs.name_set.NameSet.place.Goals as goal

pub returns-then-len : goal.returns-then-len
returns-then-len c = rw (← c.self.view_is) (record {
  number = c.walked.ensures.place ∙ rw c.as_slice.ensures (walked_place c.self.inside.names c.args.name.now);
  within = rw (← c.as_slice.ensures) c.walked.ensures.within;
})

pub returns-in-Some : goal.returns-in-Some
returns-in-Some c = rw (← c.self.view_is) (
    let inside = c.self.inside in
    let known = c.self.invariant.all (omega arith) in
    let key = c.in-Some.ensures.key in
    record {
      number = c.place_of.ensures.place ∙ numbered inside.names c.args.name.now inside.keys.keys c.in-Some.key known key.1 key.0;
      within = rw (← as_many inside.names inside.keys.keys known) c.place_of.ensures.within;
    })

pub returns-in-None : goal.returns-in-None
returns-in-None c = rw (← c.self.view_is) (
    let known = c.self.invariant.all (omega arith) in
    record {
      number = sym (too_long c.self.inside.names c.args.name.now known.short c.in-None.ensures.long);
      within = tt;
    })
