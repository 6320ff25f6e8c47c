use Rattle.std.proofs.Common.{◌≡◌, true, length, None, refl, ap, sym, subst, ◌∙◌, arith, Option, List}
use Rattle.std.specs.Prelude.{IfSome}
use Rattle.std.specs.List.{find}
use Rattle.std.specs.Option.{option_map}
use Rattle.log_node.specs.declared.ids.Id.{Id}
use Rattle.log_node.specs.Seen.{BegunAppend}
use Rattle.log_node.specs.Sets.{has}
use Rattle.log_node.specs.Standings.{Standing, open_entry}
use Rattle.col_core.specs.History.{entries}
use Rattle.col_core.specs.Ids.{is_open_below}
use Rattle.chain_store.specs.Holds.{KnowsAppend, seen_in, entries_seen, view_of}
use Rattle.chain_store.specs.Proposals.{IsMarkedOpen}
use Rattle.append_core.specs.Helping.{HelpsOpen}
use Rattle.chain_store.proofs.CallerLemmas.{later_then, looks_on}
use Rattle.append_core.proofs.Complete.{complete_by}
use Rattle.append_core.proofs.Cleared.{under_later, fewer_later, less_later, first_open, none_open, helped_open}
use Rattle.append_core.proofs.clearing.help_first.Goals as goal

pub returns-in-Some-clause-seat : goal.returns-in-Some-clause-seat
returns-in-Some-clause-seat g c =
    later_then c.args.hold.now.seat c.below-count.new.hold.seat c.help.new.hold.seat c.below-count.ensures.same.0 c.help.ensures.seat

pub returns-in-Some-clause-goes : goal.returns-in-Some-clause-goes
returns-in-Some-clause-goes g c =
    let r = c.args.region.now in
    let g = c.args.hold.now in
    let m = c.below-count.new.hold in
    let k = c.args.colour in
    let e = c.below-count.ensures in
    let known = subst (λ (o : Option BegunAppend). IfSome o
    (λ (b : BegunAppend). KnowsAppend r m b × (has b.colours k ≡ true))) c.in-Some.is e.known in
    let marked = subst (λ (o : Option BegunAppend). IfSome o
    (IsMarkedOpen r.board.size k (view_of g) (view_of m) (seen_in m k))) c.in-Some.is e.marked in
    helped_open r g m c.help.new.hold c.in-Some.begun k c.args.key c.requires.hold e.others e.look.0
    (sym (ap (λ (o : Option BegunAppend). option_map (λ (b : BegunAppend). b.id) o) c.in-Some.is) ∙ e.first_id)
    known.1 marked c.help.ensures.goes
    (complete_by r m c.help.new.hold c.in-Some.begun c.help.result known.0 c.help.ensures.hold c.help.ensures.seat.grows
    c.help.ensures.outcome.0 c.help.ensures.outcome.1 c.help.ensures.settled)

pub returns-in-Some-clause-count : goal.returns-in-Some-clause-count
returns-in-Some-clause-count g c =
    let e = c.below-count.ensures in
    let few = fewer_later c.args.region.now c.args.hold.now c.below-count.new.hold c.args.colour c.args.key e.hold
    c.requires.colour e.look.0.more c.requires.under in
    omega (arith, few, e.count)

pub returns-in-Some-clause-fewer : goal.returns-in-Some-clause-fewer
returns-in-Some-clause-fewer g c =
    let r = c.args.region.now in
    let h = c.args.hold.now in
    let m = c.below-count.new.hold in
    let n = c.help.new.hold in
    let k = c.args.colour in
    let key = c.args.key in
    let e = c.below-count.ensures in
    let under = under_later r h m k key e.hold c.requires.colour e.look.0.more c.requires.under in
    let f = first_open key (entries (entries_seen m k)) c.in-Some.begun.id
    (find (is_open_below key) (entries (entries_seen m k))) refl
    (sym (ap (λ (o : Option BegunAppend). option_map (λ (b : BegunAppend). b.id) o) c.in-Some.is) ∙ e.first_id) in
    let known = subst (λ (o : Option BegunAppend). IfSome o
    (λ (b : BegunAppend). KnowsAppend r m b × (has b.colours k ≡ true))) c.in-Some.is e.known in
    let closed = subst (λ (i : Id). open_entry i (entries (entries_seen n k)) ≡ None) (sym f.2)
    (c.help.ensures.settled k known.1).closed in
    let less = less_later r m n k key c.help.ensures.hold c.requires.colour (c.help.ensures.goes.more k) under f.0 f.1
    closed in
    omega (arith, less, e.count)

pub returns-in-None-clause-goes : goal.returns-in-None-clause-goes
returns-in-None-clause-goes g c =
    looks_on (λ k e. HelpsOpen c.args.hold.now c.below-count.new.hold e) c.args.colour c.args.hold.now c.below-count.new.hold
    c.below-count.ensures.others c.below-count.ensures.look.0

pub returns-in-None-clause-fewer : goal.returns-in-None-clause-fewer
returns-in-None-clause-fewer g c =
    let m = c.below-count.new.hold in
    let es = entries (entries_seen m c.args.colour) in
    let none = ap (λ (l : List Standing). length l) (none_open c.args.key es (find (is_open_below c.args.key) es) refl
    (sym (ap (λ (o : Option BegunAppend). option_map (λ (b : BegunAppend). b.id) o) c.in-None.is)
    ∙ c.below-count.ensures.first_id)) in
    omega (arith, none)
