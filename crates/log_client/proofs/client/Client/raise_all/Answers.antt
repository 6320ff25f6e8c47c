use Rattle.std.proofs.Common.{◌∙◌, ◌++◌, ◌∷◌, [], ℕ, List, ap, refl, sym, subst, append_assoc, append-nil}
use Rattle.std.proofs.lemmas.List.{map-append}
use Rattle.log_node.specs.Sets.{members}
use Rattle.log_client.specs.declared.answers.Raised.{Raised}
use Rattle.log_client.specs.Reading.{RaisesAll, RaisesFirst, raised_colours}
use Rattle.log_client.proofs.Read.Colours.{next_within}
use Rattle.log_client.proofs.Going.Explaining.{rests_same, rests_then}
use Rattle.log_client.proofs.Results.{on_err}
use Rattle.log_client.proofs.Read.ReadReplies.{none_raised, raised_next, raises_stay}
use Rattle.log_client.proofs.client.Client.raise_all.Goals as goal

pub loop-colour-init : goal.loop-colour-init
loop-colour-init g c =
    let s = c.args.store.now in
    let x = c.args.self.now in record {
      rests = rests_same s x c.requires.client;
      apart = ap (λ (l : List Raised). raised_colours l ++ c.into_iter-colour-iterator.result) c.new-raises.ensures.items
          ∙ (c.into_iter-colour-iterator.ensures.into_iter_gives ∙ c.members-colour-items.ensures);
      tracks = refl;
      all = subst (RaisesAll s x x c.args.stamp) (sym c.new-raises.ensures.items) (none_raised s x c.args.stamp);
    }

pub raise_to-requires-clause-client : goal.raise_to-requires-clause-client
raise_to-requires-clause-client g c = c.loop-colour.invariant.rests.client

pub raise_to-requires-clause-colour : goal.raise_to-requires-clause-colour
raise_to-requires-clause-colour g c =
    let l = c.loop-colour in
    next_within c.args.store.now c.args.colours c.requires.colours (raised_colours l.raises.items) c.in-Some.colour
    c.next.new.self
    (ap (λ (m : List ℕ). raised_colours l.raises.items ++ m) (sym c.in-Some.ensures.steps) ∙ l.invariant.apart)

pub returns-in_err-at-clause-rests : goal.returns-in_err-at-clause-rests
returns-in_err-at-clause-rests g c =
    rests_then c.args.store.now c.args.self.now c.loop-colour.self c.raise_to.new.self c.loop-colour.invariant.rests
    c.raise_to.ensures.rests

pub returns-in_err-at-clause-err : goal.returns-in_err-at-clause-err
returns-in_err-at-clause-err g c =
    let s = c.args.store.now in
    let x = c.args.self.now in
    let l = c.loop-colour in
    on_err c.from_residual.result (RaisesFirst s x c.raise_to.new.self c.args.stamp (members c.args.colours)) (
      l.raises.items,
      l.colour-iterator,
      l.invariant.apart,
      raises_stay s x l.self c.raise_to.new.self c.args.stamp l.raises.items l.invariant.rests c.raise_to.ensures.rests
          l.invariant.all c.in_err-at.ensures.err,
    )

pub returns-in_err-push-clause-rests : goal.returns-in_err-push-clause-rests
returns-in_err-push-clause-rests g c =
    rests_then c.args.store.now c.args.self.now c.loop-colour.self c.raise_to.new.self c.loop-colour.invariant.rests
    c.raise_to.ensures.rests

pub returns-in_err-push-clause-err : goal.returns-in_err-push-clause-err
returns-in_err-push-clause-err g c =
    let s = c.args.store.now in
    let x = c.args.self.now in
    let l = c.loop-colour in
    let one : Raised = record { colour = c.in-Some.colour; at = c.in_ok-at.at } in
    on_err c.from_residual-in_err-push.result (RaisesFirst s x c.raise_to.new.self c.args.stamp (members c.args.colours)) (
      l.raises.items ++ one ∷ [],
      c.next.new.self,
      ap (λ (m : List ℕ). m ++ c.next.new.self) (map-append (λ (r : Raised). r.colour) l.raises.items (one ∷ []))
          ∙ (append_assoc (raised_colours l.raises.items) (c.in-Some.colour ∷ []) c.next.new.self
          ∙ (ap (λ (m : List ℕ). raised_colours l.raises.items ++ m) (sym c.in-Some.ensures.steps) ∙ l.invariant.apart)),
      raised_next s x l.self c.raise_to.new.self c.args.stamp l.raises.items c.in-Some.colour c.in_ok-at.at l.invariant.rests
          c.raise_to.ensures.rests l.invariant.all c.in_ok-at.ensures.ok,
    )

pub loop-colour-preserved : goal.loop-colour-preserved
loop-colour-preserved g c =
    let s = c.args.store.now in
    let x = c.args.self.now in
    let l = c.loop-colour in
    let one : Raised = record { colour = c.in-Some.colour; at = c.in_ok-at.at } in
    let items = c.in_ok-push.ensures.items in record {
      rests = rests_then s x l.self c.raise_to.new.self l.invariant.rests c.raise_to.ensures.rests;
      tracks = c.raise_to.ensures.tracks ∙ l.invariant.tracks;
      apart = ap (λ (m : List Raised). raised_colours m ++ c.next.new.self) items
          ∙ (ap (λ (m : List ℕ). m ++ c.next.new.self) (map-append (λ (r : Raised). r.colour) l.raises.items (one ∷ []))
          ∙ (append_assoc (raised_colours l.raises.items) (c.in-Some.colour ∷ []) c.next.new.self
          ∙ (ap (λ (m : List ℕ). raised_colours l.raises.items ++ m) (sym c.in-Some.ensures.steps) ∙ l.invariant.apart)));
      all = subst (RaisesAll s x c.raise_to.new.self c.args.stamp) (sym items)
          (raised_next s x l.self c.raise_to.new.self c.args.stamp l.raises.items c.in-Some.colour c.in_ok-at.at
          l.invariant.rests c.raise_to.ensures.rests l.invariant.all c.in_ok-at.ensures.ok);
    }

pub returns-clause-rests : goal.returns-clause-rests
returns-clause-rests g c = c.loop-colour.invariant.rests

pub returns-clause-colours : goal.returns-clause-colours
returns-clause-colours g c =
    let l = c.loop-colour in
    sym (append-nil (raised_colours l.raises.items))
    ∙ (ap (λ (m : List ℕ). raised_colours l.raises.items ++ m) (sym c.in-None.ensures.steps.0) ∙ l.invariant.apart)

pub returns-clause-ok : goal.returns-clause-ok
returns-clause-ok g c = c.loop-colour.invariant.all
