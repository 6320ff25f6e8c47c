use Rattle.std.proofs.Common.{◌∙◌, ◌++◌, ◌∷◌, [], ℕ, List, ap, sym, subst}
use Rattle.log_node.specs.Sets.{members}
use Rattle.log_client.proofs.Read.Colours.{next_within}
use Rattle.log_client.specs.Reading.{synced_colours}
use Rattle.log_client.proofs.Going.Explaining.{rests_same, rests_then}
use Rattle.log_client.proofs.Sync.SyncAnswers.{AnsweredFirst, answered_next, none_answered}
use Rattle.log_client.proofs.Sync.SyncingAll.{SyncedFirst, each_synced, first_answered, first_synced, none_synced, synced_next}
use Rattle.log_client.proofs.client.Client.sync_all.Goals as goal

pub loop-colour-init : goal.loop-colour-init
loop-colour-init g c =
    let s = c.args.store.now in
    let x = c.args.self.now in record {
      rests = rests_same s x c.requires.client;
      answered = subst (AnsweredFirst x x) (sym c.new-syncs.ensures.items) (none_answered x);
      first = subst (SyncedFirst s x x c.into_iter-colour-iterator.result (members c.args.colours))
          (sym c.new-syncs.ensures.items)
          (subst (λ (l : List ℕ). SyncedFirst s x x l (members c.args.colours) [])
          (sym (c.into_iter-colour-iterator.ensures.into_iter_gives ∙ c.members-colour-items.ensures))
          (none_synced s x (members c.args.colours)));
    }

pub play_colour-requires-clause-client : goal.play_colour-requires-clause-client
play_colour-requires-clause-client g c = c.loop-colour.invariant.rests.client

pub play_colour-requires-clause-colour : goal.play_colour-requires-clause-colour
play_colour-requires-clause-colour g c =
    let l = c.loop-colour in
    let f = l.invariant.first in
    next_within c.args.store.now c.args.colours c.requires.colours (synced_colours l.syncs.items) c.in-Some.colour
    c.next.new.self
    (ap (λ (m : List ℕ). synced_colours l.syncs.items ++ m) (sym c.in-Some.ensures.steps) ∙ f.apart)

pub returns-in-Err-clause-rests : goal.returns-in-Err-clause-rests
returns-in-Err-clause-rests g c =
    rests_then c.args.store.now c.args.self.now c.loop-colour.self c.play_colour.new.self c.loop-colour.invariant.rests
    c.play_colour.ensures.rests

pub returns-in-Err-clause-err : goal.returns-in-Err-clause-err
returns-in-Err-clause-err g c =
    let s = c.args.store.now in
    let x = c.args.self.now in
    let l = c.loop-colour in
    first_synced s x l.self c.play_colour.new.self c.in-Some.colour c.next.new.self (members c.args.colours) l.syncs.items
    l.invariant.rests c.play_colour.ensures.rests
    (subst (λ (m : List ℕ). SyncedFirst s x l.self m (members c.args.colours) l.syncs.items) c.in-Some.ensures.steps
    l.invariant.first) c.in-Err.fault c.in-Err.ensures.err

pub returns-in-Err-push-clause-rests : goal.returns-in-Err-push-clause-rests
returns-in-Err-push-clause-rests g c =
    rests_then c.args.store.now c.args.self.now c.loop-colour.self c.play_colour.new.self c.loop-colour.invariant.rests
    c.play_colour.ensures.rests

pub returns-in-Err-push-clause-err : goal.returns-in-Err-push-clause-err
returns-in-Err-push-clause-err g c =
    let s = c.args.store.now in
    let x = c.args.self.now in
    let l = c.loop-colour in
    first_answered s x c.play_colour.new.self c.next.new.self (members c.args.colours) (l.syncs.items ++ c.in-Ok.synced ∷ [])
    (synced_next s x l.self c.play_colour.new.self c.in-Some.colour c.in-Ok.synced l.invariant.rests c.play_colour.ensures.rests
    c.in-Ok.ensures.ok c.next.new.self c.args.colours l.syncs.items
    (subst (λ (m : List ℕ). SyncedFirst s x l.self m (members c.args.colours) l.syncs.items) c.in-Some.ensures.steps
    l.invariant.first))

pub loop-colour-preserved-in-Ok-push : goal.loop-colour-preserved-in-Ok-push
loop-colour-preserved-in-Ok-push g c =
    let s = c.args.store.now in
    let x = c.args.self.now in
    let l = c.loop-colour in record {
      rests = rests_then s x l.self c.play_colour.new.self l.invariant.rests c.play_colour.ensures.rests;
      answered = subst (AnsweredFirst x c.play_colour.new.self) (sym c.in-Ok-push.ensures.items)
          (answered_next s x l.self c.play_colour.new.self c.in-Some.colour c.in-Ok.synced l.invariant.rests.same.1
          c.in-Ok.ensures.ok c.in-Ok.ensures.answer c.next.new.self c.args.colours l.syncs.items
          (ap (λ (m : List ℕ). synced_colours l.syncs.items ++ m) (sym c.in-Some.ensures.steps) ∙ l.invariant.first.apart)
          l.invariant.answered);
      first = subst (SyncedFirst s x c.play_colour.new.self c.next.new.self (members c.args.colours))
          (sym c.in-Ok-push.ensures.items)
          (synced_next s x l.self c.play_colour.new.self c.in-Some.colour c.in-Ok.synced l.invariant.rests
          c.play_colour.ensures.rests c.in-Ok.ensures.ok c.next.new.self c.args.colours l.syncs.items
          (subst (λ (m : List ℕ). SyncedFirst s x l.self m (members c.args.colours) l.syncs.items) c.in-Some.ensures.steps
          l.invariant.first));
    }

pub returns-clause-rests : goal.returns-clause-rests
returns-clause-rests g c = c.loop-colour.invariant.rests

pub returns-clause-ok : goal.returns-clause-ok
returns-clause-ok g c =
    let l = c.loop-colour in
    each_synced c.args.store.now c.args.self.now l.self (members c.args.colours) l.syncs.items
    (subst (λ (m : List ℕ). SyncedFirst c.args.store.now c.args.self.now l.self m (members c.args.colours) l.syncs.items)
    c.in-None.ensures.steps.0 l.invariant.first)

pub returns-clause-played : goal.returns-clause-played
returns-clause-played g c = c.loop-colour.invariant.answered.each
