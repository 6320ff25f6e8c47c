use Rattle.std.proofs.Common.{◌∙◌, ◌++◌, ◌∷◌, [], ◌<◌, ℕ, List, ap, sym, arith, append_assoc, append-nil}
use Rattle.std.proofs.lemmas.List.Elements.{All-head, All-rest, All-same}
use Rattle.log_node.specs.declared.ids.Counts.{Counts}
use Rattle.log_node.specs.declared.limits.TheConstants.{MAX_COLOURS}
use Rattle.log_node.specs.Sets.{members}
use Rattle.log_node.proofs.CallerLemmas.{members_low}
use Rattle.world_code.specs.Clients.{played_of}
use Rattle.world_code.proofs.client.Client.played_of.Goals as goal

pub loop-colour-init : goal.loop-colour-init
loop-colour-init c =
    let all = c.into_iter-colour-iterator.ensures.into_iter_gives ∙ c.members-colour-items.ensures in record {
      played = ap (λ (l : List Counts). l ++ played_of c.args.self.now c.into_iter-colour-iterator.result) c.new-wants.ensures
          ∙ ap (played_of c.args.self.now) all;
      low = All-same (λ n. n < MAX_COLOURS) c.into_iter-colour-iterator.result (members c.args.colours) all
          (members_low c.args.colours);
    }

pub played-played-requires : goal.played-played-requires
played-played-requires c =
    let low = All-head (λ n. n < MAX_COLOURS) c.in-Some.colour c.next.new.self
    (All-same (λ n. n < MAX_COLOURS) (c.in-Some.colour ∷ c.next.new.self) c.loop-colour.colour-iterator
    (sym c.in-Some.ensures.steps) c.loop-colour.invariant.low) in
    let long = c.requires in omega (arith, low, long)

pub loop-colour-preserved : goal.loop-colour-preserved
loop-colour-preserved c =
    let now = c.args.self.now in
    let rest = c.next.new.self in record {
      played = ap (λ (l : List Counts). l ++ played_of now rest) c.in_ok-push.ensures.ok
          ∙ (append_assoc c.loop-colour.wants (c.played-played.result ∷ []) (played_of now rest)
          ∙ (ap (λ (x : Counts). c.loop-colour.wants ++ x ∷ played_of now rest) c.played-played.ensures
          ∙ (ap (λ (l : List ℕ). c.loop-colour.wants ++ played_of now l) (sym c.in-Some.ensures.steps)
          ∙ c.loop-colour.invariant.played)));
      low = All-rest (λ n. n < MAX_COLOURS) c.in-Some.colour rest c.loop-colour.colour-iterator c.in-Some.ensures.steps
          c.loop-colour.invariant.low;
    }

pub returns : goal.returns
returns c =
    sym (append-nil c.loop-colour.wants)
    ∙ (ap (λ (l : List ℕ). c.loop-colour.wants ++ played_of c.args.self.now l) (sym c.in-None.ensures.steps.0)
    ∙ c.loop-colour.invariant.played)
