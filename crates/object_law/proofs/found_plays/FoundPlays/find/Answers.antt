use Rattle.std.proofs.Common.{◌≡◌, ◌∙◌, ap, sym, subst, ℕ, IfOk, List}
use Rattle.std.specs.List.{All}
use Rattle.std.specs.Prelude.{slice_set}
use Rattle.std.proofs.lemmas.List.Elements.{All-set}
use Rattle.std.proofs.lemmas.Option.{get_or_from_slice_get, slice_get_within}
use Rattle.object_fold.specs.Transactions.{versions_after}
use Rattle.run_rules.specs.Computing.{keys_shown}
use Rattle.object_law.specs.Found.{IsFoundPlay, found_nodes, stamped_keys}
use Rattle.object_law.specs.declared.found_plays.FoundPlay.{FoundPlay}
use Rattle.object_law.proofs.AmongLemmas.{ok_for_all}
use Rattle.object_law.proofs.found_plays.FoundPlays.find.Goals as goal

pub find-requires-clause-play : goal.find-requires-clause-play
find-requires-clause-play c =
    let items = c.place.new.self.plays.items in
    let place = c.in_ok-place.place in
    let at = c.in_ok-place.ensures.at in
    subst (IsFoundPlay c.args.subject.now) (sym c.index_mut.ensures.value)
    (c.in_ok-place.ensures.plays place c.index_mut.result.now (slice_get_within items place at.play at.there))

pub returns-clause-found : goal.returns-clause-found
returns-clause-found c =
    let walked = c.args.subject.now in
    let q = c.index_mut.result.now in
    let at = c.in_ok-place.ensures.at in
    let is = c.index_mut.ensures.value
    ∙ get_or_from_slice_get c.place.new.self.plays.items c.in_ok-place.place at.play q at.there in
    let Found : ℕ → List ℕ → Type 0 = λ region colours. IfOk c.find.result (λ f. f
    ≡ versions_after (found_nodes walked (stamped_keys walked region colours c.args.stamp)) (keys_shown c.args.shown.now)) in
    subst (λ (region : ℕ). Found region c.args.colours) (ap (λ (p : FoundPlay). p.order.region) is ∙ at.is.0)
    (subst (λ (colours : List ℕ). Found q.order.region colours) (ap (λ (p : FoundPlay). p.order.colours) is ∙ at.is.1)
    c.find.ensures.found)

pub returns-clause-plays : goal.returns-clause-plays
returns-clause-plays c =
    let all = IsFoundPlay c.args.subject.now in
    let items = c.place.new.self.plays.items in
    let place = c.in_ok-place.place in
    let new = c.find.new.self in
    ok_for_all c.find.result (λ (u : Unit {0}). all new) (All all (slice_set items place new)) (λ u. c.find.ensures.play)
    (λ f. All-set all items place new (f tt) c.in_ok-place.ensures.plays)
