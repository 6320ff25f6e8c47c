use Rattle.std.proofs.Common.{◌∙◌, ◌<◌, List, length, ap, refl, sym, subst}
use Rattle.std.specs.List.{All}
use Rattle.std.proofs.lemmas.Result.{err_from_is_err_and}
use Rattle.log_node.specs.Sets.{members}
use Rattle.object_fold.specs.Folds.{is_behind}
use Rattle.playback.specs.Merging.{AreRising}
use Rattle.log_client.specs.declared.track.Track.{Track}
use Rattle.log_client.specs.Items.{are_parts, AreMergedParts}
use Rattle.log_client.specs.Calls.{AnswersEach}
use Rattle.log_client.specs.Reading.{keys_of, raised_colours, synced_colours}
use Rattle.log_client.proofs.Read.Colours.{all_within}
use Rattle.log_client.proofs.Going.Explaining.{rests_then}
use Rattle.log_client.proofs.Read.NamedKeys.{items_named}
use Rattle.log_client.proofs.Read.ReadCalls.{lines_held, reached_all, read_answered, read_rests, tracks_rising, unanswered, unraised, unsynced}
use Rattle.log_client.proofs.Sync.SyncAnswers.{answers_between}
use Rattle.log_client.proofs.client.Client.read_on.Goals as goal

pub clear_up_to-requires-clause-reached : goal.clear_up_to-requires-clause-reached
clear_up_to-requires-clause-reached g c =
    reached_all c.args.store.now c.read_stamp-stamp.new.self c.raise_all.new.self c.read_stamp-stamp.result
    c.in-Ok.raises.items (members c.args.colours) c.in-Ok.ensures.colours c.in-Ok.ensures.ok

pub returns-in_default : goal.returns-in_default
returns-in_default g c =
    let s = c.args.store.now in
    let x = c.args.self.now in
    let b = c.read_stamp-stamp.new.self in
    let e = c.read_stamp-stamp.ensures in
    let stamp = c.read_stamp-stamp.result in
    let on = rests_then s x b c.raise_all.new.self e.rests c.raise_all.ensures.rests in
    record {
      client = on.client;
      same = on.same;
      goes = on.goes;
      grows = on.grows;
      finished = on.finished;
      raises = tt;
      syncs = tt;
      played = tt;
      above = tt;
      ok = tt;
      held = tt;
      named = tt;
      hidden = tt;
      err = unraised s x b (members c.args.colours) stamp e.rests e.keeps e.chosen e.floor e.above
          c.raise_all.new.self c.raise_all.ensures.rests c.in_default.ensures.err;
    }

pub returns-in_err-syncs : goal.returns-in_err-syncs
returns-in_err-syncs g c =
    let s = c.args.store.now in
    let x = c.args.self.now in
    let b = c.read_stamp-stamp.new.self in
    let e = c.read_stamp-stamp.ensures in
    let stamp = c.read_stamp-stamp.result in
    let r = c.raise_all.new.self in
    let q = c.clear_up_to.new.self in
    let k = c.clear_up_to.ensures in
    let up = c.in-Ok.ensures in
    let on = rests_then s x b c.sync_all.new.self e.rests
    (rests_then s b r c.sync_all.new.self c.raise_all.ensures.rests
    (rests_then s r q c.sync_all.new.self k.rests c.sync_all.ensures.rests)) in
    let p = err_from_is_err_and c.from_residual.result c.from_residual.ensures.1 in
    rw (p.1, p.2) record {
      client = on.client;
      same = on.same;
      goes = on.goes;
      grows = on.grows;
      finished = on.finished;
      raises = tt;
      syncs = tt;
      played = tt;
      above = tt;
      ok = tt;
      held = tt;
      named = tt;
      hidden = tt;
      err = unsynced s x b (members c.args.colours) stamp e.rests e.keeps e.chosen e.floor e.above
          r q c.in-Ok.raises.items c.raise_all.ensures.rests up.ok up.colours k.rests k.keeps k.clear
          c.sync_all.new.self c.in_err-syncs.field-0.0 c.sync_all.ensures.rests c.in_err-syncs.ensures.err;
    }

pub items_read-requires-clause-within : goal.items_read-requires-clause-within
items_read-requires-clause-within g c =
    subst (λ n. All (λ m. m < n) (members c.args.colours))
    (sym (ap length c.as_slice.ensures.value ∙ c.sync_all.ensures.rests.client.colours))
    (all_within c.args.store.now c.args.colours c.requires.colours)

pub items_read-requires-clause-rising : goal.items_read-requires-clause-rising
items_read-requires-clause-rising g c =
    subst (All (λ (t : Track). AreRising (keys_of t.line))) (sym c.as_slice.ensures.value)
    (tracks_rising c.args.store.now c.sync_all.new.self c.sync_all.ensures.rests.client)

pub returns-in_default-items_read : goal.returns-in_default-items_read
returns-in_default-items_read g c =
    let s = c.args.store.now in
    let x = c.args.self.now in
    let b = c.read_stamp-stamp.new.self in
    let e = c.read_stamp-stamp.ensures in
    let stamp = c.read_stamp-stamp.result in
    let r = c.raise_all.new.self in
    let q = c.clear_up_to.new.self in
    let k = c.clear_up_to.ensures in
    let up = c.in-Ok.ensures in
    let on = read_rests s x b (members c.args.colours) stamp e.rests e.keeps e.chosen e.floor e.above
    r q c.in-Ok.raises.items c.raise_all.ensures.rests up.ok up.colours k.rests k.keeps k.clear
    c.sync_all.new.self c.sync_all.ensures.rests c.in_ok-syncs.syncs.items c.in_ok-syncs.ensures.ok c.max-self.result
    c.max-self.ensures e.in_range in
    record {
      client = on.client;
      same = on.same;
      goes = on.goes;
      grows = on.grows;
      finished = on.finished;
      raises = tt;
      syncs = tt;
      played = tt;
      above = tt;
      ok = tt;
      held = tt;
      named = tt;
      hidden = tt;
      err = unanswered s x b (members c.args.colours) stamp e.rests e.keeps e.chosen e.floor e.above
          r q c.in-Ok.raises.items c.raise_all.ensures.rests up.ok up.colours k.rests k.keeps k.clear
          c.sync_all.new.self c.sync_all.ensures.rests c.in_ok-syncs.syncs.items c.in_ok-syncs.ensures.ok c.max-self.result
          c.max-self.ensures e.in_range;
    }

pub returns : goal.returns
returns g c =
    let s = c.args.store.now in
    let x = c.args.self.now in
    let b = c.read_stamp-stamp.new.self in
    let e = c.read_stamp-stamp.ensures in
    let stamp = c.read_stamp-stamp.result in
    let r = c.raise_all.new.self in
    let q = c.clear_up_to.new.self in
    let k = c.clear_up_to.ensures in
    let up = c.in-Ok.ensures in
    let on = read_rests s x b (members c.args.colours) stamp e.rests e.keeps e.chosen e.floor e.above
    r q c.in-Ok.raises.items c.raise_all.ensures.rests up.ok up.colours k.rests k.keeps k.clear
    c.sync_all.new.self c.sync_all.ensures.rests c.in_ok-syncs.syncs.items c.in_ok-syncs.ensures.ok c.max-self.result
    c.max-self.ensures e.in_range in
    let ok =
    read_answered s x b (members c.args.colours) stamp e.rests e.keeps e.chosen e.floor e.above
    r q c.in-Ok.raises.items c.raise_all.ensures.rests up.ok up.colours k.rests k.keeps k.clear
    c.sync_all.new.self c.sync_all.ensures.rests c.in_ok-syncs.syncs.items c.in_ok-syncs.ensures.ok c.max-self.result
    c.max-self.ensures e.in_range
    c.args.last c.in-Ok-items_read.items
    (subst (λ (ts : List Track). AreMergedParts (are_parts ts c.args.last stamp (members c.args.colours))
    c.in-Ok-items_read.items) c.as_slice.ensures.value c.in-Ok-items_read.ensures)
    c.read_items_last.ensures c.into.result c.into-2.result c.into.ensures c.into-2.ensures in
    record {
      client = on.client;
      same = on.same;
      goes = on.goes;
      grows = on.grows;
      finished = on.finished;
      raises = ap raised_colours c.into.ensures ∙ up.colours;
      syncs = ap synced_colours c.into-2.ensures ∙ c.in_ok-syncs.ensures.ok.2;
      played = subst (AnswersEach x (record c.sync_all.new.self { floor = c.max-self.result })) (sym c.into-2.ensures)
          (answers_between q c.sync_all.new.self x (record c.sync_all.new.self { floor = c.max-self.result })
          c.in_ok-syncs.syncs.items (sym (k.rests.same.1 ∙ (c.raise_all.ensures.rests.same.1 ∙ e.rests.same.1)))
          (sym (k.tracks ∙ (c.raise_all.ensures.tracks ∙ e.tracks))) refl c.in_ok-syncs.ensures.played);
      above = e.above;
      ok = ok;
      held = lines_held s x b (members c.args.colours) stamp e.rests e.keeps e.chosen e.floor e.above
          r q c.in-Ok.raises.items c.raise_all.ensures.rests up.ok up.colours k.rests k.keeps k.clear
          c.sync_all.new.self c.sync_all.ensures.rests c.in_ok-syncs.syncs.items c.in_ok-syncs.ensures.ok c.max-self.result
          c.max-self.ensures e.in_range c.read_items_last.ensures;
      named = items_named s _ on.client (members c.args.colours) stamp ok.0 ok.1 (is_behind c.args.last)
          c.in-Ok-items_read.items ok.2.0;
      hidden = unanswered s x b (members c.args.colours) stamp e.rests e.keeps e.chosen e.floor e.above
          r q c.in-Ok.raises.items c.raise_all.ensures.rests up.ok up.colours k.rests k.keeps k.clear
          c.sync_all.new.self c.sync_all.ensures.rests c.in_ok-syncs.syncs.items c.in_ok-syncs.ensures.ok c.max-self.result
          c.max-self.ensures e.in_range;
      err = tt;
    }
