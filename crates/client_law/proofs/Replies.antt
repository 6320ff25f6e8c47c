-- What explains each reply.
use Rattle.std.proofs.Common.{ℕ, ◌+◌, ◌≤◌, List, length, refl, ap, sym, inl, arith, take_all}
use Rattle.log_node.specs.declared.node.At.TheVariants.{Event}
use Rattle.col_core.specs.declared.Entry.{Entry}
use Rattle.col_core.specs.History.{entries, open_count, line}
use Rattle.col_core.specs.Keeping.{Kept, kept_after_single}
use Rattle.report_text.specs.declared.report.PointPiece.{PointPiece}
use Rattle.lawful_run.specs.Appends.{none_for_one, none_for_several}
use Rattle.lawful_run.specs.Callers.{Caller, node_of}
use Rattle.lawful_run.specs.Refusals.{gone, gave}
use Rattle.lawful_run.specs.Stops.{stopped_after}
use Rattle.lawful_run.proofs.CallerLemmas.{explains_next, explains_moved, get_within, prefix_length}
use Rattle.client_law.specs.Knowing.{Seen, log_seen, SeesOn}
use Rattle.client_law.specs.Kept.{IsKeptBy}
use Rattle.client_law.specs.Appends.{steps_since}
use Rattle.client_law.specs.Replies.{StoodAlone, StoodNext, MovedOn, StoodInAll, EndedAlone, EndedInColour, WentForMemory, StoppedWithin, SyncedThere, LackedThere, PulledThere, GaveForMemory, TrimmedTo}
use Rattle.client_law.proofs.AppendOne.{appends_stand, no_stamp_was_left}
use Rattle.client_law.proofs.Several.{several_stand}
use Rattle.client_law.proofs.Rows.{gone_at_end, gone_for_memory, stops_stand}
use Rattle.client_law.proofs.Syncs.{syncs_stand, plays_stand, trimmed_there}
use Rattle.client_law.proofs.Pulls.{pulls_stand, trims_stand}

pub stood_alone : StoodAlone
stood_alone old new rest caller kept what colours text colour stamp place position a appending one s =
    let node = node_of caller kept colours text in (
      refl,
      inl appending,
      (
        colours,
        text,
        a.asks,
        (one, place, refl, appends_stand old new rest caller kept node colour stamp place position a.on a.keeps s, refl),
      ),
    )

-- a client has seen no more than is seen now
seen_before : (old new : Seen) (caller : Caller) (kept : Kept) (colour : ℕ) → SeesOn caller old new → IsKeptBy old caller kept
    → kept.seen caller.own colour ≤ length (new caller.own colour)
seen_before old new caller kept colour on k =
    let a = k.seen_within caller.own colour in
    let b = prefix_length (old caller.own colour) (new caller.own colour) (on.more caller.own colour) in
    omega (arith, a, b)

pub stood_next : StoodNext
stood_next old new rest caller kept colours text colour stamp place position a one s lined none played =
    let node = node_of caller kept colours text in
    let there = get_within (new caller.own colour) place _ s.entered in
    let seen = a.keeps.seen_within caller.own colour in
    let unseen = s.unseen in
    let point : PointPiece = record { colour = colour; at = Event place; position = position } in
    explains_next (log_seen new rest) caller kept colours text stamp point place
    (kept_after_single kept caller.own colour place stamp position) one refl
    (record {
      unseen = omega (arith, seen, unseen);
      there = omega (arith, there);
      lined_is = lined;
      waiting_is = sym none;
    }) played
    (one, place, refl, appends_stand old new rest caller kept node colour stamp place position a.on a.keeps s, refl)

pub moved_on : MovedOn
moved_on old new rest caller kept colour text on k moved =
    let history = new caller.own colour in
    let same = sym (take_all (length history) history (omega arith)) in
    explains_moved (log_seen new rest) caller kept colour text (length (line history)) (open_count (entries history))
    (length history)
    (record {
      unseen = seen_before old new caller kept colour on k;
      there = omega arith;
      lined_is = ap (λ (h : List Entry). length (line h)) same;
      waiting_is = ap (λ (h : List Entry). open_count (entries h)) same;
    }) moved

pub stood_in_all : StoodInAll
stood_in_all old new rest caller kept what colours text stamp points a appending s =
    let node = node_of caller kept colours text in (
      refl,
      inl appending,
      (
        colours,
        text,
        a.asks,
        (
          refl,
          steps_since caller old new,
          several_stand old new rest caller kept node stamp points a.on a.keeps s,
          refl,
        ),
      ),
    )

pub ended_alone : EndedAlone
ended_alone old new rest caller kept what colours text colour a tells one ended = (
  refl,
  tells,
  (colours, text, a.asks, none_for_one one (no_stamp_was_left old new rest caller kept colour a.on a.keeps ended)),
)

pub ended_in_colour : EndedInColour
ended_in_colour old new rest caller kept what colours text colour a tells b ends settled =
    let node = node_of caller kept colours text in (
      refl,
      tells,
      (
        colours,
        text,
        a.asks,
        none_for_several (steps_since caller old new)
            (gone_at_end old new rest caller kept node colour a.on b ends settled),
      ),
    )

pub went_for_memory : WentForMemory
went_for_memory old new rest caller kept what colours text a b outcome settled =
    let node = node_of caller kept colours text in (
      refl,
      gone colours text (steps_since caller old new) a.asks
          (gone_for_memory old new rest caller kept node a.on b outcome settled),
    )

pub stopped_within : StoppedWithin
stopped_within old new rest caller kept colours text steps on b s =
    let node = node_of caller kept colours text in (
      refl,
      colours,
      text,
      refl,
      stopped_after steps (steps_since caller old new) (stops_stand old new rest caller kept node (steps + 1) on b s),
    )

pub synced_there : SyncedThere
synced_there old new rest caller kept colour snapshot nodes on k l p = (
  refl,
  refl,
  syncs_stand old new rest caller kept colour snapshot on k l,
  plays_stand new rest caller kept colour snapshot nodes p,
  refl,
)

pub lacked_there : LackedThere
lacked_there old new rest caller kept colour shown on k is below =
    (refl, inl refl, ((0, omega arith, refl), trimmed_there old new rest caller kept colour shown on k is below, refl))

pub pulled_there : PulledThere
pulled_there old new rest caller kept region colour nodes place carry too_low on k p = (
  refl,
  region,
  colour,
  refl,
  place,
  refl,
  too_low,
  pulls_stand old new rest caller kept region colour nodes place carry too_low on k p,
  refl,
)

pub gave_for_memory : GaveForMemory
gave_for_memory new rest caller kept region colour looked too_low gives g =
    (refl, gave region colour looked too_low gives refl g)

pub trimmed_to : TrimmedTo
trimmed_to old new rest caller kept colour place shown on k unseen there is = (
  refl,
  colour,
  refl,
  place,
  refl,
  trims_stand old new rest caller kept colour place (kept.starts colour) shown on k unseen there is,
  refl,
)
