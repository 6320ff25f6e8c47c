use Rattle.std.proofs.Common.{◌≡◌, ◌∙◌, ◌++◌, ◌∷◌, ◌<◌, [], ℕ, List, ap, inl, length, refl, subst, sym, append_assoc, append-nil}
use Rattle.std.proofs.lemmas.List.{map-append}
use Rattle.std.proofs.lemmas.List.Elements.{All-contains}
use Rattle.std.proofs.lemmas.Option.{slice_get_read}
use Rattle.std.specs.Prelude.{slice_get}
use Rattle.std.specs.List.{All}
use Rattle.log_node.specs.Seen.{PlacedNode}
use Rattle.log_node.specs.Sets.{members}
use Rattle.col_core.proofs.CallerLemmas.{In, contains_in, in_right, slice_in}
use Rattle.playback.specs.Merging.{AreRising}
use Rattle.log_client.specs.declared.track.Track.{Track}
use Rattle.log_client.specs.Clients.{line_in}
use Rattle.log_client.specs.Items.{are_parts, part_of, AreMergedParts, AreMerged}
use Rattle.log_client.specs.Reading.{keys_of}
use Rattle.log_client.proofs.Read.MergedItems.{items_next, none_items}
use Rattle.log_client.proofs.merging.items_read.Goals as goal

pub loop-colour-init : goal.loop-colour-init
loop-colour-init c = (
  [],
  c.into_iter-colour-iterator.ensures.into_iter_gives ∙ c.members-colour-items.ensures,
  subst (AreMergedParts []) (sym c.new-items.ensures.items) none_items,
)

-- the next of the colours is one of theirs
one_of : (first : List ℕ) (k : ℕ) (left all : List ℕ) (n : ℕ) → first ++ k ∷ left ≡ all → All (λ m. m < n) all → k < n
one_of first k left all n is within =
    All-contains (λ m. m < n) all k within
    (contains_in all k (subst (In k) is (in_right k first (k ∷ left) (inl refl))))

pub bounds-tracks-colour : goal.bounds-tracks-colour
bounds-tracks-colour c =
    let i = c.loop-colour.invariant in
    one_of i.0 c.in-Some.colour c.next.new.self (members c.args.colours) (length c.args.tracks.now)
    (ap (λ (l : List ℕ). i.0 ++ l) (sym c.in-Some.ensures.steps) ∙ i.1) c.requires.within

pub part_of-requires : goal.part_of-requires
part_of-requires c =
    let i = c.loop-colour.invariant in
    let track = c.index-tracks-colour.result in
    let at = slice_get_read c.args.tracks.now (length c.args.tracks.now) c.in-Some.colour track refl
    (one_of i.0 c.in-Some.colour c.next.new.self (members c.args.colours) (length c.args.tracks.now)
    (ap (λ (l : List ℕ). i.0 ++ l) (sym c.in-Some.ensures.steps) ∙ i.1) c.requires.within) c.index-tracks-colour.is in
    subst (λ (l : List PlacedNode). AreRising (keys_of l)) (sym (c.as_slice-line.ensures ∙ ap (λ (t : Track). t.line) (sym c.index-tracks-colour.is)))
    (All-contains (λ (t : Track). AreRising (keys_of t.line)) c.args.tracks.now track c.requires.rising
    (contains_in c.args.tracks.now track (slice_in c.args.tracks.now c.in-Some.colour track at)))

pub loop-colour-preserved : goal.loop-colour-preserved
loop-colour-preserved c =
    let l = c.loop-colour in
    let i = l.invariant in
    let track = c.index-tracks-colour.result in
    let at = slice_get_read c.args.tracks.now (length c.args.tracks.now) c.in-Some.colour track refl
    (one_of i.0 c.in-Some.colour c.next.new.self (members c.args.colours) (length c.args.tracks.now)
    (ap (λ (l : List ℕ). i.0 ++ l) (sym c.in-Some.ensures.steps) ∙ i.1) c.requires.within) c.index-tracks-colour.is in
    let part = part_of c.args.last c.args.stamp (line_in (slice_get c.args.tracks.now c.in-Some.colour)) in (
      i.0 ++ c.in-Some.colour ∷ [],
      append_assoc i.0 (c.in-Some.colour ∷ []) c.next.new.self
          ∙ (ap (λ (m : List ℕ). i.0 ++ m) (sym c.in-Some.ensures.steps) ∙ i.1),
      subst (λ (ps : List (List PlacedNode)). AreMergedParts ps c.in_ok-items.items.items)
          (sym (map-append (λ k. part_of c.args.last c.args.stamp (line_in (slice_get c.args.tracks.now k))) i.0
          (c.in-Some.colour ∷ [])))
          (items_next (are_parts c.args.tracks.now c.args.last c.args.stamp i.0) part l.items.items c.in_ok-items.items.items i.2
          (subst (λ (m : List PlacedNode). AreMerged l.items.items m c.in_ok-items.items.items)
          (c.part_of.ensures ∙ ap (part_of c.args.last c.args.stamp) (c.as_slice-line.ensures ∙ (ap (λ (t : Track). t.line) (sym c.index-tracks-colour.is) ∙ ap line_in (sym at))))
          c.in_ok-items.ensures)),
    )

pub returns : goal.returns
returns c =
    let l = c.loop-colour in
    subst (AreMergedParts (are_parts c.args.tracks.now c.args.last c.args.stamp (members c.args.colours))) (sym c.into.ensures)
    (subst (λ (m : List ℕ). AreMergedParts (are_parts c.args.tracks.now c.args.last c.args.stamp m) l.items.items)
    (sym (append-nil l.invariant.0)
    ∙ (ap (λ (m : List ℕ). l.invariant.0 ++ m) (sym c.in-None.ensures.steps.0) ∙ l.invariant.1)) l.invariant.2)
