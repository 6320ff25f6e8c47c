use Rattle.std.proofs.Common.{◌≡◌, ◌∙◌, ap, sym, subst, ◌<◌, ◌≤◌, arith, ℕ, length, List, [], get_or, set}
use Rattle.report_text.specs.declared.report.SyncPiece.{SyncPiece}
use Rattle.world_code.specs.WorldView.{world_of}
use Rattle.script_in_order.specs.Stamped.{looked_in}
use Rattle.script_in_order.proofs.ListsChanged.{changed, changed_at, changed_more, changed_all, take_front}
use Rattle.script_in_order.proofs.stamped.with_looks.Goals as goal

abbrev none : SyncPiece
none = record { colour = 0; events = 0; counts = record { 0 = [] } }

within : (index : ℕ) (items all : List SyncPiece) → index < length items → items ≡ all → index < length all
within index items all low is = subst (λ (l : List SyncPiece). index < length l) is low

there : (f : SyncPiece → SyncPiece) (index : ℕ) (now all : List SyncPiece) → now ≡ changed f index all
    → index < length all → get_or now index none ≡ get_or all index none
there f index now all is low = ap (λ (l : List SyncPiece). get_or l index none) is ∙ changed_at f index all none low

pub looked-requires-clause-colour : goal.looked-requires-clause-colour
looked-requires-clause-colour c =
    let low = within c.loop-sync.sync-index c.deref_mut-sync-items.result.now c.args.syncs.items c.loop-sync-test.true
    c.deref_mut-sync-items.ensures.value in
    subst (λ (s : SyncPiece). s.colour < c.args.world.now.shape.colours)
    (sym (there (looked_in (world_of c.args.world.now) c.args.client) c.loop-sync.sync-index c.loop-sync.sync-items
    c.args.syncs.items c.loop-sync.invariant low))
    (c.requires.within c.loop-sync.sync-index none low)

pub loop-sync-preserved : goal.loop-sync-preserved
loop-sync-preserved c =
    let low = within c.loop-sync.sync-index c.deref_mut-sync-items.result.now c.args.syncs.items c.loop-sync-test.true
    c.deref_mut-sync-items.ensures.value in
    let f = looked_in (world_of c.args.world.now) c.args.client in
    let at = there f c.loop-sync.sync-index c.loop-sync.sync-items c.args.syncs.items c.loop-sync.invariant low in
    ap (λ (l : List SyncPiece). set l c.loop-sync.sync-index c.looked.result) c.loop-sync.invariant
    ∙ changed_more f c.loop-sync.sync-index c.args.syncs.items c.looked.result none low (c.looked.ensures ∙ ap f at)

beyond : (index : ℕ) (items all : List SyncPiece) → length items ≤ index → items ≡ all → length all ≤ index
beyond index items all low is = subst (λ (l : List SyncPiece). length l ≤ index) is low

pub returns : goal.returns
returns c =
    let ok = c.args.syncs.ok in
    let same = ap length c.deref_mut-sync-items.ensures.value in
    let long = c.loop-sync.auto.sync-items in
    c.from.ensures ∙ (take_front c.loop-sync.sync-items _ c.args.syncs.len (omega (arith, ok, same, long))
    ∙ (c.loop-sync.invariant
    ∙ changed_all (looked_in (world_of c.args.world.now) c.args.client) c.loop-sync.sync-index
    c.args.syncs.items (beyond c.loop-sync.sync-index c.deref_mut-sync-items.result.now c.args.syncs.items
    c.loop-sync-test.false c.deref_mut-sync-items.ensures.value)))
