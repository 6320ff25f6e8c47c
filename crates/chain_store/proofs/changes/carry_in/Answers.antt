use Rattle.std.proofs.Common.{◌≡◌, ◌<◌, ◌≤◌, length, ◌≢◌, ℕ, List, false, Ok, Option, Some, refl, ap, sym, subst, ◌∙◌, arith}
use Rattle.std.specs.Prelude.{nat_lt, IfSome}
use Rattle.std.proofs.lemmas.Bool.{ltb-true, ltb-false}
use Rattle.turn_cell.specs.Cells.{seen}
use Rattle.column.specs.Columns.{held_of}
use Rattle.chain_store.specs.declared.told.Tag.{Tag}
use Rattle.chain_store.specs.declared.told.Told.{Told}
use Rattle.chain_store.specs.Columns.{Stands, told_carry, waiting_of}
use Rattle.chain_store.specs.Passes.{tag_in}
use Rattle.chain_store.proofs.Turning.{stood, tagged, saw}
use Rattle.chain_store.proofs.Moved.{may_move, moved_at, carries_at, waits_at}
use Rattle.chain_store.proofs.changes.carry_in.Goals as goal

none_of : (n : ℕ) → nat_lt 0 n ≡ false → n ≡ 0
none_of n none = let le = ltb-false 0 n none in omega (arith, le)

some_is : {A : Type 0} {x : A} {o : Option A} (P : A → Type 0) → o ≡ Some x → IfSome o P → P x
some_is P is h = subst (λ (z : Option _). IfSome z P) is h

pub carry-requires-clause-maker : goal.carry-requires-clause-maker
carry-requires-clause-maker g c =
    let is = tagged c.begin-turn.result.value.value c.deref_mut.result.now (tag_in c.args.cell.now)
    c.deref_mut.ensures.value c.begin-turn.ensures.tag in
    subst (λ (t : Tag). c.args.by < t.size.clients) (sym is) c.requires.maker

pub carry-requires-clause-other : goal.carry-requires-clause-other
carry-requires-clause-other g c =
    let is = tagged c.begin-turn.result.value.value c.deref_mut.result.now (tag_in c.args.cell.now)
    c.deref_mut.ensures.value c.begin-turn.ensures.tag in
    subst (λ (t : Tag). c.args.region ≢ t.region) (sym is) c.requires.other

pub carry-requires-clause-region : goal.carry-requires-clause-region
carry-requires-clause-region g c =
    let is = tagged c.begin-turn.result.value.value c.deref_mut.result.now (tag_in c.args.cell.now)
    c.deref_mut.ensures.value c.begin-turn.ensures.tag in
    subst (λ (t : Tag). c.args.region < t.regions) (sym is) c.requires.region

pub end-requires-clause-value : goal.end-requires-clause-value
end-requires-clause-value g c =
    let t = c.begin-turn.ensures in
    let x = c.deref_mut.result.now in
    let y = c.carry.new.self in
    let q = c.begin-turn.new.pass in
    let count = c.in-Ok-Some.count in
    let stands = stood c.begin-turn.result.value.value x (seen q) c.deref_mut.ensures.value t.value in
    let e = told_carry c.args.by c.args.region (held_of x.column c.args.region) (waiting_of x c.args.region) in
    may_move c.args.cell.now c.args.by q t.turn.0 x y e stands refl (nat_lt 0 count)
    (λ yes. c.in-Ok-Some.ensures.carried count (ap Ok c.in-Ok-Some.field-0-is) (ltb-true 0 count yes))
    (λ none. c.in-Ok-Some.ensures.nothing
    (ap Ok c.in-Ok-Some.field-0-is ∙ ap (λ (n : ℕ). Ok (Some n)) (none_of count none)))

pub returns-in-Ok-Some-clause-ok : goal.returns-in-Ok-Some-clause-ok
returns-in-Ok-Some-clause-ok g c =
    let cell = c.args.cell.now in
    let region = c.args.region in
    let t = c.begin-turn.ensures in
    let z = c.begin-turn.result.value.value in
    let x = c.deref_mut.result.now in
    let y = c.carry.new.self in
    let p = c.args.pass.now in
    let q = c.begin-turn.new.pass in
    let r = c.end.new.pass in
    let count = c.in-Ok-Some.count in
    let stands = stood z x (seen q) c.deref_mut.ensures.value t.value in
    let is = tagged z x (tag_in cell) c.deref_mut.ensures.value t.tag in
    let e = told_carry c.args.by region (held_of x.column region) (waiting_of x region) in
    carries_at (tag_in cell) x y c.args.by region c.args.least (waiting_of x region) p q r c.end.result count stands is
    c.end.ensures.value (c.carry.ensures.tag ∙ is) (some_is (λ (n : ℕ). n ≡ length (waiting_of x region)) c.in-Ok-Some.field-0-is c.in-Ok-Some.ensures.count)
    (some_is (λ (_ : ℕ). c.args.least ≤ held_of y.column region) c.in-Ok-Some.field-0-is c.in-Ok-Some.ensures.covers)
    (moved_at cell c.args.by p q r c.end.result t.turn.0 t.more x y e stands refl c.end.ensures.look c.end.ensures.event
    (nat_lt 0 count) (λ yes. c.in-Ok-Some.ensures.carried count (ap Ok c.in-Ok-Some.field-0-is) (ltb-true 0 count yes))
    (λ none. c.in-Ok-Some.ensures.nothing
    (ap Ok c.in-Ok-Some.field-0-is ∙ ap (λ (n : ℕ). Ok (Some n)) (none_of count none))))

pub returns-in-Ok-None-clause-none : goal.returns-in-Ok-None-clause-none
returns-in-Ok-None-clause-none g c = λ _.
    let cell = c.args.cell.now in
    let t = c.begin-turn.ensures in
    let z = c.begin-turn.result.value.value in
    let x = c.deref_mut.result.now in
    let q = c.begin-turn.new.pass in
    let r = c.end-in-Ok-None.new.pass in
    let stands = stood z x (seen q) c.deref_mut.ensures.value t.value in
    let is = tagged z x (tag_in cell) c.deref_mut.ensures.value t.tag in
    let kept = (c.end-in-Ok-None.ensures.look (c.in-Ok-None.ensures.none (ap Ok c.in-Ok-None.field-0-is) (seen q) stands)).1.0 in
    waits_at (tag_in cell) x c.args.by c.args.region c.args.least _ c.args.pass.now q r
    (subst (λ (l : List Told). Stands x l) (sym kept) stands) is (saw c.args.by c.args.pass.now q r t.more kept)
    (c.in-Ok-None.ensures.few.0 c.in-Ok-None.field-0-is)
