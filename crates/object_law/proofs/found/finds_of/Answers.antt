use mathlib.Core.Path.{fun_ext}
use Rattle.std.proofs.Common.{◌≡◌, ◌∙◌, ap, arith, length, rules, subst, sym, ℕ}
use Rattle.part_fold.specs.declared.decision.Decision.{Decision}
use Rattle.object_law.specs.Drafts.{AreDrafts}
use Rattle.object_law.specs.Found.{AreFoundTo, IsReadOf}
use Rattle.object_law.specs.Unnamed.{unnamed_finds}
use Rattle.object_law.proofs.FoundLemmas.{found_all, found_before, found_keys, found_next, found_none}
use Rattle.object_law.proofs.found.finds_of.Goals as goal

pub loop-at-init : goal.loop-at-init
loop-at-init c =
    let walked = c.args.subject.now in
    let reads = c.in_ok-reads.reads.items in (
      subst (AreFoundTo walked reads 0) (sym (c.in_ok-finds.ensures ∙ ap unnamed_finds c.report.ensures))
          (found_none walked c.agrees.ensures.may.1.formed reads c.in_ok-reads.ensures.are),
      c.new-plays.ensures,
    )

pub found_by-requires-clause-drafts : goal.found_by-requires-clause-drafts
found_by-requires-clause-drafts c =
    subst (λ (d : ℕ → ℕ → Decision). AreDrafts c.args.subject.now d c.in_ok-drafts.drafts)
    (fun_ext (λ n. fun_ext (λ k. c.none.ensures n k))) c.in_ok-drafts.ensures

pub found_by-requires-clause-found : goal.found_by-requires-clause-found
found_by-requires-clause-found c =
    let reads = c.in_ok-reads.reads.items in
    let at = c.loop-at.at in
    let many : c.len-at-end.result ≡ length reads = search rules in
    let less = c.loop-at-test.true in
    found_before c.args.subject.now c.agrees.ensures.may.1.formed reads at c.loop-at.finds c.loop-at.invariant.0 c.in_ok-reads.ensures.are
    c.in_ok-reads.ensures.rising c.index-read.result.now (omega (arith, many, less)) c.index-read.ensures

pub note-requires-clause-client : goal.note-requires-clause-client
note-requires-clause-client c =
    let reads = c.in_ok-reads.reads.items in
    let at = c.loop-at.at in
    let read = c.index-read.result.now in
    let many : c.len-at-end.result ≡ length reads = search rules in
    let less = c.loop-at-test.true in
    let of = subst (IsReadOf c.args.subject.now) (sym c.index-read.ensures)
    (c.in_ok-reads.ensures.are.each at read (omega (arith, many, less))) in
    (c.loop-at.invariant.0.slots read.client read.place of.step).0

pub note-requires-clause-place : goal.note-requires-clause-place
note-requires-clause-place c =
    let reads = c.in_ok-reads.reads.items in
    let at = c.loop-at.at in
    let read = c.index-read.result.now in
    let many : c.len-at-end.result ≡ length reads = search rules in
    let less = c.loop-at-test.true in
    let of = subst (IsReadOf c.args.subject.now) (sym c.index-read.ensures)
    (c.in_ok-reads.ensures.are.each at read (omega (arith, many, less))) in
    (c.loop-at.invariant.0.slots read.client read.place of.step).1

pub loop-at-preserved : goal.loop-at-preserved
loop-at-preserved c =
    let reads = c.in_ok-reads.reads.items in
    let at = c.loop-at.at in
    let read = c.index-read.result.now in
    let many : c.len-at-end.result ≡ length reads = search rules in
    let less = c.loop-at-test.true in
    let of = subst (IsReadOf c.args.subject.now) (sym c.index-read.ensures)
    (c.in_ok-reads.ensures.are.each at read (omega (arith, many, less))) in (
      found_next c.args.subject.now c.agrees.ensures.may.1.formed reads at c.loop-at.finds c.loop-at.invariant.0 read c.index-read.ensures
          of.step c.in_ok-found.found c.in_ok-found.ensures.found c.note.new.self c.note.ensures,
      c.in_ok-found.ensures.plays,
    )

pub returns-clause-finds : goal.returns-clause-finds
returns-clause-finds c =
    let reads = c.in_ok-reads.reads.items in
    let many : c.len-at-end.result ≡ length reads = search rules in
    let ge = c.loop-at-test.false in
    found_all c.args.subject.now c.agrees.ensures.may.1.formed reads c.loop-at.at c.loop-at.finds c.loop-at.invariant.0
    (omega (arith, many, ge))

pub returns-clause-keys : goal.returns-clause-keys
returns-clause-keys c =
    found_keys c.args.subject.now c.agrees.ensures.may.1.formed c.in_ok-reads.reads.items c.loop-at.at c.loop-at.finds
    c.loop-at.invariant.0
