use Rattle.std.proofs.Common.{arith, length, rules}
use Rattle.std.proofs.lemmas.List.Sorted.{IsNonDecreasingBy-from_sort_by_key}
use Rattle.object_law.specs.declared.reads_by_stamp.StampedRead.{StampedRead}
use Rattle.object_law.proofs.ReadLemmas.{reads_all, reads_moved}
use Rattle.object_law.proofs.reads_by_stamp.reads_by_stamp.Goals as goal

pub returns-clause-are : goal.returns-clause-are
returns-clause-are c =
    let walked = c.args.subject.now in
    let many = c.clients-client-end.ensures in
    let ge = c.loop-client-test.false in
    reads_moved walked (length walked.report.clients) c.loop-client.reads.items c.sort_by_key.new.self.items
    c.in_ok-sort_by_key.ensures.permutation
    (reads_all walked c.loop-client.client (length walked.report.clients) c.loop-client.reads.items (omega (arith, many, ge))
    c.loop-client.invariant)

pub returns-clause-rising : goal.returns-clause-rising
returns-clause-rising c =
    IsNonDecreasingBy-from_sort_by_key (λ (r : StampedRead). r.stamp) _ c.in_ok-sort_by_key.ensures.sorted (λ a r q k. search rules)
