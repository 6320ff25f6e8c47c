use Rattle.std.proofs.Common.{◌∙◌, ap, sym, subst, ℕ, List, true, false}
use Rattle.log_node.proofs.CallerLemmas.{ok_then}
use Rattle.col_core.specs.Keeping.{Kept}
use Rattle.report_text.specs.declared.report.Answer.{Answer}
use Rattle.report_text.specs.declared.report.Answer.TheVariants as answers
use Rattle.lawful_run.specs.Asks.{kind_asked, object_colours, rising}
use Rattle.lawful_run.specs.Callers.{caller_of}
use Rattle.lawful_run.specs.Deeds.{colours_synced}
use Rattle.run_rules.specs.Answering.{CanHave, HasReads}
use Rattle.run_rules.specs.Told.{Untold, kept_after_read}
use Rattle.run_rules.specs.Telling.{low_told, replies_to}
use Rattle.run_rules.specs.Said.{nodes_shown}
use Rattle.walk_law.specs.Ninth.{log_shown}
use Rattle.walk_law.specs.Walking.{log_walked}
use Rattle.walk_law.proofs.BehindLemmas.{found_at}
use Rattle.walk_law.proofs.ReadingLemmas.{passes_not, passes_so}
use Rattle.walk_law.proofs.ShownAnswers.{behind_same, decided_same, has_same, played_same, reads_same, scan_same, shows_of}
use Rattle.walk_law.proofs.SeenAnswers.{all_low, decide_all, decide_has, decide_low, got_low, kind_low, one_low, point_low}
use Rattle.walk_law.proofs.keeping.Keeping.shows.Goals as goal

pub returns-in-Synced : goal.returns-in-Synced
returns-in-Synced c = λ kept untold a can within.
    let walked = c.args.subject.now in
    let script = walked.script in
    let report = walked.report in
    let fits = c.agrees.ensures.may.1.fitting in
    let who = caller_of script c.args.client in
    let replies = replies_to report c.args.client in
    let log = log_shown script report in
    let told = nodes_shown script report in
    let texts = c.args.texts.now in
    let what = c.args.what.now in
    let nodes = c.args.reply.now.nodes in
    let answer = c.args.reply.now.answer in
    let said : Answer = answers.Synced c.in-Synced.sync c.in-Synced.plays in
    let able = subst (CanHave who kept what nodes) c.in-Synced.is can in
    shows_of walked c.args.client c.shows_played.new.self c.shows_played.result texts untold kept what nodes answer said c.in-Synced.is
    (played_same walked c.args.client c.shows_played.new.self c.shows_played.result texts kept c.in-Synced.sync c.in-Synced.plays nodes
    c.as_slice-nodes.result.now c.as_slice-nodes.ensures
    (c.shows_played.ensures told kept (one_low script fits c.args.client what within c.in-Synced.sync.colour (ap (colours_synced who) able))
    a.counts))

pub returns-in-Scanned : goal.returns-in-Scanned
returns-in-Scanned c = λ kept untold a can within.
    let walked = c.args.subject.now in
    let script = walked.script in
    let report = walked.report in
    let fits = c.agrees.ensures.may.1.fitting in
    let who = caller_of script c.args.client in
    let replies = replies_to report c.args.client in
    let log = log_shown script report in
    let told = nodes_shown script report in
    let texts = c.args.texts.now in
    let what = c.args.what.now in
    let nodes = c.args.reply.now.nodes in
    let answer = c.args.reply.now.answer in
    let said : Answer = answers.Scanned c.in-Scanned.stamp c.in-Scanned.count c.in-Scanned.raises c.in-Scanned.syncs in
    let able = subst (CanHave who kept what nodes) c.in-Scanned.is can in
    let colours = colours_synced who what in
    let has = subst (λ (cs : List ℕ). HasReads cs c.in-Scanned.raises c.in-Scanned.syncs) (sym (ap (colours_synced who) able.1)) able.2 in
    ok_then c.shows_scan.result _ _
    (λ b passes. shows_of walked c.args.client c.shows_scan.new.self b texts untold kept what nodes answer said c.in-Scanned.is
    (scan_same walked c.args.client c.shows_scan.new.self b c.in-Scanned.raises c.as_slice.result.now c.in-Scanned.syncs c.as_slice-in-Scanned.result.now
    c.as_slice.ensures c.as_slice-in-Scanned.ensures texts kept colours c.in-Scanned.stamp c.in-Scanned.count nodes c.as_slice-nodes.result.now
    c.as_slice-nodes.ensures passes))
    (c.shows_scan.ensures told kept colours
    (has_same colours c.in-Scanned.raises c.as_slice.result.now c.in-Scanned.syncs c.as_slice-in-Scanned.result.now c.as_slice.ensures c.as_slice-in-Scanned.ensures has)
    (all_low script fits c.args.client what within) a.counts)

pub returns-in-Got : goal.returns-in-Got
returns-in-Got c = λ kept untold a can within.
    let walked = c.args.subject.now in
    let script = walked.script in
    let report = walked.report in
    let fits = c.agrees.ensures.may.1.fitting in
    let who = caller_of script c.args.client in
    let replies = replies_to report c.args.client in
    let log = log_shown script report in
    let told = nodes_shown script report in
    let texts = c.args.texts.now in
    let what = c.args.what.now in
    let nodes = c.args.reply.now.nodes in
    let answer = c.args.reply.now.answer in
    let said : Answer = answers.Got c.in-Got.value c.in-Got.sync in
    let able = subst (CanHave who kept what nodes) c.in-Got.is can in
    shows_of walked c.args.client c.shows_sync.new.self c.shows_sync.result texts untold kept what nodes answer said c.in-Got.is
    (c.shows_sync.ensures.kept told kept (got_low script fits c.args.client what within c.in-Got.value c.in-Got.sync (kind_asked who what) able.1) a.counts)

pub returns-in-GotMany : goal.returns-in-GotMany
returns-in-GotMany c = λ kept untold a can within.
    let walked = c.args.subject.now in
    let script = walked.script in
    let report = walked.report in
    let fits = c.agrees.ensures.may.1.fitting in
    let who = caller_of script c.args.client in
    let replies = replies_to report c.args.client in
    let log = log_shown script report in
    let told = nodes_shown script report in
    let texts = c.args.texts.now in
    let what = c.args.what.now in
    let nodes = c.args.reply.now.nodes in
    let answer = c.args.reply.now.answer in
    let said : Answer = answers.GotMany c.in-GotMany.values c.in-GotMany.sync in
    let able = subst (CanHave who kept what nodes) c.in-GotMany.is can in
    shows_of walked c.args.client c.shows_sync-in-GotMany.new.self c.shows_sync-in-GotMany.result texts untold kept what nodes answer said c.in-GotMany.is
    (c.shows_sync-in-GotMany.ensures.kept told kept (kind_low script fits c.args.client able.1 c.in-GotMany.sync.colour able.4) a.counts)

pub returns-in-Undecided : goal.returns-in-Undecided
returns-in-Undecided c = λ kept untold a can within.
    let walked = c.args.subject.now in
    let script = walked.script in
    let report = walked.report in
    let fits = c.agrees.ensures.may.1.fitting in
    let who = caller_of script c.args.client in
    let replies = replies_to report c.args.client in
    let log = log_shown script report in
    let told = nodes_shown script report in
    let texts = c.args.texts.now in
    let what = c.args.what.now in
    let nodes = c.args.reply.now.nodes in
    let answer = c.args.reply.now.answer in
    let said : Answer = answers.Undecided c.in-Undecided.stamp c.in-Undecided.sync in
    let able = subst (CanHave who kept what nodes) c.in-Undecided.is can in
    shows_of walked c.args.client c.shows_sync-in-Undecided.new.self c.shows_sync-in-Undecided.result texts untold kept what nodes answer said c.in-Undecided.is
    (c.shows_sync-in-Undecided.ensures.kept told kept (one_low script fits c.args.client what within c.in-Undecided.sync.colour able.4.3) a.counts)

pub returns-then-not-branch : goal.returns-then-not-branch
returns-then-not-branch c = λ kept untold a can within.
    let walked = c.args.subject.now in
    let script = walked.script in
    let report = walked.report in
    let fits = c.agrees.ensures.may.1.fitting in
    let who = caller_of script c.args.client in
    let replies = replies_to report c.args.client in
    let log = log_shown script report in
    let told = nodes_shown script report in
    let texts = c.args.texts.now in
    let what = c.args.what.now in
    let nodes = c.args.reply.now.nodes in
    let answer = c.args.reply.now.answer in
    let said : Answer = answers.GotKeys c.in-GotKeys.stamp c.in-GotKeys.keys c.in-GotKeys.raises c.in-GotKeys.syncs in
    let able = subst (CanHave who kept what nodes) c.in-GotKeys.is can in
    let colours = colours_synced who what in
    let after : Kept = kept_after_read log who kept c.in-GotKeys.stamp c.in-GotKeys.raises c.in-GotKeys.syncs in
    let reads = reads_same walked c.args.client c.reads.new.self c.in_ok-reads-in-GotKeys.field-0 c.in-GotKeys.raises c.as_slice-in-GotKeys.result.now c.in-GotKeys.syncs c.as_slice-in-GotKeys-2.result.now
    c.as_slice-in-GotKeys.ensures c.as_slice-in-GotKeys-2.ensures kept colours c.in-GotKeys.stamp
    (c.in_ok-reads-in-GotKeys.ensures.kept told kept colours
    (has_same colours c.in-GotKeys.raises c.as_slice-in-GotKeys.result.now c.in-GotKeys.syncs c.as_slice-in-GotKeys-2.result.now c.as_slice-in-GotKeys.ensures c.as_slice-in-GotKeys-2.ensures able.2)
    (all_low script fits c.args.client what within) a.counts) in
    shows_of walked c.args.client c.reads.new.self false texts untold kept what nodes answer said c.in-GotKeys.is
    (passes_not replies after c.reads.new.self c.in_ok-reads-in-GotKeys.field-0 reads c.if-not-branch.true)

pub returns-else-not-branch : goal.returns-else-not-branch
returns-else-not-branch c = λ kept untold a can within.
    let walked = c.args.subject.now in
    let script = walked.script in
    let report = walked.report in
    let fits = c.agrees.ensures.may.1.fitting in
    let who = caller_of script c.args.client in
    let replies = replies_to report c.args.client in
    let log = log_shown script report in
    let told = nodes_shown script report in
    let texts = c.args.texts.now in
    let what = c.args.what.now in
    let nodes = c.args.reply.now.nodes in
    let answer = c.args.reply.now.answer in
    let said : Answer = answers.GotKeys c.in-GotKeys.stamp c.in-GotKeys.keys c.in-GotKeys.raises c.in-GotKeys.syncs in
    let able = subst (CanHave who kept what nodes) c.in-GotKeys.is can in
    let colours = colours_synced who what in
    let after : Kept = kept_after_read log who kept c.in-GotKeys.stamp c.in-GotKeys.raises c.in-GotKeys.syncs in
    let reads = reads_same walked c.args.client c.reads.new.self c.in_ok-reads-in-GotKeys.field-0 c.in-GotKeys.raises c.as_slice-in-GotKeys.result.now c.in-GotKeys.syncs c.as_slice-in-GotKeys-2.result.now
    c.as_slice-in-GotKeys.ensures c.as_slice-in-GotKeys-2.ensures kept colours c.in-GotKeys.stamp
    (c.in_ok-reads-in-GotKeys.ensures.kept told kept colours
    (has_same colours c.in-GotKeys.raises c.as_slice-in-GotKeys.result.now c.in-GotKeys.syncs c.as_slice-in-GotKeys-2.result.now c.as_slice-in-GotKeys.ensures c.as_slice-in-GotKeys-2.ensures able.2)
    (all_low script fits c.args.client what within) a.counts) in
    let so = passes_so replies after c.reads.new.self c.in_ok-reads-in-GotKeys.field-0 reads c.if-not-branch.false in
    shows_of walked c.args.client c.found.new.self true texts untold kept what nodes answer said c.in-GotKeys.is (
      so.0,
      c.found.ensures.kept replies after untold.found
          (found_at replies c.args.place untold.found answer c.in-GotKeys.stamp c.in-GotKeys.keys c.in-GotKeys.raises c.in-GotKeys.syncs a.reply
          (ap (λ (u : Untold). u.found) a.told) c.in-GotKeys.is) so.1,
    )

pub returns-in-Listed : goal.returns-in-Listed
returns-in-Listed c = λ kept untold a can within.
    let walked = c.args.subject.now in
    let script = walked.script in
    let report = walked.report in
    let fits = c.agrees.ensures.may.1.fitting in
    let who = caller_of script c.args.client in
    let replies = replies_to report c.args.client in
    let log = log_shown script report in
    let told = nodes_shown script report in
    let texts = c.args.texts.now in
    let what = c.args.what.now in
    let nodes = c.args.reply.now.nodes in
    let answer = c.args.reply.now.answer in
    let said : Answer = answers.Listed c.in-Listed.names c.in-Listed.stamp c.in-Listed.raises c.in-Listed.syncs in
    let able = subst (CanHave who kept what nodes) c.in-Listed.is can in
    let colours = colours_synced who what in
    ok_then c.reads-in-Listed.result _ _
    (λ b passes. shows_of walked c.args.client c.reads-in-Listed.new.self b texts untold kept what nodes answer said c.in-Listed.is
    (reads_same walked c.args.client c.reads-in-Listed.new.self b c.in-Listed.raises c.as_slice-in-Listed.result.now c.in-Listed.syncs c.as_slice-in-Listed-2.result.now c.as_slice-in-Listed.ensures
    c.as_slice-in-Listed-2.ensures kept colours c.in-Listed.stamp passes))
    (c.reads-in-Listed.ensures.kept told kept colours
    (has_same colours c.in-Listed.raises c.as_slice-in-Listed.result.now c.in-Listed.syncs c.as_slice-in-Listed-2.result.now c.as_slice-in-Listed.ensures c.as_slice-in-Listed-2.ensures able.4)
    (all_low script fits c.args.client what within) a.counts)

pub returns-in-Pulled : goal.returns-in-Pulled
returns-in-Pulled c = λ kept untold a can within.
    let walked = c.args.subject.now in
    let script = walked.script in
    let report = walked.report in
    let fits = c.agrees.ensures.may.1.fitting in
    let who = caller_of script c.args.client in
    let replies = replies_to report c.args.client in
    let log = log_shown script report in
    let told = nodes_shown script report in
    let texts = c.args.texts.now in
    let what = c.args.what.now in
    let nodes = c.args.reply.now.nodes in
    let answer = c.args.reply.now.answer in
    ok_then c.shows_pull.result _ _
    (λ b passes. shows_of walked c.args.client c.shows_pull.new.self b texts untold kept what nodes answer
    (answers.Pulled c.in-Pulled.many c.in-Pulled.give c.in-Pulled.carry) c.in-Pulled.is passes)
    (c.shows_pull.ensures told kept untold within
    (ap (λ (u : Untold). u.too_low) a.told ∙ ap (low_told (log_walked walked) who kept what) c.in-Pulled.is) a.counts)

pub returns-in-Based : goal.returns-in-Based
returns-in-Based c = λ kept untold a can within.
    let walked = c.args.subject.now in
    let script = walked.script in
    let report = walked.report in
    let fits = c.agrees.ensures.may.1.fitting in
    let who = caller_of script c.args.client in
    let replies = replies_to report c.args.client in
    let log = log_shown script report in
    let told = nodes_shown script report in
    let texts = c.args.texts.now in
    let what = c.args.what.now in
    let nodes = c.args.reply.now.nodes in
    let answer = c.args.reply.now.answer in
    ok_then c.shows_trim.result _ _
    (λ b passes. shows_of walked c.args.client c.shows_trim.new.self b texts untold kept what nodes answer
    (answers.Based c.in-Based.at c.in-Based.base) c.in-Based.is passes)
    (c.shows_trim.ensures told kept untold within a.counts)

pub returns-in-Ruled : goal.returns-in-Ruled
returns-in-Ruled c = λ kept untold a can within.
    let walked = c.args.subject.now in
    let script = walked.script in
    let report = walked.report in
    let fits = c.agrees.ensures.may.1.fitting in
    let who = caller_of script c.args.client in
    let replies = replies_to report c.args.client in
    let log = log_shown script report in
    let told = nodes_shown script report in
    let texts = c.args.texts.now in
    let what = c.args.what.now in
    let nodes = c.args.reply.now.nodes in
    let answer = c.args.reply.now.answer in
    let leaves = λ (colour : ℕ). ap (λ (u : Untold). u.places colour) a.told in
    let said : Answer = answers.Ruled c.in-Ruled.conflict c.in-Ruled.stamp c.in-Ruled.row c.in-Ruled.points c.in-Ruled.read_stamp c.in-Ruled.raises c.in-Ruled.syncs in
    let able = subst (CanHave who kept what nodes) c.in-Ruled.is can in
    let colours = colours_synced who what in
    ok_then c.shows_behind.result _ _
    (λ b passes. shows_of walked c.args.client c.shows_behind.new.self b texts untold kept what nodes answer said c.in-Ruled.is
    (behind_same walked c.args.client c.shows_behind.new.self b c.in-Ruled.raises c.as_slice-in-Ruled-2.result.now c.in-Ruled.syncs c.as_slice-in-Ruled-3.result.now c.as_slice-in-Ruled-2.ensures c.as_slice-in-Ruled-3.ensures
    untold kept colours c.in-Ruled.read_stamp c.in-Ruled.row c.in-Ruled.points c.as_slice-in-Ruled.result.now c.as_slice-in-Ruled.ensures passes))
    (c.shows_behind.ensures told kept untold colours
    (has_same colours c.in-Ruled.raises c.as_slice-in-Ruled-2.result.now c.in-Ruled.syncs c.as_slice-in-Ruled-3.result.now c.as_slice-in-Ruled-2.ensures c.as_slice-in-Ruled-3.ensures able.3)
    (all_low script fits c.args.client what within) leaves a.counts)

pub returns-in-Changed : goal.returns-in-Changed
returns-in-Changed c = λ kept untold a can within.
    let walked = c.args.subject.now in
    let script = walked.script in
    let report = walked.report in
    let fits = c.agrees.ensures.may.1.fitting in
    let who = caller_of script c.args.client in
    let replies = replies_to report c.args.client in
    let log = log_shown script report in
    let told = nodes_shown script report in
    let texts = c.args.texts.now in
    let what = c.args.what.now in
    let nodes = c.args.reply.now.nodes in
    let answer = c.args.reply.now.answer in
    let leaves = λ (colour : ℕ). ap (λ (u : Untold). u.places colour) a.told in
    let said : Answer = answers.Changed c.in-Changed.failed c.in-Changed.stamp c.in-Changed.row c.in-Changed.points c.in-Changed.read_stamp c.in-Changed.raises c.in-Changed.syncs in
    let able = subst (CanHave who kept what nodes) c.in-Changed.is can in
    let colours = colours_synced who what in
    ok_then c.shows_behind-in-Changed.result _ _
    (λ b passes. shows_of walked c.args.client c.shows_behind-in-Changed.new.self b texts untold kept what nodes answer said c.in-Changed.is
    (behind_same walked c.args.client c.shows_behind-in-Changed.new.self b c.in-Changed.raises c.as_slice-in-Changed-2.result.now c.in-Changed.syncs c.as_slice-in-Changed-3.result.now c.as_slice-in-Changed-2.ensures c.as_slice-in-Changed-3.ensures
    untold kept colours c.in-Changed.read_stamp c.in-Changed.row c.in-Changed.points c.as_slice-in-Changed.result.now c.as_slice-in-Changed.ensures passes))
    (c.shows_behind-in-Changed.ensures told kept untold colours
    (has_same colours c.in-Changed.raises c.as_slice-in-Changed-2.result.now c.in-Changed.syncs c.as_slice-in-Changed-3.result.now c.as_slice-in-Changed-2.ensures c.as_slice-in-Changed-3.ensures able.3)
    (all_low script fits c.args.client what within) leaves a.counts)

pub returns-in-Decided : goal.returns-in-Decided
returns-in-Decided c = λ kept untold a can within.
    let walked = c.args.subject.now in
    let script = walked.script in
    let report = walked.report in
    let fits = c.agrees.ensures.may.1.fitting in
    let who = caller_of script c.args.client in
    let replies = replies_to report c.args.client in
    let log = log_shown script report in
    let told = nodes_shown script report in
    let texts = c.args.texts.now in
    let what = c.args.what.now in
    let nodes = c.args.reply.now.nodes in
    let answer = c.args.reply.now.answer in
    let said : Answer = answers.Decided c.in-Decided.commits c.in-Decided.stamp c.in-Decided.sync c.in-Decided.read_stamp c.in-Decided.raises c.in-Decided.syncs c.in-Decided.ended in
    let able = subst (CanHave who kept what nodes) c.in-Decided.is can in
    let colours = rising (object_colours (kind_asked who what)) in
    ok_then c.shows_decided.result _ _
    (λ b passes. shows_of walked c.args.client c.shows_decided.new.self b texts untold kept what nodes answer said c.in-Decided.is
    (decided_same walked c.args.client c.shows_decided.new.self b c.in-Decided.raises c.as_slice-in-Decided.result.now c.in-Decided.syncs c.as_slice-in-Decided-2.result.now c.as_slice-in-Decided.ensures
    c.as_slice-in-Decided-2.ensures untold kept colours c.in-Decided.sync c.in-Decided.read_stamp c.in-Decided.ended passes))
    (c.shows_decided.ensures told kept untold colours
    (has_same colours c.in-Decided.raises c.as_slice-in-Decided.result.now c.in-Decided.syncs c.as_slice-in-Decided-2.result.now c.as_slice-in-Decided.ensures c.as_slice-in-Decided-2.ensures
    (decide_has script fits c.args.client what within c.in-Decided.sync able.1 c.in-Decided.raises c.in-Decided.syncs able.2 able.3))
    (decide_all script fits c.args.client what within c.in-Decided.sync able.1 able.2)
    (decide_low script fits c.args.client what within c.in-Decided.sync able.1 able.2) a.counts)

pub returns-in-Took : goal.returns-in-Took
returns-in-Took c = λ kept untold a can within.
    let walked = c.args.subject.now in
    let script = walked.script in
    let report = walked.report in
    let fits = c.agrees.ensures.may.1.fitting in
    let who = caller_of script c.args.client in
    let replies = replies_to report c.args.client in
    let log = log_shown script report in
    let told = nodes_shown script report in
    let texts = c.args.texts.now in
    let what = c.args.what.now in
    let nodes = c.args.reply.now.nodes in
    let answer = c.args.reply.now.answer in
    let leaves = λ (colour : ℕ). ap (λ (u : Untold). u.places colour) a.told in
    let said : Answer = answers.Took c.in-Took.value c.in-Took.point c.in-Took.sync in
    let able = subst (CanHave who kept what nodes) c.in-Took.is can in
    ok_then c.shows_taken.result _ _
    (λ b passes. shows_of walked c.args.client c.shows_taken.new.self b texts untold kept what nodes answer said c.in-Took.is passes)
    (c.shows_taken.ensures told kept untold
    (point_low script fits c.args.client what within kept c.in-Took.point c.in-Took.sync.colour able.2 able.3) leaves a.counts)
