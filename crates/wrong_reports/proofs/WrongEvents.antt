-- Events that may not come.
use Rattle.std.proofs.Common.{◌≡◌, List, ◌∷◌, refl, ap, arith, lit<, subst, sym}
use Rattle.std.specs.Prelude.{slice_index_or}
use Rattle.col_core.specs.Copies.{IsTrueCopy}
use Rattle.log_node.specs.declared.ids.Counts.{Counts}
use Rattle.log_node.specs.Vectors.{at}
use Rattle.log_node.specs.declared.node.Head.{Head}
use Rattle.col_core.specs.declared.Entry.{Entry}
use Rattle.col_core.specs.Computed.{dated}
use Rattle.lawful_run.specs.Lawful.{LawfulRun}
use Rattle.wrong_reports.specs.Cases.{IsUnlawful, counts}
use Rattle.wrong_reports.specs.Columns.{single}
use Rattle.wrong_reports.specs.Events.{carries, a_stamp_that_is_not_next, an_id_that_enters_twice}
use Rattle.wrong_reports.specs.Events.{a_settling_of_what_is_not_open, a_raise_to_the_clock, a_give_to_its_own_region}
use Rattle.wrong_reports.specs.Events.{a_trim_with_a_stamp, an_event_by_nobody, a_give_beyond_the_line}
use Rattle.wrong_reports.specs.Events.{a_carry_with_a_gap, a_carry_of_nothing, a_carry_of_its_own_region}
use Rattle.wrong_reports.specs.Events.{a_carry_of_what_the_origin_lacks, a_carry_with_other_needs}
use Rattle.wrong_reports.specs.Events.{noted_more_than_is_held, a_base_that_forgets_another_region}
use Rattle.wrong_reports.proofs.Tools.{column_at}
use Rattle.report_text.specs.declared.report.ReplyLine.{ReplyLine}

pub not_next : IsUnlawful a_stamp_that_is_not_next
not_next run = let s = ((column_at a_stamp_that_is_not_next run 0 _ refl).legal 0 _ refl).stamped in cc (s)

pub enters_twice : IsUnlawful an_id_that_enters_twice
enters_twice run = let s = ((column_at an_id_that_enters_twice run 0 _ refl).legal 1 _ refl).fresh in cc (s)

pub not_open : IsUnlawful a_settling_of_what_is_not_open
not_open run = ((column_at a_settling_of_what_is_not_open run 0 _ refl).legal 1 _ refl).1

pub raise_to_clock : IsUnlawful a_raise_to_the_clock
raise_to_clock run = let s = ((column_at a_raise_to_the_clock run 0 _ refl).legal 1 _ refl).1 in omega (arith, s)

pub give_to_own : IsUnlawful a_give_to_its_own_region
give_to_own run = ((column_at a_give_to_its_own_region run 0 _ refl).legal 0 _ refl).1 refl

pub trim_with_stamp : IsUnlawful a_trim_with_a_stamp
trim_with_stamp run = let s = (column_at a_trim_with_a_stamp run 0 _ refl).legal 1 _ refl in cc (s)

pub by_nobody : IsUnlawful an_event_by_nobody
by_nobody run = let s = (column_at an_event_by_nobody run 0 _ refl).makers 1 single (lit< tt) in omega (arith, s)

pub give_beyond : IsUnlawful a_give_beyond_the_line
give_beyond run = let s = ((column_at a_give_beyond_the_line run 1 _ refl).legal 0 _ refl).3 in omega (arith, s)

pub carry_gap : IsUnlawful a_carry_with_a_gap
carry_gap run = let s = ((column_at a_carry_with_a_gap run 1 _ refl).legal 0 _ refl).3 in cc (s)

pub carry_nothing : IsUnlawful a_carry_of_nothing
carry_nothing run = let s = ((column_at a_carry_of_nothing run 1 _ refl).legal 0 _ refl).4 in omega (arith, s)

pub carry_own : IsUnlawful a_carry_of_its_own_region
carry_own run = ((column_at a_carry_of_its_own_region run 1 _ refl).legal 0 _ refl).1 refl

-- COPIES
-- what w holds of e is a true copy
copy : (reply : ReplyLine) (more entries : List Entry) (cut : Counts) (run : LawfulRun
    (carries reply more entries cut).script (carries reply more entries cut).report)
    → IsTrueCopy 0 1 (dated 0 (single ∷ more)) (dated 1 entries)
copy reply more entries cut run =
    let of_e : single ∷ more ≡ run.log.histories 0 0 =
    (column_at (carries reply more entries cut) run 0 _ refl).history in
    let of_w : entries ≡ run.log.histories 1 0 = (column_at (carries reply more entries cut) run 1 _ refl).history in
    subst (λ (es : List Entry). IsTrueCopy 0 1 (dated 0 (single ∷ more)) (dated 1 es)) (sym of_w)
    (subst (λ (es : List Entry). IsTrueCopy 0 1 (dated 0 es) (dated 1 (run.log.histories 1 0))) (sym of_e)
    (run.copies 0 (lit< tt) 0 1 (lit< tt) (lit< tt) (λ f. let g : 0 ≡ 1 = f in omega (arith, g))))

abbrev nobody : Head
nobody = record { key = record { stamp = 0; id = record { client = 0; count = 0 } }; needs = counts 0 0 }

pub lacks : IsUnlawful a_carry_of_what_the_origin_lacks
lacks run =
    let c = (copy _ _ _ _ run).beginning in
    let f : 1 ≡ 0 = ap (λ (hs : List Head). (slice_index_or hs 0 nobody).key.id.count) c in
    omega (arith, f)

pub other_needs : IsUnlawful a_carry_with_other_needs
other_needs run =
    let c = (copy _ _ _ _ run).beginning in
    let f : 1 ≡ 0 = ap (λ (hs : List Head). at (slice_index_or hs 0 nobody).needs 0) c in
    omega (arith, f)

pub noted_more : IsUnlawful noted_more_than_is_held
noted_more run = let n = (copy _ _ _ _ run).noted_held in omega (arith, n)

pub base_forgets : IsUnlawful a_base_that_forgets_another_region
base_forgets run =
    let s = (column_at a_base_that_forgets_another_region run 0 _ refl).closing.base_shown in
    let f : 1 ≡ 0 = ap (λ (v : Counts). at v 0) s in omega (arith, f)
