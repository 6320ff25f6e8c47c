-- Columns that are not as they may be.
use Rattle.std.proofs.Common.{◌≡◌, ℕ, List, [], ◌∷◌, refl, ap, arith}
use Rattle.std.specs.Prelude.{slice_index}
use Rattle.log_node.specs.declared.ids.Counts.{Counts}
use Rattle.log_node.specs.Vectors.{at}
use Rattle.col_core.specs.Computed.{dated}
use Rattle.col_core.proofs.CallerLemmas.{cut-is_greatest, cut_unique}
use Rattle.wrong_reports.specs.Cases.{IsUnlawful}
use Rattle.wrong_reports.specs.Columns.{single, another_clock, another_line, another_queue, another_cut, another_base}
use Rattle.wrong_reports.specs.Columns.{another_regions_name, another_colours_name, a_missing_column, another_version, single}
use Rattle.wrong_reports.proofs.Tools.{column_at, some_same}

pub clock : IsUnlawful another_clock
clock run = let s = (column_at another_clock run 0 _ refl).closing.clock_shown in cc (s)

pub line : IsUnlawful another_line
line run = let s = (column_at another_line run 0 _ refl).closing.line_shown in cc (s)

pub queue : IsUnlawful another_queue
queue run = let s = (column_at another_queue run 0 _ refl).closing.queue_shown in cc (s)

pub cut_shown : IsUnlawful another_cut
cut_shown run =
    let g = (column_at another_cut run 0 _ refl).closing.cut_shown in
    let h = cut_unique _ _ _ g (cut-is_greatest 0 (dated 0 (single ∷ []))) in
    let f : 0 ≡ 1 = ap (λ (v : Counts). at v 0) h in omega (arith, f)

pub base : IsUnlawful another_base
base run =
    let s = (column_at another_base run 0 _ refl).closing.base_shown in
    let f : 1 ≡ 0 = ap (λ (v : Counts). at v 0) s in omega (arith, f)

pub region_name : IsUnlawful another_regions_name
region_name run =
    let s = some_same _ _ (column_at another_regions_name run 0 _ refl).region_named in
    let f : 101 ≡ 119 = ap (λ (name : List ℕ). slice_index name 0) s in omega (arith, f)

pub colour_name : IsUnlawful another_colours_name
colour_name run =
    let s = some_same _ _ (column_at another_colours_name run 0 _ refl).colour_named in
    let f : 120 ≡ 121 = ap (λ (name : List ℕ). slice_index name 0) s in omega (arith, f)

pub missing : IsUnlawful a_missing_column
missing run = let s = run.columns.all in cc (s)

pub version : IsUnlawful another_version
version run = let s = run.version in cc (s)
