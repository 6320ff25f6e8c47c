-- A run over a store with fewer rows than the script allows, where no more are needed.
use Rattle.std.proofs.Common.{◌≡◌, ◌⊎◌, ℕ, ◌<◌, ◌≤◌, Ok, Err, Result, ap, sym, subst, arith}
use Rattle.std.specs.Prelude.{IfOk}
use Rattle.script_text.specs.declared.script.Script.{Script}
use Rattle.script_beside.specs.declared.dealt.DealtScript.{DealtScript}
use Rattle.report_text.specs.declared.report.Report.{Report}
use Rattle.lawful_run.specs.Lawful.{LawfulRun}
use Rattle.few_rows.specs.Needs.{with_rows, AreEnough}
use Rattle.few_rows.proofs.CallerLemmas.{enough_rows, fewer_rows}
use Rattle.run_script.specs.Running.{CanRun}

-- what was dealt, with so many rows
abbrev pub dealt_with : DealtScript → ℕ → DealtScript
dealt_with dealt rows = record dealt { header = with_rows dealt.header rows }

-- the script allows as many rows as its header
pub rows_are : (script : Script) (dealt : DealtScript) → CanRun script dealt → script.shape.rows ≡ dealt.header.shape.rows
rows_are script dealt can = ap (λ (s : Script). s.shape.rows) can.is.header

pub can_run_with : (script : Script) (dealt : DealtScript) (rows : ℕ) → CanRun script dealt → 0 < rows → rows ≤ dealt.header.shape.rows
    → CanRun (with_rows script rows) (dealt_with dealt rows)
can_run_with script dealt rows can some few =
    let all = rows_are script dealt can in
    let most = can.rows in record {
      is = record {
        header = ap (λ (s : Script). with_rows s rows) can.is.header;
        without = can.is.without;
        many = can.is.many;
        each = can.is.each;
        begins = can.is.begins;
      };
      fits = let f = can.fits in record {
        version = f.version;
        shape = let of = f.shape in record {
          a_region = of.a_region;
          few_regions = of.few_regions;
          a_colour = of.a_colour;
          few_colours = of.few_colours;
          a_client = of.a_client;
          few_clients = of.few_clients;
          homes = of.homes;
        };
        regions = f.regions;
        colours = f.colours;
        clients = f.clients;
        callers = f.callers;
        commands = f.commands;
        objects = f.objects;
        uses = f.uses;
        few = f.few;
      };
      rows = omega (arith, few, all, most);
      some_rows = some;
      stops = can.stops;
    }

-- all that the header allows, or as many as the client may begin that may begin most, are enough
pub are_enough : (script : Script) (dealt : DealtScript) (rows : ℕ) → CanRun script dealt → rows ≤ dealt.header.shape.rows
    → (rows ≡ dealt.header.shape.rows) ⊎ (dealt.begins ≤ rows) → AreEnough script rows
are_enough script dealt rows can few enough =
    let all = sym (rows_are script dealt can) in
    enough_rows script dealt.begins rows can.fits can.is.begins (subst (λ (n : ℕ). rows ≤ n) all few)
    (subst (λ (n : ℕ). (rows ≡ n) ⊎ (dealt.begins ≤ rows)) all enough)

-- what is lawful with so many rows is lawful
pub lawful_with : {E : Type 0} (dealt : DealtScript) (rows : ℕ) (result : Result Report E) → 0 < rows → rows ≤ dealt.header.shape.rows
    → (rows ≡ dealt.header.shape.rows) ⊎ (dealt.begins ≤ rows)
    → IfOk result (λ report. (script : Script) → CanRun script (dealt_with dealt rows) → LawfulRun script report)
    → IfOk result (λ report. (script : Script) → CanRun script dealt → LawfulRun script report)
lawful_with dealt rows (Ok report) some few enough lawful = λ script can.
    fewer_rows script rows report (are_enough script dealt rows can few enough)
    (lawful (with_rows script rows) (can_run_with script dealt rows can some few))
lawful_with dealt rows (Err e) some few enough lawful = tt
