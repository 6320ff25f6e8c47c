use Rattle.std.proofs.Common.{ap}
use Rattle.chain_store.specs.declared.read_view.name.ColumnName.{ColumnName}
use Rattle.chain_store.proofs.Notes.{met_holder, met_heard}
use Rattle.chain_store.proofs.CopyLooks.{told_of}
use Rattle.chain_store.proofs.read_view.beside.meets.Goals as goal

pub pass_of-requires : goal.pass_of-requires
pass_of-requires c =
    let of = c.requires.copy.1 in
    (ap (λ (n : ColumnName). n.table) of, (c.args.copy.now.rests, ap (λ (n : ColumnName). n.tag) of))

pub returns-in-Some-clause-pass : goal.returns-in-Some-clause-pass
returns-in-Some-clause-pass c =
    let cell = c.args.cell.now in
    let p = c.args.pass.now in
    let t = c.in-Some.told in
    let q = c.meet.new.pass in
    let o = c.meet.ensures in
    let told = told_of cell c.args.copy.now c.requires.copy.0 c.requires.copy.1 t c.in-Some.ensures.0 c.in-Some.ensures.1 in (
      met_holder cell c.args.by p t q c.requires.pass told o.ready o.seen o.own o.accounted,
      record {
        more = o.seen.0;
        none = (met_heard cell c.args.by p t q c.requires.pass told o.ready o.seen o.own o.accounted).none;
      },
    )
