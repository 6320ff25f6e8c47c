use Rattle.std.proofs.Common.{◌∙◌}
use Rattle.lawful_run.specs.Callers.{caller_of}
use Rattle.run_rules.specs.Telling.{log_of}
use Rattle.walk_law.proofs.ScanLemmas.{lines_rise, scan_told}
use Rattle.walk_law.proofs.subject.Subject.are_keys_read.Goals as goal

pub returns : goal.returns
returns c = λ told.
    scan_told (log_of c.args.self.now.report told) (caller_of c.args.self.now.script c.args.client) c.args.stamp
    c.region_order_is_unique.ensures c.region_order_is_lawful.ensures
    (λ colour events. lines_rise c.args.self.now c.agrees.ensures.may.0 c.agrees.ensures.may.1
    (caller_of c.args.self.now.script c.args.client).own colour events) c.args.syncs.now c.as_slice.result.now c.args.nodes.now
    (c.as_slice.ensures.value ∙ c.in_ok-keys.ensures) c.show_keys.result c.show_keys.ensures
