use Rattle.std.proofs.Common.{◌-◌, length, take, drop, arith}
use Rattle.object_form.specs.Forms.{version_text}
use Rattle.walk_law.proofs.JoinedTexts.{one_more_piece, all_pieces}
use Rattle.walk_law.proofs.texts_written.put_versions.Goals as goal

pub loop-version-preserved : goal.loop-version-preserved
loop-version-preserved c =
    let versions = c.args.versions.now in
    one_more_piece version_text (take (length versions - 1) (drop 1 versions)) c.loop-version.version-index c.version-item.result c.put_version.new.bytes.items _ _ _
    c.loop-version-test.true c.version-item.is c.loop-version.invariant c.in_ok-push.ensures.items c.in_ok-put_version-2.ensures

pub returns : goal.returns
returns c =
    all_pieces version_text c.args.versions.now c.loop-version.version-index c.first-item.result c.args.bytes.now.items _ _ (omega arith) c.first-item.is
    c.in_ok-put_version.ensures c.loop-version.invariant c.loop-version-test.false
