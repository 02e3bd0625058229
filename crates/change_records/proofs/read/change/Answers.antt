use Rattle.std.proofs.Common.{Some, ap, ◌∙◌}
use Rattle.serde_json.specs.Data.{object}
use Rattle.change_records.specs.Changes.{change_of}
use Rattle.change_records.proofs.ChangeMembers.{change_same, no_change}
use Rattle.change_records.proofs.LineObject.{reads_of}
use Rattle.change_records.proofs.read.change.Goals as goal

pub returns-in_default : goal.returns-in_default
returns-in_default c = λ line is. no_change line (λ members same. c.in_default.ensures.err members (is ∙ ap (λ l. Some l) same))

pub returns : goal.returns
returns c =
    let done = c.in-Ok.ensures.ok in
    let has = done.2 in
    reads_of change_of c.args.reader.now (object done.0) _ c.change_with.result done.1
    (change_same (object done.0) _ _ _ _ _ _ _ _ _ has.path has.action has.inode has.uid has.gid has.size has.mtime has.mode has.time)
    c.change_with.ensures
