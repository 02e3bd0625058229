use Rattle.std.proofs.Common.{◌≡◌, ◌-◌, length, Some, codes, refl, ◌∙◌, arith}
use Rattle.json.specs.Json.{read_key, value}
use Rattle.json.proofs.Grammar.{read_key-shorter}
use Rattle.serde_json.specs.Data.{no_members, put}
use Rattle.change_records.proofs.FoundMembers.{walked}
use Rattle.change_records.proofs.TokenReading.{member_read, member_refused, key_refused, members_over, on_err}
use Rattle.change_records.proofs.members.Members.read_members.Goals as goal

pub loop-name-init : goal.loop-name-init
loop-name-init c = (length c.args.reader.now, omega arith, no_members, refl, c.requires.none)

pub returns-in_err-name-clause-err : goal.returns-in_err-name-clause-err
returns-in_err-name-clause-err c =
    let p = value c.args.depth in
    let l = c.loop-name in
    on_err c.from_residual.result (l.invariant.3 ∙ key_refused p l.invariant.2 l.invariant.0 l.reader c.in_err-name.ensures.value)

pub returns-in_err-value-clause-err : goal.returns-in_err-value-clause-err
returns-in_err-value-clause-err c =
    let p = value c.args.depth in
    let l = c.loop-name in
    let k = c.in-Some.name.now in
    let s = c.next_key.new.self in
    let named : read_key l.reader ≡ Some (Some k, s) = grind arith in
    on_err c.from_residual-in_err-value.result (l.invariant.3 ∙ member_refused p l.invariant.2 l.invariant.0 k l.reader s named c.in_err-value.ensures.err)

pub loop-name-preserved : goal.loop-name-preserved
loop-name-preserved c =
    let p = value c.args.depth in
    let l = c.loop-name in
    let n = l.invariant.0 in
    let old = l.invariant.2 in
    let so_far = l.invariant.4 in
    let k = c.in-Some.name.now in
    let s = c.next_key.new.self in
    let named : read_key l.reader ≡ Some (Some k, s) = grind arith in
    let done = c.in_ok-value.ensures in
    let d = done.ok.0 in
    let shown = done.ok.2 in
    let r = c.read.new.reader in
    let next = c.with.ensures in
    let less = read_key-shorter l.reader (Some k) s named in
    let lesser = done.shorter in (
      n - 1,
      omega (arith, l.invariant.1),
      put k d old,
      l.invariant.3 ∙ member_read p old n k l.reader s r d (omega (arith, l.invariant.1)) named done.ok.1,
      record {
        path = walked (codes "path") k _ _ _ d old shown next.path so_far.path;
        action = walked (codes "action") k _ _ _ d old shown next.action so_far.action;
        inode = walked (codes "inode") k _ _ _ d old shown next.inode so_far.inode;
        uid = walked (codes "uid") k _ _ _ d old shown next.uid so_far.uid;
        gid = walked (codes "gid") k _ _ _ d old shown next.gid so_far.gid;
        size = walked (codes "size") k _ _ _ d old shown next.size so_far.size;
        mtime = walked (codes "mtime") k _ _ _ d old shown next.mtime so_far.mtime;
        mode = walked (codes "mode") k _ _ _ d old shown next.mode so_far.mode;
        time = walked (codes "time") k _ _ _ d old shown next.time so_far.time;
      },
    )

pub returns-clause-ok : goal.returns-clause-ok
returns-clause-ok c =
    let p = value c.args.depth in
    let l = c.loop-name in
    (l.invariant.2, l.invariant.3 ∙ members_over p l.invariant.2 l.invariant.0 l.reader c.next_key.new.self l.invariant.1 (grind arith), l.invariant.4)
