use Rattle.std.proofs.Common.{arith, refl, sym, ◌∙◌, drop, length}
use Rattle.std.proofs.Math.Seq.{drop-length}
use Rattle.sql_tokens.specs.Tokens.{end_token}
use Rattle.sql_nested.proofs.Outlooks.{looks_none, behind_none, looks_before, behind_before}
use Rattle.sql_nested.proofs.outlook.looks.Goals as goal

pub loop-at-init : goal.loop-at-init
loop-at-init c =
    let text = c.args.text.now in
    let tokens = c.args.tokens.now in
    record {
      within = omega arith;
      looked = c.new-looks.ensures ∙ sym (looks_none text (drop (length tokens) tokens) (drop-length tokens));
      known = sym (behind_none text (drop (length tokens) tokens) c.new.result (drop-length tokens) c.new.ensures);
    }

pub loop-at-preserved : goal.loop-at-preserved
loop-at-preserved c =
    let text = c.args.text.now in
    let tokens = c.args.tokens.now in
    let at = c.loop-at.at in
    let known = c.loop-at.invariant in
    record {
      within = omega (arith, known.within);
      looked = looks_before text tokens at end_token c.loop-at.looks c.push.new.self c.loop-at.outlook c.look.result (omega arith) known.within known.looked known.known c.look.ensures c.in_ok-push.ensures;
      known = behind_before text tokens c.rest_behind-rest.result.now at _ _ c.loop-at.outlook c.pass.new.self c.role_of.result c.cuts.result (omega arith) known.within c.cuts.ensures refl c.rest_behind-rest.ensures known.known c.role_of.ensures c.in_ok-pass.ensures;
    }
