use Rattle.sql_tokens.specs.declared.token.Kind.TheVariants as kind
use Rattle.std.proofs.Common.{ap, ◌∙◌}
use Rattle.sql_parser.proofs.SelectArms.{cross_form, inner_form, left_form, join_word_form, no_form_word}
use Rattle.sql_parser.proofs.clauses.form_of_word.Goals as goal

pub returns-in-Cross : goal.returns-in-Cross
returns-in-Cross c =
    cross_form c.args.reader.now c.advance.new.self c.join.new.reader c.join.result (c.requires ∙ ap kind.Clause c.in-Cross.is) c.advance.ensures c.join.ensures

pub returns-in-Join : goal.returns-in-Join
returns-in-Join c =
    join_word_form c.args.reader.now c.advance-in-Join.new.self (c.requires ∙ ap kind.Clause c.in-Join.is) c.advance-in-Join.ensures

pub returns-in-Inner : goal.returns-in-Inner
returns-in-Inner c =
    inner_form c.args.reader.now c.advance-in-Inner.new.self c.join-in-Inner.new.reader c.join-in-Inner.result (c.requires ∙ ap kind.Clause c.in-Inner.is) c.advance-in-Inner.ensures c.join-in-Inner.ensures

pub returns-in-Left : goal.returns-in-Left
returns-in-Left c =
    left_form c.args.reader.now c.advance-in-Left.new.self c.outer.new.reader c.outer.result (c.requires ∙ ap kind.Clause c.in-Left.is) c.advance-in-Left.ensures c.outer.ensures

pub returns-in_default : goal.returns-in_default
returns-in_default c =
    no_form_word c.args.reader.now c.args.word c.requires c.in_default.not-Cross c.in_default.not-Join c.in_default.not-Inner c.in_default.not-Left
