use Rattle.std.proofs.Common.{◌∙◌, sym}
use Rattle.batch_keeper.proofs.Places.{is_fetched, is_within, none_there}
use Rattle.batch_keeper.proofs.indexed.find.Goals as goal

pub batch_at-requires : goal.batch_at-requires
batch_at-requires c =
    is_within c.args.entries.now c.args.index.now c.requires.is_index c.requires.whole c.args.number c.if-number-index.false c.in-Some.place (sym c.place_of.ensures ∙ c.in-Some.is)

pub returns-in-Some : goal.returns-in-Some
returns-in-Some c =
    is_fetched c.args.entries.now c.args.index.now c.requires.is_index c.requires.whole c.args.number c.if-number-index.false c.in-Some.place (sym c.place_of.ensures ∙ c.in-Some.is) _ c.batch_at.ensures

pub returns-in-None : goal.returns-in-None
returns-in-None c =
    none_there c.args.entries.now c.args.index.now c.requires.is_index c.requires.whole c.args.number c.if-number-index.false (sym c.place_of.ensures ∙ c.in-None.is)
