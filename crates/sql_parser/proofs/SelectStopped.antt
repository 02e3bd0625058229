-- How far a select has been read when one of its parts stops.
use Rattle.std.proofs.Common.{List, [], ◌∷◌, Bool, Option}
use Rattle.sql_tokens.specs.declared.token.Token.{Token}
use Rattle.sql_faults.specs.declared.part.Part.{Part}
use Rattle.sql_faults.specs.declared.part.Part.TheVariants.{One, Must, May}
use Rattle.sql_faults.specs.declared.part.Expected.TheVariants as expected
use Rattle.sql_faults.specs.declared.part.Rule.TheVariants as rule
use Rattle.sql_faults.specs.declared.part.Optional.TheVariants as optional
use Rattle.sql_tree.specs.Tree.{Tree}
use Rattle.sql_tree.specs.Select.{ItemTree, RefTree, HavingTree, TermTree}
use Rattle.sql_parser.specs.Descent.{Leads}
use Rattle.sql_parser.specs.SelectGrammar.{SpellsOpening, WithCommas, SpellsItem, SpellsFrom, SpellsWhere, SpellsGroup, SpellsHaving, SpellsOrder}
use Rattle.sql_parser.specs.SelectDescent.{IsFound, select_parts}
use Rattle.sql_parser.proofs.Laws.{leads_on, leads_with}

-- what is expected behind each part of a select
abbrev pub after_terms : List Part
after_terms = May optional.Limit ∷ []

abbrev pub after_having : List Part
after_having = May optional.Order ∷ after_terms

abbrev pub after_keys : List Part
after_keys = May optional.Having ∷ after_having

abbrev pub after_filter : List Part
after_filter = May optional.Group ∷ after_keys

abbrev pub after_sources : List Part
after_sources = May optional.Where ∷ after_filter

abbrev pub after_items : List Part
after_items = May optional.From ∷ after_sources

abbrev pub after_opening : List Part
after_opening = Must rule.SelectItem ∷ May optional.SelectItems ∷ after_items

pub leads_opening : {ts a : List Token} {b : Bool} → IsFound SpellsOpening (One expected.Select ∷ May optional.Distinct ∷ []) [] ts b a → Leads select_parts after_opening ts a
leads_opening h = leads_with after_opening h.leads

pub leads_items : {ts a b : List Token} {xs : List ItemTree} → Leads select_parts after_opening ts a → IsFound (WithCommas SpellsItem) (Must rule.SelectItem ∷ May optional.SelectItems ∷ []) [] a xs b → Leads select_parts after_items ts b
leads_items l h = leads_on l (leads_with after_items h.leads)

pub leads_sources : {ts a b : List Token} {xs : List RefTree} → Leads select_parts after_items ts a → IsFound SpellsFrom (May optional.From ∷ []) [] a xs b → Leads select_parts after_sources ts b
leads_sources l h = leads_on l (leads_with after_sources h.leads)

pub leads_filter : {ts a b : List Token} {x : Option Tree} → Leads select_parts after_sources ts a → IsFound SpellsWhere (May optional.Where ∷ []) [] a x b → Leads select_parts after_filter ts b
leads_filter l h = leads_on l (leads_with after_filter h.leads)

pub leads_keys : {ts a b : List Token} {xs : List Tree} → Leads select_parts after_filter ts a → IsFound SpellsGroup (May optional.Group ∷ []) [] a xs b → Leads select_parts after_keys ts b
leads_keys l h = leads_on l (leads_with after_keys h.leads)

pub leads_having : {ts a b : List Token} {x : Option HavingTree} → Leads select_parts after_keys ts a → IsFound SpellsHaving (May optional.Having ∷ []) [] a x b → Leads select_parts after_having ts b
leads_having l h = leads_on l (leads_with after_having h.leads)

pub leads_terms : {ts a b : List Token} {xs : List TermTree} → Leads select_parts after_having ts a → IsFound SpellsOrder (May optional.Order ∷ []) [] a xs b → Leads select_parts after_terms ts b
leads_terms l h = leads_on l (leads_with after_terms h.leads)
