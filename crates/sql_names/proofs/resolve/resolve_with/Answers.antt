use Rattle.std.proofs.Common.{◌≡◌, List, map, ap, ◌∙◌, None}
use Rattle.sql_tree.specs.declared.select.TableRef.{TableRef}
use Rattle.sql_tree.specs.Select.{select_of, ref_of}
use Rattle.sql_names.specs.Kinds.{too_many_tables}
use Rattle.sql_scope.specs.Scope.{scope_of}
use Rattle.sql_names.proofs.Answered.{whole_fault, whole_query}
use Rattle.sql_names.proofs.QueryStands.{result_stands}
use Rattle.sql_names.proofs.resolve.resolve_with.Goals as goal

pub returns-in_ok-scope-in-None-clause-ok : goal.returns-in_ok-scope-in-None-clause-ok
returns-in_ok-scope-in-None-clause-ok c =
    let few : None ≡ too_many_tables (map ref_of c.args.select.now.sources) = c.in-None.ensures.place ∙ ap (λ (s : List TableRef). too_many_tables (map ref_of s)) c.as_slice-sources.ensures in
    let scope : c.as_slice.result.now ≡ scope_of c.args.derived.now c.args.text.now (map ref_of c.args.select.now.sources) = c.as_slice.ensures ∙ c.in_ok-scope-in-None.ensures.scope ∙ ap (λ (s : List TableRef). scope_of c.args.derived.now c.args.text.now (map ref_of s)) c.as_slice-sources.ensures in
    rw (whole_query c.args.derived.now c.args.text.now (select_of c.args.select.now) c.as_slice.result.now scope few) c.resolve_within.ensures.ok

pub returns-in_ok-scope-in-None-clause-standing : goal.returns-in_ok-scope-in-None-clause-standing
returns-in_ok-scope-in-None-clause-standing c = result_stands c.args.derived.now c.args.text.now (select_of c.args.select.now) _ (returns-in_ok-scope-in-None-clause-ok c)

pub returns-in_ok-scope-in-None-clause-sound : goal.returns-in_ok-scope-in-None-clause-sound
returns-in_ok-scope-in-None-clause-sound c =
    let few : None ≡ too_many_tables (map ref_of c.args.select.now.sources) = c.in-None.ensures.place ∙ ap (λ (s : List TableRef). too_many_tables (map ref_of s)) c.as_slice-sources.ensures in
    let scope : c.as_slice.result.now ≡ scope_of c.args.derived.now c.args.text.now (map ref_of c.args.select.now.sources) = c.as_slice.ensures ∙ c.in_ok-scope-in-None.ensures.scope ∙ ap (λ (s : List TableRef). scope_of c.args.derived.now c.args.text.now (map ref_of s)) c.as_slice-sources.ensures in
    rw (whole_fault c.args.derived.now c.args.text.now (select_of c.args.select.now) c.as_slice.result.now scope few) c.resolve_within.ensures.sound

pub returns-in_ok-scope-in-None-clause-fault : goal.returns-in_ok-scope-in-None-clause-fault
returns-in_ok-scope-in-None-clause-fault c =
    let few : None ≡ too_many_tables (map ref_of c.args.select.now.sources) = c.in-None.ensures.place ∙ ap (λ (s : List TableRef). too_many_tables (map ref_of s)) c.as_slice-sources.ensures in
    let scope : c.as_slice.result.now ≡ scope_of c.args.derived.now c.args.text.now (map ref_of c.args.select.now.sources) = c.as_slice.ensures ∙ c.in_ok-scope-in-None.ensures.scope ∙ ap (λ (s : List TableRef). scope_of c.args.derived.now c.args.text.now (map ref_of s)) c.as_slice-sources.ensures in
    rw (whole_fault c.args.derived.now c.args.text.now (select_of c.args.select.now) c.as_slice.result.now scope few) c.resolve_within.ensures.fault
