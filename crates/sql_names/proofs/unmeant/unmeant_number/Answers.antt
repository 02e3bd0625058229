use Rattle.std.proofs.Common.{◌≡◌, List, map, ap, sym, ◌∙◌}
use Rattle.sql_tree.specs.declared.select.TableRef.{TableRef}
use Rattle.sql_tree.specs.Select.{select_of, ref_of}
use Rattle.sql_scope.specs.declared.scope.Seen.{Seen}
use Rattle.sql_scope.specs.Mentions.{mentions_of_select}
use Rattle.sql_scope.specs.Scope.{scope_of}
use Rattle.sql_scope.specs.Shown.{shown_of}
use Rattle.sql_names.specs.Resolve.{shown_in}
use Rattle.sql_names.proofs.Numbered.{unmeant_is}
use Rattle.sql_names.proofs.unmeant.unmeant_number.Goals as goal

pub returns : goal.returns
returns c =
    let derived = c.args.derived.now in
    let text = c.args.text.now in
    let select = select_of c.args.select.now in
    let found_scope = c.in_ok-scope.ensures.scope ∙ ap (λ (s : List TableRef). scope_of derived text (map ref_of s)) c.as_slice.ensures in
    let shown : map shown_of c.as_slice-4.result.now ≡ shown_in derived text (scope_of derived text select.sources) select =
    ap (map shown_of) c.as_slice-4.ensures.value ∙ c.in_ok-shown.ensures ∙ ap (λ (scope : List Seen). shown_in derived text scope select) (c.as_slice-2.ensures ∙ found_scope) in
    let found : c.deref.result.now ≡ mentions_of_select select = c.deref.ensures.value ∙ c.in_ok-found.ensures in
    rw (sym (unmeant_is derived text select c.as_slice-3.result.now (map shown_of c.as_slice-4.result.now) c.deref.result.now (c.as_slice-3.ensures ∙ found_scope) shown found)) c.mentions_unmeant.ensures
