-- The tree of a SELECT, without where it lies in memory, and that of a `Select`.
use Rattle.std.specs.Prelude.{ℕ, ℤ, Bool, List, map, Option, option_map}
use Rattle.sql_tree.specs.declared.span.Span.{Span}
use Rattle.sql_tree.specs.declared.tree.Name.{Name}
use Rattle.sql_tree.specs.declared.select.Item.{Item}
use Rattle.sql_tree.specs.declared.select.Item.TheVariants as item
use Rattle.sql_tree.specs.declared.select.TableRef.{TableRef}
use Rattle.sql_tree.specs.declared.select.Having.{Having}
use Rattle.sql_tree.specs.declared.select.Term.{Term}
use Rattle.sql_tree.specs.declared.select.Select.{Select}
use Rattle.sql_tree.specs.Tree.{Tree}
use Rattle.sql_tree.specs.View.{tree_of}

pub data ItemTree : Type 0 where
  all : ℕ → ItemTree
  all_of : Name → ItemTree
  one : Tree → Span → Option Name → ItemTree

pub record RefTree : Type 0 where
  pub table : Name
  pub alias : Option Name
  pub is_outer : Bool
  pub on : Option Tree
  pub using : List Name

pub record HavingTree : Type 0 where
  pub place : ℕ
  pub tree : Tree

pub record TermTree : Type 0 where
  pub tree : Tree
  pub is_descending : Bool

pub record SelectTree : Type 0 where
  pub is_distinct : Bool
  pub items : List ItemTree
  pub sources : List RefTree
  pub filter : Option Tree
  pub keys : List Tree
  pub having : Option HavingTree
  pub terms : List TermTree
  pub limit : Option ℤ
  pub skip : Option ℤ

abbrev pub item_of : Item → ItemTree
item_of (item.All place) = all place
item_of (item.AllOf table) = all_of table
item_of (item.One node span alias) = one (tree_of node) span alias

abbrev pub ref_of : TableRef → RefTree
ref_of r = record { table = r.table; alias = r.alias; is_outer = r.is_outer; on = option_map tree_of r.on; using = r.using }

abbrev pub having_of : Having → HavingTree
having_of h = record { place = h.place; tree = tree_of h.node }

abbrev pub term_of : Term → TermTree
term_of t = record { tree = tree_of t.node; is_descending = t.is_descending }

-- the tree that a `Select` stands for
abbrev pub select_of : Select → SelectTree
select_of s = record { is_distinct = s.is_distinct; items = map item_of s.items; sources = map ref_of s.sources; filter = option_map tree_of s.filter; keys = map tree_of s.keys; having = option_map having_of s.having; terms = map term_of s.terms; limit = s.limit; skip = s.skip }
