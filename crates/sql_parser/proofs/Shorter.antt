-- What is read takes at least one token.
use Rattle.std.proofs.Common.{◌≡◌, ◌≢◌, ◌<◌, ◌≤◌, List, [], ◌∷◌, length, Some, Bool, refl, ap, arith}
use Rattle.sql_tokens.specs.declared.token.Token.{Token}
use Rattle.sql_tokens.specs.declared.token.Kind.{Kind}
use Rattle.sql_tokens.specs.declared.token.Kind.TheVariants as kind
use Rattle.sql_tokens.specs.declared.level.Level.{Level}
use Rattle.sql_tokens.specs.declared.level.Sign.{Sign}
use Rattle.sql_tokens.specs.Tokens.{next, after}
use Rattle.sql_tree.specs.Tree.{Tree, OneStep, Steps, Trees}
use Rattle.sql_tokens.specs.Levels.{sign_at}
use Rattle.sql_parser.specs.Grammar.{Class, Spells, Further, SpellsStep, FurtherItems, SpellsList, SpellsNegated, SpellsBetween, a_chain, a_not, no_not, a_minus, a_plus, no_sign, a_number, a_text, a_null, in_parentheses, no_more, more, a_binary, an_is, an_is_not, an_in, a_between, a_negated, a_not_like, a_not_in, a_not_between, two_ends, no_items, some_items, last, one_more, a_column, a_table_column, a_call, a_cast, SpellsType, SpellsArguments, all_rows, distinct_arguments, plain_arguments, SpellsCounted, first_argument, FurtherArguments, last_argument, one_argument}
use Rattle.sql_tokens.specs.declared.token.Word.{Word}
use Rattle.sql_faults.specs.declared.arguments.Shape.{Shape}
use Rattle.sql_faults.specs.Calls.{IsNamed}
use Rattle.sql_parser.proofs.Arms.{sign_no_end}

pub after_shorter : (ts : List Token) → (next ts).kind ≢ kind.End → length (after ts) < length ts
after_shorter [] h = absurd (h refl)
after_shorter (t ∷ ts) h = omega arith

after_sign : (l : Level) (s : Sign) (ts : List Token) → sign_at l (next ts).kind ≡ Some s → length (after ts) < length ts
after_sign l s ts h = after_shorter ts (sign_no_end l s (next ts).kind h)

pub named_no_end : (k : Kind) (w : Word) → IsNamed k w → k ≢ kind.End
named_no_end (kind.Name v) w n e = cc
named_no_end (kind.QuotedName v) w n e = cc
named_no_end other w n e = absurd n

pub type_shorter : {ts : List Token} {is_text : Bool} {rest : List Token} → SpellsType ts is_text rest → length rest < length ts
type_shorter {ts} {is_text} {rest} h =
    let k = h.begins in
    let c = h.closed in
    let p = after_shorter ts (λ e. cc) in
    let q = after_shorter (after ts) (named_no_end _ h.word h.named) in
    let r = after_shorter (after (after ts)) (λ e. cc) in
    let m = ap length h.ends in
    omega arith

mutual
  pub shorter_arguments : {ts : List Token} {has : Shape} {items : Trees} {rest : List Token} → SpellsArguments ts has items rest → length rest < length ts
  shorter_arguments (all_rows {ts = ts} k n m) = let p = after_shorter ts (λ e. cc) in let q = after_shorter (after ts) (λ e. cc) in let r = after_shorter (after (after ts)) (λ e. cc) in omega arith
  shorter_arguments (distinct_arguments {ts = ts} k n s) = let p = shorter_counted s in let q = after_shorter ts (λ e. cc) in let r = after_shorter (after ts) (λ e. cc) in omega arith
  shorter_arguments (plain_arguments {ts = ts} k n m o s) = let p = shorter_counted s in let q = after_shorter ts (λ e. cc) in omega arith

  pub shorter_counted : {ts : List Token} {one has : Shape} {items : Trees} {rest : List Token} → SpellsCounted ts one has items rest → length rest < length ts
  shorter_counted (first_argument s f) = let p = shorter s in let q = shorter_further_arguments f in omega arith

  pub shorter_further_arguments : {ts : List Token} {s total : Shape} {before all : Trees} {rest : List Token} → FurtherArguments ts s before total all rest → length rest < length ts
  shorter_further_arguments (last_argument {ts = ts} k) = after_shorter ts (λ e. cc)
  shorter_further_arguments (one_argument {ts = ts} k s f) = let p = shorter s in let q = shorter_further_arguments f in let m = after_shorter ts (λ e. cc) in omega arith

  pub shorter : {c : Class} {ts : List Token} {tree : Tree} {rest : List Token} → Spells c ts tree rest → length rest < length ts
  shorter (a_chain s f) = let p = shorter s in let q = shorter_further f in omega arith
  shorter (a_not {ts = ts} k s) = let p = shorter s in let q = after_shorter ts (λ e. cc) in omega arith
  shorter (no_not k s) = shorter s
  shorter (a_minus {ts = ts} k s) = let p = shorter s in let q = after_shorter ts (λ e. cc) in omega arith
  shorter (a_plus {ts = ts} k s) = let p = shorter s in let q = after_shorter ts (λ e. cc) in omega arith
  shorter (no_sign k m s) = shorter s
  shorter (a_number {ts = ts} k) = after_shorter ts (λ e. cc)
  shorter (a_text {ts = ts} k) = after_shorter ts (λ e. cc)
  shorter (a_null {ts = ts} k) = after_shorter ts (λ e. cc)
  shorter (a_column {ts = ts} w n k m) = after_shorter ts (named_no_end _ w n)
  shorter (a_table_column {ts = ts} w v n k m) = let p = after_shorter ts (named_no_end _ w n) in let q = after_shorter (after ts) (λ e. cc) in let r = after_shorter (after (after ts)) (named_no_end _ v m) in omega arith
  shorter (a_call {ts = ts} w n a c) = let p = after_shorter ts (named_no_end _ w n) in let q = shorter_arguments a in omega arith
  shorter (a_cast {ts = ts} k o s m) = let p = shorter s in let q = after_shorter ts (λ e. cc) in let r = after_shorter (after ts) (λ e. cc) in let n = type_shorter m in omega arith
  shorter (in_parentheses {ts = ts} {rest = rest} k s m) = let p = shorter s in let q = after_shorter ts (λ e. cc) in let r = after_shorter rest (λ e. cc) in omega arith

  pub shorter_further : {l : Level} {ts : List Token} {before all : Steps} {rest : List Token} → Further l ts before all rest → length rest ≤ length ts
  shorter_further (no_more n) = omega arith
  shorter_further (more s f) = let p = shorter_step s in let q = shorter_further f in omega arith

  pub shorter_step : {l : Level} {ts : List Token} {step : OneStep} {rest : List Token} → SpellsStep l ts step rest → length rest < length ts
  shorter_step (a_binary {l = l} {ts = ts} h s) = let p = shorter s in let q = after_sign l _ ts h in omega arith
  shorter_step (an_is {l = l} {ts = ts} h k s) = let p = shorter s in let q = after_sign l _ ts h in omega arith
  shorter_step (an_is_not {l = l} {ts = ts} h k s) = let p = shorter s in let q = after_sign l _ ts h in let r = after_shorter (after ts) (λ e. cc) in omega arith
  shorter_step (an_in {l = l} {ts = ts} h s) = let p = shorter_list s in let q = after_sign l _ ts h in omega arith
  shorter_step (a_between {l = l} {ts = ts} h s) = let p = shorter_between s in let q = after_sign l _ ts h in omega arith
  shorter_step (a_negated {l = l} {ts = ts} h s) = let p = shorter_negated s in let q = after_sign l _ ts h in omega arith

  pub shorter_negated : {l : Level} {ts : List Token} {step : OneStep} {rest : List Token} → SpellsNegated l ts step rest → length rest < length ts
  shorter_negated (a_not_like {ts = ts} k s) = let p = shorter s in let q = after_shorter ts (λ e. cc) in omega arith
  shorter_negated (a_not_in {ts = ts} k s) = let p = shorter_list s in let q = after_shorter ts (λ e. cc) in omega arith
  shorter_negated (a_not_between {ts = ts} k s) = let p = shorter_between s in let q = after_shorter ts (λ e. cc) in omega arith

  pub shorter_between : {l : Level} {is_negated : Bool} {ts : List Token} {step : OneStep} {rest : List Token} → SpellsBetween l is_negated ts step rest → length rest < length ts
  shorter_between (two_ends {middle = middle} s k r) = let p = shorter s in let q = shorter r in let m = after_shorter middle (λ e. cc) in omega arith

  pub shorter_list : {ts : List Token} {items : Trees} {rest : List Token} → SpellsList ts items rest → length rest < length ts
  shorter_list (no_items {ts = ts} k m) = let p = after_shorter ts (λ e. cc) in let q = after_shorter (after ts) (λ e. cc) in omega arith
  shorter_list (some_items {ts = ts} k n s f) = let p = shorter s in let q = after_shorter ts (λ e. cc) in let r = shorter_items f in omega arith

  pub shorter_items : {ts : List Token} {before all : Trees} {rest : List Token} → FurtherItems ts before all rest → length rest < length ts
  shorter_items (last {ts = ts} k) = after_shorter ts (λ e. cc)
  shorter_items (one_more {ts = ts} k s f) = let p = shorter s in let q = shorter_items f in let m = after_shorter ts (λ e. cc) in omega arith
