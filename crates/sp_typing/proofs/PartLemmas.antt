-- The value of a MemReduce: a memory that its body declares.
use Rattle.std.proofs.Common.{◌≡◌, ℕ, Bool, true, false, not, ◌&&◌, ◌||◌, List, [], ◌∷◌, ◌++◌, Option, Some, None, is_some, refl, sym, ap, subst, ◌∙◌, inl, inr, true≢false}
use Rattle.std.specs.Prelude.{Contains, ◌⊎◌, nat_eq}
use Rattle.std.specs.Cmp.Lexicographic.{pointwise}
use Rattle.std.proofs.lemmas.Slice.Eq.{bytes_eq-Decides}
use Rattle.sp_words.specs.declared.kind.Kind.{Kind}
use Rattle.sp_words.specs.declared.kind.Kind.TheVariants.{Sram}
use Rattle.sp_words.specs.declared.types.Ty.{Ty}
use Rattle.sp_reader.specs.PlainTree.{PlainIdent, PlainExpr, place_of_expr}
use Rattle.sp_reader.specs.PlainStatement.{PlainStmtKind, PlainStmts, stmt, reg, sram, fifo, line_buffer, bind, set, set_at, enq, load, store, gather, scatter, block, foreach, reduce, fold, mem_reduce, fsm, branch, no_stmt, more_stmt}
use Rattle.sp_tree.specs.PlainExpression.{PlainExpr as ProgramExpr}
use Rattle.sp_tree.specs.PlainStatement as program
use Rattle.sp_tree.specs.PlainProgram.{PlainProgram}
use Rattle.sp_tree.specs.Structure.{own_mems}
use Rattle.sp_tree.specs.Typing.{Scope, mem_at}
use Rattle.sp_types.specs.declared.refusal.Refusal.{Refusal}
use Rattle.sp_types.specs.declared.refusal.Rule.TheVariants.{Misused}
use Rattle.sp_types.specs.Expressions as rule
use Rattle.sp_types.specs.First.{refused}
use Rattle.sp_types.specs.Statements.{bare_name, part_name, part_if, fits_acc, is_visible, visible_name, word}
use Rattle.sp_types.specs.Types.{is_type}
use Rattle.sp_types.specs.Visible.{PlainSymbol, memory, value, counter, Visible, symbol_of, is_busy}
use Rattle.sp_typed.proofs.ExpressionLemmas.{same_type, same_kind}
use Rattle.sp_typed.proofs.GrowthLemmas.{grows_all}
use Rattle.sp_typed.proofs.NoneLemmas.{both_none, not_noted, was_true}
use Rattle.sp_typed.specs.Declarations.{names_after, after, after_all}
use Rattle.sp_typed.specs.Expressions.{symbol_at, is_line, number_if}
use Rattle.sp_typed.specs.Laws.{Stands}
use Rattle.sp_typed.specs.Named.{Meant, Here, find, given}
use Rattle.sp_typed.specs.Statements.{body_typed, stmt_typed, write, is_output, load_typed, part_number}
use Rattle.sp_typed.specs.Statements as typed
use Rattle.sp_typing.specs.Places.{Place}
use Rattle.sp_typing.proofs.FindLemmas.{find_before, given_cases}
use Rattle.sp_typing.proofs.PlaceLemmas.{at_first, one_more, found_none}
use Rattle.sp_typing.proofs.UsedLemmas.{meaning}

-- ---- a memory that is visible after a body, and wasn't before, is one of the body's own

write_own : (place : ℕ) (b : Bool) (n : ℕ) (e : ProgramExpr) (rest : program.PlainStmts) → own_mems (program.more_stmt (program.stmt place (write b n e)) rest) ≡ own_mems rest
write_own place true n e rest = refl
write_own place false n e rest = refl

load_own : (place : ℕ) (b : Bool) (m n : ℕ) (spans : List program.PlainSpan) (rest : program.PlainStmts) → own_mems (program.more_stmt (program.stmt place (load_typed b m n spans)) rest) ≡ own_mems rest
load_own place true m n spans rest = refl
load_own place false m n spans rest = refl

abbrev a_memory : Kind → Option Ty → List ℕ → ℕ → Meant
a_memory kind ty dims n = record { symbol = memory kind ty dims; number = n }

-- by whether the name is found after the statement
own_given : (here : Here) (text name : List ℕ) (symbol : PlainSymbol) (kind : Kind) (ty : Option Ty) (dims own : List ℕ) (n : ℕ)
    → (is_some (find (given here.names text symbol here.mems) name) ≡ false) ⊎ (find (given here.names text symbol here.mems) name ≡ Some (record { symbol = symbol; number = here.mems }))
    → (is_some (find (given here.names text symbol here.mems) name) ≡ false → Contains own n)
    → ((m : Meant) → find (given here.names text symbol here.mems) name ≡ Some m → m ≡ a_memory kind ty dims n)
    → Contains (here.mems ∷ own) n
own_given here text name symbol kind ty dims own n (inl e) rest is = one_more here.mems own n (rest e)
own_given here text name symbol kind ty dims own n (inr e) rest is =
    let f : here.mems ≡ n = ap (λ (m : Meant). m.number) (is (record { symbol = symbol; number = here.mems }) e) in
    subst (λ k. Contains (here.mems ∷ own) k) f (at_first here.mems own)

value_given : (here : Here) (text name : List ℕ) (of_value : Option Ty) (kind : Kind) (ty : Option Ty) (dims own : List ℕ) (n : ℕ)
    → (is_some (find (given here.names text (value of_value) here.vals) name) ≡ false) ⊎ (find (given here.names text (value of_value) here.vals) name ≡ Some (record { symbol = value of_value; number = here.vals }))
    → (is_some (find (given here.names text (value of_value) here.vals) name) ≡ false → Contains own n)
    → ((m : Meant) → find (given here.names text (value of_value) here.vals) name ≡ Some m → m ≡ a_memory kind ty dims n)
    → Contains own n
value_given here text name of_value kind ty dims own n (inl e) rest is = rest e
value_given here text name of_value kind ty dims own n (inr e) rest is =
    let f : value of_value ≡ memory kind ty dims = ap (λ (m : Meant). m.symbol) (is (record { symbol = value of_value; number = here.vals }) e) in
    absurd (cc)

own_step : (here : Here) (k : PlainStmtKind) (place : ℕ) (rest : program.PlainStmts) (name : List ℕ) (kind : Kind) (ty : Option Ty) (dims : List ℕ) (n : ℕ) → is_some (find here.names name) ≡ false
    → (is_some (find (names_after here k) name) ≡ false → Contains (own_mems rest) n)
    → ((m : Meant) → find (names_after here k) name ≡ Some m → m ≡ a_memory kind ty dims n)
    → Contains (own_mems (program.more_stmt (program.stmt place (stmt_typed here k)) rest)) n
own_step here (reg i t start) place rest name kind ty dims n none later is = own_given here i.text name _ kind ty dims (own_mems rest) n (given_cases here.names i.text _ here.mems name none) later is
own_step here (sram i t ds) place rest name kind ty dims n none later is = own_given here i.text name _ kind ty dims (own_mems rest) n (given_cases here.names i.text _ here.mems name none) later is
own_step here (fifo i t d) place rest name kind ty dims n none later is = own_given here i.text name _ kind ty dims (own_mems rest) n (given_cases here.names i.text _ here.mems name none) later is
own_step here (line_buffer i t r c) place rest name kind ty dims n none later is = own_given here i.text name _ kind ty dims (own_mems rest) n (given_cases here.names i.text _ here.mems name none) later is
own_step here (bind i e) place rest name kind ty dims n none later is = value_given here i.text name _ kind ty dims (own_mems rest) n (given_cases here.names i.text _ here.vals name none) later is
own_step here (set i e) place rest name kind ty dims n none later is =
    subst (λ l. Contains l n) (sym (write_own place (is_output (symbol_at here i)) _ _ rest)) (later none)
own_step here (load onto from spans) place rest name kind ty dims n none later is =
    subst (λ l. Contains l n) (sym (load_own place (is_line (symbol_at here onto)) _ _ _ rest)) (later none)
own_step here (set_at i indices e) place rest name kind ty dims n none later is = later none
own_step here (enq i e) place rest name kind ty dims n none later is = later none
own_step here (store onto spans from) place rest name kind ty dims n none later is = later none
own_step here (gather onto from places count) place rest name kind ty dims n none later is = later none
own_step here (scatter onto places count from) place rest name kind ty dims n none later is = later none
own_step here (block style ss) place rest name kind ty dims n none later is = later none
own_step here (foreach h ss) place rest name kind ty dims n none later is = later none
own_step here (reduce h ss acc v c) place rest name kind ty dims n none later is = later none
own_step here (fold h ss acc v c) place rest name kind ty dims n none later is = later none
own_step here (mem_reduce h ss acc v c) place rest name kind ty dims n none later is = later none
own_step here (fsm start tested test now ss last next) place rest name kind ty dims n none later is = later none
own_step here (branch test first second) place rest name kind ty dims n none later is = later none

some_same : (a b : Meant) → Some a ≡ Some b → a ≡ b
some_same a b e = cc

pub own_one : (here : Here) (ss : PlainStmts) (name : List ℕ) (kind : Kind) (ty : Option Ty) (dims : List ℕ) (n : ℕ) → is_some (find here.names name) ≡ false
    → find (after_all here ss).names name ≡ Some (a_memory kind ty dims n) → Contains (own_mems (body_typed here ss)) n
own_one here no_stmt name kind ty dims n none e = absurd (true≢false (sym (ap is_some e) ∙ none))
own_one here (more_stmt (stmt place k) rest) name kind ty dims n none e =
    let g = grows_all (after here k) rest in
    own_step here k place (body_typed (after here k) rest) name kind ty dims n none
    (λ later. own_one (after here k) rest name kind ty dims n later e)
    (λ m f. some_same m (a_memory kind ty dims n)
    (sym (ap (λ ns. find ns name) g.names_is ∙ find_before (names_after here k) g.names name m f) ∙ e))

-- ---- what its rules say

pub record PartRight (p : PlainProgram) (body : program.PlainStmts) (inside : Visible) (part : ℕ) (ty : Ty) (dims : List ℕ) : Type 0 where
  pub own : Contains (own_mems body) part
  pub is_kind : (mem_at p part).kind ≡ Sram
  pub is_type : (mem_at p part).ty ≡ ty
  pub dims_are : (mem_at p part).dims ≡ dims
  pub free : is_busy inside (mem_at p part).name ≡ false

named_part : (o : Option PlainIdent) (outside : Bool) (inside : Visible) (acc : List ℕ) (e : PlainExpr)
    → (elim o as (λ _. List Refusal) [ Some i ↦ part_name outside inside acc i | None ↦ rule.expr_refusals inside (word None) e ++ refused (place_of_expr e) Misused ∷ [] ]) ≡ []
    → (i : PlainIdent) × (o ≡ Some i) × (part_name outside inside acc i ≡ [])
named_part None outside inside acc e none =
    let f : refused (place_of_expr e) Misused ∷ [] ≡ [] = (both_none (rule.expr_refusals inside (word None) e) _ none).1 in
    absurd (cc)
named_part (Some i) outside inside acc e none = (i, refl, none)

both_false : (a b : Bool) → (a || not b) ≡ false → (a ≡ false) × (b ≡ true)
both_false true b e = absurd (true≢false e)
both_false false b e = (refl, was_true b e)

both_true : (a b : Bool) → (a && b) ≡ true → (a ≡ true) × (b ≡ true)
both_true true b e = (refl, e)
both_true false b e = absurd (cc)

-- an SRAM of the accumulator's type and dimensions
fitting : (p : PlainProgram) (scope : Scope) (s : PlainSymbol) (n : ℕ) (ty : Ty) (dims : List ℕ) → Stands p scope s n → fits_acc (Some (memory Sram (Some ty) dims)) (Some s) ≡ true
    → s ≡ memory Sram (Some ty) dims
fitting p scope (memory kind (Some t) part) n ty dims stands fits =
    let f = both_true (rule.is_kind Sram kind) _ fits in
    let g = both_true (is_type ty t) (pointwise nat_eq dims part) f.1 in
    ap (λ k. memory k (Some t) part) (sym (same_kind Sram kind f.0)) ∙ ap (λ x. memory Sram (Some x) part) (sym (same_type ty t g.0))
    ∙ ap (memory Sram (Some ty)) (sym ((bytes_eq-Decides dims part).0 g.1))
fitting p scope (memory kind None part) n ty dims stands fits = absurd stands
fitting p scope (value t) n ty dims stands fits = absurd (true≢false (sym fits))
fitting p scope counter n ty dims stands fits = absurd (true≢false (sym fits))

module _ (p : PlainProgram) (scope : Scope) (here : Here) (before : Visible) (at : Place p scope here.names before.names) where
  pub part_right : (end : Scope) (ss : PlainStmts) (inside : Visible) (acc : List ℕ) (ty : Ty) (dims : List ℕ) (v : PlainExpr) → Place p end (after_all here ss).names inside.names
      → symbol_of inside acc ≡ Some (memory Sram (Some ty) dims) → part_if (is_visible before v) inside acc v ≡ []
      → PartRight p (body_typed here ss) inside (part_number (after_all here ss) v) ty dims
  part_right end ss inside acc ty dims v at_end acc_is none =
      let there = after_all here ss in
      let o = named_part (bare_name v) (is_visible before v) inside acc v none in
      let i = o.0 in
      let f = both_none (rule.name_refusals inside i) _ o.2 in
      let g = both_false (is_visible before v) (fits_acc (symbol_of inside acc) (symbol_of inside i.text)) (not_noted _ _ f.1) in
      let m = meaning p end there inside at_end i f.0 in
      let fits = ap (λ x. fits_acc x (Some m.symbol)) (sym acc_is) ∙ ap (fits_acc (symbol_of inside acc)) (sym m.seen_as) ∙ g.1 in
      let s = fitting p end m.symbol m.number ty dims m.stands fits in
      let found : find there.names i.text ≡ Some (a_memory Sram (Some ty) dims m.number) = m.is ∙ ap (λ x. Some (record { symbol = x; number = m.number })) s in
      let new : is_some (symbol_of before i.text) ≡ false = ap (visible_name before) (sym o.1) ∙ g.0 in
      let own = own_one here ss i.text Sram (Some ty) dims m.number (found_none p scope here.names before at i.text new) found in
      let number : m.number ≡ part_number there v = sym (ap number_if m.is) ∙ sym (ap (typed.part_if there) o.1) in
      let stands = at_end.agree i.text (a_memory Sram (Some ty) dims m.number) found in
      let named = at_end.named i.text (a_memory Sram (Some ty) dims m.number) found in
      let P : ℕ → Type 0 = λ k. PartRight p (body_typed here ss) inside k ty dims in
      subst P number (record {
        own = own;
        is_kind = stands.0.is_kind;
        is_type = stands.0.is_type;
        dims_are = stands.1;
        free = ap (is_busy inside) named ∙ m.free;
      })
