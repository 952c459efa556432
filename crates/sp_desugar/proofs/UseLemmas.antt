-- Names of values: what a statement renames, and that a controller or a transfer renames none.
use Rattle.std.proofs.Common.{◌≡◌, ◌<◌, ◌+◌, length, get_or, drop, drop-cons, add-one, suc, Option, Some, None, ℕ, ◌==◌, Bool, true, false, ◌||◌, ◌&&◌, List, [], ◌∷◌, ◌++◌, refl, sym, ◌∙◌, ap}
use mathlib.Core.Path.{fun_ext}
use Rattle.sp_tree.specs.PlainExpression.{expr, value}
use Rattle.sp_words.specs.declared.types.Ty.{Ty}
use Rattle.sp_tree.specs.declared.statement.Stmt.{Stmt}
use Rattle.sp_tree.specs.PlainStatement.{PlainStmtKind, name}
use Rattle.sp_tree.specs.Tallies.{Tally, primitive}
use Rattle.sp_tree.specs.declared.statement.Ctl.{Ctl, Block', Foreach', Reduce', MemReduce', Fsm', Branch'}
use Rattle.sp_tree.specs.PlainTree.{plain_ctl, plain_stmt_kind, plain_stmts}
use Rattle.sp_sugar.specs.Uses.{Ending, renamed, names_after, are_using, is_using, is_used_later, ending_uses}
use Rattle.sp_desugar.specs.Names.{among, is_primitive}

or_false : (b : Bool) → (b || false) ≡ b
or_false true = refl
or_false false = refl

swapped : (a b c : Bool) → (a || (b || c)) ≡ (b || (a || c))
swapped true true c = refl
swapped true false c = refl
swapped false true c = refl
swapped false false c = refl

among_more : (names : List ℕ) (n v : ℕ) → among (names ++ n ∷ []) v ≡ ((v == n) || among names v)
unfolding among
among_more [] n v = refl
among_more (m ∷ names) n v = ap (λ b. (v == m) || b) (among_more names n v) ∙ swapped (v == m) (v == n) (among names v)

pub one_name : (v : ℕ) → among (v ∷ []) ≡ (λ u. u == v)
unfolding among
one_name v = fun_ext (λ u. or_false (u == v))

-- another name of a value that is among them, and of one that isn't
pub renamed_yes : (names : List ℕ) (w place v : ℕ) (ty : Ty) → among names v ≡ true → among (names ++ w ∷ []) ≡ renamed (among names) (name w (expr place ty (value v)))
renamed_yes names w place v ty h = fun_ext (λ u. among_more names w u ∙ sym (ap (λ b. (b && (u == w)) || among names u) h))

pub renamed_no : (names : List ℕ) (w place v : ℕ) (ty : Ty) → among names v ≡ false → among names ≡ renamed (among names) (name w (expr place ty (value v)))
renamed_no names w place v ty h = fun_ext (λ u. sym (ap (λ b. (b && (u == w)) || among names u) h))

pub control_is_other : (ctl : Ctl) → is_primitive (plain_ctl ctl) ≡ false
control_is_other (Block' style shape body) = refl
control_is_other (Foreach' style counters shape body) = refl
control_is_other (Reduce' style fold acc counters shape body word comb) = refl
control_is_other (MemReduce' style acc counters shape body part comb) = refl
control_is_other (Fsm' start tested test state shape body last next) = refl
control_is_other (Branch' test shape first shape2 second) = refl

pub control_renames : (is : ℕ → Bool) (ctl : Ctl) → renamed is (plain_ctl ctl) ≡ is
control_renames is (Block' style shape body) = refl
control_renames is (Foreach' style counters shape body) = refl
control_renames is (Reduce' style fold acc counters shape body word comb) = refl
control_renames is (MemReduce' style acc counters shape body part comb) = refl
control_renames is (Fsm' start tested test state shape body last next) = refl
control_renames is (Branch' test shape first shape2 second) = refl

-- one statement further in a body
abbrev kind_at : Stmt → PlainStmtKind
kind_at s = plain_stmt_kind s.kind

pub drop_here : (body : List Stmt) (i : ℕ) (s : Stmt) → i < length body → s ≡ get_or body i s → drop i body ≡ s ∷ drop (i + 1) body
drop_here body i s h e = drop-cons body i s h ∙ ap (λ x. x ∷ drop (suc i) body) (sym e) ∙ ap (λ k. s ∷ drop k body) (sym (add-one i))

pub after_step : (is now : ℕ → Bool) (body : List Stmt) (i : ℕ) (s : Stmt) → i < length body → s ≡ get_or body i s → now ≡ renamed is (kind_at s)
    → names_after now (plain_stmts (drop (i + 1) body)) ≡ names_after is (plain_stmts (drop i body))
after_step is now body i s h e f =
    let d = drop_here body i s h e in
    ap (λ x. names_after x (plain_stmts (drop (i + 1) body))) f ∙ ap (λ xs. names_after is (plain_stmts xs)) (sym d)

pub using_step : (is now : ℕ → Bool) (body : List Stmt) (i : ℕ) (s : Stmt) → i < length body → s ≡ get_or body i s → is_using is (kind_at s) ≡ false → now ≡ renamed is (kind_at s)
    → are_using now (plain_stmts (drop (i + 1) body)) ≡ are_using is (plain_stmts (drop i body))
using_step is now body i s h e n f =
    let d = drop_here body i s h e in
    ap (λ x. are_using x (plain_stmts (drop (i + 1) body))) f ∙ sym (ap (λ b. b || are_using (renamed is (kind_at s)) (plain_stmts (drop (i + 1) body))) n)
    ∙ ap (λ xs. are_using is (plain_stmts xs)) (sym d)

primitive_passes : (o : Option Tally) (x y : Bool) → elim o as (λ _. Bool) [ Some t ↦ true | None ↦ false ] ≡ true → elim o as (λ _. Bool) [ Some t ↦ x | None ↦ y ] ≡ x
primitive_passes (Some t) x y h = refl
primitive_passes None x y h = absurd (cc)

other_decides : (o : Option Tally) (x y : Bool) → elim o as (λ _. Bool) [ Some t ↦ true | None ↦ false ] ≡ false → elim o as (λ _. Bool) [ Some t ↦ x | None ↦ y ] ≡ y
other_decides (Some t) x y h = absurd (cc)
other_decides None x y h = refl

pub later_step : (is now : ℕ → Bool) (body : List Stmt) (i : ℕ) (s : Stmt) (ending : Ending) → i < length body → s ≡ get_or body i s → is_primitive (kind_at s) ≡ true → now ≡ renamed is (kind_at s)
    → is_used_later now (plain_stmts (drop (i + 1) body)) ending ≡ is_used_later is (plain_stmts (drop i body)) ending
later_step is now body i s ending h e p f =
    let d = drop_here body i s h e in
    ap (λ x. is_used_later x (plain_stmts (drop (i + 1) body)) ending) f
    ∙ sym (primitive_passes (primitive (kind_at s)) _ _ p)
    ∙ ap (λ xs. is_used_later is (plain_stmts xs) ending) (sym d)

-- at a controller or a transfer
pub later_end : (is : ℕ → Bool) (body : List Stmt) (i : ℕ) (s : Stmt) (ending : Ending) → i < length body → s ≡ get_or body i s → is_primitive (kind_at s) ≡ false
    → is_used_later is (plain_stmts (drop i body)) ending
    ≡ (is_using is (kind_at s) || are_using is (plain_stmts (drop (i + 1) body)) || ending_uses (names_after is (plain_stmts (drop (i + 1) body))) ending)
later_end is body i s ending h e p =
    let d = drop_here body i s h e in
    ap (λ xs. is_used_later is (plain_stmts xs) ending) d ∙ other_decides (primitive (kind_at s)) _ _ p
