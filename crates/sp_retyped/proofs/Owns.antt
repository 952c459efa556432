-- The type that an expression of a program's tree has by itself.
use Rattle.std.proofs.Common.{◌≡◌, ℕ, Bool, true, false, if◌then◌else◌, Option, Some, refl, sym, ap, subst, ◌∙◌}
use Rattle.sp_words.specs.declared.kind.BinOp.{BinOp}
use Rattle.sp_words.specs.declared.kind.BinOp.TheVariants as op
use Rattle.sp_words.specs.declared.types.Ty.{Ty}
use Rattle.sp_words.specs.declared.types.Ty.TheVariants.{Fix, Bit}
use Rattle.sp_words.specs.Types.{int_type}
use Rattle.sp_tree.specs.PlainExpression as program
use Rattle.sp_tree.specs.PlainExpression.{type_of}
use Rattle.sp_tree.specs.PlainProgram.{PlainProgram}
use Rattle.sp_tree.specs.Typing.{Scope, Typed, TwoTyped}
use Rattle.sp_reader.specs.PlainTree as tree
use Rattle.sp_printer.specs.Names.{names_in}
use Rattle.sp_printed.specs.Trees.{IsTree}
use Rattle.sp_types.specs.declared.own.Own.{Own}
use Rattle.sp_types.specs.declared.own.Own.TheVariants.{Nothing, Known}
use Rattle.sp_types.specs.Types.{own, own_type, symbol_type, either, is_comparison, own_or_int, type_of as written_type}
use Rattle.sp_types.specs.Visible.{PlainSymbol, Visible, symbol_of}
use Rattle.sp_typed.specs.Named.{Here}
use Rattle.sp_retyped.specs.Shown.{Shown}
use Rattle.sp_retyped.proofs.Names.{symbols, Means, mem_means, val_means, counter_means}
use Rattle.sp_retyped.proofs.Values.{int_is, type_is}

-- its type, or none where it is made of numbers, which are `Int` then
pub data OwnIs : Own → Ty → Type 0 where
  known : {ty : Ty} → OwnIs (Known ty) ty
  nothing : OwnIs Nothing int_type

pub either_is : {a b : Own} {ty : Ty} → OwnIs a ty → OwnIs b ty → OwnIs (either a b) ty
either_is OwnIs.known b = OwnIs.known
either_is OwnIs.nothing b = b

-- the type at which it is checked by itself
pub by_itself : {o : Own} {ty : Ty} → OwnIs o ty → own_or_int o ≡ Some ty
by_itself OwnIs.known = refl
by_itself OwnIs.nothing = refl

-- the type of an operation that isn't a comparison is that of its operands
pub same_operands : (o : BinOp) (from to : Ty) → is_comparison o ≡ false → TwoTyped o from to → from ≡ to
same_operands op.Add from to e h = h.0
same_operands op.Sub from to e h = h.0
same_operands op.Mul from to e h = h.0
same_operands op.Div from to e h = h.0
same_operands op.Rem from to e h = h.0
same_operands op.And from to e h = h
same_operands op.Or from to e h = h
same_operands op.Xor from to e h = h
same_operands op.Min from to e h = h.0
same_operands op.Max from to e h = h.0
same_operands op.Lt from to e h = absurd (cc)
same_operands op.Le from to e h = absurd (cc)
same_operands op.Gt from to e h = absurd (cc)
same_operands op.Ge from to e h = absurd (cc)
same_operands op.Eq from to e h = absurd (cc)
same_operands op.Ne from to e h = absurd (cc)

-- and a comparison is a truth
pub compares_to : (o : BinOp) (from to : Ty) → is_comparison o ≡ true → TwoTyped o from to → to ≡ Bit
compares_to op.Lt from to e h = h.1
compares_to op.Le from to e h = h.1
compares_to op.Gt from to e h = h.1
compares_to op.Ge from to e h = h.1
compares_to op.Eq from to e h = h
compares_to op.Ne from to e h = h
compares_to op.Add from to e h = absurd (cc)
compares_to op.Sub from to e h = absurd (cc)
compares_to op.Mul from to e h = absurd (cc)
compares_to op.Div from to e h = absurd (cc)
compares_to op.Rem from to e h = absurd (cc)
compares_to op.And from to e h = absurd (cc)
compares_to op.Or from to e h = absurd (cc)
compares_to op.Xor from to e h = absurd (cc)
compares_to op.Min from to e h = absurd (cc)
compares_to op.Max from to e h = absurd (cc)

at_type : {o : Own} {a b : Ty} → a ≡ b → OwnIs o a → OwnIs o b
at_type {o} e h = subst (OwnIs o) e h

by_type : (o : Option Ty) (ty : Ty) → o ≡ Some ty → OwnIs (own_type o) ty
by_type o ty e = subst (λ x. OwnIs x ty) (sym (ap own_type e)) OwnIs.known

operation_is : {a b : Own} (o : BinOp) (from ty : Ty) → TwoTyped o from ty → OwnIs a from → OwnIs b from → OwnIs (if is_comparison o then Known Bit else either a b) ty
operation_is {a} {b} o from ty h f g = go (is_comparison o) refl
  where
    go : (c : Bool) → is_comparison o ≡ c → OwnIs (if c then Known Bit else either a b) ty
    go true is = at_type (sym (compares_to o from ty is h)) OwnIs.known
    go false is = at_type (same_operands o from ty is h) (either_is f g)

module _ (p : PlainProgram) (scope : Scope) (here : Here) (shown : Shown p scope here.names) (seen : Visible) (same : seen.names ≡ symbols here.names) where
  named : {i : tree.PlainIdent} {s : PlainSymbol} {n : ℕ} {ty : Ty} → Means here i s n → symbol_type (Some s) ≡ Some ty → OwnIs (own_type (symbol_type (symbol_of seen i.text))) ty
  named m e = by_type _ _ (ap symbol_type (m.seen_is seen same) ∙ e)

  pub own_is : {e : program.PlainExpr} {x : tree.PlainExpr} → IsTree (names_in p) e x → Typed p scope e → OwnIs (own seen x) (type_of e)
  own_is (IsTree.a_number e l) h = at_type (sym (int_is _ e)) OwnIs.nothing
  own_is (IsTree.a_typed_number {t = t} {target = target} e l ty) h = by_type (written_type target) (Fix t) (type_is ty)
  own_is IsTree.a_truth h = OwnIs.known
  own_is (IsTree.a_counter {c = c} {i = i} text) h = at_type (sym h.1) (named (counter_means p scope here shown i c text h.0) refl)
  own_is (IsTree.a_value {v = v} {ty = ty} {i = i} text) h = named (val_means p scope here shown i v ty text h) refl
  own_is (IsTree.a_reg {m = m} {ty = ty} {i = i} text) h = named (mem_means p scope here shown i m _ ty text h) refl
  own_is (IsTree.an_arg {m = m} {ty = ty} {i = i} text) h = named (mem_means p scope here shown i m _ ty text h) refl
  own_is (IsTree.an_element {m = m} {ty = ty} {i = i} text all) h = named (mem_means p scope here shown i m _ ty text h.0) refl
  own_is (IsTree.a_row_element {m = m} {ty = ty} {i = i} text x y) h = named (mem_means p scope here shown i m _ ty text h.0) refl
  own_is (IsTree.a_deq {m = m} {ty = ty} {i = i} text) h = named (mem_means p scope here shown i m _ ty text h) refl
  own_is (IsTree.negated x) h = at_type h.1.0 (own_is x h.0)
  own_is (IsTree.turned x) h = at_type h.1 (own_is x h.0)
  own_is (IsTree.denied x) h = OwnIs.known
  own_is (IsTree.operation {ty = ty} {op = o} {a = a} {b = b} call x y) h = operation_is o (type_of a) ty h.3 (own_is x h.0) (at_type (sym h.2) (own_is y h.1))
  own_is (IsTree.least x y) h = at_type h.3.0 (either_is (own_is x h.0) (at_type (sym h.2) (own_is y h.1)))
  own_is (IsTree.greatest x y) h = at_type h.3.0 (either_is (own_is x h.0) (at_type (sym h.2) (own_is y h.1)))
  own_is (IsTree.shifted x) h = at_type h.1 (own_is x h.0)
  own_is (IsTree.a_choice z x y) h = either_is (at_type h.3 (own_is x h.2)) (at_type h.5 (own_is y h.4))
  own_is (IsTree.a_cast {ty = ty} {target = target} kept x is) h = by_type (written_type target) ty (type_is is)
  own_is (IsTree.a_cast_number {ty = ty} {target = target} e l is) h = by_type (written_type target) ty (type_is is)
