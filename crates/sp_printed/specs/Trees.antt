-- The trees that spell the expressions of a program, wherever they stand: a relation by cases, one case a form in which an
-- expression is written. Each tree keeps places of its own.
use Rattle.std.specs.Prelude.{◌≡◌, ℕ, ◌==◌, Bool, true, false, not, []}
use Rattle.sp_words.specs.declared.kind.BinOp.{BinOp}
use Rattle.sp_words.specs.declared.kind.BinOp.TheVariants.{Min, Max}
use Rattle.sp_words.specs.declared.kind.UnOp.TheVariants.{Neg, Not}
use Rattle.sp_words.specs.declared.types.FixTy.{FixTy}
use Rattle.sp_words.specs.declared.types.Ty.{Ty}
use Rattle.sp_words.specs.declared.types.Ty.TheVariants.{Fix, Bit}
use Rattle.sp_words.specs.Decimal.{whole_part, fraction_digits}
use Rattle.sp_words.specs.Types.{fix_signed, fix_whole, fix_frac}
use Rattle.sp_words.specs.Words.{has_sign}
use Rattle.sp_tree.specs.PlainExpression as program
use Rattle.sp_tree.specs.PlainExpression.{PlainExpr, PlainExprs}
use Rattle.sp_reader.specs.declared.syntax.expression.SynTy.{SynTy}
use Rattle.sp_reader.specs.declared.syntax.expression.SynTy.TheVariants as written
use Rattle.sp_reader.specs.declared.syntax.expression.SynUn.TheVariants.{Minus, Bang, Tilde}
use Rattle.sp_reader.specs.PlainTree as tree
use Rattle.sp_printer.specs.Expressions.{is_call, type_before_cast}
use Rattle.sp_printer.specs.Names.{Names, mem_name, val_name, counter_name}
use Rattle.sp_printer.specs.Types.{is_int_fix}
use Rattle.sp_printer.specs.Words.{word_at}

-- the parts of the number that a literal's word means
pub record IsLiteral (ty : Ty) (word : ℕ) (d : tree.PlainDigits) : Type 0 where
  pub sign : d.negative ≡ has_sign ty (word_at ty word)
  pub whole : d.whole ≡ whole_part ty (word_at ty word)
  pub digits : d.digits ≡ fraction_digits ty (word_at ty word)

-- a type as it is written
pub data IsTypeTree : Ty → SynTy → Type 0 where
  int : {t : FixTy} {at : ℕ} → is_int_fix t ≡ true → IsTypeTree (Fix t) (written.Int at)
  bit : {at : ℕ} → IsTypeTree Bit (written.Bit at)
  fixed : {t : FixTy} {at : ℕ} → is_int_fix t ≡ false → IsTypeTree (Fix t) (written.FixPt at (fix_signed t) (fix_whole t) (fix_frac t))

module _ (names : Names) where
  mutual
    pub data IsTree : PlainExpr → tree.PlainExpr → Type 0 where
      a_number : {place at w : ℕ} {t : FixTy} {d : tree.PlainDigits} → is_int_fix t ≡ true → IsLiteral (Fix t) w d
          → IsTree (program.expr place (Fix t) (program.literal w)) (tree.expr at (tree.number d))
      a_typed_number : {place at at2 w : ℕ} {t : FixTy} {d : tree.PlainDigits} {target : SynTy} → is_int_fix t ≡ false → IsLiteral (Fix t) w d → IsTypeTree (Fix t) target
          → IsTree (program.expr place (Fix t) (program.literal w)) (tree.expr at (tree.cast (tree.expr at2 (tree.number d)) target))
      a_truth : {place at w : ℕ} → IsTree (program.expr place Bit (program.literal w)) (tree.expr at (tree.truth (not (w == 0))))
      a_counter : {place at c : ℕ} {ty : Ty} {i : tree.PlainIdent} → i.text ≡ counter_name names c → IsTree (program.expr place ty (program.counter c)) (tree.expr at (tree.name i false))
      a_value : {place at v : ℕ} {ty : Ty} {i : tree.PlainIdent} → i.text ≡ val_name names v → IsTree (program.expr place ty (program.value v)) (tree.expr at (tree.name i false))
      a_reg : {place at m : ℕ} {ty : Ty} {i : tree.PlainIdent} → i.text ≡ mem_name names m → IsTree (program.expr place ty (program.get_reg m)) (tree.expr at (tree.name i false))
      an_arg : {place at m : ℕ} {ty : Ty} {i : tree.PlainIdent} → i.text ≡ mem_name names m → IsTree (program.expr place ty (program.get_arg m)) (tree.expr at (tree.name i false))
      an_element : {place at m : ℕ} {ty : Ty} {i : tree.PlainIdent} {indices : PlainExprs} {all : tree.PlainExprs} → i.text ≡ mem_name names m → AreTrees indices all
          → IsTree (program.expr place ty (program.get_sram m indices)) (tree.expr at (tree.access i all))
      a_row_element : {place at m : ℕ} {ty : Ty} {i : tree.PlainIdent} {row column : PlainExpr} {x y : tree.PlainExpr} → i.text ≡ mem_name names m → IsTree row x → IsTree column y
          → IsTree (program.expr place ty (program.get_line m row column)) (tree.expr at (tree.access i (tree.more_expr x (tree.more_expr y tree.no_expr))))
      a_deq : {place at m : ℕ} {ty : Ty} {i : tree.PlainIdent} → i.text ≡ mem_name names m → IsTree (program.expr place ty (program.deq m)) (tree.expr at (tree.deq i))
      negated : {place at : ℕ} {ty : Ty} {a : PlainExpr} {x : tree.PlainExpr} → IsTree a x → IsTree (program.expr place ty (program.one Neg a)) (tree.expr at (tree.one Minus x))
      turned : {place at : ℕ} {t : FixTy} {a : PlainExpr} {x : tree.PlainExpr} → IsTree a x → IsTree (program.expr place (Fix t) (program.one Not a)) (tree.expr at (tree.one Tilde x))
      denied : {place at : ℕ} {a : PlainExpr} {x : tree.PlainExpr} → IsTree a x → IsTree (program.expr place Bit (program.one Not a)) (tree.expr at (tree.one Bang x))
      operation : {place at : ℕ} {ty : Ty} {op : BinOp} {a b : PlainExpr} {x y : tree.PlainExpr} → is_call op ≡ false → IsTree a x → IsTree b y
          → IsTree (program.expr place ty (program.two op a b)) (tree.expr at (tree.two op x y))
      least : {place at : ℕ} {ty : Ty} {a b : PlainExpr} {x y : tree.PlainExpr} → IsTree a x → IsTree b y → IsTree (program.expr place ty (program.two Min a b)) (tree.expr at (tree.min x y))
      greatest : {place at : ℕ} {ty : Ty} {a b : PlainExpr} {x y : tree.PlainExpr} → IsTree a x → IsTree b y → IsTree (program.expr place ty (program.two Max a b)) (tree.expr at (tree.max x y))
      shifted : {place at by : ℕ} {ty : Ty} {left : Bool} {a : PlainExpr} {x : tree.PlainExpr} → IsTree a x
          → IsTree (program.expr place ty (program.shift left a by)) (tree.expr at (tree.shift left x by))
      a_choice : {place at : ℕ} {ty : Ty} {c a b : PlainExpr} {z x y : tree.PlainExpr} → IsTree c z → IsTree a x → IsTree b y
          → IsTree (program.expr place ty (program.mux c a b)) (tree.expr at (tree.mux z x y))
      -- an `Int` literal is written with its type where it is cast
      a_cast : {place at : ℕ} {ty : Ty} {a : PlainExpr} {x : tree.PlainExpr} {target : SynTy} → type_before_cast a ≡ [] → IsTree a x → IsTypeTree ty target
          → IsTree (program.expr place ty (program.cast a)) (tree.expr at (tree.cast x target))
      a_cast_number : {place place2 at at2 at3 at4 w : ℕ} {ty : Ty} {t : FixTy} {d : tree.PlainDigits} {target : SynTy} → is_int_fix t ≡ true → IsLiteral (Fix t) w d → IsTypeTree ty target
          → IsTree (program.expr place ty (program.cast (program.expr place2 (Fix t) (program.literal w))))
          (tree.expr at (tree.cast (tree.expr at2 (tree.cast (tree.expr at3 (tree.number d)) (written.Int at4))) target))

    pub data AreTrees : PlainExprs → tree.PlainExprs → Type 0 where
      no_trees : AreTrees program.no_expr tree.no_expr
      more_trees : {e : PlainExpr} {rest : PlainExprs} {x : tree.PlainExpr} {all : tree.PlainExprs} → IsTree e x → AreTrees rest all → AreTrees (program.more_expr e rest) (tree.more_expr x all)
