-- The trees that spell slices, counters and combiners of a program.
use Rattle.std.specs.Prelude.{◌≡◌, ℕ, ◌==◌, true, false, List, [], ◌∷◌, Option, Some, None}
use Rattle.sp_words.specs.declared.kind.BinOp.{BinOp}
use Rattle.sp_words.specs.declared.kind.BinOp.TheVariants as op
use Rattle.sp_words.specs.declared.kind.Style.{Style}
use Rattle.sp_words.specs.declared.kind.Style.TheVariants.{Pipe, Sequential}
use Rattle.sp_tree.specs.declared.statement.Comb.{Comb}
use Rattle.sp_tree.specs.declared.statement.Comb.TheVariants as combiner
use Rattle.sp_tree.specs.PlainExpression.{PlainExpr}
use Rattle.sp_tree.specs.PlainStatement as program
use Rattle.sp_reader.specs.declared.syntax.statement.SynPar.{SynPar}
use Rattle.sp_reader.specs.PlainTree as tree
use Rattle.sp_reader.specs.PlainStatement as tree_of
use Rattle.sp_printer.specs.Names.{Names, counter_name}
use Rattle.sp_printer.specs.Pieces.{is_zero}
use Rattle.sp_printed.specs.Trees.{IsTree}

-- one lane is written as none
pub data IsParTree : ℕ → Option SynPar → Type 0 where
  one_lane : {n : ℕ} → (n == 1) ≡ true → IsParTree n None
  lanes : {n at : ℕ} → (n == 1) ≡ false → IsParTree n (Some (record { at = at; lanes = n }))

-- a pipeline is written as no style
pub data IsStyleTree : Style → Option Style → Type 0 where
  pipe : IsStyleTree Pipe None
  sequential : IsStyleTree Sequential (Some Sequential)

pub data IsCombOperator : Comb → BinOp → Type 0 where
  add : IsCombOperator combiner.Add op.Add
  mul : IsCombOperator combiner.Mul op.Mul
  both : IsCombOperator combiner.And op.And
  either : IsCombOperator combiner.Or op.Or
  unlike : IsCombOperator combiner.Xor op.Xor
  least : IsCombOperator combiner.Min op.Min
  greatest : IsCombOperator combiner.Max op.Max

-- a combiner has no names, or its operands are its names in order
pub data IsCombTree : Comb → tree_of.PlainComb → Type 0 where
  unnamed : {c : Comb} {o : BinOp} {at : ℕ} → IsCombOperator c o → IsCombTree c (record { place = at; params = None; operator = o; args = None })
  named : {c : Comb} {o : BinOp} {at : ℕ} {i j x y : tree.PlainIdent} → IsCombOperator c o → x.text ≡ i.text → y.text ≡ j.text
      → IsCombTree c (record { place = at; params = Some (i, j); operator = o; args = Some (x, y) })

module _ (names : Names) where
  pub data IsSpanTree : program.PlainSpan → tree_of.PlainSpan → Type 0 where
    an_index : {e : PlainExpr} {x : tree.PlainExpr} → IsTree names e x → IsSpanTree (program.single e) (tree_of.single x)
    a_range : {a b : PlainExpr} {x y : tree.PlainExpr} {par : ℕ} {q : Option SynPar} → IsTree names a x → IsTree names b y → IsParTree par q → IsSpanTree (program.range a b par) (tree_of.range x y q)

  pub data AreSpanTrees : List program.PlainSpan → List tree_of.PlainSpan → Type 0 where
    no_spans : AreSpanTrees [] []
    more_spans : {s : program.PlainSpan} {x : tree_of.PlainSpan} {rest : List program.PlainSpan} {all : List tree_of.PlainSpan} → IsSpanTree s x → AreSpanTrees rest all → AreSpanTrees (s ∷ rest) (x ∷ all)

  -- a counter from 0 is written without its beginning
  pub data IsFromTree : PlainExpr → Option tree.PlainExpr → Type 0 where
    from_zero : {e : PlainExpr} → is_zero e ≡ true → IsFromTree e None
    from : {e : PlainExpr} {x : tree.PlainExpr} → is_zero e ≡ false → IsTree names e x → IsFromTree e (Some x)

  pub record IsCounterTree (c : program.PlainCounter) (x : tree_of.PlainCounter) : Type 0 where
    pub from : IsFromTree c.from x.from
    pub until : IsTree names c.until x.until
    pub step : x.step ≡ c.step
    pub par : IsParTree c.par x.par

  pub data AreCounterTrees : List program.PlainCounter → List tree_of.PlainCounter → Type 0 where
    no_counters : AreCounterTrees [] []
    more_counters : {c : program.PlainCounter} {x : tree_of.PlainCounter} {rest : List program.PlainCounter} {all : List tree_of.PlainCounter} → IsCounterTree c x → AreCounterTrees rest all → AreCounterTrees (c ∷ rest) (x ∷ all)

  -- the names that counters are bound to
  pub data AreBindTrees : List program.PlainCounter → List tree.PlainIdent → Type 0 where
    no_binds : AreBindTrees [] []
    more_binds : {c : program.PlainCounter} {i : tree.PlainIdent} {rest : List program.PlainCounter} {all : List tree.PlainIdent} → i.text ≡ counter_name names c.number → AreBindTrees rest all → AreBindTrees (c ∷ rest) (i ∷ all)

  pub record IsHeadTree (style : Style) (counters : List program.PlainCounter) (h : tree_of.PlainHead) : Type 0 where
    pub style_is : IsStyleTree style h.style
    pub counters_are : AreCounterTrees counters h.counters
    pub binds_are : AreBindTrees counters h.binds
