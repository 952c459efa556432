-- Which memories on the chip a part of a core changes: whether all of them pass a test. What it only reads isn't asked.
use Rattle.std.specs.Prelude.{ℕ, Bool, IsTrue, List, [], ◌∷◌, Option}
use Rattle.sp_core.specs.declared.operation.OpKind.{OpKind}
use Rattle.sp_core.specs.declared.operation.OpKind.TheVariants.{Write, Enq, Deq, Reset}
use Rattle.sp_core.specs.Footprint.{MayName, AllPass}
use Rattle.sp_core.specs.PlainCore.{PlainOp, PlainCounter, PlainSpan, single, range, PlainNode, PlainStages, inner, outer, fsm, branch, load, store, sparse, no_stage, more_stage, PlainCore}

module _ (core : PlainCore) (is : ℕ → Bool) where
  -- an operation changes its memory, or none
  abbrev pub MayChange : OpKind → Option ℕ → Type 0
  MayChange Write m = MayName core is m
  MayChange Enq m = MayName core is m
  MayChange Deq m = MayName core is m
  MayChange Reset m = MayName core is m
  MayChange kind m = Unit {0}

  abbrev pub ListChanges : List PlainOp → Type 0
  ListChanges [] = Unit {0}
  ListChanges (op ∷ ops) = MayChange op.kind op.mem × ListChanges ops

  abbrev pub CountersChange : List PlainCounter → Type 0
  CountersChange [] = Unit {0}
  CountersChange (c ∷ counters) = ListChanges c.from × ListChanges c.until × CountersChange counters

  abbrev pub SpansChange : List PlainSpan → Type 0
  SpansChange [] = Unit {0}
  SpansChange (single ops ∷ spans) = ListChanges ops × SpansChange spans
  SpansChange (range a b ∷ spans) = ListChanges a × ListChanges b × SpansChange spans

  -- an owner makes its memories fresh; a load changes its memory, and a store none on the chip
  abbrev mutual
    pub NodeChanges : PlainNode → Type 0
    NodeChanges (inner counters owned ops comb) = CountersChange counters × AllPass core is owned × ListChanges ops
    NodeChanges (outer counters style owned stages) = CountersChange counters × AllPass core is owned × StagesChange stages
    NodeChanges (fsm start state test body next) = ListChanges start × IsTrue (is state) × ListChanges test × NodeChanges body × ListChanges next
    NodeChanges (branch test first second) = ListChanges test × NodeChanges first × NodeChanges second
    NodeChanges (load r m spans) = IsTrue (is m) × SpansChange spans
    NodeChanges (store r m spans) = SpansChange spans
    NodeChanges (sparse kind r m places spans count par) = IsTrue (is m) × SpansChange spans × ListChanges count

    pub StagesChange : PlainStages → Type 0
    StagesChange no_stage = Unit {0}
    StagesChange (more_stage first last comb node rest) = NodeChanges node × StagesChange rest
