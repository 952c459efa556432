-- Which memories a part of a core names: whether all of them pass a test.
use Rattle.std.specs.Prelude.{ℕ, Bool, IsTrue, List, [], ◌∷◌, Option, Some, None}
use Rattle.sp_core.specs.Declarations.{dram_number}
use Rattle.sp_core.specs.PlainCore.{PlainOp, PlainCounter, PlainSpan, single, range, PlainNode, PlainStages, inner, outer, fsm, branch, load, store, sparse, no_stage, more_stage, PlainCore}

module _ (core : PlainCore) (is : ℕ → Bool) where
  abbrev pub MayName : Option ℕ → Type 0
  MayName None = Unit {0}
  MayName (Some m) = IsTrue (is m)

  abbrev pub AllPass : List ℕ → Type 0
  AllPass [] = Unit {0}
  AllPass (m ∷ rest) = IsTrue (is m) × AllPass rest

  abbrev pub ListNames : List PlainOp → Type 0
  ListNames [] = Unit {0}
  ListNames (op ∷ ops) = MayName op.mem × ListNames ops

  abbrev pub CountersName : List PlainCounter → Type 0
  CountersName [] = Unit {0}
  CountersName (c ∷ counters) = ListNames c.from × ListNames c.until × CountersName counters

  abbrev pub SpansName : List PlainSpan → Type 0
  SpansName [] = Unit {0}
  SpansName (single ops ∷ spans) = ListNames ops × SpansName spans
  SpansName (range a b ∷ spans) = ListNames a × ListNames b × SpansName spans

  abbrev mutual
    pub NodeNames : PlainNode → Type 0
    NodeNames (inner counters owned ops comb) = CountersName counters × AllPass owned × ListNames ops
    NodeNames (outer counters style owned stages) = CountersName counters × AllPass owned × StagesName stages
    NodeNames (fsm start state test body next) = ListNames start × IsTrue (is state) × ListNames test × NodeNames body × ListNames next
    NodeNames (branch test first second) = ListNames test × NodeNames first × NodeNames second
    NodeNames (load r m spans) = IsTrue (is (dram_number core r)) × IsTrue (is m) × SpansName spans
    NodeNames (store r m spans) = IsTrue (is (dram_number core r)) × IsTrue (is m) × SpansName spans
    NodeNames (sparse kind r m places spans count par) = IsTrue (is (dram_number core r)) × IsTrue (is m) × MayName places × SpansName spans × ListNames count

    pub StagesName : PlainStages → Type 0
    StagesName no_stage = Unit {0}
    StagesName (more_stage first last comb node rest) = NodeNames node × StagesName rest
