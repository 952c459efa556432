-- Nodes of a core whose lists of operations don't speak of lanes.
use Rattle.std.specs.Prelude.{List, [], ◌∷◌}
use Rattle.sp_core.specs.PlainCore.{PlainCounter, PlainSpan, single, range, PlainNode, PlainStages, inner, outer, fsm, branch, load, store, sparse, no_stage, more_stage}
use Rattle.sp_lane_groups.specs.LiveStores.{ArePlain}

-- the bounds of counters, and the parts of slices
abbrev pub AreCountersPlain : List PlainCounter → Type 0
AreCountersPlain [] = Unit {0}
AreCountersPlain (c ∷ counters) = ArePlain c.from × ArePlain c.until × AreCountersPlain counters

abbrev pub AreSpansPlain : List PlainSpan → Type 0
AreSpansPlain [] = Unit {0}
AreSpansPlain (single ops ∷ spans) = ArePlain ops × AreSpansPlain spans
AreSpansPlain (range a b ∷ spans) = ArePlain a × ArePlain b × AreSpansPlain spans

-- each list of a node
abbrev mutual
  pub IsNodePlain : PlainNode → Type 0
  IsNodePlain (inner counters owned ops comb) = AreCountersPlain counters × ArePlain ops
  IsNodePlain (outer counters style owned stages) = AreCountersPlain counters × AreStagesPlain stages
  IsNodePlain (fsm start state test body next) = ArePlain start × ArePlain test × IsNodePlain body × ArePlain next
  IsNodePlain (branch test first second) = ArePlain test × IsNodePlain first × IsNodePlain second
  IsNodePlain (load r m spans) = AreSpansPlain spans
  IsNodePlain (store r m spans) = AreSpansPlain spans
  IsNodePlain (sparse kind r m places spans count par) = AreSpansPlain spans × ArePlain count

  pub AreStagesPlain : PlainStages → Type 0
  AreStagesPlain no_stage = Unit {0}
  AreStagesPlain (more_stage first last comb node rest) = IsNodePlain node × AreStagesPlain rest
