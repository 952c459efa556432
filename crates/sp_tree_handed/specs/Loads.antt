-- When a part of a core has no other transfers than loads.
use Rattle.sp_core.specs.PlainCore.{PlainNode, PlainStages, inner, outer, fsm, branch, load, store, sparse, no_stage, more_stage}

-- no transfer of a part writes to a DRAM, and none is a sparse one: each is a load
abbrev mutual
  pub HasNoStore : PlainNode → Type 0
  HasNoStore (inner counters owned ops comb) = Unit {0}
  HasNoStore (outer counters style owned stages) = HaveNoStore stages
  HasNoStore (fsm start state test body next) = HasNoStore body
  HasNoStore (branch test first second) = HasNoStore first × HasNoStore second
  HasNoStore (load r m spans) = Unit {0}
  HasNoStore (store r m spans) = ⊥
  HasNoStore (sparse kind r m places spans count par) = ⊥

  pub HaveNoStore : PlainStages → Type 0
  HaveNoStore no_stage = Unit {0}
  HaveNoStore (more_stage first last comb node rest) = HasNoStore node × HaveNoStore rest
