-- Transfers, one behind the other, and in a draft that has grown.
use Rattle.std.proofs.Common.{ℕ, suc, ◌+◌, List, [], ◌∷◌, ◌++◌, Option}
use Rattle.sp_netlist.specs.Draft.{Draft}
use Rattle.sp_gates.specs.Grows.{Grows}
use Rattle.sp_gates.proofs.Growing.{HasNet-stays}
use Rattle.sp_core.specs.Numbering.{node_count}
use Rattle.sp_core.specs.PlainCore.{PlainNode, PlainStages, inner, outer, fsm, branch, load, store, sparse, no_stage, more_stage}
use Rattle.sp_bound_nets.specs.declared.spans.SpanNet.{SpanNet}
use Rattle.sp_bound_nets.specs.declared.spans.SpanNet.TheVariants.{One, Range}
use Rattle.sp_bound_nets.specs.Spans.{HasEnds}
use Rattle.sp_tree_handed.specs.declared.moves.TreeMove.{TreeMove}
use Rattle.sp_tree_handed.specs.Moves.{HaveEnds, StagesHaveEnds, NumberedSlice, AreMovesStanding}

mutual
  pub ends_later : (a b : Draft) (ends : List (Option ℕ)) (node : PlainNode) (k : ℕ) → Grows a b → HaveEnds a ends node k → HaveEnds b ends node k
  ends_later a b ends (inner counters owned ops comb) k g h = tt
  ends_later a b ends (outer counters style owned stages) k g h = stage_ends_later a b ends stages (suc k) g h
  ends_later a b ends (fsm start state test body next) k g h = ends_later a b ends body (suc k) g h
  ends_later a b ends (branch test first second) k g h = (ends_later a b ends first (suc k) g h.0, ends_later a b ends second (suc k + node_count first) g h.1)
  ends_later a b ends (load r m spans) k g h = record { net = h.net; there = h.there; has = HasNet-stays a b h.net 1 g h.has }
  ends_later a b ends (store r m spans) k g h = record { net = h.net; there = h.there; has = HasNet-stays a b h.net 1 g h.has }
  ends_later a b ends (sparse kind r m places spans count par) k g h = absurd h

  pub stage_ends_later : (a b : Draft) (ends : List (Option ℕ)) (stages : PlainStages) (j : ℕ) → Grows a b → StagesHaveEnds a ends stages j → StagesHaveEnds b ends stages j
  stage_ends_later a b ends no_stage j g h = tt
  stage_ends_later a b ends (more_stage first last comb node rest) j g h = (ends_later a b ends node j g h.0, stage_ends_later a b ends rest (j + node_count node) g h.1)

end_later : (a b : Draft) (net : SpanNet) → Grows a b → HasEnds a net → HasEnds b net
end_later a b (One net) g h = HasNet-stays a b net 32 g h
end_later a b (Range from until) g h = (HasNet-stays a b from 32 g h.0, HasNet-stays a b until 32 g h.1)

pub moves_later : (a b : Draft) (slices : List NumberedSlice) (moves : List TreeMove) → Grows a b → AreMovesStanding a slices moves → AreMovesStanding b slices moves
moves_later a b [] [] g h = tt
moves_later a b (of ∷ slices) (move ∷ moves) g h =
    (record { node = h.0.node; start = HasNet-stays a b _ 1 g h.0.start; each = h.0.each; nets = λ i net l. end_later a b _ g (h.0.nets i net l) }, moves_later a b slices moves g h.1)
moves_later a b [] (move ∷ moves) g h = absurd h
moves_later a b (of ∷ slices) [] g h = absurd h

pub moves_join : (d : Draft) (slices more : List NumberedSlice) (moves others : List TreeMove) → AreMovesStanding d slices moves → AreMovesStanding d more others → AreMovesStanding d (slices ++ more) (moves ++ others)
moves_join d [] more [] others h rest = rest
moves_join d (of ∷ slices) more (move ∷ moves) others h rest = (h.0, moves_join d slices more moves others h.1 rest)
moves_join d [] more (move ∷ moves) others h rest = absurd h
moves_join d (of ∷ slices) more [] others h rest = absurd h
