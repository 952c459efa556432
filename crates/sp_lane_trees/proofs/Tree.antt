-- Each node of a tree does in lanes what it does in the core.
use Rattle.std.proofs.Common.{◌≡◌, ◌⊎◌, inl, inr, ℕ, ◌<◌, Bool, true, false, List, [], ◌∷◌, ◌++◌, Option, Some, None, refl, sym, ◌∙◌, subst, arith, ◌==◌}
use Rattle.std.proofs.lemmas.Bool.{true≢false, eqb-true, eq-eqb}
use Rattle.sp_words.specs.declared.kind.Style.{Style}
use Rattle.sp_core.specs.Around.{Around, within, lanes_of}
use Rattle.sp_core.specs.Declarations.{is_stream}
use Rattle.sp_core.specs.Invariant.{IsCore, owned_in}
use Rattle.sp_core.specs.NodeRules.{with_state}
use Rattle.sp_core.specs.PlainCore.{PlainOp, PlainCounter, PlainNode, PlainStages, inner, outer, fsm, branch, load, store, sparse, no_stage, more_stage, PlainCore}
use Rattle.sp_lanes.specs.Order.{memory_order}
use Rattle.sp_lanes.specs.Unrolled.{owned_in_lanes}
use Rattle.sp_lanes.specs.Within.{Within, in_lane, owning, counters_in}
use Rattle.sp_lane_rules.specs.Copies.{OwnsInLanes, OwnInLanes}
use Rattle.sp_lane_cores.specs.LanedMarks.{NoneCombines}
use Rattle.sp_lane_cores.specs.Standing.{StandsApart, StandApart}
use Rattle.sp_lane_rules.proofs.CombinedFollowing.{zero_inside}
use Rattle.sp_lane_rules.specs.CombinedStanding.{numbers_of}
use Rattle.sp_lane_trees.specs.CombinationsLaws.{CombinedInnersGo}
use Rattle.sp_lane_cores.specs.EndingsEnding.{EndsAt, LastEnds, IsEnded, AreEnded}
use Rattle.sp_lane_groups.specs.InnersAlong.{GoesAlong, StandsIn}
use Rattle.sp_lane_groups.specs.InnersLaws.{InnersGo}
use Rattle.sp_lane_trees.specs.NodesLaws.{BranchesStand, BranchesGo, FsmsStand, FsmsGo}
use Rattle.sp_lane_trees.specs.OutersLaws.{OutersStand, OutersGo}
use Rattle.sp_lane_trees.specs.OutersStages.{AllGoAlong, AllStandIn}
use Rattle.sp_lane_trees.specs.StagesLaws.{AreOfFirst, StagesGo}
use Rattle.sp_lane_trees.specs.ElementsLaws.{InFirstLane, ElementsGo}
use Rattle.sp_lane_trees.specs.ElementsReduction.{LastElements}
use Rattle.sp_lane_trees.specs.ReductionsLaws.{ReductionsGo}
use Rattle.sp_lane_groups.specs.InnersAlike.{own_stages}
use Rattle.sp_lane_trees.specs.ReductionsReduction.{LastReduces}
use Rattle.sp_lane_trees.specs.TransfersLaws.{TransfersGo}
use Rattle.sp_lane_trees.specs.Laws.{NodesGo}
use Rattle.sp_lane_trees.specs.Words.{CombinesWords, CombineWords}

-- what is known of each kind of node
pub record Parts (core : PlainCore) : Type 0 where
  pub inners : InnersGo core
  pub combined : CombinedInnersGo core
  pub transfers : TransfersGo core
  pub branches_stand : BranchesStand core
  pub branches : BranchesGo core
  pub fsms_stand : FsmsStand core
  pub fsms : FsmsGo core
  pub outers_stand : OutersStand core
  pub outers : OutersGo core
  pub stages : StagesGo core
  pub reductions : ReductionsGo core
  pub elements : ElementsGo core

first_lane : (n : ℕ) → n ≡ 1 → 0 < n
first_lane n e = omega (arith, e)

module _ (core : PlainCore) (parts : Parts core) (is : IsCore core) (owns : OwnsInLanes core.root) (turns : ℕ) where
  -- stages of which none combines, or the last one
  abbrev Ended : PlainStages → Type 0
  Ended stages = NoneCombines core stages ⊎ ((owned : List ℕ) × (is : ℕ → Bool) × LastEnds core owned is stages)

  after_one : (first last : ℕ) (node : PlainNode) (rest : PlainStages) → Ended (more_stage first last false node rest) → Ended rest
  after_one first last node rest (inl h) = inl h
  after_one first last node rest (inr (owned, is, h)) = inr (owned, is, h.1)

  ended_of : (owned : List ℕ) (stages : PlainStages) → NoneCombines core stages ⊎ ((is : ℕ → Bool) × LastEnds core owned is stages) → Ended stages
  ended_of owned stages (inl h) = inl h
  ended_of owned stages (inr (is, h)) = inr (owned, is, h)

  -- a body with a mark or without
  inner_goes : (around inside : Around) (earlier : List ℕ) (w : Within) (counters : List PlainCounter) (owned : List ℕ) (ops : List PlainOp) (comb : Option ℕ) → StandsIn core around inside earlier w (inner counters owned ops comb) → EndsAt core owned ops comb
      → GoesAlong core turns around w (inner counters owned ops comb)
  inner_goes around inside earlier w counters owned ops None h e = parts.inners is owns turns around inside earlier w counters owned ops None (inl refl) h
  inner_goes around inside earlier w counters owned ops (Some at) h e = parts.combined is owns turns around inside earlier w counters owned ops at e.0 e.1 e.2 h

  -- the stage that combines is an inner body of one lane
  last_goes : (around inside : Around) (earlier : List ℕ) (w : Within) (first last : ℕ) (node : PlainNode) (rest : PlainStages) (owned : List ℕ) (one : ℕ → Bool) → LastEnds core owned one (more_stage first last true node rest) → StandsIn core around inside earlier w node
      → GoesAlong core turns around w node × (rest ≡ no_stage)
  last_goes around inside earlier w first last (inner counters own ops (Some at)) no_stage owned one h s = (parts.inners is owns turns around inside earlier w counters own ops (Some at) (inr h.1) s, refl)
  last_goes around inside earlier w first last (inner counters own ops (Some at)) (more_stage f l c n rest) owned one h s = absurd h
  last_goes around inside earlier w first last (inner counters own ops None) rest owned one h s = absurd h
  last_goes around inside earlier w first last (outer counters style own stages) rest owned one h s = absurd h
  last_goes around inside earlier w first last (fsm start state test body next) rest owned one h s = absurd h
  last_goes around inside earlier w first last (branch test a b) rest owned one h s = absurd h
  last_goes around inside earlier w first last (load d m spans) rest owned one h s = absurd h
  last_goes around inside earlier w first last (store d m spans) rest owned one h s = absurd h
  last_goes around inside earlier w first last (sparse kind d m index spans count par) rest owned one h s = absurd h

  -- stages of the first lane
  are_first : (stages : PlainStages) → AreEnded core stages → AreOfFirst stages
  are_first no_stage e = tt
  are_first (more_stage first last true node rest) e = (e.0, e.1, are_first rest e.2)
  are_first (more_stage first last false node rest) e = (e.0, e.1, are_first rest e.3)

  -- the stages but the combination
  own_go : (place : Around) (w : Within) (stages : PlainStages) → AllGoAlong core turns place w stages → AllGoAlong core turns place w (own_stages stages)
  own_go place w no_stage go = tt
  own_go place w (more_stage first last true node rest) go = own_go place w rest go.1
  own_go place w (more_stage first last false node rest) go = (go.0, own_go place w rest go.1)

  -- in one lane, or in several, where none combines or the last one does
  abbrev Combined : List ℕ → PlainStages → Type 0
  Combined owned stages = NoneCombines core stages ⊎ ((test : ℕ → Bool) × (LastReduces core owned test stages ⊎ LastElements core owned test stages))

  several_go : (around inside : Around) (earlier : List ℕ) (w : Within) (counters : List PlainCounter) (style : Style) (owned : List ℕ) (stages : PlainStages) → StandsIn core around inside earlier w (outer counters style owned stages) → OwnInLanes stages → AreEnded core stages
      → (numbers : List ℕ) → InFirstLane numbers w → StandsApart numbers (outer counters style owned stages)
      → (lanes_of counters == 1) ≡ false → is_stream style ≡ false → Combined owned stages → ((l : ℕ) → l < lanes_of counters → AllGoAlong core turns (within around counters owned) (in_lane (memory_order core) counters owned w l) stages)
      → GoesAlong core turns around w (outer counters style owned stages)
  several_go around inside earlier w counters style owned stages h own e numbers zero apart several no_stream (inl none) go = parts.stages is owns turns around inside earlier w counters style owned stages several no_stream none (are_first stages e) own h go
  several_go around inside earlier w counters style owned stages h own e numbers zero apart several no_stream (inr last) go =
      let own_goes : (l : ℕ) → l < lanes_of counters → AllGoAlong core turns (within around counters owned) (in_lane (memory_order core) counters owned w l) (own_stages stages) =
      λ l lt. own_go (within around counters owned) (in_lane (memory_order core) counters owned w l) stages (go l lt) in
      elim last.1 [
        | inl word ↦ parts.reductions is owns turns around inside earlier w counters style owned stages several no_stream last.0 word (are_first stages e) own h own_goes
        | inr elements ↦ parts.elements is owns turns around inside earlier w counters style owned stages several no_stream last.0 elements (are_first stages e) own h numbers zero apart own_goes
      ]

  outer_goes : (around inside : Around) (earlier : List ℕ) (w : Within) (counters : List PlainCounter) (style : Style) (owned : List ℕ) (stages : PlainStages) → StandsIn core around inside earlier w (outer counters style owned stages) → OwnInLanes stages → AreEnded core stages
      → (numbers : List ℕ) → InFirstLane numbers w → StandsApart numbers (outer counters style owned stages)
      → (is_stream style ≡ true → lanes_of counters ≡ 1) → (lanes_of counters ≡ 1) ⊎ Combined owned stages → ((l : ℕ) → l < lanes_of counters → AllGoAlong core turns (within around counters owned) (in_lane (memory_order core) counters owned w l) stages)
      → GoesAlong core turns around w (outer counters style owned stages)
  outer_goes around inside earlier w counters style owned stages h own e numbers zero apart alone (inl one) go = parts.outers is owns turns around inside earlier w counters style owned stages one h (go 0 (first_lane (lanes_of counters) one))
  outer_goes around inside earlier w counters style owned stages h own e numbers zero apart alone (inr combined) go = by (lanes_of counters == 1) refl (is_stream style) refl
    where
      by : (b : Bool) → (lanes_of counters == 1) ≡ b → (c : Bool) → is_stream style ≡ c → GoesAlong core turns around w (outer counters style owned stages)
      by true i c j =
          let one : lanes_of counters ≡ 1 = eqb-true (lanes_of counters) 1 i in
          parts.outers is owns turns around inside earlier w counters style owned stages one h (go 0 (first_lane (lanes_of counters) one))
      by false i true j = absurd (true≢false (sym (eq-eqb (lanes_of counters) 1 (alone j)) ∙ i))
      by false i false j = several_go around inside earlier w counters style owned stages h own e numbers zero apart i j combined go

  mutual
    node_goes : (node : PlainNode) (around inside : Around) (earlier : List ℕ) (w : Within) → StandsIn core around inside earlier w node → OwnsInLanes node → IsEnded core node → CombinesWords core node → (numbers : List ℕ) → InFirstLane numbers w → StandsApart numbers node
        → GoesAlong core turns around w node
    node_goes (inner counters owned ops comb) around inside earlier w h own e alone numbers zero apart = inner_goes around inside earlier w counters owned ops comb h e
    node_goes (outer counters style owned stages) around inside earlier w h own e alone numbers zero apart =
        outer_goes around inside earlier w counters style owned stages h own e.1 numbers zero apart e.2 alone.0
        (λ l lt. stages_go stages (within around counters owned) (within inside (counters_in w counters) (owned_in_lanes (memory_order core) counters owned w)) (earlier ++ owned) (in_lane (memory_order core) counters owned w l)
        (parts.outers_stand around inside earlier w counters style owned stages l lt h) own (ended_of owned stages e.0) e.1 alone.1
        (numbers_of counters ++ numbers) (zero_inside (memory_order core) numbers counters owned w l zero) apart)
    node_goes (fsm start state test body next) around inside earlier w h own e alone numbers zero apart =
        parts.fsms is owns turns around inside earlier w start state test body next h
        (node_goes body (with_state core around state) (within inside [] ((owning (memory_order core) (state ∷ []) w).number state ∷ [])) (earlier ++ state ∷ []) (owning (memory_order core) (state ∷ []) w)
        (parts.fsms_stand around inside earlier w start state test body next h) own e alone numbers zero apart)
    node_goes (branch test first second) around inside earlier w h own e alone numbers zero apart =
        let s = parts.branches_stand around inside earlier w test first second h in
        parts.branches is owns turns around inside earlier w test first second h
        (node_goes first around inside earlier w s.0 own.0 e.0 alone.0 numbers zero apart.0) (node_goes second around inside (earlier ++ owned_in first) w s.1 own.1 e.1 alone.1 numbers zero apart.1)
    node_goes (load d m spans) around inside earlier w h own e alone numbers zero apart = parts.transfers is owns turns around inside earlier w (load d m spans) tt h
    node_goes (store d m spans) around inside earlier w h own e alone numbers zero apart = parts.transfers is owns turns around inside earlier w (store d m spans) tt h
    node_goes (sparse kind d m index spans count par) around inside earlier w h own e alone numbers zero apart = parts.transfers is owns turns around inside earlier w (sparse kind d m index spans count par) tt h

    stages_go : (stages : PlainStages) (around inside : Around) (earlier : List ℕ) (w : Within) → AllStandIn core around inside earlier w stages → OwnInLanes stages → Ended stages → AreEnded core stages → CombineWords core stages
        → (numbers : List ℕ) → InFirstLane numbers w → StandApart numbers stages → AllGoAlong core turns around w stages
    stages_go no_stage around inside earlier w h own m e alone numbers zero apart = tt
    stages_go (more_stage first last true node rest) around inside earlier w h own (inl m) e alone numbers zero apart = absurd m
    stages_go (more_stage first last true node rest) around inside earlier w h own (inr (owned, one, m)) e alone numbers zero apart =
        let l = last_goes around inside earlier w first last node rest owned one m h.0 in
        (l.0, stages_go rest around inside (earlier ++ owned_in node) w h.1 own.2 (subst Ended (sym l.1) (inl tt)) e.2 alone numbers zero apart.2)
    stages_go (more_stage first last false node rest) around inside earlier w h own m e alone numbers zero apart =
        (node_goes node around inside earlier w h.0 own.0 e.2 alone.0 numbers zero apart.0, stages_go rest around inside (earlier ++ owned_in node) w h.1 own.1 (after_one first last node rest m) e.3 alone.1 numbers zero apart.1)

pub nodes_go : (core : PlainCore) → Parts core → NodesGo core
nodes_go core parts is owns turns around inside earlier w node h own e alone numbers zero apart = node_goes core parts is owns turns node around inside earlier w h own e alone numbers zero apart
