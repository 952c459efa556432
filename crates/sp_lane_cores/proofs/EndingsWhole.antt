-- Each combination of the core of a program ends its body.
use Rattle.std.proofs.Common.{◌≡◌, ◌⊎◌, inl, inr, ℕ, ◌<◌, Bool, true, false, List, [], ◌++◌, length, Option, Some, None, sym, ◌∙◌, ap}
use Rattle.std.specs.Prelude.{drop}
use Rattle.sp_tree.specs.Invariant.{IsProgram}
use Rattle.sp_tree.specs.PlainProgram.{PlainProgram}
use Rattle.sp_core.specs.Declarations.{is_among}
use Rattle.sp_core.specs.PlainCore.{PlainOp, PlainNode, PlainStages, inner, outer, fsm, branch, load, store, sparse, no_stage, more_stage, PlainCore}
use Rattle.sp_lanes.specs.Combined.{meeting}
use Rattle.sp_lane_cores.specs.LanedMarks.{Combination, combination_ops, is_other, IsCombined, IsMarked, NoneCombines, LastCombines, IsLaned, AreLaned}
use Rattle.sp_sugar.specs.Core.{core_of}
use Rattle.sp_lane_cores.proofs.LanedMarked.{programs_laned}
use Rattle.sp_lane_rules.specs.CombinedStanding.{numbers_of}
use Rattle.sp_lane_rules.proofs.CombinedMeets.{drop_front}
use Rattle.sp_lane_cores.specs.Standing.{TakesBefore, StandsApart, StandApart}
use Rattle.sp_lane_cores.proofs.Apart as lane_cores
use Rattle.sp_lane_cores.specs.EndingsEnding.{EndsIn, EndsAt, LastEnds, IsEnded, AreEnded}
use Rattle.sp_lane_cores.specs.EndingsLaws.{ProgramEnds}
use Rattle.sp_lane_cores.proofs.EndingsAlike.{same_others, same_two, same_word}
use Rattle.sp_lane_cores.proofs.EndingsApart.{Ends, InnerApart, NodeApart, StagesApart, program_apart}

module _ (core : PlainCore) where
  -- two combinations at the end of one list have the same operations
  same_ops : (c d : Combination) (ops : List PlainOp) (at : ℕ) → Ends c ops at → IsCombined core d ops at → combination_ops at c ≡ combination_ops at d
  same_ops c d ops at e h = sym (dropped e.front c e.place e.list) ∙ dropped h.before d h.place h.is
    where
      dropped : (front : List PlainOp) (x : Combination) → length front ≡ at → ops ≡ front ++ combination_ops at x → drop at ops ≡ combination_ops at x
      dropped front x place list = ap (λ n. drop n ops) (sym place) ∙ ap (drop (length front)) list ∙ drop_front front (combination_ops at x)

  ends : (c d : Combination) (owned : List ℕ) (ops : List PlainOp) (at : ℕ) → Ends c ops at → IsCombined core d ops at → (meeting (drop at ops)).word < at → ((m : ℕ) → is_among m owned ≡ true → is_other c m ≡ true) → EndsIn core owned ops at d
  ends c d owned ops at e h lt others =
      let same = same_ops c d ops at e h in
      record { combined = h; two = same_two at c d same e.two; earlier = lt; others = λ m i. ap (λ (f : ℕ → Bool). f m) (same_others at c d same) ∙ others m i }

  inner_ends : (owned : List ℕ) (ops : List PlainOp) (comb : Option ℕ) → IsMarked core ops comb → TakesBefore ops comb → InnerApart owned ops comb → EndsAt core owned ops comb
  inner_ends owned ops None m lt a = tt
  inner_ends owned ops (Some at) m lt a = (m.0, same_word at a.0 m.0 (same_ops a.0 m.0 ops at a.2 m.1) a.1, ends a.0 m.0 owned ops at a.2 m.1 lt a.3)

  -- the last stage
  last_ends : (stages : PlainStages) (owned numbers : List ℕ) (is own : ℕ → Bool) → LastCombines core is stages → StandApart numbers stages → ((m : ℕ) → is_among m owned ≡ true → own m ≡ true) → StagesApart own stages → LastEnds core owned is stages
  last_ends (more_stage first last false node rest) owned numbers is own h s o a = (h.0, last_ends rest owned numbers is own h.1 s.1 o a.3)
  last_ends (more_stage first last true (inner counters list ops (Some at)) no_stage) owned numbers is own h s o a =
      (h.0, a.2.0, (h.1.0, h.1.1, ends a.2.1.0 h.1.0 owned ops at a.2.1.2 h.1.2 s.1 (λ m i. ap (λ (f : ℕ → Bool). f m) a.2.1.1 ∙ o m i)))
  last_ends (more_stage first last true (inner counters list ops (Some at)) (more_stage f l c n rest)) owned numbers is own h s o a = absurd h
  last_ends (more_stage first last true (inner counters list ops None) rest) owned numbers is own h s o a = absurd h
  last_ends (more_stage first last true (outer counters style list stages) rest) owned numbers is own h s o a = absurd h
  last_ends (more_stage first last true (fsm start state test body next) rest) owned numbers is own h s o a = absurd h
  last_ends (more_stage first last true (branch test one two) rest) owned numbers is own h s o a = absurd h
  last_ends (more_stage first last true (load d m spans) rest) owned numbers is own h s o a = absurd h
  last_ends (more_stage first last true (store d m spans) rest) owned numbers is own h s o a = absurd h
  last_ends (more_stage first last true (sparse kind d m index spans count par) rest) owned numbers is own h s o a = absurd h
  last_ends no_stage owned numbers is own h s o a = absurd h

  stages_end : (stages : PlainStages) (owned numbers : List ℕ) (own : ℕ → Bool) → NoneCombines core stages ⊎ ((is : ℕ → Bool) × LastCombines core is stages) → StandApart numbers stages → ((m : ℕ) → is_among m owned ≡ true → own m ≡ true) → StagesApart own stages
      → NoneCombines core stages ⊎ ((is : ℕ → Bool) × LastEnds core owned is stages)
  stages_end stages owned numbers own (inl h) s o a = inl h
  stages_end stages owned numbers own (inr (is, h)) s o a = inr (is, last_ends stages owned numbers is own h s o a)

  mutual
    node_ends : (node : PlainNode) (numbers : List ℕ) → IsLaned core node → StandsApart numbers node → NodeApart node → IsEnded core node
    node_ends (inner counters owned ops comb) numbers h s a = inner_ends owned ops comb h.1 s a
    node_ends (outer counters style owned stages) numbers h s a = (stages_end stages owned (numbers_of counters ++ numbers) a.0 h.1 s a.1 a.2, are_ended stages (numbers_of counters ++ numbers) a.0 h.2 s a.2, a.3)
    node_ends (fsm start state test body next) numbers h s a = node_ends body numbers h s a
    node_ends (branch test first second) numbers h s a = (node_ends first numbers h.0 s.0 a.0, node_ends second numbers h.1 s.1 a.1)
    node_ends (load d m spans) numbers h s a = tt
    node_ends (store d m spans) numbers h s a = tt
    node_ends (sparse kind d m index spans count par) numbers h s a = tt

    are_ended : (stages : PlainStages) (numbers : List ℕ) (own : ℕ → Bool) → AreLaned core stages → StandApart numbers stages → StagesApart own stages → AreEnded core stages
    are_ended no_stage numbers own h s a = tt
    are_ended (more_stage first last true node rest) numbers own h s a = (a.0, a.1, are_ended rest numbers own h s.2 a.3)
    are_ended (more_stage first last false node rest) numbers own h s a = (a.0, a.1, node_ends node numbers h.0 s.0 a.2, are_ended rest numbers own h.1 s.1 a.3)

pub program_ends : (p : PlainProgram) → IsProgram p → ProgramEnds p
program_ends p h = node_ends (core_of p) (core_of p).root [] (programs_laned p h) (lane_cores.program_apart p h) (program_apart p h)
