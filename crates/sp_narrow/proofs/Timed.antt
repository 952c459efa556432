-- A core without transfers in several lanes is narrow as it is.
use Rattle.std.proofs.Common.{◌≡◌, refl, ◌∙◌, ap}
use Rattle.sp_core.specs.PlainCore.{PlainNode, PlainStages, inner, outer, fsm, branch, load, store, sparse, no_stage, more_stage, PlainCore}
use Rattle.sp_overlap.specs.Whole.{IsTimed, AreTimed}
use Rattle.sp_narrow.specs.Narrow.{narrow_node, narrow_stages, narrow}

mutual
  as_it_is : (node : PlainNode) → IsTimed node → narrow_node node ≡ node
  as_it_is (inner counters owned ops comb) h = refl
  as_it_is (outer counters style owned stages) h = ap (outer counters style owned) (as_they_are stages h.1)
  as_it_is (fsm start state test body next) h = ap (λ b. fsm start state test b next) (as_it_is body h)
  as_it_is (branch test first second) h = ap (λ n. branch test n (narrow_node second)) (as_it_is first h.0) ∙ ap (branch test first) (as_it_is second h.1)
  as_it_is (load r m spans) h = refl
  as_it_is (store r m spans) h = refl
  as_it_is (sparse kind r m places spans count par) h = absurd h

  as_they_are : (stages : PlainStages) → AreTimed stages → narrow_stages stages ≡ stages
  as_they_are no_stage h = refl
  as_they_are (more_stage first last comb node rest) h = ap (λ n. more_stage first last comb n (narrow_stages rest)) (as_it_is node h.0) ∙ ap (more_stage first last comb node) (as_they_are rest h.1)

pub timed_is_narrow : (core : PlainCore) → IsTimed core.root → narrow core ≡ core
timed_is_narrow core h = ap (λ (root : PlainNode). record core { root = root }) (as_it_is core.root h)
