-- The parts of the combination.
use Rattle.std.proofs.Common.{◌≡◌, ℕ, ◌==◌, Bool, true, false, ◌||◌, ◌&&◌, not, [], ◌∷◌, refl, sym, subst, arith}
use Rattle.std.proofs.lemmas.Bool.{eqb-true}
use Rattle.sp_words.specs.Types.{int_type}
use Rattle.sp_tree.specs.declared.statement.Comb.TheVariants as combiner
use Rattle.sp_core.specs.ExampleForms.{read}
use Rattle.sp_lane_cores.specs.LanedMarks.{reduced}
use Rattle.sp_lane_trees.specs.ReductionsExamples.{summed_core}
use Rattle.sp_lane_trees.proofs.reductions_examples.worked_reduction.Goals as goal

-- register 2 is neither the accumulator nor what tells whether it has begun
other_two : (m : ℕ) → (m == 2 || false) ≡ true → (not (m == 0) && not (m == 1)) ≡ true
other_two m e = subst (λ x. (not (x == 0) && not (x == 1)) ≡ true) (sym (eqb-true m 2 (first (m == 2) e))) refl
  where
    first : (b : Bool) → (b || false) ≡ true → b ≡ true
    first true h = refl
    first false h = h

pub returns-clause-own : goal.returns-clause-own
returns-clause-own c = refl

pub returns-clause-reduces : goal.returns-clause-reduces
unfolding summed_core
returns-clause-reduces c = (
  λ m. false,
  (
    (tt, tt, (tt, (refl, tt))),
    (tt, tt, (tt, (refl, tt))),
    record {
      ops = _;
      at = 1;
      combination = reduced 0 0 1 int_type combiner.Add;
      node_is = refl;
      one_word = tt;
      others = refl;
      ends = record {
        combined = record { before = read 2 [] ∷ []; place = refl; is = refl; apart = (refl, tt) };
        two = λ e. omega (arith, e);
        earlier = omega arith;
        others = other_two;
      };
      still = (refl, tt);
      own = (refl, tt);
    },
  ),
)

pub returns-clause-keeps : goal.returns-clause-keeps
unfolding summed_core
returns-clause-keeps c = (
  λ m. m == 3,
  (
    (tt, tt, (tt, (refl, tt))),
    (tt, tt, (tt, (refl, tt))),
    record {
      ops = _;
      at = 1;
      combination = reduced 0 0 1 int_type combiner.Add;
      node_is = refl;
      one_word = tt;
      others = refl;
      ends = record {
        combined = record { before = read 3 [] ∷ []; place = refl; is = refl; apart = (refl, tt) };
        two = λ e. omega (arith, e);
        earlier = omega arith;
        others = other_two;
      };
      still = (refl, tt);
      own = (refl, tt);
    },
  ),
)
