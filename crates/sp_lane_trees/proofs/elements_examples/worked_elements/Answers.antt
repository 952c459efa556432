-- The parts of the combination.
use Rattle.std.proofs.Common.{◌≡◌, ℕ, zero, suc, ◌<◌, ◌==◌, Bool, true, false, ◌||◌, ◌&&◌, not, [], ◌∷◌, refl, sym, subst, arith}
use Rattle.std.proofs.lemmas.Bool.{eqb-true}
use Rattle.std.specs.Prelude.{slice_index_or}
use Rattle.sp_words.specs.Interface.{IsCount}
use Rattle.sp_words.specs.Types.{int_type}
use Rattle.sp_tree.specs.declared.statement.Comb.TheVariants as combiner
use Rattle.sp_sugar.specs.Operations.{code, code_of, codes}
use Rattle.sp_lane_trees.specs.ElementsExamples.{taken, added_core}
use Rattle.sp_lane_trees.proofs.elements_examples.worked_elements.Goals as goal

-- memory 2 is neither the accumulator nor what tells whether it has begun
other_two : (m : ℕ) → (m == 2 || false) ≡ true → (not (m == 0) && not (m == 1)) ≡ true
other_two m e = subst (λ x. (not (x == 0) && not (x == 1)) ≡ true) (sym (eqb-true m 2 (first (m == 2) e))) refl
  where
    first : (b : Bool) → (b || false) ≡ true → b ≡ true
    first true h = refl
    first false h = h

-- its one dimension is a count
counted : (k e : ℕ) → k < 1 → IsCount (slice_index_or (2 ∷ []) k e)
counted zero e lt = (omega arith, omega arith)
counted (suc k) e lt = absurd (omega (arith, lt))

pub returns-clause-combines : goal.returns-clause-combines
unfolding added_core code code_of codes
returns-clause-combines c = (
  (tt, tt, (tt, (tt, (refl, (tt, (refl, tt)))))),
  record {
    mems = [];
    word = 1;
    counter = 1;
    sizes = 2 ∷ [];
    acc = 0;
    begun = 1;
    ty = int_type;
    comb = combiner.Add;
    ops = _;
    at = 2;
    node_is = refl;
    tests = refl;
    ends = record {
      combined = record { before = taken; place = refl; is = refl; apart = (tt, (refl, tt)) };
      two = λ e. omega (arith, e);
      earlier = omega arith;
      others = other_two;
    };
    still = (refl, (refl, tt));
    own = (tt, (refl, tt));
    counts = counted;
    sram = refl;
    sized = refl;
  },
)
