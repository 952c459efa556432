use Rattle.std.proofs.Common.{inl, inr, [], ◌∷◌, refl, arith}
use Rattle.sp_words.specs.declared.kind.BinOp.TheVariants.{Add, Eq}
use Rattle.sp_core.specs.ExampleForms.{lit, count, two, mux, read, write, read_bit, write_bit, true_bit, under}
use Rattle.sp_lanes.specs.Examples.{fixed_folded, fixed_reduced, memory_reduced_by_two, fixed_read, fixed_product, fixed_choice, fixed_write}
use Rattle.sp_lane_rules.proofs.combined_rules_examples.worked_combinations.Goals as goal

pub returns-clause-folded : goal.returns-clause-folded
unfolding fixed_folded
returns-clause-folded c = (
  inl refl,
  (
    inl refl,
    (
      inr (record {
        inside = omega arith;
        plain = refl;
        word = refl;
        ended = record { before = fixed_read 2 [] ∷ []; last = fixed_product 2 1; after = fixed_write 2 (3 ∷ []) ∷ []; is = refl; takes_it = refl; no_more = refl; ends = refl; alike = refl };
      }),
      (inl refl, tt),
    ),
  ),
)

pub returns-clause-reduced : goal.returns-clause-reduced
unfolding fixed_reduced
returns-clause-reduced c = (
  inl refl,
  (
    inl refl,
    (
      inr (record {
        inside = omega arith;
        plain = refl;
        word = refl;
        ended = record {
          before = read_bit 3 ∷ under 2 (fixed_read 2 []) ∷ fixed_product 3 1 ∷ [];
          last = fixed_choice 2 4 1;
          after = fixed_write 2 (5 ∷ []) ∷ true_bit ∷ write_bit 3 7 ∷ [];
          is = refl;
          takes_it = refl;
          no_more = refl;
          ends = refl;
          alike = refl;
        };
      }),
      (inl refl, tt),
    ),
  ),
)

pub returns-clause-elements : goal.returns-clause-elements
unfolding memory_reduced_by_two
returns-clause-elements c = (
  inl refl,
  (
    (
      inr (
        (refl, tt),
        refl,
        record {
          inside = omega arith;
          plain = refl;
          word = refl;
          ended = record {
            before = read_bit 2 ∷ count 2 0 ∷ under 2 (read 0 (3 ∷ [])) ∷ two Add 4 1 ∷ [];
            last = mux 2 5 1;
            after = count 2 0 ∷ write 0 (7 ∷ 6 ∷ []) ∷ count 2 0 ∷ lit 1 ∷ two Eq 9 10 ∷ true_bit ∷ under 11 (write_bit 2 12) ∷ [];
            is = refl;
            takes_it = refl;
            no_more = refl;
            ends = refl;
            alike = refl;
          };
        },
      ),
      (inl refl, (inl refl, tt)),
    ),
    (tt, tt),
  ),
)
