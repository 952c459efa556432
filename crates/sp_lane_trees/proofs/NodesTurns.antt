-- The turns of an FSM that follow.
use Rattle.std.proofs.Common.{ℕ, zero, suc, Bool, true, false, List, [], ◌∷◌, sym, ap}
use Rattle.std.proofs.lemmas.Bool.{true≢false}
use Rattle.sp_core.specs.Around.{Around}
use Rattle.sp_core.specs.PlainCore.{PlainCore}
use Rattle.sp_core.specs.Step.{Step, pure, ◌>>=◌, out_of_turns, repeated}
use Rattle.sp_core.specs.Store.{Store}
use Rattle.sp_lanes.specs.Within.{Within}
use Rattle.sp_lane_groups.proofs.LiveAlong.{did_go}
use Rattle.sp_lane_groups.proofs.InnersFollows.{Follows, Same, pure_follows, bind_follows, bind_same}
use Rattle.sp_lane_trees.proofs.NodesWhole.{choice_follows}

module _ (core : PlainCore) (around : Around) (w : Within) (Left : Store → Store → Type 0) (none : (t : Store) → Left t t) (both : (t u v : Store) → Left t u → Left u v → Left t v) where
  no_turn_follows : {A B : Type 0} (R : A → B → Type 0) → Follows core around w Left none both R out_of_turns out_of_turns
  unfolding out_of_turns
  no_turn_follows R s t after a fits agree e = absurd (true≢false (sym (ap did_go e)))

  module _ {A B C : Type 0} (R : B → C → Type 0) (S : List B → List C → Type 0) (nil : S [] []) (cons : (b : B) (c : C) (bs : List B) (cs : List C) → R b c → S bs cs → S (b ∷ bs) (c ∷ cs)) (test test_too : Step A) (holds : A → Bool) (turn : A → Step B) (turn_too : A → Step C)
      (tests : Follows core around w Left none both (Same core around w Left none both) test test_too) (turns : (a : A) → Follows core around w Left none both R (turn a) (turn_too a)) where
    abbrev Both : List B × A → List C × A → Type 0
    Both x y = S x.0 y.0

    pub repeated_follows : (most : ℕ) → Follows core around w Left none both Both (repeated most test holds turn) (repeated most test_too holds turn_too)
    unfolding repeated
    repeated_follows zero =
        bind_same core around w Left none both Both test test_too
        (λ a. elim (holds a) as (λ _. Step (List B × A)) [ true ↦ out_of_turns | false ↦ pure ([], a) ]) (λ a. elim (holds a) as (λ _. Step (List C × A)) [ true ↦ out_of_turns | false ↦ pure ([], a) ]) tests
        (λ a. choice_follows core around w Left none both Both (holds a) out_of_turns (pure ([], a)) out_of_turns (pure ([], a)) (no_turn_follows Both) (pure_follows core around w Left none both Both ([], a) ([], a) nil))
    repeated_follows (suc most) =
        bind_same core around w Left none both Both test test_too
        (λ a. elim (holds a) as (λ _. Step (List B × A)) [ true ↦ turn a >>= (λ b. repeated most test holds turn >>= (λ r. pure (b ∷ r.0, r.1))) | false ↦ pure ([], a) ])
        (λ a. elim (holds a) as (λ _. Step (List C × A)) [ true ↦ turn_too a >>= (λ b. repeated most test_too holds turn_too >>= (λ r. pure (b ∷ r.0, r.1))) | false ↦ pure ([], a) ]) tests
        (λ a. choice_follows core around w Left none both Both (holds a)
        (turn a >>= (λ b. repeated most test holds turn >>= (λ r. pure (b ∷ r.0, r.1)))) (pure ([], a)) (turn_too a >>= (λ b. repeated most test_too holds turn_too >>= (λ r. pure (b ∷ r.0, r.1)))) (pure ([], a))
        (bind_follows core around w Left none both R Both (turn a) (turn_too a) (λ b. repeated most test holds turn >>= (λ r. pure (b ∷ r.0, r.1))) (λ b. repeated most test_too holds turn_too >>= (λ r. pure (b ∷ r.0, r.1))) (turns a)
        (λ b c r. bind_follows core around w Left none both Both Both (repeated most test holds turn) (repeated most test_too holds turn_too) (λ x. pure (b ∷ x.0, x.1)) (λ x. pure (c ∷ x.0, x.1)) (repeated_follows most)
        (λ x y q. pure_follows core around w Left none both Both (b ∷ x.0, x.1) (c ∷ y.0, y.1) (cons b c x.0 y.0 r q))))
        (pure_follows core around w Left none both Both ([], a) ([], a) nil))
