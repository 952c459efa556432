-- The parts of a node stand where it does.
use Rattle.std.proofs.Common.{◌≡◌, ℕ, ◌+◌, ◌*◌, ◌<◌, ◌≤◌, Bool, true, false, ◌||◌, List, [], ◌∷◌, ◌++◌, refl, ◌∙◌, ap, arith, ◌==◌}
use Rattle.std.proofs.lemmas.Bool.{eq-eqb}
use Rattle.sp_core.specs.Declarations.{is_among}
use Rattle.sp_core.specs.Invariant.{owned_in}
use Rattle.sp_core.specs.PlainCore.{PlainCore}
use Rattle.sp_lanes.specs.Order.{memory_order}
use Rattle.sp_lane_rules.specs.Copies.{occurrences, copies_in, one_if}
use Rattle.sp_lane_rules.proofs.CopiesOwners.{part_fits}
use Rattle.sp_lane_rules.proofs.UnrolledPlaces.{among_both, state_together}
use Rattle.sp_lane_groups.proofs.LiveCopies.{copies_stand}
use Rattle.sp_lane_trees.specs.NodesLaws.{BranchesStand, FsmsStand}

pub or_left : (a b : Bool) → a ≡ true → (a || b) ≡ true
or_left true b e = refl
or_left false b e = cc

more_before : (xs ys : List ℕ) (m : ℕ) → is_among m xs ≡ true → is_among m (xs ++ ys) ≡ true
more_before xs ys m e = among_both m xs ys ∙ or_left (is_among m xs) (is_among m ys) e

pub branch_stands : (core : PlainCore) → BranchesStand core
branch_stands core around inside earlier w test first second h = (
  record {
    together = h.together;
    copies = h.copies;
    owned_before = h.owned_before;
    enough = λ n. (part_fits w.copy (copies_in first n) (copies_in second n) (occurrences n (memory_order core)) (h.enough n)).0;
    right = h.right.1;
    laned = h.laned.0;
    plain = h.plain.1;
    resets = h.resets.0;
  },
  record {
    together = h.together;
    copies = h.copies;
    owned_before = λ m e. more_before earlier (owned_in first) m (h.owned_before m e);
    enough = λ n. (part_fits w.copy (copies_in first n) (copies_in second n) (occurrences n (memory_order core)) (h.enough n)).1;
    right = h.right.2;
    laned = h.laned.1;
    plain = h.plain.2;
    resets = h.resets.1;
  },
)

-- the state has a copy of this place's number
pub state_fits : (core : PlainCore) (state : ℕ) (c b : ℕ) → (c + 1) * (occurrences state (state ∷ []) + b) ≤ occurrences state (memory_order core) → c < occurrences state (memory_order core)
state_fits core state c b le = one c (occurrences state (state ∷ [])) ((c + 1) * occurrences state (state ∷ [])) (occurrences state (memory_order core)) (ap (λ x. one_if x + 0) (eq-eqb state state refl)) refl (part_fits c (occurrences state (state ∷ [])) b (occurrences state (memory_order core)) le).0
  where
    one : (c o x t : ℕ) → o ≡ 1 + 0 → x ≡ (c + 1) * o → x ≤ t → c < t
    one c o x t e f le = let g : x ≡ (c + 1) * 1 = f ∙ ap (λ n. (c + 1) * n) (e ∙ plain) in omega (arith, g, le)
      where
        plain : 1 + 0 ≡ 1
        plain = refl

pub fsm_stands : (core : PlainCore) → FsmsStand core
fsm_stands core around inside earlier w start state test body next h =
    let fits : w.copy < occurrences state (memory_order core) = state_fits core state w.copy (copies_in body state) (h.enough state) in
    record {
      together = state_together core around inside w h.together state fits;
      copies = (copies_stand core).2 around w state h.copies fits;
      owned_before = λ m e. among_both m earlier (state ∷ []) ∙ either (m == state) (is_among m around.owned) (is_among m earlier) (h.owned_before m) e;
      enough = λ n. (part_fits w.copy (occurrences n (state ∷ [])) (copies_in body n) (occurrences n (memory_order core)) (h.enough n)).1;
      right = h.right.1;
      laned = h.laned;
      plain = h.plain.2;
      resets = h.resets;
    }
  where
    either : (a b c : Bool) → (b ≡ true → c ≡ true) → (a || b) ≡ true → (c || (a || false)) ≡ true
    either true b true f e = refl
    either true b false f e = refl
    either false b c f e = or_left c false (f e)
