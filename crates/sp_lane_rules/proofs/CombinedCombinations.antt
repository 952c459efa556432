-- Lanes with a combination after them keep the rules of cores, whatever its operator is.
use Rattle.std.proofs.Common.{◌≡◌, ℕ, zero, suc, ◌+◌, ◌-◌, ◌<◌, ◌≤◌, inl, inr, Bool, true, false, cond, List, [], ◌∷◌, ◌++◌, length, take, drop, Option, Some, None, refl, sym, ◌∙◌, ap, subst, arith}
use Rattle.std.proofs.lemmas.Bool.{and_parts, and_from}
use Rattle.std.proofs.lemmas.List.{length-append, length-map, take-append-drop}
use Rattle.std.specs.Prelude.{if◌then◌else◌, slice_index, ◌&&◌}
use Rattle.sp_words.specs.declared.types.Ty.{Ty}
use Rattle.sp_core.specs.Around.{Around, has_lane}
use Rattle.sp_core.specs.OperationRules.{is_in_range, names_rightly, indices_of, is_mask, is_operation_right, are_operations_right_after, are_operations_right}
use Rattle.sp_core.specs.PlainCore.{PlainOp, PlainCore}
use Rattle.sp_core.specs.Typed.{Given, given_type, taken_types, gives, give_all}
use Rattle.sp_lanes.specs.Bodies.{Body, lane_bodies, all_ops}
use Rattle.sp_lanes.specs.Combined.{Meeting, meeting, is_choice, moved_place, without_first, first_place, first_places, after_joined, meeting_in_order, in_order, combined, laned_ops}
use Rattle.sp_lanes.specs.Joined.{LaneWord, is_balanced, lane_words}
use Rattle.sp_lanes.specs.Within.{Within, op_in, ops_in}
use Rattle.sp_lane_rules.specs.UnrolledMeetings.{given_of}
use Rattle.sp_lane_rules.specs.UnrolledPlaces.{GoTogether}
use Rattle.sp_lane_rules.proofs.UnrolledCombinedOps.{balanced_right}
use Rattle.sp_lane_rules.proofs.UnrolledGivens.{given_length, after_both, gives_end}
use Rattle.sp_lane_rules.proofs.UnrolledLaneBodies.{AllPlaced, lane_bodies_right}
use Rattle.sp_lane_rules.specs.CombinedMeetings.{IsMetFrom, IsMet}
use Rattle.sp_lane_rules.proofs.CombinedMeets.{AreMet, met_without, bodies_met, whole, as_parts}
use Rattle.sp_lane_rules.proofs.CombinedMoves.{gives_front, meeting_kept, place_same, split_after}
use Rattle.sp_lane_rules.proofs.CombinedOrdered.{in_append, any_in, choice_kept, ends_give, left_gives, meets_right}

module _ (core lanes : PlainCore) (around inside : Around) (counter : ℕ) (lane : ℕ → Within) (p : ℕ)
    (h : (l : ℕ) → l < p → GoTogether core lanes around inside (lane l)) (there : (l : ℕ) → l < p → has_lane inside.counters counter l ≡ true) (one : 1 ≤ p) where
  ordered_right : (own : List ℕ) (ops : List PlainOp) (first : ℕ) → IsMetFrom first ops → is_balanced (meeting (drop first ops)).operator (meeting (drop first ops)).ty ≡ false
      → are_operations_right core around ops ≡ true → are_operations_right lanes inside (laned_ops counter lane own p ops (Some first)) ≡ true
  ordered_right own ops first met unbalanced right = after_both lanes inside [] (all_ops bodies) (combined counter first bodies (ops_in (lane 0) (drop first ops))) placed.0 joined
    where
      body : List PlainOp
      body = take first ops

      bodies : List Body
      bodies = lane_bodies counter lane (take first ops) own p

      at : ℕ
      at = length (all_ops (lane_bodies counter lane (take first ops) own p))

      b : Given
      b = given_of (take first ops)

      g : Given
      g = given_of (all_ops (lane_bodies counter lane (take first ops) own p))

      m : Meeting
      m = meeting (drop first ops)

      words : List LaneWord
      words = lane_words 0 (meeting (drop first ops)).word (lane_bodies counter lane (take first ops) own p)

      here : ℕ → ℕ
      here = moved_place first (length (all_ops (lane_bodies counter lane (take first ops) own p))) (meeting (drop first ops)).word (first_place (lane_words 0 (meeting (drop first ops)).word (lane_bodies counter lane (take first ops) own p))) (first_places (lane_bodies counter lane (take first ops) own p))

      before : List PlainOp
      before = met.ended.before

      last : PlainOp
      last = met.ended.last

      after : List PlainOp
      after = met.ended.after

      bound : Given
      bound = (given_of (take first ops) ++ given_of met.ended.before) ++ given_type met.ended.last.kind met.ended.last.ty ∷ []

      parts : (are_operations_right_after core around [] (take first ops) ≡ true) × (are_operations_right_after core around (given_of (take first ops)) (drop first ops) ≡ true)
      parts = split_after core around [] (take first ops) (drop first ops) (ap (are_operations_right_after core around []) (take-append-drop first ops) ∙ right)

      rest : (are_operations_right_after core around b before ≡ true) × (are_operations_right_after core around (b ++ given_of before) (last ∷ after) ≡ true)
      rest = split_after core around b before (last ∷ after) (ap (are_operations_right_after core around b) (sym met.ended.is) ∙ parts.1)

      ending : (is_operation_right core around (b ++ given_of before) last ≡ true) × (are_operations_right_after core around bound after ≡ true)
      ending = and_parts (is_operation_right core around (b ++ given_of before) last) (are_operations_right_after core around bound after) rest.1

      placed : (are_operations_right_after lanes inside [] (all_ops (lane_bodies counter lane (take first ops) own p)) ≡ true)
          × AllPlaced (given_of (all_ops (lane_bodies counter lane (take first ops) own p))) (take first ops) (lane_bodies counter lane (take first ops) own p)
      placed = lane_bodies_right core lanes around inside counter lane (take first ops) p h there parts.0 own one

      are_met : AreMet g m.ty words
      are_met = bodies_met g m.ty 0 m.word body bodies placed.1 met.word

      first_is : length (given_of (take first ops)) ≡ first
      first_is = given_length (take first ops) ∙ shortened first ops met.inside
        where
          shortened : (n : ℕ) (xs : List PlainOp) → n ≤ length xs → length (take n xs) ≡ n
          shortened zero [] le = refl
          shortened zero (x ∷ xs) le = refl
          shortened (suc n) [] le = absurd (omega arith)
          shortened (suc n) (x ∷ xs) le = ap suc (shortened n xs (omega arith))

      at_is : length (given_of (all_ops (lane_bodies counter lane (take first ops) own p))) ≡ at
      at_is = given_length (all_ops (lane_bodies counter lane (take first ops) own p))

      same : (done : Given) (k : ℕ) (t : Ty) → gives (b ++ done) k t ≡ true → gives (g ++ done) (here k) t ≡ true
      same = subst (λ n. (done : Given) (k : ℕ) (t : Ty) → gives (b ++ done) k t ≡ true → gives (g ++ done) (moved_place n at m.word (first_place words) (first_places bodies) k) t ≡ true) first_is
          (subst (λ n. (done : Given) (k : ℕ) (t : Ty) → gives (b ++ done) k t ≡ true → gives (g ++ done) (moved_place (length b) n m.word (first_place words) (first_places bodies) k) t ≡ true) at_is
          (place_same core lanes around inside (lane 0) (h 0 one) b g m.word (first_place words) m.ty (first_places bodies) met.word are_met.0 placed.1.1))

      last_given : given_type met.ended.last.kind met.ended.last.ty ≡ Some (meeting (drop first ops)).ty
      last_given = ends_give met.ended.last.kind met.ended.last.ty met.ended.ends ∙ ap Some met.ended.alike

      count : length (ops_in (lane 0) met.ended.before) ≡ length met.ended.before
      count = length-map met.ended.before (op_in (lane 0))

      long : length bound ≡ suc (first + suc (length (ops_in (lane 0) before)) - 1)
      long = omega (arith, count, first_is, length-append (b ++ given_of before) (given_type last.kind last.ty ∷ []), length-append b (given_of before), given_length before)

      at_end : gives bound (first + suc (length (ops_in (lane 0) before)) - 1) m.ty ≡ true
      at_end = ap (λ (t : Option Ty). gives ((b ++ given_of before) ++ t ∷ []) (first + suc (length (ops_in (lane 0) before)) - 1) m.ty) last_given
          ∙ gives_end (b ++ given_of before) (first + suc (length (ops_in (lane 0) before)) - 1) m.ty (omega (arith, count, first_is, length-append b (given_of before), given_length before))

      -- where the last one chooses
      chosen : are_operations_right_after lanes inside g (meeting_in_order counter first bodies at m here (ops_in (lane 0) before ++ op_in (lane 0) last ∷ []) (at + suc (length (ops_in (lane 0) before)) - 1) (without_first words)
          (first + suc (length (ops_in (lane 0) before)) - 1) (ops_in (lane 0) after)) ≡ true
      chosen = subst (λ l. are_operations_right_after lanes inside g (meeting_in_order counter first bodies at m here l (at + suc (length (ops_in (lane 0) before)) - 1) (without_first words) (first + suc (length (ops_in (lane 0) before)) - 1) (ops_in (lane 0) after)) ≡ true)
          (in_append (lane 0) before (last ∷ []))
          (meets_right core lanes around inside (lane 0) (h 0 one) counter first bodies at m met.plain b g (sym first_is) (sym at_is) here same (before ++ last ∷ []) after bound
          (at + suc (length (ops_in (lane 0) before)) - 1) (first + suc (length (ops_in (lane 0) before)) - 1) (without_first words)
          (after_both core around b before (last ∷ []) rest.0 (and_from _ _ ending.0 refl)) ending.1 long at_end
          (λ k t lt e. ap (λ (x : Given). gives x k t) (sym (whole b before (last ∷ []))) ∙ e)
          at_left (met_without g m.ty words are_met) (inr (omega (arith, count, length-append before (last ∷ [])))))
        where
          at_left : gives (g ++ given_of (before ++ last ∷ [])) (at + suc (length (ops_in (lane 0) before)) - 1) m.ty ≡ true
          at_left = ap (λ (x : Given). gives x (at + suc (length (ops_in (lane 0) before)) - 1) m.ty) (sym (whole g before (last ∷ [])))
              ∙ ap (λ (t : Option Ty). gives ((g ++ given_of before) ++ t ∷ []) (at + suc (length (ops_in (lane 0) before)) - 1) m.ty) last_given
              ∙ gives_end (g ++ given_of before) (at + suc (length (ops_in (lane 0) before)) - 1) m.ty (omega (arith, count, at_is, length-append g (given_of before), given_length before))

      -- where it does the operator
      operated : is_choice last.kind ≡ false → are_operations_right_after lanes inside g (meeting_in_order counter first bodies at m here (ops_in (lane 0) before) (here (slice_index last.args 0)) words
          (first + suc (length (ops_in (lane 0) before)) - 1) (ops_in (lane 0) after)) ≡ true
      operated apart =
          meets_right core lanes around inside (lane 0) (h 0 one) counter first bodies at m met.plain b g (sym first_is) (sym at_is) here same before after bound
          (here (slice_index last.args 0)) (first + suc (length (ops_in (lane 0) before)) - 1) words
          rest.0 ending.1 long at_end
          (λ k t lt e. gives_front (b ++ given_of before) (given_type last.kind last.ty ∷ []) k t (omega (arith, lt, count, first_is, length-append b (given_of before), given_length before)) e)
          (same (given_of before) (slice_index last.args 0) m.ty left_word) are_met (inl (omega arith))
        where
          taken : give_all (b ++ given_of before) last.args (taken_types last.kind last.ty (indices_of core around last.mem)) ≡ true
          taken =
              let o = and_parts (is_in_range last.kind last.ty around && names_rightly core around last.kind last.ty last.mem) (give_all (b ++ given_of before) last.args (taken_types last.kind last.ty (indices_of core around last.mem)) && is_mask core around (b ++ given_of before) last.mask) ending.0 in
              (and_parts (give_all (b ++ given_of before) last.args (taken_types last.kind last.ty (indices_of core around last.mem))) (is_mask core around (b ++ given_of before) last.mask) o.1).0

          left_word : gives (b ++ given_of before) (slice_index last.args 0) m.ty ≡ true
          left_word = ap (gives (b ++ given_of before) (slice_index last.args 0)) (sym met.ended.alike)
              ∙ left_gives last.kind last.ty (indices_of core around last.mem) last.args (b ++ given_of before) met.ended.ends apart taken

      in_parts : (c : Bool) → is_choice last.kind ≡ c → are_operations_right_after lanes inside g (cond c
          (meeting_in_order counter first bodies at m here (ops_in (lane 0) before ++ op_in (lane 0) last ∷ []) (at + suc (length (ops_in (lane 0) before)) - 1) (without_first words) (first + suc (length (ops_in (lane 0) before)) - 1) (ops_in (lane 0) after))
          (meeting_in_order counter first bodies at m here (ops_in (lane 0) before) (here (slice_index last.args 0)) words (first + suc (length (ops_in (lane 0) before)) - 1) (ops_in (lane 0) after))) ≡ true
      in_parts true i = chosen
      in_parts false i = operated i

      ordered : are_operations_right_after lanes inside g (in_order counter first bodies at m words (ops_in (lane 0) (drop first ops))) ≡ true
      ordered =
          ap (λ l. are_operations_right_after lanes inside g (in_order counter first bodies at m words (ops_in (lane 0) l))) met.ended.is
          ∙ ap (λ l. are_operations_right_after lanes inside g (in_order counter first bodies at m words l)) (in_append (lane 0) before (last ∷ after))
          ∙ ap (are_operations_right_after lanes inside g) (as_parts counter first bodies at m words (ops_in (lane 0) before) (op_in (lane 0) last) (ops_in (lane 0) after) met.ended.takes_it (any_in (lane 0) m.word after ∙ met.ended.no_more))
          ∙ in_parts (is_choice (op_in (lane 0) last).kind) (sym (choice_kept (lane 0) last.kind))

      joined : are_operations_right_after lanes inside g (combined counter first bodies (ops_in (lane 0) (drop first ops))) ≡ true
      joined = subst (λ (n : Meeting). are_operations_right_after lanes inside g (if is_balanced n.operator n.ty then after_joined counter first bodies at n (lane_words 0 n.word bodies) (ops_in (lane 0) (drop first ops))
          else in_order counter first bodies at n (lane_words 0 n.word bodies) (ops_in (lane 0) (drop first ops))) ≡ true) (sym (meeting_kept (lane 0) (drop first ops)))
          (ap (λ b. are_operations_right_after lanes inside g (if b then after_joined counter first bodies at m words (ops_in (lane 0) (drop first ops)) else in_order counter first bodies at m words (ops_in (lane 0) (drop first ops)))) unbalanced
          ∙ ordered)

  pub met_right : (own : List ℕ) (ops : List PlainOp) (first : ℕ) → IsMetFrom first ops → are_operations_right core around ops ≡ true → are_operations_right lanes inside (laned_ops counter lane own p ops (Some first)) ≡ true
  met_right own ops first met right = by (is_balanced (meeting (drop first ops)).operator (meeting (drop first ops)).ty) refl
    where
      by : (c : Bool) → is_balanced (meeting (drop first ops)).operator (meeting (drop first ops)).ty ≡ c → are_operations_right lanes inside (laned_ops counter lane own p ops (Some first)) ≡ true
      by true i = balanced_right core lanes around inside counter lane p h there one own ops first (record { inside = met.inside; balanced = i; word = met.word }) right
      by false i = ordered_right own ops first met i right

  -- and without one
  pub lanes_right : (own : List ℕ) (ops : List PlainOp) (comb : Option ℕ) → IsMet ops comb → are_operations_right core around ops ≡ true → are_operations_right lanes inside (laned_ops counter lane own p ops comb) ≡ true
  lanes_right own ops None met right = (lane_bodies_right core lanes around inside counter lane ops p h there right own one).0
  lanes_right own ops (Some first) met right = met_right own ops first met right
