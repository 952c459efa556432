-- A combination in order, after all lanes, keeps the rules of cores.
use Rattle.std.proofs.Common.{◌≡◌, ℕ, zero, suc, ◌+◌, ◌-◌, ◌<◌, ◌≤◌, ◌⊎◌, inl, inr, Bool, true, false, cond, ◌||◌, List, [], ◌∷◌, ◌++◌, length, Option, Some, None, refl, sym, ◌∙◌, ap, subst, arith, ◌==◌, nat_le}
use Rattle.std.proofs.lemmas.Bool.{and_parts, true≢false, not-true, leb-true, leb-false, eqb-true, eqb-false}
use Rattle.std.proofs.lemmas.List.{length-append, length-map}
use Rattle.std.specs.List.{list_any}
use Rattle.std.specs.Prelude.{if◌then◌else◌, slice_index, slice_index_or}
use Rattle.sp_words.specs.declared.types.Ty.{Ty}
use Rattle.sp_words.specs.declared.types.Ty.TheVariants.{Bit}
use Rattle.sp_core.specs.declared.operation.OpKind.{OpKind}
use Rattle.sp_core.specs.declared.operation.OpKind.TheVariants.{Count, Live, Two, Mux}
use Rattle.sp_core.specs.Around.{Around}
use Rattle.sp_core.specs.OperationRules.{are_operations_right_after}
use Rattle.sp_core.specs.PlainCore.{PlainOp, PlainCore}
use Rattle.sp_core.specs.Typed.{Given, is_comparison, given_type, taken_types, gives, give_all}
use Rattle.sp_lanes.specs.Bodies.{Body}
use Rattle.sp_lanes.specs.Combined.{Meeting, takes, is_choice, moved_op, moved, met_ops, meeting_in_order}
use Rattle.sp_lanes.specs.Joined.{LaneWord}
use Rattle.sp_lanes.specs.Within.{Within, kind_in, op_in, ops_in}
use Rattle.sp_lane_rules.specs.UnrolledMeetings.{given_of}
use Rattle.sp_lane_rules.specs.UnrolledPlaces.{GoTogether}
use Rattle.sp_lane_rules.proofs.UnrolledGivens.{append_none, given_length, after_both, gives_kept, gives_past}
use Rattle.sp_lane_rules.proofs.UnrolledLists.{given_kept}
use Rattle.sp_lane_rules.proofs.UnrolledTypesAlike.{given_like}
use Rattle.sp_lane_rules.specs.CombinedMeetings.{ends_meeting}
use Rattle.sp_lane_rules.proofs.CombinedMeets.{AreMet, met_more, met_right, whole}
use Rattle.sp_lane_rules.proofs.CombinedMoves.{gives_front, moved_right}

gives_less : (g : Given) (k : ℕ) (t : Ty) → gives g k t ≡ true → k < length g
gives_less [] k t e = absurd (true≢false (sym e))
gives_less (x ∷ g) zero t e = omega arith
gives_less (x ∷ g) (suc k) t e = let r = gives_less g k t e in omega (arith, r)

-- places after the meets: the last one of those before them stands where the last meeting is
module _ (b f : Given) (here : ℕ → ℕ) (ended stands : ℕ) (ty : Ty) (long : length b ≡ suc ended) (there : suc stands ≡ length f)
    (at_end : gives b ended ty ≡ true) (at_meeting : gives f stands ty ≡ true) (front : (k : ℕ) (t : Ty) → k < ended → gives b k t ≡ true → gives f (here k) t ≡ true) where
  pub place_after : (done : Given) (k : ℕ) (t : Ty) → gives (b ++ done) k t ≡ true → gives (f ++ done) (if nat_le ended k then stands + (k - ended) else here k) t ≡ true
  place_after done k t e = by (nat_le ended k) refl
    where
      past : ended ≤ k → (c : Bool) → (k == ended) ≡ c → gives (f ++ done) (stands + (k - ended)) t ≡ true
      past le true i =
          let is : k ≡ ended = eqb-true k ended i in
          ap (λ n. gives (f ++ done) n t) {x = stands + (k - ended)} {y = stands} (omega (arith, is))
          ∙ given_like (slice_index_or (b ++ done) ended None) (slice_index_or (f ++ done) stands None) ty t (gives_kept b done ended ty at_end) (ap (λ n. gives (b ++ done) n t) (sym is) ∙ e) (gives_kept f done stands ty at_meeting)
      past le false i =
          let ne : k ≡ ended → ⊥ = eqb-false k ended i in
          let lt : ended < k = less ended k le ne in
          ap (λ n. gives (f ++ done) n t) {x = stands + (k - ended)} {y = length f + (k - length b)} (omega (arith, long, there, lt))
          ∙ gives_past b f done (k - length b) t (ap (λ n. gives (b ++ done) n t) {x = length b + (k - length b)} {y = k} (omega (arith, long, lt)) ∙ e)
        where
          less : (a k : ℕ) → a ≤ k → (k ≡ a → ⊥) → a < k
          less a k le ne = omega (arith, ne)

      by : (c : Bool) → nat_le ended k ≡ c → gives (f ++ done) (cond c (stands + (k - ended)) (here k)) t ≡ true
      by true i = past (leb-true ended k i) (k == ended) refl
      by false i =
          let lt : k < ended = leb-false ended k i in
          gives_kept f done (here k) t (front k t lt (gives_front b done k t (omega (arith, long, lt)) e))

module _ (w : Within) where
  moved_given : (place : ℕ → ℕ) (ops : List PlainOp) → given_of (moved place (ops_in w ops)) ≡ given_of ops
  moved_given place [] = refl
  moved_given place (op ∷ ops) =
      ap (λ (t : Option Ty). t ∷ given_of (moved place (ops_in w ops))) (given_kept w op.kind op.ty) ∙ ap (λ (l : Given). given_type op.kind op.ty ∷ l) (moved_given place ops)

  pub in_append : (xs ys : List PlainOp) → ops_in w (xs ++ ys) ≡ ops_in w xs ++ ops_in w ys
  in_append [] ys = refl
  in_append (x ∷ xs) ys = ap (λ l. op_in w x ∷ l) (in_append xs ys)

  pub any_in : (word : ℕ) (ops : List PlainOp) → list_any (takes word) (ops_in w ops) ≡ list_any (takes word) ops
  any_in word [] = refl
  any_in word (op ∷ ops) = ap (λ c. takes word op || c) (any_in word ops)

  pub choice_kept : (kind : OpKind) → is_choice (kind_in w kind) ≡ is_choice kind
  choice_kept (Count c l) = refl
  choice_kept (Live c first last) = refl
  choice_kept kind = refl

pub ends_give : (kind : OpKind) (ty : Ty) → ends_meeting kind ≡ true → given_type kind ty ≡ Some ty
ends_give (Two o) ty e = ap (λ b. Some (if b then Bit else ty)) (not-true (is_comparison o) e)
ends_give Mux ty e = refl
ends_give _ ty e = absurd (true≢false (sym e))

-- an operator's first operand
pub left_gives : (kind : OpKind) (ty : Ty) (n : ℕ) (args : List ℕ) (g : Given) → ends_meeting kind ≡ true → is_choice kind ≡ false → give_all g args (taken_types kind ty n) ≡ true → gives g (slice_index args 0) ty ≡ true
left_gives (Two o) ty n [] g e c r = absurd (true≢false (sym r))
left_gives (Two o) ty n (a ∷ args) g e c r = (and_parts (gives g a ty) (give_all g args (ty ∷ [])) r).0
left_gives Mux ty n args g e c r = absurd (true≢false c)
left_gives _ ty n args g e c r = absurd (true≢false (sym e))

module _ (core lanes : PlainCore) (around inside : Around) (w : Within) (h : GoTogether core lanes around inside w)
    (counter first : ℕ) (bodies : List Body) (at : ℕ) (m : Meeting) (plain : is_comparison m.operator ≡ false)
    (b g : Given) (same_first : first ≡ length b) (same_at : at ≡ length g) (here : ℕ → ℕ)
    (same : (done : Given) (k : ℕ) (t : Ty) → gives (b ++ done) k t ≡ true → gives (g ++ done) (here k) t ≡ true) where
  -- operations, meets, and operations after them
  pub meets_right : (before after : List PlainOp) (bound : Given) (left ended : ℕ) (words : List LaneWord)
      → are_operations_right_after core around b before ≡ true → are_operations_right_after core around bound after ≡ true
      → length bound ≡ suc ended → gives bound ended m.ty ≡ true → ((k : ℕ) (t : Ty) → k < ended → gives bound k t ≡ true → gives (b ++ given_of before) k t ≡ true)
      → gives (g ++ given_of before) left m.ty ≡ true → AreMet g m.ty words → (1 ≤ length words) ⊎ (suc left ≡ at + length before)
      → are_operations_right_after lanes inside g (meeting_in_order counter first bodies at m here (ops_in w before) left words ended (ops_in w after)) ≡ true
  meets_right before after bound left ended words right_before right_after long at_end front at_left met some =
      after_both lanes inside g (moves ++ mets) (moved place (ops_in w after)) (after_both lanes inside g moves mets moves_right mets_right.0) rest_right
    where
      moves : List PlainOp
      moves = moved here (ops_in w before)

      from : ℕ
      from = at + length (ops_in w before)

      mets : List PlainOp
      mets = met_ops counter m.operator m.ty (at + length (ops_in w before)) left words

      f : Given
      f = g ++ given_of (moved here (ops_in w before) ++ met_ops counter m.operator m.ty (at + length (ops_in w before)) left words)

      stands : ℕ
      stands = at + length (ops_in w before) + length (met_ops counter m.operator m.ty (at + length (ops_in w before)) left words) - 1

      place : ℕ → ℕ
      place = λ k. if nat_le ended k then (at + length (ops_in w before) + length (met_ops counter m.operator m.ty (at + length (ops_in w before)) left words) - 1) + (k - ended) else here k

      moves_right : are_operations_right_after lanes inside g (moved here (ops_in w before)) ≡ true
      moves_right = ap (λ (x : Given). are_operations_right_after lanes inside x (moved here (ops_in w before))) (sym (append_none g))
          ∙ moved_right core lanes around inside w h b g here same [] before (ap (λ (x : Given). are_operations_right_after core around x before) (append_none b) ∙ right_before)

      given_moves : given_of (moved here (ops_in w before)) ≡ given_of before
      given_moves = moved_given w here before

      from_is : at + length (ops_in w before) ≡ length (g ++ given_of (moved here (ops_in w before)))
      from_is = omega (arith, same_at, length-map before (op_in w), length-append g (given_of (moved here (ops_in w before))), ap (λ (x : Given). length x) given_moves, given_length before)

      mets_right : (are_operations_right_after lanes inside (g ++ given_of (moved here (ops_in w before))) (met_ops counter m.operator m.ty (at + length (ops_in w before)) left words) ≡ true)
          × (gives ((g ++ given_of (moved here (ops_in w before))) ++ given_of (met_ops counter m.operator m.ty (at + length (ops_in w before)) left words)) (at + length (ops_in w before) + length (met_ops counter m.operator m.ty (at + length (ops_in w before)) left words) - 1) m.ty ≡ true)
      mets_right = met_right lanes inside counter m.operator m.ty plain words (at + length (ops_in w before)) left (g ++ given_of (moved here (ops_in w before))) from_is
          (ap (λ (x : Given). gives (g ++ x) left m.ty) given_moves ∙ at_left) (met_more g (given_of (moved here (ops_in w before))) m.ty words met) (next some)
        where
          next : (1 ≤ length words) ⊎ (suc left ≡ at + length before) → (1 ≤ length words) ⊎ (suc left ≡ at + length (ops_in w before))
          next (inl one) = inl one
          next (inr e) = inr (omega (arith, e, length-map before (op_in w)))

      at_meeting : gives f stands m.ty ≡ true
      at_meeting = subst (λ (x : Given). gives x stands m.ty ≡ true) (whole g moves mets) mets_right.1

      there : suc stands ≡ length f
      there = (let lt : stands < length f = gives_less f stands m.ty at_meeting in
          let e : length (g ++ given_of (moves ++ mets)) ≡ length g + length (given_of (moves ++ mets)) = length-append g (given_of (moves ++ mets)) in
          let n : length (given_of (moves ++ mets)) ≡ length moves + length mets = given_length (moves ++ mets) ∙ length-append moves mets in
          let k : length moves ≡ length (ops_in w before) = length-map (ops_in w before) (moved_op here) in
          omega (arith, lt, e, n, k, same_at))

      in_front : (k : ℕ) (t : Ty) → k < ended → gives bound k t ≡ true → gives f (here k) t ≡ true
      in_front k t lt e = subst (λ (x : Given). gives x (here k) t ≡ true) (whole g moves mets)
          (gives_kept (g ++ given_of moves) (given_of mets) (here k) t (ap (λ (x : Given). gives (g ++ x) (here k) t) given_moves ∙ same (given_of before) k t (front k t lt e)))

      rest_right : are_operations_right_after lanes inside f (moved place (ops_in w after)) ≡ true
      rest_right = ap (λ (x : Given). are_operations_right_after lanes inside x (moved place (ops_in w after))) (sym (append_none f))
          ∙ moved_right core lanes around inside w h bound f place (place_after bound f here ended stands m.ty long there at_end at_meeting in_front) [] after
          (ap (λ (x : Given). are_operations_right_after core around x after) (append_none bound) ∙ right_after)
