-- A combination after all lanes, by an operator that is balanced, keeps the rules of cores.
use Rattle.std.proofs.Common.{◌≡◌, ℕ, zero, suc, ◌+◌, ◌-◌, ◌<◌, ◌≤◌, Bool, true, false, cond, List, [], ◌∷◌, ◌++◌, length, map, take, drop, Option, Some, None, refl, sym, ◌∙◌, ap, subst, arith, ◌==◌, nat_le}
use Rattle.std.proofs.lemmas.Bool.{and_parts, and_from, true≢false, leb-true, eqb-true, leb-false}
use Rattle.std.proofs.lemmas.List.{append_assoc, length-append, take-append-drop}
use Rattle.std.specs.Prelude.{option_map, slice_index, slice_index_or, if◌then◌else◌}
use Rattle.sp_words.specs.declared.kind.BinOp.{BinOp}
use Rattle.sp_words.specs.declared.kind.BinOp.TheVariants as binary
use Rattle.sp_words.specs.declared.types.Ty.{Ty}
use Rattle.sp_words.specs.declared.types.Ty.TheVariants.{Bit}
use Rattle.sp_core.specs.declared.operation.OpKind.{OpKind}
use Rattle.sp_core.specs.declared.operation.OpKind.TheVariants.{Word, Count, Live, Read, Write, Enq, Deq, Reset, One, Two, Shift, Mux, Cast}
use Rattle.sp_core.specs.Around.{Around, has_lane}
use Rattle.sp_core.specs.OperationRules.{is_mask, is_operation_right, are_operations_right_after, are_operations_right}
use Rattle.sp_core.specs.PlainCore.{PlainOp, PlainCore}
use Rattle.sp_core.specs.Typed.{Given, is_comparison, given_type, gives, give_all}
use Rattle.sp_lanes.specs.Bodies.{Body, lane_body, more_bodies, lane_bodies, standing, nowhere, all_ops}
use Rattle.sp_lanes.specs.Combined.{Meeting, meeting, moved, moved_place, first_place, first_places, after_joined, in_order, combined, laned_ops}
use Rattle.sp_lanes.specs.Joined.{LaneWord, Round, is_balanced, lane_words, rounds}
use Rattle.sp_lanes.specs.Shared.{shared}
use Rattle.sp_lanes.specs.Within.{Within, kind_in, ops_in}
use Rattle.sp_lane_rules.specs.UnrolledMeetings.{given_of, IsBalancedFrom}
use Rattle.sp_lane_rules.specs.UnrolledPlaces.{GoTogether}
use Rattle.sp_lane_rules.proofs.UnrolledGivens.{append_none, given_length, Placed, placed_more, placed_gives, after_both, gives_kept, gives_past}
use Rattle.sp_lane_rules.proofs.UnrolledJoins.{AreWords, rounds_right, rounds_some, first_gives, bodies_words}
use Rattle.sp_lane_rules.proofs.UnrolledLaneBodies.{AllPlaced, lane_bodies_right}
use Rattle.sp_lane_rules.proofs.UnrolledLists.{operation_from, mask_of, given_kept}
use Rattle.sp_lane_rules.proofs.UnrolledTypesAlike.{given_like}

-- a lane changes no operator
module _ (w : Within) where
  meeting_step : (kind : OpKind) (ty : Ty) (args : List ℕ) (x y : Meeting) → x ≡ y
      → elim (kind_in w kind) as (λ _. Meeting) [ Two o ↦ record { operator = o; ty = ty; word = slice_index args 1 } | _ ↦ x ]
      ≡ elim kind as (λ _. Meeting) [ Two o ↦ record { operator = o; ty = ty; word = slice_index args 1 } | _ ↦ y ]
  meeting_step (Word n) ty args x y e = e
  meeting_step (Count c l) ty args x y e = e
  meeting_step (Live c f l) ty args x y e = e
  meeting_step Read ty args x y e = e
  meeting_step Write ty args x y e = e
  meeting_step Enq ty args x y e = e
  meeting_step Deq ty args x y e = e
  meeting_step Reset ty args x y e = e
  meeting_step (One o) ty args x y e = e
  meeting_step (Two o) ty args x y e = refl
  meeting_step (Shift l by) ty args x y e = e
  meeting_step Mux ty args x y e = e
  meeting_step (Cast to) ty args x y e = e

  meeting_kept : (ops : List PlainOp) → meeting (ops_in w ops) ≡ meeting ops
  meeting_kept [] = refl
  meeting_kept (op ∷ ops) = meeting_step op.kind op.ty op.args (meeting (ops_in w ops)) (meeting ops) (meeting_kept ops)

balanced_plain : (o : BinOp) (ty : Ty) → is_balanced o ty ≡ true → is_comparison o ≡ false
balanced_plain binary.Lt ty e = absurd (true≢false (sym e))
balanced_plain binary.Le ty e = absurd (true≢false (sym e))
balanced_plain binary.Gt ty e = absurd (true≢false (sym e))
balanced_plain binary.Ge ty e = absurd (true≢false (sym e))
balanced_plain binary.Eq ty e = absurd (true≢false (sym e))
balanced_plain binary.Ne ty e = absurd (true≢false (sym e))
balanced_plain _ ty e = refl

gives_front : (g x : Given) (k : ℕ) (ty : Ty) → k < length g → gives (g ++ x) k ty ≡ true → gives g k ty ≡ true
gives_front [] x k ty lt e = absurd (omega arith)
gives_front (t ∷ g) x zero ty lt e = e
gives_front (t ∷ g) x (suc k) ty lt e = gives_front g x k ty (omega arith) e

module _ (core lanes : PlainCore) (around inside : Around) (w : Within) (h : GoTogether core lanes around inside w) where
  -- operations whose operands stand at other places, where the same is given
  module _ (b f : Given) (place : ℕ → ℕ) (same : (done : Given) (k : ℕ) (ty : Ty) → gives (b ++ done) k ty ≡ true → gives (f ++ done) (place k) ty ≡ true) where
    moved_args : (done : Given) (args : List ℕ) (types : List Ty) → give_all (b ++ done) args types ≡ true → give_all (f ++ done) (map place args) types ≡ true
    moved_args done [] [] e = refl
    moved_args done (a ∷ args) (ty ∷ types) e =
        let p = and_parts (gives (b ++ done) a ty) (give_all (b ++ done) args types) e in
        and_from _ _ (same done a ty p.0) (moved_args done args types p.1)
    moved_args done [] (ty ∷ types) e = absurd (true≢false (sym e))
    moved_args done (a ∷ args) [] e = absurd (true≢false (sym e))

    moved_mask : (done : Given) (m : Option ℕ) → is_mask core around (b ++ done) m ≡ true → is_mask lanes inside (f ++ done) (option_map place m) ≡ true
    moved_mask done None e = refl
    moved_mask done (Some m) e = same done m Bit e

    moved_right : (done : Given) (ops : List PlainOp) → are_operations_right_after core around (b ++ done) ops ≡ true → are_operations_right_after lanes inside (f ++ done) (moved place (ops_in w ops)) ≡ true
    moved_right done [] e = refl
    moved_right done (op ∷ ops) e =
        let a = and_parts (is_operation_right core around (b ++ done) op) (are_operations_right_after core around ((b ++ done) ++ given_type op.kind op.ty ∷ []) ops) e in
        and_from _ _ (operation_from core lanes around inside w h op (b ++ done) (f ++ done) (map place op.args) (option_map place op.mask) a.0 (λ types x. moved_args done op.args types x)
        (moved_mask done op.mask (mask_of core lanes around inside w h op (b ++ done) a.0)))
        (ap (λ (x : Given). are_operations_right_after lanes inside x (moved place (ops_in w ops))) (append_assoc f done (given_type (kind_in w op.kind) op.ty ∷ []) ∙ ap (λ t. f ++ (done ++ t ∷ [])) (given_kept w op.kind op.ty))
        ∙ moved_right (done ++ given_type op.kind op.ty ∷ []) ops (ap (λ (x : Given). are_operations_right_after core around x ops) (sym (append_assoc b done (given_type op.kind op.ty ∷ []))) ∙ a.1))

  -- the places of a combination: the joined word's, those of the combination, and those of lane 0
  place_same : (b f : Given) (word to : ℕ) (ty : Ty) (places : List ℕ) → gives b word ty ≡ true → gives f to ty ≡ true → Placed f places b
      → (done : Given) (k : ℕ) (t : Ty) → gives (b ++ done) k t ≡ true → gives (f ++ done) (moved_place (length b) (length f) word to places k) t ≡ true
  place_same b f word to ty places at_word at_to placed done k t e = by (k == word) refl
    where
      past : (c : Bool) → nat_le (length b) k ≡ c → gives (f ++ done) (cond c (length f + (k - length b)) (slice_index places k)) t ≡ true
      past true i = gives_past b f done (k - length b) t (ap (λ n. gives (b ++ done) n t) {x = length b + (k - length b)} {y = k} (let le : length b ≤ k = leb-true (length b) k i in omega arith) ∙ e)
      past false i = gives_kept f done (slice_index places k) t (placed_gives f places b k t placed (gives_front b done k t (leb-false (length b) k i) e))

      by : (c : Bool) → (k == word) ≡ c → gives (f ++ done) (cond c to (cond (nat_le (length b) k) (length f + (k - length b)) (slice_index places k))) t ≡ true
      by true i = given_like (slice_index_or (b ++ done) word None) (slice_index_or (f ++ done) to None) ty t (gives_kept b done word ty at_word) (ap (λ n. gives (b ++ done) n t) (sym (eqb-true k word i)) ∙ e) (gives_kept f done to ty at_to)
      by false i = past (nat_le (length b) k) refl

-- a list that is right is right up to a place and from there on
split_after : (core : PlainCore) (around : Around) (g : Given) (xs ys : List PlainOp) → are_operations_right_after core around g (xs ++ ys) ≡ true
    → (are_operations_right_after core around g xs ≡ true) × (are_operations_right_after core around (g ++ given_of xs) ys ≡ true)
split_after core around g [] ys e = (refl, ap (λ (x : Given). are_operations_right_after core around x ys) (append_none g) ∙ e)
split_after core around g (x ∷ xs) ys e =
    let a = and_parts (is_operation_right core around g x) (are_operations_right_after core around (g ++ given_type x.kind x.ty ∷ []) (xs ++ ys)) e in
    let r = split_after core around (g ++ given_type x.kind x.ty ∷ []) xs ys a.1 in
    (and_from _ _ a.0 r.0, ap (λ (z : Given). are_operations_right_after core around z ys) (sym (append_assoc g (given_type x.kind x.ty ∷ []) (given_of xs))) ∙ r.1)

more_length : (counter : ℕ) (lane : ℕ → Within) (body : List PlainOp) (l more at : ℕ) (others : List (Option ℕ)) → length (more_bodies counter lane body l more at others) ≡ more
more_length counter lane body l zero at others = refl
more_length counter lane body l (suc more) at others = ap suc (more_length counter lane body (suc l) more (at + length (lane_body counter lane body l at others).ops) others)

words_length : (l word : ℕ) (bodies : List Body) → length (lane_words l word bodies) ≡ length bodies
words_length l word [] = refl
words_length l word (b ∷ bodies) = ap suc (words_length (suc l) word bodies)

module _ (core lanes : PlainCore) (around inside : Around) (counter : ℕ) (lane : ℕ → Within) (p : ℕ)
    (h : (l : ℕ) → l < p → GoTogether core lanes around inside (lane l)) (there : (l : ℕ) → l < p → has_lane inside.counters counter l ≡ true) (one : 1 ≤ p) where
  pub balanced_right : (own : List ℕ) (ops : List PlainOp) (first : ℕ) → IsBalancedFrom first ops → are_operations_right core around ops ≡ true → are_operations_right lanes inside (laned_ops counter lane own p ops (Some first)) ≡ true
  balanced_right own ops first balanced right = after_both lanes inside [] (all_ops bodies) (combined counter first bodies (ops_in (lane 0) (drop first ops))) placed.0 joined
    where
      body : List PlainOp
      body = take first ops

      bodies : List Body
      bodies = lane_bodies counter lane (take first ops) own p

      at : ℕ
      at = length (all_ops (lane_bodies counter lane (take first ops) own p))

      g : Given
      g = given_of (all_ops (lane_bodies counter lane (take first ops) own p))

      m : Meeting
      m = meeting (drop first ops)

      parts : (are_operations_right_after core around [] (take first ops) ≡ true) × (are_operations_right_after core around (given_of (take first ops)) (drop first ops) ≡ true)
      parts = split_after core around [] (take first ops) (drop first ops) (ap (are_operations_right_after core around []) (take-append-drop first ops) ∙ right)

      placed : (are_operations_right_after lanes inside [] (all_ops (lane_bodies counter lane (take first ops) own p)) ≡ true)
          × AllPlaced (given_of (all_ops (lane_bodies counter lane (take first ops) own p))) (take first ops) (lane_bodies counter lane (take first ops) own p)
      placed = lane_bodies_right core lanes around inside counter lane (take first ops) p h there parts.0 own one

      words : List LaneWord
      words = lane_words 0 m.word bodies

      long : length bodies ≡ p
      long = (let a : length (more_bodies counter lane (take first ops) 1 (p - 1) (length (lane_body counter lane (take first ops) 0 0 (nowhere (take first ops))).ops) (standing (shared counter own (take first ops) (take first ops)) (lane_body counter lane (take first ops) 0 0 (nowhere (take first ops))).places)) ≡ p - 1
          = more_length counter lane (take first ops) 1 (p - 1) _ _ in omega (arith, a))

      plain : is_comparison m.operator ≡ false
      plain = balanced_plain m.operator m.ty balanced.balanced

      are_words : AreWords lanes inside counter m.operator m.ty p plain there g 0 words
      are_words = bodies_words lanes inside counter m.operator m.ty p plain there 0 m.word g body bodies placed.1 balanced.word (omega (arith, long))

      round : Round
      round = rounds counter m.operator m.ty (length words) at words

      rounds_ok : (are_operations_right_after lanes inside g round.ops ≡ true) × AreWords lanes inside counter m.operator m.ty p plain there (g ++ given_of round.ops) 0 round.words
      rounds_ok = rounds_right lanes inside counter m.operator m.ty p plain there (length words) at 0 words g (sym (given_length (all_ops bodies))) are_words

      some : 1 ≤ length round.words
      some = rounds_some lanes inside counter m.operator m.ty p plain there (length words) at words (omega (arith, words_length 0 m.word bodies, long))

      f : Given
      f = g ++ given_of round.ops

      first_is : length (given_of body) ≡ first
      first_is = given_length body ∙ shortened first ops balanced.inside
        where
          shortened : (n : ℕ) (xs : List PlainOp) → n ≤ length xs → length (take n xs) ≡ n
          shortened zero [] le = refl
          shortened zero (x ∷ xs) le = refl
          shortened (suc n) [] le = absurd (omega arith)
          shortened (suc n) (x ∷ xs) le = ap suc (shortened n xs (omega arith))

      from_is : length f ≡ at + length round.ops
      from_is = omega (arith, length-append g (given_of round.ops), given_length (all_ops bodies), given_length round.ops)

      after : are_operations_right_after lanes inside f (moved (moved_place first (at + length round.ops) m.word (first_place round.words) (first_places bodies)) (ops_in (lane 0) (drop first ops))) ≡ true
      after =
          ap (λ n. are_operations_right_after lanes inside f (moved (moved_place n (at + length round.ops) m.word (first_place round.words) (first_places bodies)) (ops_in (lane 0) (drop first ops)))) (sym first_is)
          ∙ ap (λ n. are_operations_right_after lanes inside f (moved (moved_place (length (given_of body)) n m.word (first_place round.words) (first_places bodies)) (ops_in (lane 0) (drop first ops)))) (sym from_is)
          ∙ ap (λ (x : Given). are_operations_right_after lanes inside x (moved (moved_place (length (given_of body)) (length f) m.word (first_place round.words) (first_places bodies)) (ops_in (lane 0) (drop first ops)))) (sym (append_none f))
          ∙ moved_right core lanes around inside (lane 0) (h 0 one) (given_of body) f (moved_place (length (given_of body)) (length f) m.word (first_place round.words) (first_places bodies))
          (place_same core lanes around inside (lane 0) (h 0 one) (given_of body) f m.word (first_place round.words) m.ty (first_places bodies) balanced.word
          (first_gives lanes inside counter m.operator m.ty p plain there f 0 round.words some rounds_ok.1) (placed_more g (given_of round.ops) (first_places bodies) (given_of body) placed.1.1))
          [] (drop first ops) (ap (λ (x : Given). are_operations_right_after core around x (drop first ops)) (append_none (given_of body)) ∙ parts.1)

      joined : are_operations_right_after lanes inside g (combined counter first bodies (ops_in (lane 0) (drop first ops))) ≡ true
      joined = subst (λ (n : Meeting). are_operations_right_after lanes inside g (if is_balanced n.operator n.ty then after_joined counter first bodies at n (lane_words 0 n.word bodies) (ops_in (lane 0) (drop first ops))
          else in_order counter first bodies at n (lane_words 0 n.word bodies) (ops_in (lane 0) (drop first ops))) ≡ true) (sym (meeting_kept (lane 0) (drop first ops)))
          (ap (λ b. are_operations_right_after lanes inside g (if b then after_joined counter first bodies at m words (ops_in (lane 0) (drop first ops)) else in_order counter first bodies at m words (ops_in (lane 0) (drop first ops)))) balanced.balanced
          ∙ after_both lanes inside g round.ops (moved (moved_place first (at + length round.ops) m.word (first_place round.words) (first_places bodies)) (ops_in (lane 0) (drop first ops))) rounds_ok.0 after)
