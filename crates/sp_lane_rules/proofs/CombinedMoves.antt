-- Operations whose operands stand at other places keep the rules of cores.
use Rattle.std.proofs.Common.{◌≡◌, ℕ, zero, suc, ◌+◌, ◌-◌, ◌<◌, ◌≤◌, Bool, true, false, cond, List, [], ◌∷◌, ◌++◌, length, map, Option, Some, None, refl, sym, ◌∙◌, ap, arith, ◌==◌, nat_le}
use Rattle.std.proofs.lemmas.Bool.{and_parts, and_from, true≢false, leb-true, eqb-true, leb-false}
use Rattle.std.proofs.lemmas.List.{append_assoc}
use Rattle.std.specs.Prelude.{option_map, slice_index, slice_index_or}
use Rattle.sp_words.specs.declared.types.Ty.{Ty}
use Rattle.sp_words.specs.declared.types.Ty.TheVariants.{Bit}
use Rattle.sp_core.specs.declared.operation.OpKind.{OpKind}
use Rattle.sp_core.specs.declared.operation.OpKind.TheVariants.{Word, Count, Live, Read, Write, Enq, Deq, Reset, One, Two, Shift, Mux, Cast}
use Rattle.sp_core.specs.Around.{Around}
use Rattle.sp_core.specs.OperationRules.{is_mask, is_operation_right, are_operations_right_after}
use Rattle.sp_core.specs.PlainCore.{PlainOp, PlainCore}
use Rattle.sp_core.specs.Typed.{Given, given_type, gives, give_all}
use Rattle.sp_lanes.specs.Combined.{Meeting, meeting, moved, moved_place}
use Rattle.sp_lanes.specs.Within.{Within, kind_in, ops_in}
use Rattle.sp_lane_rules.specs.UnrolledMeetings.{given_of}
use Rattle.sp_lane_rules.specs.UnrolledPlaces.{GoTogether}
use Rattle.sp_lane_rules.proofs.UnrolledGivens.{append_none, Placed, placed_gives, gives_kept, gives_past}
use Rattle.sp_lane_rules.proofs.UnrolledLists.{operation_from, mask_of, given_kept}
use Rattle.sp_lane_rules.proofs.UnrolledTypesAlike.{given_like}

-- a lane changes no operator
module _ (w : Within) where
  meeting_step : (kind : OpKind) (ty : Ty) (args : List ℕ) (x y : Meeting) → x ≡ y
      → elim (kind_in w kind) as (λ _. Meeting) [ Two o ↦ record { operator = o; ty = ty; word = slice_index args 1 } | _ ↦ x ]
      ≡ elim kind as (λ _. Meeting) [ Two o ↦ record { operator = o; ty = ty; word = slice_index args 1 } | _ ↦ y ]
  meeting_step (Word n) ty args x y e = e
  meeting_step (Count c l) ty args x y e = e
  meeting_step (Live c f l) ty args x y e = e
  meeting_step Read ty args x y e = e
  meeting_step Write ty args x y e = e
  meeting_step Enq ty args x y e = e
  meeting_step Deq ty args x y e = e
  meeting_step Reset ty args x y e = e
  meeting_step (One o) ty args x y e = e
  meeting_step (Two o) ty args x y e = refl
  meeting_step (Shift l by) ty args x y e = e
  meeting_step Mux ty args x y e = e
  meeting_step (Cast to) ty args x y e = e

  pub meeting_kept : (ops : List PlainOp) → meeting (ops_in w ops) ≡ meeting ops
  meeting_kept [] = refl
  meeting_kept (op ∷ ops) = meeting_step op.kind op.ty op.args (meeting (ops_in w ops)) (meeting ops) (meeting_kept ops)

pub gives_front : (g x : Given) (k : ℕ) (ty : Ty) → k < length g → gives (g ++ x) k ty ≡ true → gives g k ty ≡ true
gives_front [] x k ty lt e = absurd (omega arith)
gives_front (t ∷ g) x zero ty lt e = e
gives_front (t ∷ g) x (suc k) ty lt e = gives_front g x k ty (omega arith) e

module _ (core lanes : PlainCore) (around inside : Around) (w : Within) (h : GoTogether core lanes around inside w) where
  -- operations whose operands stand at other places, where the same is given
  module _ (b f : Given) (place : ℕ → ℕ) (same : (done : Given) (k : ℕ) (ty : Ty) → gives (b ++ done) k ty ≡ true → gives (f ++ done) (place k) ty ≡ true) where
    moved_args : (done : Given) (args : List ℕ) (types : List Ty) → give_all (b ++ done) args types ≡ true → give_all (f ++ done) (map place args) types ≡ true
    moved_args done [] [] e = refl
    moved_args done (a ∷ args) (ty ∷ types) e =
        let p = and_parts (gives (b ++ done) a ty) (give_all (b ++ done) args types) e in
        and_from _ _ (same done a ty p.0) (moved_args done args types p.1)
    moved_args done [] (ty ∷ types) e = absurd (true≢false (sym e))
    moved_args done (a ∷ args) [] e = absurd (true≢false (sym e))

    moved_mask : (done : Given) (m : Option ℕ) → is_mask core around (b ++ done) m ≡ true → is_mask lanes inside (f ++ done) (option_map place m) ≡ true
    moved_mask done None e = refl
    moved_mask done (Some m) e = same done m Bit e

    pub moved_right : (done : Given) (ops : List PlainOp) → are_operations_right_after core around (b ++ done) ops ≡ true → are_operations_right_after lanes inside (f ++ done) (moved place (ops_in w ops)) ≡ true
    moved_right done [] e = refl
    moved_right done (op ∷ ops) e =
        let a = and_parts (is_operation_right core around (b ++ done) op) (are_operations_right_after core around ((b ++ done) ++ given_type op.kind op.ty ∷ []) ops) e in
        and_from _ _ (operation_from core lanes around inside w h op (b ++ done) (f ++ done) (map place op.args) (option_map place op.mask) a.0 (λ types x. moved_args done op.args types x)
        (moved_mask done op.mask (mask_of core lanes around inside w h op (b ++ done) a.0)))
        (ap (λ (x : Given). are_operations_right_after lanes inside x (moved place (ops_in w ops))) (append_assoc f done (given_type (kind_in w op.kind) op.ty ∷ []) ∙ ap (λ t. f ++ (done ++ t ∷ [])) (given_kept w op.kind op.ty))
        ∙ moved_right (done ++ given_type op.kind op.ty ∷ []) ops (ap (λ (x : Given). are_operations_right_after core around x ops) (sym (append_assoc b done (given_type op.kind op.ty ∷ []))) ∙ a.1))

  -- the places of a combination: the joined word's, those of the combination, and those of lane 0
  pub place_same : (b f : Given) (word to : ℕ) (ty : Ty) (places : List ℕ) → gives b word ty ≡ true → gives f to ty ≡ true → Placed f places b
      → (done : Given) (k : ℕ) (t : Ty) → gives (b ++ done) k t ≡ true → gives (f ++ done) (moved_place (length b) (length f) word to places k) t ≡ true
  place_same b f word to ty places at_word at_to placed done k t e = by (k == word) refl
    where
      past : (c : Bool) → nat_le (length b) k ≡ c → gives (f ++ done) (cond c (length f + (k - length b)) (slice_index places k)) t ≡ true
      past true i = gives_past b f done (k - length b) t (ap (λ n. gives (b ++ done) n t) {x = length b + (k - length b)} {y = k} (let le : length b ≤ k = leb-true (length b) k i in omega arith) ∙ e)
      past false i = gives_kept f done (slice_index places k) t (placed_gives f places b k t placed (gives_front b done k t (leb-false (length b) k i) e))

      by : (c : Bool) → (k == word) ≡ c → gives (f ++ done) (cond c to (cond (nat_le (length b) k) (length f + (k - length b)) (slice_index places k))) t ≡ true
      by true i = given_like (slice_index_or (b ++ done) word None) (slice_index_or (f ++ done) to None) ty t (gives_kept b done word ty at_word) (ap (λ n. gives (b ++ done) n t) (sym (eqb-true k word i)) ∙ e) (gives_kept f done to ty at_to)
      by false i = past (nat_le (length b) k) refl

-- a list that is right is right up to a place and from there on
pub split_after : (core : PlainCore) (around : Around) (g : Given) (xs ys : List PlainOp) → are_operations_right_after core around g (xs ++ ys) ≡ true
    → (are_operations_right_after core around g xs ≡ true) × (are_operations_right_after core around (g ++ given_of xs) ys ≡ true)
split_after core around g [] ys e = (refl, ap (λ (x : Given). are_operations_right_after core around x ys) (append_none g) ∙ e)
split_after core around g (x ∷ xs) ys e =
    let a = and_parts (is_operation_right core around g x) (are_operations_right_after core around (g ++ given_type x.kind x.ty ∷ []) (xs ++ ys)) e in
    let r = split_after core around (g ++ given_type x.kind x.ty ∷ []) xs ys a.1 in
    (and_from _ _ a.0 r.0, ap (λ (z : Given). are_operations_right_after core around z ys) (sym (append_assoc g (given_type x.kind x.ty ∷ []) (given_of xs))) ∙ r.1)
