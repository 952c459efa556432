-- How many operations the lanes of a body have.
use Rattle.std.proofs.Common.{◌≡◌, ℕ, zero, suc, ◌+◌, ◌-◌, ◌*◌, ◌≤◌, Bool, true, false, List, [], ◌∷◌, ◌++◌, length, take, drop, Option, None, Some, refl, sym, subst, arith, if◌then◌else◌, length-append}
use Rattle.std.proofs.lemmas.List.{length-map}
use Rattle.std.proofs.lemmas.Nat.{mul-le}
use Rattle.std.specs.Prelude.{nat_le, slice_index}
use Rattle.sp_words.specs.declared.kind.BinOp.{BinOp}
use Rattle.sp_words.specs.declared.types.Ty.{Ty}
use Rattle.sp_core.specs.PlainCore.{PlainOp}
use Rattle.sp_lanes.specs.Bodies.{masked, in_mask, at_places, Body, lane_from, lane_body, more_bodies, lane_bodies, nowhere, standing, all_ops}
use Rattle.sp_lanes.specs.Combined.{Meeting, meeting, count_up_to, is_choice, moved, moved_place, met_ops, without_first, first_place, first_places, last_op, after_joined, meeting_in_order, in_order, combined, laned_ops}
use Rattle.sp_lanes.specs.Joined.{LaneWord, Round, is_balanced, lane_words, joined_by, one_round, rounds}
use Rattle.sp_lanes.specs.Shared.{shared}
use Rattle.sp_lanes.specs.Within.{Within, op_in, ops_in}

pub if_size : (b : Bool) (xs ys : List PlainOp) (k : ℕ) → length xs ≤ k → length ys ≤ k → length (if b then xs else ys) ≤ k
if_size true xs ys k h l = h
if_size false xs ys k h l = l

masked_size : (live at : ℕ) (k : Option ℕ) (op : PlainOp) → length (masked live at k op) ≤ 2
masked_size live at None op = omega arith
masked_size live at (Some k) op = omega arith

mask_size : (live at : ℕ) (m : Option ℕ) (op : PlainOp) → length (in_mask live at m op) ≤ 2
mask_size live at None op = omega arith
mask_size live at (Some m) op = masked_size live at op.mask op

from_size : (w : Within) (live at : ℕ) (places : List ℕ) (ops : List PlainOp) (others : List (Option ℕ)) → length (lane_from w live at places ops others).ops ≤ 2 * length ops
from_size w live at places [] others = omega arith
from_size w live at places (op ∷ ops) [] = omega arith
from_size w live at places (op ∷ ops) (Some p ∷ others) = omega (arith, from_size w live at (places ++ p ∷ []) ops others)
from_size w live at places (op ∷ ops) (None ∷ others) =
    let new : List PlainOp = in_mask live at op.mem (at_places places (op_in w op)) in
    let next : ℕ = at + length new in
    omega (arith, mask_size live at op.mem (at_places places (op_in w op)), from_size w live next (places ++ (next - 1) ∷ []) ops others, length-append new (lane_from w live next (places ++ (next - 1) ∷ []) ops others).ops)

module _ (counter : ℕ) (in_lane : ℕ → Within) (body : List PlainOp) where
  body_size : (l at : ℕ) (others : List (Option ℕ)) → length (lane_body counter in_lane body l at others).ops ≤ 1 + 2 * length body
  body_size l at others = omega (arith, from_size (in_lane l) at (suc at) [] body others)

  more_size : (l more at : ℕ) (others : List (Option ℕ)) → length (all_ops (more_bodies counter in_lane body l more at others)) ≤ more * (1 + 2 * length body)
  more_size l zero at others = omega arith
  more_size l (suc more) at others =
      let b : Body = lane_body counter in_lane body l at others in
      omega (arith, body_size l at others, more_size (suc l) more (at + length b.ops) others, length-append b.ops (all_ops (more_bodies counter in_lane body (suc l) more (at + length b.ops) others)))

  more_count : (l more at : ℕ) (others : List (Option ℕ)) → length (more_bodies counter in_lane body l more at others) ≡ more
  more_count l zero at others = refl
  more_count l (suc more) at others = omega (arith, more_count (suc l) more (at + length (lane_body counter in_lane body l at others).ops) others)

  pub bodies_size : (own : List ℕ) (lanes : ℕ) → 1 ≤ lanes → length (all_ops (lane_bodies counter in_lane body own lanes)) ≤ lanes * (1 + 2 * length body)
  bodies_size own lanes h =
      let first : Body = lane_body counter in_lane body 0 0 (nowhere body) in
      let others : List (Option ℕ) = standing (shared counter own body body) first.places in
      let more : ℕ = lanes - 1 in
      let e : lanes ≡ suc more = omega (arith, h) in
      subst (λ n. length (all_ops (lane_bodies counter in_lane body own lanes)) ≤ n * (1 + 2 * length body)) (sym e)
      (omega (arith, body_size 0 0 (nowhere body), more_size 1 more (length first.ops) others, length-append first.ops (all_ops (more_bodies counter in_lane body 1 more (length first.ops) others))))

  pub bodies_count : (own : List ℕ) (lanes : ℕ) → 1 ≤ lanes → length (lane_bodies counter in_lane body own lanes) ≡ lanes
  bodies_count own lanes h =
      let first : Body = lane_body counter in_lane body 0 0 (nowhere body) in
      omega (arith, h, more_count 1 (lanes - 1) (length first.ops) (standing (shared counter own body body) first.places))

words_count : (l word : ℕ) (bodies : List Body) → length (lane_words l word bodies) ≡ length bodies
words_count l word [] = refl
words_count l word (b ∷ bodies) = omega (arith, words_count (suc l) word bodies)

module _ (counter : ℕ) (op : BinOp) (ty : Ty) where
  joined_size : (m : Option ℕ) (at : ℕ) (left right : LaneWord) → length (joined_by counter op ty m at left right) ≤ 3
  joined_size (Some mask) at left right = omega arith
  joined_size None at left right = omega arith

  round_size : (at : ℕ) (words : List LaneWord) → length (one_round counter op ty at words).ops + 3 * length (one_round counter op ty at words).words ≤ 3 * length words
  round_size at [] = omega arith
  round_size at (w ∷ []) = omega arith
  round_size at (left ∷ right ∷ words) =
      let ops : List PlainOp = joined_by counter op ty right.mask at left right in
      omega (arith, joined_size right.mask at left right, round_size (at + length ops) words, length-append ops (one_round counter op ty (at + length ops) words).ops)

  rounds_size : (count at : ℕ) (words : List LaneWord) → length (rounds counter op ty count at words).ops + 3 * length (rounds counter op ty count at words).words ≤ 3 * length words
  rounds_size zero at words = omega arith
  rounds_size (suc count) at words =
      let r : Round = one_round counter op ty at words in
      omega (arith, round_size at words, rounds_size count (at + length r.ops) r.words, length-append r.ops (rounds counter op ty count (at + length r.ops) r.words).ops)

  met_size : (at left : ℕ) (words : List LaneWord) → length (met_ops counter op ty at left words) ≡ 2 * length words
  met_size at left [] = refl
  met_size at left (w ∷ words) = omega (arith, met_size (at + 2) (at + 1) words)

moved_size : (place : ℕ → ℕ) (ops : List PlainOp) → length (moved place ops) ≡ length ops
moved_size place [] = refl
moved_size place (op ∷ ops) = omega (arith, moved_size place ops)

parts_size : (a b : ℕ) (xs : List PlainOp) → a ≤ b → length (take a xs) + length (drop b xs) ≤ length xs
parts_size zero b xs h = most b xs
  where
    most : (b : ℕ) (xs : List PlainOp) → length {A = PlainOp} [] + length (drop b xs) ≤ length xs
    most zero xs = omega arith
    most (suc b) [] = omega arith
    most (suc b) (x ∷ xs) = omega (arith, most b xs)
parts_size (suc a) zero xs h = absurd (omega (arith, h))
parts_size (suc a) (suc b) [] h = omega arith
parts_size (suc a) (suc b) (x ∷ xs) h = omega (arith, parts_size a b xs (omega (arith, h)))

module _ (counter first : ℕ) (bodies : List Body) where
  joined_all : (at : ℕ) (m : Meeting) (words : List LaneWord) (comb : List PlainOp) → length (after_joined counter first bodies at m words comb) ≤ 3 * length words + length comb
  joined_all at m words comb =
      let joined : Round = rounds counter m.operator m.ty (length words) at words in
      let place : ℕ → ℕ = moved_place first (at + length joined.ops) m.word (first_place joined.words) (first_places bodies) in
      omega (arith, rounds_size counter m.operator m.ty (length words) at words, moved_size place comb, length-append joined.ops (moved place comb))

  meeting_size : (at : ℕ) (m : Meeting) (here : ℕ → ℕ) (before : List PlainOp) (left : ℕ) (words : List LaneWord) (ended : ℕ) (after : List PlainOp)
      → length (meeting_in_order counter first bodies at m here before left words ended after) ≤ length before + 2 * length words + length after
  meeting_size at m here before left words ended after =
      let met : List PlainOp = met_ops counter m.operator m.ty (at + length before) left words in
      let stands : ℕ = at + length before + length met - 1 in
      let place : ℕ → ℕ = λ k. if nat_le ended k then stands + (k - ended) else here k in
      omega (
        arith,
        met_size counter m.operator m.ty (at + length before) left words,
        moved_size here before,
        moved_size place after,
        length-append (moved here before ++ met) (moved place after),
        length-append (moved here before) met,
      )

  without_size : (words : List LaneWord) → length (without_first words) ≤ length words
  without_size [] = omega arith
  without_size (w ∷ words) = omega arith

  in_order_size : (at : ℕ) (m : Meeting) (words : List LaneWord) (comb : List PlainOp) → length (in_order counter first bodies at m words comb) ≤ 2 * length words + length comb
  in_order_size at m words comb =
      let count : ℕ = count_up_to m.word comb in
      let here : ℕ → ℕ = moved_place first at m.word (first_place words) (first_places bodies) in
      let last : PlainOp = last_op (take count comb) in
      if_size (is_choice last.kind) (meeting_in_order counter first bodies at m here (take count comb) (at + count - 1) (without_first words) (first + count - 1) (drop count comb))
      (meeting_in_order counter first bodies at m here (take (count - 1) comb) (here (slice_index last.args 0)) words (first + count - 1) (drop count comb)) (2 * length words + length comb)
      (omega (arith, meeting_size at m here (take count comb) (at + count - 1) (without_first words) (first + count - 1) (drop count comb), without_size words, parts_size count count comb (omega arith)))
      (omega (arith, meeting_size at m here (take (count - 1) comb) (here (slice_index last.args 0)) words (first + count - 1) (drop count comb), parts_size (count - 1) count comb (omega arith)))

  combined_size : (comb : List PlainOp) → length (combined counter first bodies comb) ≤ 3 * length bodies + length comb
  combined_size comb =
      let m : Meeting = meeting comb in
      let words : List LaneWord = lane_words 0 m.word bodies in
      let at : ℕ = length (all_ops bodies) in
      if_size (is_balanced m.operator m.ty) (after_joined counter first bodies at m words comb) (in_order counter first bodies at m words comb) (3 * length bodies + length comb)
      (omega (arith, joined_all at m words comb, words_count 0 m.word bodies)) (omega (arith, in_order_size at m words comb, words_count 0 m.word bodies))

pub ops_size : (w : Within) (ops : List PlainOp) → length (ops_in w ops) ≡ length ops
ops_size w ops = length-map ops (op_in w)

-- a body in all lanes, without and with a combination
pub plain_size : (counter : ℕ) (in_lane : ℕ → Within) (own : List ℕ) (lanes : ℕ) (ops : List PlainOp) → 1 ≤ lanes → length (laned_ops counter in_lane own lanes ops None) ≤ lanes * (1 + 2 * length ops)
plain_size counter in_lane own lanes ops h = bodies_size counter in_lane ops own lanes h

pub laned_size : (counter : ℕ) (in_lane : ℕ → Within) (own : List ℕ) (lanes : ℕ) (ops : List PlainOp) (at : ℕ) → 1 ≤ lanes → length (laned_ops counter in_lane own lanes ops (Some at)) ≤ lanes * (4 + 3 * length ops)
laned_size counter in_lane own lanes ops at h =
    let body : List PlainOp = take at ops in
    let bodies : List Body = lane_bodies counter in_lane body own lanes in
    let comb : List PlainOp = ops_in (in_lane 0) (drop at ops) in
    let parts : length body + length (drop at ops) ≤ length ops = parts_size at at ops (omega arith) in
    let some : length ops ≤ lanes * length ops = omega (arith, mul-le 1 (length ops) lanes (length ops) h (omega arith)) in
    let front : lanes * length body ≤ lanes * length ops = mul-le lanes (length body) lanes (length ops) (omega arith) (omega (arith, parts)) in
    omega (
      arith,
      bodies_size counter in_lane body own lanes h,
      bodies_count counter in_lane body own lanes h,
      combined_size counter at bodies comb,
      ops_size (in_lane 0) (drop at ops),
      length-append (all_ops bodies) (combined counter at bodies comb),
      parts,
      some,
      front,
    )
