-- Words of lanes that are joined, two at a time.
use Rattle.std.proofs.Common.{◌≡◌, ◌≤◌, ◌++◌, ◌+◌, ◌-◌, append_assoc, length-append, ℕ, suc, List, [], ◌∷◌, map, take, drop, get_or, length, Option, Some, None, arith, refl, sym, ap, ◌∙◌}
use Rattle.sp_words.specs.declared.kind.BinOp.{BinOp}
use Rattle.sp_words.specs.declared.types.Ty.{Ty}
use Rattle.sp_core.specs.PlainCore.{PlainOp}
use Rattle.sp_lanes.specs.Combined.{met_ops}
use Rattle.sp_lanes.specs.Joined.{LaneWord, Round, join_ops, joined_by, joined_word, one_round, rounds}
use Rattle.sp_unroll.specs.declared.joined.LaneWord as declared
use Rattle.sp_unroll.specs.Words.{plain_word, mask_or_zero}

module _ (counter : ℕ) (op : BinOp) (ty : Ty) where
  pub word_some : (at place mask : ℕ) (left right : LaneWord) → right.mask ≡ Some mask → place ≡ at + 1
      → record { place = place; first = left.first; last = right.last; mask = None } ≡ joined_word counter op ty at left right
  word_some at place mask left right e h =
      let p : place ≡ at + length (joined_by counter op ty (Some mask) at left right) - 1 = omega (arith, h) in
      ap (λ (k : ℕ). record { place = k; first = left.first; last = right.last; mask = None }) (p ∙ ap (λ (m : Option ℕ). at + length (joined_by counter op ty m at left right) - 1) (sym e))

  pub word_none : (at place : ℕ) (left right : LaneWord) → right.mask ≡ None → place ≡ at + 2
      → record { place = place; first = left.first; last = right.last; mask = None } ≡ joined_word counter op ty at left right
  word_none at place left right e h =
      let p : place ≡ at + length (joined_by counter op ty None at left right) - 1 = omega (arith, h) in
      ap (λ (k : ℕ). record { place = k; first = left.first; last = right.last; mask = None }) (p ∙ ap (λ (m : Option ℕ). at + length (joined_by counter op ty m at left right) - 1) (sym e))

  -- one more pair of a round
  pub round_ops : (out all end : List PlainOp) (l r : LaneWord) (words : List LaneWord) → all ≡ out ++ joined_by counter op ty r.mask (length out) l r
      → end ≡ all ++ (one_round counter op ty (length all) words).ops → end ≡ out ++ (one_round counter op ty (length out) (l ∷ r ∷ words)).ops
  round_ops out all end l r words e h =
      let new = joined_by counter op ty r.mask (length out) l r in
      let n : length all ≡ length out + length new = ap length e ∙ length-append out new in
      h ∙ ap (λ k. all ++ (one_round counter op ty k words).ops) n
      ∙ ap (λ x. x ++ (one_round counter op ty (length out + length new) words).ops) e
      ∙ append_assoc out new (one_round counter op ty (length out + length new) words).ops

  pub round_words : (out all : List PlainOp) (was mid end : List LaneWord) (l r : LaneWord) (words : List LaneWord) → all ≡ out ++ joined_by counter op ty r.mask (length out) l r
      → mid ≡ was ++ joined_word counter op ty (length out) l r ∷ [] → end ≡ mid ++ (one_round counter op ty (length all) words).words
      → end ≡ was ++ (one_round counter op ty (length out) (l ∷ r ∷ words)).words
  round_words out all was mid end l r words e f h =
      let new = joined_by counter op ty r.mask (length out) l r in
      let n : length all ≡ length out + length new = ap length e ∙ length-append out new in
      h ∙ ap (λ k. mid ++ (one_round counter op ty k words).words) n
      ∙ ap (λ x. x ++ (one_round counter op ty (length out + length new) words).words) f
      ∙ append_assoc was (joined_word counter op ty (length out) l r ∷ []) (one_round counter op ty (length out + length new) words).words

  -- one more round
  pub rounds_ops : (count left : ℕ) (out all end : List PlainOp) (words next : List LaneWord) → count ≡ suc left → all ≡ out ++ (one_round counter op ty (length out) words).ops
      → next ≡ (one_round counter op ty (length out) words).words → end ≡ all ++ (rounds counter op ty left (length all) next).ops
      → end ≡ out ++ (rounds counter op ty count (length out) words).ops
  rounds_ops count left out all end words next c e f h =
      let r : Round = one_round counter op ty (length out) words in
      let n : length all ≡ length out + length r.ops = ap length e ∙ length-append out r.ops in
      h ∙ ap (λ x. all ++ (rounds counter op ty left (length all) x).ops) f
      ∙ ap (λ k. all ++ (rounds counter op ty left k r.words).ops) n
      ∙ ap (λ x. x ++ (rounds counter op ty left (length out + length r.ops) r.words).ops) e
      ∙ append_assoc out r.ops (rounds counter op ty left (length out + length r.ops) r.words).ops
      ∙ sym (ap (λ k. out ++ (rounds counter op ty k (length out) words).ops) c)

  pub rounds_words : (count left : ℕ) (out all : List PlainOp) (words next end : List LaneWord) → count ≡ suc left → all ≡ out ++ (one_round counter op ty (length out) words).ops
      → next ≡ (one_round counter op ty (length out) words).words → end ≡ (rounds counter op ty left (length all) next).words
      → end ≡ (rounds counter op ty count (length out) words).words
  rounds_words count left out all words next end c e f h =
      let r : Round = one_round counter op ty (length out) words in
      let n : length all ≡ length out + length r.ops = ap length e ∙ length-append out r.ops in
      h ∙ ap (λ x. (rounds counter op ty left (length all) x).words) f
      ∙ ap (λ k. (rounds counter op ty left k r.words).words) n
      ∙ sym (ap (λ k. (rounds counter op ty k (length out) words).words) c)

  -- one more meeting
  pub met_more : (out all end : List PlainOp) (left met mask : ℕ) (w : LaneWord) (words : List LaneWord) → mask ≡ mask_or_zero w.mask → all ≡ out ++ join_ops counter op ty (length out) mask left w.place
      → met ≡ length out + 1 → end ≡ all ++ met_ops counter op ty (length all) met words → end ≡ out ++ met_ops counter op ty (length out) left (w ∷ words)
  met_more out all end left met mask w words m e p h =
      let new = λ (k : ℕ). join_ops counter op ty (length out) k left w.place in
      let n : length all ≡ length out + 2 = ap length e ∙ length-append out (new mask) in
      h ∙ ap (λ k. all ++ met_ops counter op ty k met words) n
      ∙ ap (λ k. all ++ met_ops counter op ty (length out + 2) k words) p
      ∙ ap (λ x. x ++ met_ops counter op ty (length out + 2) (length out + 1) words) e
      ∙ append_assoc out (new mask) (met_ops counter op ty (length out + 2) (length out + 1) words)
      ∙ ap (λ k. out ++ (new k ++ met_ops counter op ty (length out + 2) (length out + 1) words)) m

-- the words after the first one, and the first two
all_of : (xs : List declared.LaneWord) → take (length xs) xs ≡ xs
all_of [] = refl
all_of (x ∷ xs) = ap (λ l. x ∷ l) (all_of xs)

tail_of : (x : declared.LaneWord) (xs : List declared.LaneWord) → take (length (x ∷ xs) - 1) (drop 1 (x ∷ xs)) ≡ xs
tail_of x [] = refl
tail_of x (y ∷ xs) = let k : length (x ∷ y ∷ xs) - 1 ≡ length (y ∷ xs) = omega arith in ap (λ n. take n (y ∷ xs)) k ∙ all_of (y ∷ xs)

pub first_two : (xs : List declared.LaneWord) (d e : declared.LaneWord) → 1 ≤ length xs → 1 ≤ length (take (length xs - 1) (drop 1 xs))
    → map plain_word xs ≡ plain_word (get_or xs 0 d) ∷ plain_word (get_or (take (length xs - 1) (drop 1 xs)) 0 e) ∷ map plain_word (take (length (take (length xs - 1) (drop 1 xs)) - 1) (drop 1 (take (length xs - 1) (drop 1 xs))))
first_two [] d e h g = absurd (omega (arith, h))
first_two (x ∷ []) d e h g = absurd (omega (arith, g))
first_two (x ∷ y ∷ xs) d e h g =
    let r : take (length (x ∷ y ∷ xs) - 1) (drop 1 (x ∷ y ∷ xs)) ≡ y ∷ xs = tail_of x (y ∷ xs) in
    sym ((λ i. plain_word x ∷ plain_word (get_or (r i) 0 e) ∷ map plain_word (take (length (r i) - 1) (drop 1 (r i))))
    ∙ ap (λ l. plain_word x ∷ plain_word y ∷ map plain_word l) (tail_of y xs))
