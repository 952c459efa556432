-- The first line of a text.
use Rattle.std.proofs.Common.{◌≡◌, ℕ, ◌<◌, Bool, true, false, cond, List, [], ◌∷◌, ◌+◌, ◌≤◌, ◌^◌, length, get_or, take, drop, ◌-◌, length-drop, subst, Some, None, nat_lt, ◌==◌, refl, sym, ◌∙◌, ap, arith}
use Rattle.std.specs.List.{position, position_or_len}
use Rattle.std.proofs.lemmas.Bool.{ltb-true, ltb-false}
use Rattle.std.proofs.lemmas.List.{take_all}
use Rattle.std.proofs.lemmas.List.Splits.{slice_split_none, slice_split_first, length-slice_split}
use Rattle.std.proofs.lemmas.List.Sums.{fails_before_first, count_by-le-length}
use Rattle.sp_listing.specs.Reading.{pieces, heading, BreaksAt, at_heading}

abbrev is_end : ℕ → Bool
is_end byte = byte == 10

-- a text with a line end: its first line, and the pieces of what follows
pub first_ended : (text : List ℕ) (end : ℕ) → position is_end text ≡ Some end
    → (pieces text ≡ take end text ∷ pieces (take (length text - (end + 1)) (drop (end + 1) text))) × (length (take (length text - (end + 1)) (drop (end + 1) text)) < length text)
first_ended text end e = by (nat_lt (position_or_len is_end text) (length text)) refl e
  where
    by : (b : Bool) → nat_lt (position_or_len is_end text) (length text) ≡ b → cond b (Some (position_or_len is_end text)) None ≡ Some end
        → (pieces text ≡ take end text ∷ pieces (take (length text - (end + 1)) (drop (end + 1) text))) × (length (take (length text - (end + 1)) (drop (end + 1) text)) < length text)
    by true within same =
        let at : position_or_len is_end text ≡ end = cc in
        let less : position_or_len is_end text < length text = ltb-true (position_or_len is_end text) (length text) within in
        let rest : take (length text - (end + 1)) (drop (end + 1) text) ≡ drop (end + 1) text = take_all (length text - (end + 1)) (drop (end + 1) text) (omega (arith, length-drop (end + 1) text)) in
        let fewer : length (drop (end + 1) text) < length text = omega (arith, at, less, length-drop (end + 1) text) in
        (slice_split_first is_end text 0 less ∙ ap (λ n. take n text ∷ pieces (drop (n + 1) text)) at ∙ ap (λ r. take end text ∷ pieces r) (sym rest), subst (λ r. length r < length text) (sym rest) fewer)
    by false within same = absurd cc

-- and one without
pub first_alone : (text : List ℕ) → position is_end text ≡ None → pieces text ≡ text ∷ []
first_alone text e = slice_split_none is_end text (λ k d l. by (nat_lt (position_or_len is_end text) (length text)) refl e k d l)
  where
    by : (b : Bool) → nat_lt (position_or_len is_end text) (length text) ≡ b → cond b (Some (position_or_len is_end text)) None ≡ None → (k d : ℕ) → k < length text → is_end (get_or text k d) ≡ false
    by true within same k d l = absurd cc
    by false past same k d l = let far = ltb-false (position_or_len is_end text) (length text) past in fails_before_first is_end text k d (omega (arith, far, l))

-- a text has few pieces, and at least one
pub pieces_few : (text : List ℕ) → length text < 2 ^ 30 → length (pieces text) ≤ 2 ^ 30
pieces_few text few = let n = length-slice_split is_end text in let m = count_by-le-length is_end text in omega arith

pub pieces_some : (text : List ℕ) → 1 ≤ length (pieces text)
pieces_some text = let n = length-slice_split is_end text in omega arith

-- a text whose first line isn't the heading
pub no_heading : (text line : List ℕ) (rest : List (List ℕ)) → pieces text ≡ line ∷ rest → (line ≡ heading → ⊥) → BreaksAt (pieces text) 1
no_heading text line rest e other = at_heading line rest e other
