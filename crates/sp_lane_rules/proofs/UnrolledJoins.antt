-- Words of lanes that are joined, and a combination after them, keep the rules of cores.
use Rattle.std.proofs.Common.{◌≡◌, ℕ, zero, suc, ◌+◌, ◌-◌, ◌<◌, ◌≤◌, true, false, List, [], ◌∷◌, ◌++◌, length, Option, Some, None, refl, sym, ◌∙◌, ap, subst, arith}
use Rattle.std.proofs.lemmas.Bool.{and_from, le-leb}
use Rattle.std.proofs.lemmas.List.{append_assoc, length-append}
use Rattle.std.specs.Prelude.{if◌then◌else◌}
use Rattle.sp_words.specs.declared.kind.BinOp.{BinOp}
use Rattle.sp_words.specs.declared.types.Ty.{Ty}
use Rattle.sp_words.specs.declared.types.Ty.TheVariants.{Bit}
use Rattle.sp_core.specs.declared.operation.OpKind.TheVariants.{Two}
use Rattle.sp_core.specs.Around.{Around, has_lane}
use Rattle.sp_core.specs.OperationRules.{are_operations_right_after}
use Rattle.sp_core.specs.PlainCore.{PlainOp, PlainCore}
use Rattle.sp_core.specs.Typed.{Given, is_comparison, given_type, is_given, gives}
use Rattle.sp_lanes.specs.Bodies.{Body}
use Rattle.sp_lanes.specs.Combined.{first_place}
use Rattle.sp_lanes.specs.Joined.{LaneWord, Round, lane_words, join_ops, joined_by, one_round, rounds}
use Rattle.sp_lane_rules.specs.UnrolledMeetings.{given_of}
use Rattle.sp_lane_rules.proofs.UnrolledGivens.{given_append, given_length, placed_gives, after_both, gives_kept, gives_end}
use Rattle.sp_lane_rules.proofs.UnrolledLaneBodies.{AllPlaced}

-- the words of lanes
module _ (lanes : PlainCore) (inside : Around) (counter : ℕ) (operator : BinOp) (ty : Ty) (p : ℕ) (plain : is_comparison operator ≡ false)
    (there : (l : ℕ) → l < p → has_lane inside.counters counter l ≡ true) where
  -- a word stands, and its mask too, or that can be told from its lanes
  abbrev IsMaskThere : Given → Option ℕ → Type 0
  IsMaskThere g None = Unit {0}
  IsMaskThere g (Some m) = gives g m Bit ≡ true

  abbrev pub IsWord : Given → LaneWord → Type 0
  IsWord g w = (gives g w.place ty ≡ true) × IsMaskThere g w.mask × (w.first ≤ w.last) × (w.last < p)

  -- words in the order of their lanes, from a lane on
  abbrev pub AreWords : Given → (low : ℕ) → List LaneWord → Type 0
  AreWords g low [] = Unit {0}
  AreWords g low (w ∷ words) = IsWord g w × (low ≤ w.first) × AreWords g w.last words

  mask_more : (g x : Given) (m : Option ℕ) → IsMaskThere g m → IsMaskThere (g ++ x) m
  mask_more g x None h = tt
  mask_more g x (Some m) h = gives_kept g x m Bit h

  word_more : (g x : Given) (w : LaneWord) → IsWord g w → IsWord (g ++ x) w
  word_more g x w h = (gives_kept g x w.place ty h.0, mask_more g x w.mask h.1, h.2, h.3)

  words_more : (g x : Given) (low : ℕ) (words : List LaneWord) → AreWords g low words → AreWords (g ++ x) low words
  words_more g x low [] h = tt
  words_more g x low (w ∷ words) h = (word_more g x w h.0, h.1, words_more g x w.last words h.2)

  -- the operator and the choice
  operator_gives : given_type (Two operator) ty ≡ Some ty
  operator_gives = ap (λ b. Some (if b then Bit else ty)) plain

  join_right : (at mask left right : ℕ) (g : Given) → at ≡ length g → gives g mask Bit ≡ true → gives g left ty ≡ true → gives g right ty ≡ true
      → (are_operations_right_after lanes inside g (join_ops counter operator ty at mask left right) ≡ true)
      × (gives (g ++ given_of (join_ops counter operator ty at mask left right)) (suc at) ty ≡ true)
  join_right at mask left right g same m a b = (
    and_from _ _ (and_from _ _ refl (and_from _ _ (and_from _ _ a (and_from _ _ b refl)) refl))
        (and_from _ _ (and_from _ _ refl (and_from _ _ (and_from _ _ (gives_kept g (given_type (Two operator) ty ∷ []) mask Bit m)
        (and_from _ _ here (and_from _ _ (gives_kept g (given_type (Two operator) ty ∷ []) left ty a) refl))) refl)) refl),
    subst (λ (x : Given). gives x (suc at) ty ≡ true) (append_assoc g (given_type (Two operator) ty ∷ []) (Some ty ∷ []))
        (gives_end (g ++ given_type (Two operator) ty ∷ []) (suc at) ty (omega (arith, same, length-append g (given_type (Two operator) ty ∷ [])))),
  )
    where
      here : gives (g ++ given_type (Two operator) ty ∷ []) at ty ≡ true
      here = ap (λ (t : Option Ty). gives (g ++ t ∷ []) at ty) operator_gives ∙ gives_end g at ty same

  joined_right : (mask : Option ℕ) (at : ℕ) (left right : LaneWord) (g : Given) → at ≡ length g → IsMaskThere g mask → gives g left.place ty ≡ true → gives g right.place ty ≡ true
      → right.first ≤ right.last → right.last < p
      → (are_operations_right_after lanes inside g (joined_by counter operator ty mask at left right) ≡ true)
      × (gives (g ++ given_of (joined_by counter operator ty mask at left right)) (at + length (joined_by counter operator ty mask at left right) - 1) ty ≡ true)
  joined_right (Some mask) at left right g same m a b le lt =
      let r = join_right at mask left.place right.place g same m a b in
      (r.0, ap (λ n. gives (g ++ given_of (join_ops counter operator ty at mask left.place right.place)) n ty) {x = at + 2 - 1} {y = suc at} (omega arith) ∙ r.1)
  joined_right None at left right g same m a b le lt =
      let r = join_right (suc at) at left.place right.place (g ++ Some Bit ∷ []) (omega (arith, same, length-append g (Some Bit ∷ []))) (gives_end g at Bit same)
      (gives_kept g (Some Bit ∷ []) left.place ty a) (gives_kept g (Some Bit ∷ []) right.place ty b) in (
        and_from _ _ (and_from _ _ (and_from _ _ (and_from _ _ (and_from _ _ (le-leb right.first right.last le) (there right.last lt)) refl) refl) refl) r.0,
        ap (λ n. gives (g ++ Some Bit ∷ given_of (join_ops counter operator ty (suc at) at left.place right.place)) n ty) {x = at + 3 - 1} {y = suc (suc at)} (omega arith)
            ∙ subst (λ (x : Given). gives x (suc (suc at)) ty ≡ true) (append_assoc g (Some Bit ∷ []) (given_of (join_ops counter operator ty (suc at) at left.place right.place))) r.1,
      )

  whole : (g : Given) (xs ys : List PlainOp) → (g ++ given_of xs) ++ given_of ys ≡ g ++ given_of (xs ++ ys)
  whole g xs ys = append_assoc g (given_of xs) (given_of ys) ∙ ap (λ (x : Given). g ++ x) (sym (given_append xs ys))

  round_right : (at low : ℕ) (words : List LaneWord) (g : Given) → at ≡ length g → AreWords g low words
      → (are_operations_right_after lanes inside g (one_round counter operator ty at words).ops ≡ true)
      × AreWords (g ++ given_of (one_round counter operator ty at words).ops) low (one_round counter operator ty at words).words
  round_right at low [] g same h = (refl, tt)
  round_right at low (w ∷ []) g same h = (refl, (word_more g [] w h.0, h.1, tt))
  round_right at low (left ∷ right ∷ words) g same h =
      let ops : List PlainOp = joined_by counter operator ty right.mask at left right in
      let a = joined_right right.mask at left right g same h.2.0.1 h.0.0 h.2.0.0 h.2.0.2 h.2.0.3 in
      let others : Round = one_round counter operator ty (at + length ops) words in
      let r = round_right (at + length ops) right.last words (g ++ given_of ops) (omega (arith, same, length-append g (given_of ops), given_length ops)) (words_more g (given_of ops) right.last words h.2.2) in (
        after_both lanes inside g ops others.ops a.0 r.0,
        (
          (
            subst (λ (x : Given). gives x (at + length ops - 1) ty ≡ true) (whole g ops others.ops) (gives_kept (g ++ given_of ops) (given_of others.ops) (at + length ops - 1) ty a.1),
            tt,
            between left.first left.last right.first right.last h.0.2 h.2.1 h.2.0.2,
            h.2.0.3,
          ),
          h.1,
          subst (λ (x : Given). AreWords x right.last others.words) (whole g ops others.ops) r.1,
        ),
      )
    where
      between : (a b c d : ℕ) → a ≤ b → b ≤ c → c ≤ d → a ≤ d
      between a b c d x y z = omega arith

  pub rounds_right : (count at low : ℕ) (words : List LaneWord) (g : Given) → at ≡ length g → AreWords g low words
      → (are_operations_right_after lanes inside g (rounds counter operator ty count at words).ops ≡ true)
      × AreWords (g ++ given_of (rounds counter operator ty count at words).ops) low (rounds counter operator ty count at words).words
  rounds_right zero at low words g same h = (refl, words_more g [] low words h)
  rounds_right (suc count) at low words g same h =
      let r : Round = one_round counter operator ty at words in
      let more : Round = rounds counter operator ty count (at + length r.ops) r.words in
      let a = round_right at low words g same h in
      let b = rounds_right count (at + length r.ops) low r.words (g ++ given_of r.ops) (omega (arith, same, length-append g (given_of r.ops), given_length r.ops)) a.1 in
      (after_both lanes inside g r.ops more.ops a.0 b.0, subst (λ (x : Given). AreWords x low more.words) (whole g r.ops more.ops) b.1)

  -- some word is left
  round_some : (at : ℕ) (w : LaneWord) (words : List LaneWord) → 1 ≤ length (one_round counter operator ty at (w ∷ words)).words
  round_some at w [] = omega arith
  round_some at w (right ∷ words) = omega arith

  pub rounds_some : (count at : ℕ) (words : List LaneWord) → 1 ≤ length words → 1 ≤ length (rounds counter operator ty count at words).words
  rounds_some zero at words le = le
  rounds_some (suc count) at [] le = absurd (omega arith)
  rounds_some (suc count) at (w ∷ words) le =
      rounds_some count (at + length (one_round counter operator ty at (w ∷ words)).ops) (one_round counter operator ty at (w ∷ words)).words (round_some at w words)

  pub first_gives : (g : Given) (low : ℕ) (words : List LaneWord) → 1 ≤ length words → AreWords g low words → gives g (first_place words) ty ≡ true
  first_gives g low [] le h = absurd (omega arith)
  first_gives g low (w ∷ words) le h = h.0.0

  -- the words of the bodies of lanes
  pub bodies_words : (l word : ℕ) (g : Given) (body : List PlainOp) (bodies : List Body) → AllPlaced g body bodies → gives (given_of body) word ty ≡ true → l + length bodies ≤ p → AreWords g l (lane_words l word bodies)
  bodies_words l word g body [] h e le = tt
  bodies_words l word g body (b ∷ bodies) h e le =
      ((placed_gives g b.places (given_of body) word ty h.1 e, ap (λ o. is_given o Bit) h.0.1, omega arith, omega arith), omega arith, words_low (bodies_words (suc l) word g body bodies h.2 e (omega arith)))
    where
      words_low : AreWords g (suc l) (lane_words (suc l) word bodies) → AreWords g l (lane_words (suc l) word bodies)
      words_low h = lower (lane_words (suc l) word bodies) h
        where
          lower : (words : List LaneWord) → AreWords g (suc l) words → AreWords g l words
          lower [] h = tt
          lower (w ∷ words) h = (h.0, (let a : suc l ≤ w.first = h.1 in omega arith), h.2)
