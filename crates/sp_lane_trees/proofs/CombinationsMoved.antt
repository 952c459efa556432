-- A combination after the joined words of lanes.
use Rattle.std.proofs.Common.{◌≡◌, ℕ, zero, suc, ◌+◌, ◌-◌, ◌<◌, true, List, [], ◌∷◌, ◌++◌, length, Option, Some, None, refl, sym, ◌∙◌, ap, arith, nat_le}
use Rattle.std.proofs.lemmas.Bool.{eq-eqb, ne_eqb, le-leb}
use Rattle.std.specs.Prelude.{slice_index, take, drop, option_map, if◌then◌else◌}
use Rattle.sp_words.specs.declared.types.Ty.{Ty}
use Rattle.sp_words.specs.declared.types.Ty.TheVariants.{Bit}
use Rattle.sp_tree.specs.declared.statement.Comb.{Comb}
use Rattle.sp_core.specs.declared.operation.OpKind.TheVariants.{Two, Mux}
use Rattle.sp_core.specs.PlainCore.{PlainOp}
use Rattle.sp_sugar.specs.Combination.{operator_of}
use Rattle.sp_sugar.specs.Operations.{computes, read_op, write_op, literal_op, under}
use Rattle.sp_lanes.specs.Bodies.{Body, lane_bodies, all_ops}
use Rattle.sp_lanes.specs.Combined.{Meeting, meeting, moved, moved_place, first_place, first_places, combined, laned_ops, after_joined, in_order}
use Rattle.sp_lanes.specs.Joined.{LaneWord, Round, is_balanced, lane_words, rounds}
use Rattle.sp_lanes.specs.Within.{Within, ops_in}
use Rattle.sp_lane_trees.proofs.CombinationsCombining.{combining}

-- places of a combination, and of the word that it takes
pub place_in : (first from word to : ℕ) (places : List ℕ) (j : ℕ) → word < first → moved_place first from word to places (first + j) ≡ from + j
place_in first from word to places j lt =
    ap (λ b. if b then to else if nat_le first (first + j) then from + (first + j - first) else slice_index places (first + j)) (ne_eqb (first + j) word (past first j word lt))
    ∙ ap (λ b. if b then from + (first + j - first) else slice_index places (first + j)) (le-leb first (first + j) (omega arith))
    ∙ ap (λ n. from + n) (left first j)
  where
    past : (f j w : ℕ) → w < f → f + j ≡ w → ⊥
    past f j w lt e = omega (arith, lt, e)

    left : (f j : ℕ) → f + j - f ≡ j
    left f j = omega arith

pub place_first : (first from word to : ℕ) (places : List ℕ) → word < first → moved_place first from word to places first ≡ from
place_first first from word to places lt =
    ap (moved_place first from word to places) (more first) ∙ place_in first from word to places 0 lt ∙ sym (more from)
  where
    more : (n : ℕ) → n ≡ n + 0
    more n = omega arith

pub place_word : (first from word to : ℕ) (places : List ℕ) → moved_place first from word to places word ≡ to
place_word first from word to places =
    ap (λ b. if b then to else if nat_le first word then from + (word - first) else slice_index places word) (eq-eqb word word refl)

-- a combination that is moved stands from another place on, and takes another word
moved_is : (begun : Option ℕ) (first from word to : ℕ) (places : List ℕ) (acc : ℕ) (ty : Ty) (comb : Comb) → word < first
    → moved (moved_place first from word to places) (combining begun first word acc ty comb) ≡ combining begun from to acc ty comb
moved_is None first from word to places acc ty comb lt =
    let f : ℕ → ℕ = moved_place first from word to places in
    ap (λ n. read_op ty acc [] ∷ computes (Two (operator_of comb)) ty (n ∷ f word ∷ []) ∷ write_op ty acc (f (first + 1) ∷ []) ∷ []) (place_first first from word to places lt)
    ∙ ap (λ n. read_op ty acc [] ∷ computes (Two (operator_of comb)) ty (from ∷ n ∷ []) ∷ write_op ty acc (f (first + 1) ∷ []) ∷ []) (place_word first from word to places)
    ∙ ap (λ n. read_op ty acc [] ∷ computes (Two (operator_of comb)) ty (from ∷ to ∷ []) ∷ write_op ty acc (n ∷ []) ∷ []) (place_in first from word to places 1 lt)
moved_is (Some b) first from word to places acc ty comb lt =
    let f : ℕ → ℕ = moved_place first from word to places in
    ap (λ n. list n (f (first + 1)) (f (first + 2)) (f (first + 3)) (f (first + 5)) (f word)) (place_first first from word to places lt)
    ∙ ap (λ n. list from n (f (first + 2)) (f (first + 3)) (f (first + 5)) (f word)) (place_in first from word to places 1 lt)
    ∙ ap (λ n. list from (from + 1) n (f (first + 3)) (f (first + 5)) (f word)) (place_in first from word to places 2 lt)
    ∙ ap (λ n. list from (from + 1) (from + 2) n (f (first + 5)) (f word)) (place_in first from word to places 3 lt)
    ∙ ap (λ n. list from (from + 1) (from + 2) (from + 3) n (f word)) (place_in first from word to places 5 lt)
    ∙ ap (λ n. list from (from + 1) (from + 2) (from + 3) (from + 5) n) (place_word first from word to places)
  where
    list : (p0 p1 p2 p3 p5 w : ℕ) → List PlainOp
    list p0 p1 p2 p3 p5 w =
        read_op Bit b [] ∷ under p0 (read_op ty acc []) ∷ computes (Two (operator_of comb)) ty (p1 ∷ w ∷ []) ∷ computes Mux ty (p0 ∷ p2 ∷ w ∷ []) ∷ write_op ty acc (p3 ∷ []) ∷ literal_op Bit 1 ∷ write_op Bit b (p5 ∷ []) ∷ []

-- in a lane it names the copies of its memories
pub in_a_lane : (w : Within) (begun : Option ℕ) (at word acc : ℕ) (ty : Ty) (comb : Comb) → ops_in w (combining begun at word acc ty comb) ≡ combining (option_map w.number begun) at word (w.number acc) ty comb
in_a_lane w None at word acc ty comb = refl
in_a_lane w (Some b) at word acc ty comb = refl

module _ (counter first : ℕ) (bodies : List Body) (begun : Option ℕ) (word acc : ℕ) (ty : Ty) (comb : Comb) where
  abbrev pub words : List LaneWord
  words = lane_words 0 word bodies

  abbrev pub joined_at : ℕ → Round
  joined_at at = rounds counter (operator_of comb) ty (length words) at words

  pub meets : (begun : Option ℕ) → meeting (combining begun first word acc ty comb) ≡ record { operator = operator_of comb; ty = ty; word = word }
  meets None = refl
  meets (Some b) = refl

  -- in lanes it stands after the words that are joined
  pub combined_is : (at : ℕ) → at ≡ length (all_ops bodies) → is_balanced (operator_of comb) ty ≡ true → word < first
      → combined counter first bodies (combining begun first word acc ty comb) ≡ (joined_at at).ops ++ combining begun (at + length (joined_at at).ops) (first_place (joined_at at).words) acc ty comb
  combined_is at same balanced lt =
      let c : List PlainOp = combining begun first word acc ty comb in
      let m : Meeting = record { operator = operator_of comb; ty = ty; word = word } in
      ap (λ (x : Meeting). chosen_form x c) (meets begun)
      ∙ ap (λ b. if b then after_joined counter first bodies (length (all_ops bodies)) m words c else in_order counter first bodies (length (all_ops bodies)) m words c) balanced
      ∙ ap (λ n. after_joined counter first bodies n m words c) (sym same)
      ∙ ap (λ xs. (joined_at at).ops ++ xs) (moved_is begun first (at + length (joined_at at).ops) word (first_place (joined_at at).words) (first_places bodies) acc ty comb lt)
    where
      chosen_form : Meeting → List PlainOp → List PlainOp
      chosen_form m c =
          if is_balanced m.operator m.ty then after_joined counter first bodies (length (all_ops bodies)) m (lane_words 0 m.word bodies) c else in_order counter first bodies (length (all_ops bodies)) m (lane_words 0 m.word bodies) c

-- the first part of a list, and what comes after it
take_front : {A : Type 0} (n : ℕ) (xs ys : List A) → n ≡ length xs → take n (xs ++ ys) ≡ xs
take_front n [] ys e = ap (λ k. take k ys) e
take_front zero (x ∷ xs) ys e = absurd (omega (arith, e))
take_front (suc n) (x ∷ xs) ys e = ap (λ zs. x ∷ zs) (take_front n xs ys (omega (arith, e)))

pub drop_front : {A : Type 0} (n : ℕ) (xs ys : List A) → n ≡ length xs → drop n (xs ++ ys) ≡ ys
drop_front n [] ys e = ap (λ k. drop k ys) e
drop_front zero (x ∷ xs) ys e = absurd (omega (arith, e))
drop_front (suc n) (x ∷ xs) ys e = drop_front n xs ys (omega (arith, e))

-- the bodies of lanes, and after them a combination
pub laned_is : (counter : ℕ) (in_lane : ℕ → Within) (own : List ℕ) (lanes first : ℕ) (before : List PlainOp) (begun : Option ℕ) (word acc : ℕ) (ty : Ty) (comb : Comb) → first ≡ length before
    → laned_ops counter in_lane own lanes (before ++ combining begun first word acc ty comb) (Some first)
    ≡ all_ops (lane_bodies counter in_lane before own lanes) ++ combined counter first (lane_bodies counter in_lane before own lanes) (combining (option_map (in_lane 0).number begun) first word ((in_lane 0).number acc) ty comb)
laned_is counter in_lane own lanes first before begun word acc ty comb e =
    let c : List PlainOp = combining begun first word acc ty comb in
    ap (λ xs. all_ops (lane_bodies counter in_lane xs own lanes) ++ combined counter first (lane_bodies counter in_lane xs own lanes) (ops_in (in_lane 0) (drop first (before ++ c)))) (take_front first before c e)
    ∙ ap (λ xs. all_ops (lane_bodies counter in_lane before own lanes) ++ combined counter first (lane_bodies counter in_lane before own lanes) (ops_in (in_lane 0) xs)) (drop_front first before c e)
    ∙ ap (λ xs. all_ops (lane_bodies counter in_lane before own lanes) ++ combined counter first (lane_bodies counter in_lane before own lanes) xs) (in_a_lane (in_lane 0) begun first word acc ty comb)
