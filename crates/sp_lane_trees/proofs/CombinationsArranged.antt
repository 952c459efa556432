-- A combination whose words meet in order, after all lanes: its operations.
use Rattle.std.proofs.Common.{◌≡◌, ℕ, ◌+◌, ◌-◌, ◌<◌, ◌==◌, true, false, ◌||◌, List, [], ◌∷◌, ◌++◌, length, Option, Some, None, refl, sym, ◌∙◌, ap, arith, nat_le}
use Rattle.std.proofs.lemmas.Bool.{eq-eqb, ne_eqb, le-leb, or_left, or_right}
use Rattle.std.specs.Prelude.{if◌then◌else◌}
use Rattle.sp_words.specs.declared.types.Ty.{Ty}
use Rattle.sp_words.specs.declared.types.Ty.TheVariants.{Bit}
use Rattle.sp_tree.specs.declared.statement.Comb.{Comb}
use Rattle.sp_core.specs.declared.operation.OpKind.TheVariants.{Two, Mux}
use Rattle.sp_core.specs.PlainCore.{PlainOp}
use Rattle.sp_sugar.specs.Combination.{operator_of}
use Rattle.sp_sugar.specs.Operations.{computes, read_op, write_op, literal_op, under}
use Rattle.sp_lanes.specs.Bodies.{Body, all_ops}
use Rattle.sp_lanes.specs.Combined.{Meeting, moved_place, met_ops, without_first, first_place, first_places, combined, after_joined, in_order}
use Rattle.sp_lanes.specs.Joined.{LaneWord, is_balanced, lane_words}
use Rattle.sp_lane_rules.proofs.CombinedMeets.{as_parts}
use Rattle.sp_lane_trees.proofs.CombinationsCombining.{combining}
use Rattle.sp_lane_trees.proofs.CombinationsMoved.{place_in, place_first, place_word, meets}

-- which operations take a word
takes_second : (a word : ℕ) → ((a == word) || ((word == word) || false)) ≡ true
takes_second a word = or_right (a == word) ((word == word) || false) (or_left (word == word) false (eq-eqb word word refl))

takes_third : (a b word : ℕ) → ((a == word) || ((b == word) || ((word == word) || false))) ≡ true
takes_third a b word = or_right (a == word) ((b == word) || ((word == word) || false)) (takes_second b word)

past : (first j word : ℕ) → word < first → (first + j == word) ≡ false
past first j word lt = ne_eqb (first + j) word (λ e. after first j word lt e)
  where
    after : (f j w : ℕ) → w < f → f + j ≡ w → ⊥
    after f j w lt e = omega (arith, lt, e)

-- what comes after the last meeting
after_two : (first at len other : ℕ) → (if nat_le (first + 2 - 1) (first + 1) then at + 1 + len - 1 + (first + 1 - (first + 2 - 1)) else other) ≡ at + len
after_two first at len other = ap (λ b. if b then at + 1 + len - 1 + (first + 1 - (first + 2 - 1)) else other) (le-leb (first + 2 - 1) (first + 1) (omega arith)) ∙ place first at len
  where
    place : (first at len : ℕ) → at + 1 + len - 1 + (first + 1 - (first + 2 - 1)) ≡ at + len
    place first at len = omega arith

after_four : (first at len other : ℕ) → (if nat_le (first + 4 - 1) (first + 3) then at + 4 + len - 1 + (first + 3 - (first + 4 - 1)) else other) ≡ at + 3 + len
after_four first at len other = ap (λ b. if b then at + 4 + len - 1 + (first + 3 - (first + 4 - 1)) else other) (le-leb (first + 4 - 1) (first + 3) (omega arith)) ∙ place first at len
  where
    place : (first at len : ℕ) → at + 4 + len - 1 + (first + 3 - (first + 4 - 1)) ≡ at + 3 + len
    place first at len = omega arith

after_six : (first at len other : ℕ) → (if nat_le (first + 4 - 1) (first + 5) then at + 4 + len - 1 + (first + 5 - (first + 4 - 1)) else other) ≡ at + 3 + len + 2
after_six first at len other = ap (λ b. if b then at + 4 + len - 1 + (first + 5 - (first + 4 - 1)) else other) (le-leb (first + 4 - 1) (first + 5) (omega arith)) ∙ place first at len
  where
    place : (first at len : ℕ) → at + 4 + len - 1 + (first + 5 - (first + 4 - 1)) ≡ at + 3 + len + 2
    place first at len = omega arith

last_left : (at : ℕ) → at + 4 - 1 ≡ at + 3
last_left at = omega arith

module _ (counter : ℕ) (ty : Ty) (comb : Comb) where
  abbrev pub met : (at left : ℕ) → List LaneWord → List PlainOp
  met at left words = met_ops counter (operator_of comb) ty at left words

  -- the accumulator is read, lanes meet it, and what they leave is written
  abbrev pub fold_form : (at left last : ℕ) → List LaneWord → (acc : ℕ) → List PlainOp
  fold_form at left last words acc = (read_op ty acc [] ∷ []) ++ met (at + 1) left words ++ write_op ty acc (last ∷ []) ∷ []

  abbrev pub reduce_form : (at p0 p1 p2 to left last flag : ℕ) → List LaneWord → (acc begun : ℕ) → List PlainOp
  reduce_form at p0 p1 p2 to left last flag words acc begun =
      (read_op Bit begun [] ∷ under p0 (read_op ty acc []) ∷ computes (Two (operator_of comb)) ty (p1 ∷ to ∷ []) ∷ computes Mux ty (p0 ∷ p2 ∷ to ∷ []) ∷ [])
      ++ met (at + 4) left words ++ write_op ty acc (last ∷ []) ∷ literal_op Bit 1 ∷ write_op Bit begun (flag ∷ []) ∷ []

  abbrev pub in_order_ops : Option ℕ → (at : ℕ) → List LaneWord → (acc : ℕ) → List PlainOp
  in_order_ops None at words acc = fold_form at at (at + length (met (at + 1) at words)) words acc
  in_order_ops (Some b) at words acc =
      let others : List LaneWord = without_first words in
      let last : ℕ = at + 3 + length (met (at + 4) (at + 3) others) in
      reduce_form at at (at + 1) (at + 2) (first_place words) (at + 3) last (last + 2) others acc b

  module _ (first : ℕ) (bodies : List Body) (word acc : ℕ) (lt : word < first) where
    abbrev words : List LaneWord
    words = lane_words 0 word bodies

    abbrev m : Meeting
    m = record { operator = operator_of comb; ty = ty; word = word }

    abbrev here : ℕ → ℕ → ℕ
    here at = moved_place first at word (first_place words) (first_places bodies)

    abbrev fold_end : (at left : ℕ) → ℕ
    fold_end at left = if nat_le (first + 2 - 1) (first + 1) then at + 1 + length (met (at + 1) left words) - 1 + (first + 1 - (first + 2 - 1)) else here at (first + 1)

    fold_is : (at : ℕ) → in_order counter first bodies at m words (combining None first word acc ty comb) ≡ in_order_ops None at words acc
    fold_is at =
        as_parts counter first bodies at m words (read_op ty acc [] ∷ []) (computes (Two (operator_of comb)) ty (first ∷ word ∷ [])) (write_op ty acc ((first + 1) ∷ []) ∷ []) (takes_second first word) (ap (λ b. (b || false) || false) (past first 1 word lt))
        ∙ ap (λ n. fold_form at n (fold_end at n) words acc) (place_first first at word (first_place words) (first_places bodies) lt)
        ∙ ap (λ n. fold_form at at n words acc) (after_two first at (length (met (at + 1) at words)) (here at (first + 1)))

    abbrev others : List LaneWord
    others = without_first words

    abbrev reduce_end : (at left : ℕ) → ℕ
    reduce_end at left = if nat_le (first + 4 - 1) (first + 3) then at + 4 + length (met (at + 4) left others) - 1 + (first + 3 - (first + 4 - 1)) else here at (first + 3)

    abbrev flag_end : (at left : ℕ) → ℕ
    flag_end at left = if nat_le (first + 4 - 1) (first + 5) then at + 4 + length (met (at + 4) left others) - 1 + (first + 5 - (first + 4 - 1)) else here at (first + 5)

    abbrev form : (at b p0 p1 p2 to left : ℕ) → List PlainOp
    form at b p0 p1 p2 to left = reduce_form at p0 p1 p2 to left (reduce_end at left) (flag_end at left) others acc b

    reduce_is : (b at : ℕ) → in_order counter first bodies at m words (combining (Some b) first word acc ty comb) ≡ in_order_ops (Some b) at words acc
    reduce_is b at =
        let h : ℕ → ℕ = here at in
        let to : ℕ = first_place words in
        let places : List ℕ = first_places bodies in
        let len : ℕ = length (met (at + 4) (at + 3) others) in
        as_parts counter first bodies at m words (read_op Bit b [] ∷ under first (read_op ty acc []) ∷ computes (Two (operator_of comb)) ty ((first + 1) ∷ word ∷ []) ∷ []) (computes Mux ty (first ∷ (first + 2) ∷ word ∷ []))
        (write_op ty acc ((first + 3) ∷ []) ∷ literal_op Bit 1 ∷ write_op Bit b ((first + 5) ∷ []) ∷ []) (takes_third first (first + 2) word)
        (ap (λ x. (x || false) || (false || (((first + 5 == word) || false) || false))) (past first 3 word lt) ∙ ap (λ x. (x || false) || false) (past first 5 word lt))
        ∙ ap (λ n. form at b n (h (first + 1)) (h (first + 2)) (h word) (at + 4 - 1)) (place_first first at word to places lt)
        ∙ ap (λ n. form at b at n (h (first + 2)) (h word) (at + 4 - 1)) (place_in first at word to places 1 lt)
        ∙ ap (λ n. form at b at (at + 1) n (h word) (at + 4 - 1)) (place_in first at word to places 2 lt)
        ∙ ap (λ n. form at b at (at + 1) (at + 2) n (at + 4 - 1)) (place_word first at word to places)
        ∙ ap (λ n. form at b at (at + 1) (at + 2) to n) (last_left at)
        ∙ ap (λ n. reduce_form at at (at + 1) (at + 2) to (at + 3) n (flag_end at (at + 3)) others acc b) (after_four first at len (h (first + 3)))
        ∙ ap (λ n. reduce_form at at (at + 1) (at + 2) to (at + 3) (at + 3 + len) n others acc b) (after_six first at len (h (first + 5)))

    form_is : (begun : Option ℕ) (at : ℕ) → in_order counter first bodies at m words (combining begun first word acc ty comb) ≡ in_order_ops begun at words acc
    form_is None at = fold_is at
    form_is (Some b) at = reduce_is b at

    -- in lanes it stands after all bodies
    pub ordered_is : (begun : Option ℕ) (at : ℕ) → at ≡ length (all_ops bodies) → is_balanced (operator_of comb) ty ≡ false → combined counter first bodies (combining begun first word acc ty comb) ≡ in_order_ops begun at words acc
    ordered_is begun at same balanced =
        let c : List PlainOp = combining begun first word acc ty comb in
        ap (λ (x : Meeting). chosen_form x c) (meets counter first bodies begun word acc ty comb begun)
        ∙ ap (λ b. if b then after_joined counter first bodies (length (all_ops bodies)) m words c else in_order counter first bodies (length (all_ops bodies)) m words c) balanced
        ∙ ap (λ n. in_order counter first bodies n m words c) (sym same) ∙ form_is begun at
      where
        chosen_form : Meeting → List PlainOp → List PlainOp
        chosen_form m c =
            if is_balanced m.operator m.ty then after_joined counter first bodies (length (all_ops bodies)) m (lane_words 0 m.word bodies) c else in_order counter first bodies (length (all_ops bodies)) m (lane_words 0 m.word bodies) c
