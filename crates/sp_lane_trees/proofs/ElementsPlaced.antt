-- The combination of an element in lanes: its operations by the copies of its memories, and after the words of lanes, whether
-- these are joined in a tree or meet the accumulator in order.
use Rattle.std.proofs.Common.{◌≡◌, ℕ, zero, suc, ◌+◌, ◌-◌, ◌<◌, true, false, ◌||◌, List, [], ◌∷◌, ◌++◌, length, Some, refl, sym, ◌∙◌, ap, arith, nat_le, ◌==◌}
use Rattle.std.proofs.lemmas.Bool.{le-leb, eq-eqb, or_left, or_right}
use Rattle.std.proofs.lemmas.List.{append_assoc, length-append}
use Rattle.std.specs.List.{list_any}
use Rattle.std.specs.Prelude.{if◌then◌else◌, drop, take}
use Rattle.sp_words.specs.declared.kind.BinOp.TheVariants as binary
use Rattle.sp_words.specs.declared.types.Ty.{Ty}
use Rattle.sp_words.specs.declared.types.Ty.TheVariants.{Bit}
use Rattle.sp_words.specs.Types.{int_type}
use Rattle.sp_tree.specs.declared.statement.Comb.{Comb}
use Rattle.sp_tree.specs.PlainExpression.{PlainExpr, expr, two, type_of}
use Rattle.sp_tree.specs.PlainProgram.{PlainMem}
use Rattle.sp_core.specs.declared.operation.OpKind.TheVariants.{Count, Two}
use Rattle.sp_core.specs.PlainCore.{PlainOp}
use Rattle.sp_sugar.specs.Combination.{operator_of, is_last_at, conjunction, is_last_element}
use Rattle.sp_sugar.specs.Operations.{Code, computes, read_op, write_op, literal_op, counter_op, under, code, code_of}
use Rattle.sp_lanes.specs.Bodies.{Body, lane_bodies, all_ops}
use Rattle.sp_lanes.specs.Combined.{Meeting, meeting, takes, moved, moved_place, met_ops, without_first, first_place, first_places, combined, laned_ops, after_joined, meeting_in_order, in_order}
use Rattle.sp_lanes.specs.Joined.{LaneWord, Round, is_balanced, lane_words, rounds}
use Rattle.sp_lanes.specs.Within.{Within, op_in, ops_in}
use Rattle.sp_lane_rules.proofs.CombinedMeets.{as_parts, take_front, drop_front}
use Rattle.sp_lane_trees.proofs.CombinationsMoved.{place_in, place_word}
use Rattle.sp_lane_trees.proofs.ElementsCodes.{counts, places, Moves, moved_append, any_append, counts_take, apart, at_place}
use Rattle.sp_lane_trees.proofs.ElementsForms.{n, test, tests, reads, chooses, writes, element, reads_long, reads_moved, choice_moved, writes_moved, element_moved}

ops_in_append : (w : Within) (xs ys : List PlainOp) → ops_in w (xs ++ ys) ≡ ops_in w xs ++ ops_in w ys
ops_in_append w [] ys = refl
ops_in_append w (x ∷ xs) ys = ap (λ l. op_in w x ∷ l) (ops_in_append w xs ys)

-- the counters of elements have one lane
abbrev pub NoLanes : Within → (c n : ℕ) → Type 0
NoLanes w c n = (k : ℕ) → k < n → w.lane (c + k) ≡ 0

no_lane : (w : Within) (c n : ℕ) → NoLanes w c (suc n) → w.lane c ≡ 0
no_lane w c n h = ap w.lane {x = c} {y = c + 0} (omega arith) ∙ h 0 (omega arith)

later_lanes : (w : Within) (c n : ℕ) → NoLanes w c (suc n) → NoLanes w (suc c) n
later_lanes w c n h k lt = ap w.lane {x = suc c + k} {y = c + suc k} (omega arith) ∙ h (suc k) (omega (arith, lt))

count_in : (w : Within) (c n : ℕ) → NoLanes w c (suc n) → op_in w (counter_op int_type c) ≡ counter_op int_type c
count_in w c n h = ap (λ l. computes (Count c l) int_type []) (no_lane w c n h)

counts_in : (w : Within) (c n : ℕ) → NoLanes w c n → ops_in w (counts c n) ≡ counts c n
counts_in w c zero h = refl
counts_in w c (suc n) h = ap (λ o. o ∷ ops_in w (counts (suc c) n)) (count_in w c n h) ∙ ap (λ l. counter_op int_type c ∷ l) (counts_in w (suc c) n (later_lanes w c n h))

module _ (mems : List PlainMem) (w : Within) where
  abbrev Alike : PlainExpr → Type 0
  Alike e = (q : ℕ) → ops_in w (at_place mems q e).ops ≡ (at_place mems q e).ops

  last_alike : (c d n : ℕ) → NoLanes w c (suc n) → Alike (is_last_at c d)
  unfolding code code_of
  last_alike c d n h q = ap (λ o. o ∷ literal_op int_type (d - 1) ∷ computes (Two binary.Eq) int_type (q ∷ (q + 1) ∷ []) ∷ []) (count_in w c n h)

  all_alike : (t : PlainExpr) → Alike t → (c : ℕ) (dims : List ℕ) → NoLanes w c (length dims) → Alike (conjunction t c dims)
  unfolding code code_of
  all_alike t h c [] z q = h q
  all_alike t h c (d ∷ dims) z q = all_alike (expr 0 Bit (two binary.And t (is_last_at c d))) both (suc c) dims (later_lanes w c (length dims) z) q
    where
      both : Alike (expr 0 Bit (two binary.And t (is_last_at c d)))
      both k =
          let x : Code = at_place mems k t in
          let y : Code = at_place mems (k + length x.ops) (is_last_at c d) in
          ops_in_append w (x.ops ++ y.ops) (computes (Two binary.And) (type_of t) (x.word ∷ y.word ∷ []) ∷ [])
          ∙ ap (λ l. l ++ computes (Two binary.And) (type_of t) (x.word ∷ y.word ∷ []) ∷ []) (ops_in_append w x.ops y.ops
          ∙ ap (λ l. l ++ ops_in w y.ops) (h k) ∙ ap (λ l. x.ops ++ l) (last_alike c d (length dims) z (k + length x.ops)))

  test_alike : (c : ℕ) (dims : List ℕ) → NoLanes w c (length dims) → Alike (is_last_element c dims)
  unfolding code code_of
  test_alike c [] z q = refl
  test_alike c (d ∷ dims) z q = all_alike (is_last_at c d) (last_alike c d (length dims) z) (suc c) dims (later_lanes w c (length dims) z) q

module _ (mems : List PlainMem) (c : ℕ) (dims : List ℕ) (ty : Ty) (comb : Comb) where
  abbrev el : (at word acc begun : ℕ) → List PlainOp
  el = element mems c dims ty comb

  abbrev count : ℕ
  count = length dims

  -- in a lane it names the copies of its memories
  pub in_a_lane : (w : Within) (at word acc begun : ℕ) → NoLanes w c count → ops_in w (el at word acc begun) ≡ el at word (w.number acc) (w.number begun)
  in_a_lane w at word acc begun z =
      let q : ℕ = at + 1 + count + 3 in
      let t : Code = test mems c dims ty comb (q + 1 + count) in
      let last : List PlainOp = literal_op Bit 1 ∷ under t.word (write_op Bit begun ((q + 1 + count + length t.ops) ∷ [])) ∷ [] in
      let read : List PlainOp = under at (read_op ty acc (places (at + 1) count)) ∷ computes (Two (operator_of comb)) ty ((at + 1 + count) ∷ word ∷ []) ∷ [] in
      let write : PlainOp = write_op ty acc (places q count ++ (at + 1 + count + 2) ∷ []) in
      ops_in_append w (reads mems c dims ty comb at word acc begun) (chooses mems c dims ty comb at word ∷ writes mems c dims ty comb q (at + 1 + count + 2) acc begun)
      ∙ ap (λ l. l ++ chooses mems c dims ty comb at word ∷ ops_in w (writes mems c dims ty comb q (at + 1 + count + 2) acc begun)) (ops_in_append w (read_op Bit begun [] ∷ counts c count) read
      ∙ ap (λ l. (op_in w (read_op Bit begun []) ∷ l) ++ ops_in w read) (counts_in w c count z))
      ∙ ap (λ l. reads mems c dims ty comb at word (w.number acc) (w.number begun) ++ chooses mems c dims ty comb at word ∷ l) (ops_in_append w (counts c count) (write ∷ (t.ops ++ last))
      ∙ ap (λ l. l ++ op_in w write ∷ ops_in w (t.ops ++ last)) (counts_in w c count z)
      ∙ ap (λ l. counts c count ++ op_in w write ∷ l) (ops_in_append w t.ops last ∙ ap (λ l. l ++ ops_in w last) (test_alike mems w c dims z (q + 1 + count))))

  -- the bodies of lanes, and after them the combination
  pub laned_is : (counter : ℕ) (in_lane : ℕ → Within) (own : List ℕ) (lanes first : ℕ) (before : List PlainOp) (word acc begun : ℕ) → NoLanes (in_lane 0) c count → first ≡ length before
      → laned_ops counter in_lane own lanes (before ++ el first word acc begun) (Some first)
      ≡ all_ops (lane_bodies counter in_lane before own lanes) ++ combined counter first (lane_bodies counter in_lane before own lanes) (el first word ((in_lane 0).number acc) ((in_lane 0).number begun))
  laned_is counter in_lane own lanes first before word acc begun z e =
      let whole : (xs ys : List PlainOp) → List PlainOp = λ xs ys. all_ops (lane_bodies counter in_lane xs own lanes) ++ combined counter first (lane_bodies counter in_lane xs own lanes) ys in
      ap (λ k. whole (take k (before ++ el first word acc begun)) (ops_in (in_lane 0) (drop k (before ++ el first word acc begun)))) e
      ∙ ap (λ xs. whole xs (ops_in (in_lane 0) (drop (length before) (before ++ el first word acc begun)))) (take_front before (el first word acc begun))
      ∙ ap (λ xs. whole before (ops_in (in_lane 0) xs)) (drop_front before (el first word acc begun))
      ∙ ap (λ xs. whole before xs) (in_a_lane (in_lane 0) first word acc begun z)

  past_counts : (k j : ℕ) (rest : List PlainOp) → meeting (counts k j ++ rest) ≡ meeting rest
  past_counts k zero rest = refl
  past_counts k (suc j) rest = past_counts (suc k) j rest

  -- its first operator combines the word
  pub element_meets : (first word acc begun : ℕ) → meeting (el first word acc begun) ≡ record { operator = operator_of comb; ty = ty; word = word }
  element_meets first word acc begun =
      let read : List PlainOp = under first (read_op ty acc (places (first + 1) count)) ∷ computes (Two (operator_of comb)) ty ((first + 1 + count) ∷ word ∷ []) ∷ [] in
      let rest : List PlainOp = chooses mems c dims ty comb first word ∷ writes mems c dims ty comb (first + 1 + count + 3) (first + 1 + count + 2) acc begun in
      ap meeting (append_assoc (counts c count) read rest) ∙ past_counts c count (read ++ rest)

  module _ (counter first : ℕ) (bodies : List Body) (word acc begun : ℕ) (lt : word < first) where
    abbrev pub words : List LaneWord
    words = lane_words 0 word bodies

    abbrev m : Meeting
    m = record { operator = operator_of comb; ty = ty; word = word }

    abbrev pub joined_at : ℕ → Round
    joined_at at = rounds counter (operator_of comb) ty (length words) at words

    chosen_form : Meeting → List PlainOp → List PlainOp
    chosen_form x l =
        if is_balanced x.operator x.ty then after_joined counter first bodies (length (all_ops bodies)) x (lane_words 0 x.word bodies) l else in_order counter first bodies (length (all_ops bodies)) x (lane_words 0 x.word bodies) l

    moves : (from to : ℕ) (ps : List ℕ) → Moves (moved_place first from word to ps) first from
    moves from to ps j = place_in first from word to ps j lt

    -- after the words that are joined
    pub combined_is : (at : ℕ) → at ≡ length (all_ops bodies) → is_balanced (operator_of comb) ty ≡ true
        → combined counter first bodies (el first word acc begun) ≡ (joined_at at).ops ++ el (at + length (joined_at at).ops) (first_place (joined_at at).words) acc begun
    unfolding chosen_form
    combined_is at same balanced =
        let l : List PlainOp = el first word acc begun in
        let from : ℕ = at + length (joined_at at).ops in
        let to : ℕ = first_place (joined_at at).words in
        ap (λ (x : Meeting). chosen_form x l) (element_meets first word acc begun)
        ∙ ap (λ b. if b then after_joined counter first bodies (length (all_ops bodies)) m words l else in_order counter first bodies (length (all_ops bodies)) m words l) balanced
        ∙ ap (λ k. after_joined counter first bodies k m words l) (sym same)
        ∙ ap (λ xs. (joined_at at).ops ++ xs) (element_moved mems c dims ty comb (moved_place first from word to (first_places bodies)) first from word to acc begun (moves from to (first_places bodies)) (place_word first from word to (first_places bodies)))

    -- words that meet the accumulator in order
    abbrev pub met : (at left : ℕ) → List LaneWord → List PlainOp
    met at left ws = met_ops counter (operator_of comb) ty at left ws

    abbrev pub stands : (at : ℕ) → ℕ
    stands at = at + count + 3 + length (met (at + count + 4) (at + count + 3) (without_first words))

    abbrev pub in_order_ops : (at acc begun : ℕ) → List PlainOp
    in_order_ops at acc begun =
        (reads mems c dims ty comb at (first_place words) acc begun ++ chooses mems c dims ty comb at (first_place words) ∷ [])
        ++ met (at + count + 4) (at + count + 3) (without_first words) ++ writes mems c dims ty comb (stands at + 1) (stands at) acc begun

    takes_third : (a b : ℕ) → ((a == word) || ((b == word) || ((word == word) || false))) ≡ true
    takes_third a b = or_right (a == word) ((b == word) || ((word == word) || false)) (or_right (b == word) ((word == word) || false) (or_left (word == word) false (eq-eqb word word refl)))

    any_places : (k j : ℕ) (rest : List ℕ) → word < k → list_any (λ a. a == word) rest ≡ false → list_any (λ a. a == word) (places k j ++ rest) ≡ false
    any_places k zero rest l h = h
    any_places k (suc j) rest l h = ap (λ b. b || list_any (λ a. a == word) (places (k + 1) j ++ rest)) (apart word k l) ∙ any_places (k + 1) j rest (omega (arith, l)) h

    none_taken : (q v : ℕ) → word < q → word < v → list_any (takes word) (writes mems c dims ty comb q v acc begun) ≡ false
    none_taken q v l k =
        let p : ℕ = q + 1 + count in
        let t : Code = test mems c dims ty comb p in
        let flag : PlainOp = under t.word (write_op Bit begun ((p + length t.ops) ∷ [])) in
        any_append word (counts c count) (write_op ty acc (places q count ++ v ∷ []) ∷ (t.ops ++ literal_op Bit 1 ∷ flag ∷ [])) (counts_take word c count)
        (ap (λ b. b || list_any (takes word) (t.ops ++ literal_op Bit 1 ∷ flag ∷ [])) (any_places q count (v ∷ []) l (ap (λ b. b || false) (apart word v k)))
        ∙ any_append word t.ops (literal_op Bit 1 ∷ flag ∷ []) ((tests mems c dims ty comb).take word p (omega (arith, l)))
        (ap (λ b. false || ((b || false) || false)) (apart word (p + length t.ops) (omega (arith, l)))))

    -- what comes after the last meeting
    abbrev after_place : (ended to : ℕ) → (ℕ → ℕ) → ℕ → ℕ
    after_place ended to here k = if nat_le ended k then to + (k - ended) else here k

    after_moves : (ended to : ℕ) (here : ℕ → ℕ) → Moves (after_place ended to here) (ended + 1) (to + 1)
    after_moves ended to here j = ap (λ b. if b then to + (ended + 1 + j - ended) else here (ended + 1 + j)) (le-leb ended (ended + 1 + j) (omega arith)) ∙ place ended to j
      where
        place : (ended to j : ℕ) → to + (ended + 1 + j - ended) ≡ to + 1 + j
        place ended to j = omega arith

    after_ended : (ended to : ℕ) (here : ℕ → ℕ) → after_place ended to here ended ≡ to
    after_ended ended to here = ap (λ b. if b then to + (ended - ended) else here ended) (le-leb ended ended (omega arith)) ∙ place ended to
      where
        place : (ended to : ℕ) → to + (ended - ended) ≡ to
        place ended to = omega arith

    tail_is : (q ended to : ℕ) (here : ℕ → ℕ) → q ≡ ended + 1 → moved (after_place ended to here) (writes mems c dims ty comb q ended acc begun) ≡ writes mems c dims ty comb (to + 1) to acc begun
    tail_is q ended to here e =
        ap (λ k. moved (after_place ended to here) (writes mems c dims ty comb k ended acc begun)) e
        ∙ writes_moved mems c dims ty comb (after_place ended to here) (ended + 1) (to + 1) ended to acc begun (after_moves ended to here) (after_ended ended to here)

    form_is : (at : ℕ) → in_order counter first bodies at m words (el first word acc begun) ≡ in_order_ops at acc begun
    form_is at =
        let to : ℕ = first_place words in
        let ps : List ℕ = first_places bodies in
        let here : ℕ → ℕ = moved_place first at word to ps in
        let before : List PlainOp = reads mems c dims ty comb first word acc begun in
        let last : PlainOp = chooses mems c dims ty comb first word in
        let q : ℕ = first + 1 + count + 3 in
        let v : ℕ = first + 1 + count + 2 in
        let after : List PlainOp = writes mems c dims ty comb q v acc begun in
        let size : length before ≡ count + 3 = reads_long mems c dims ty comb first word acc begun in
        let with : List PlainOp = before ++ last ∷ [] in
        let long : length with ≡ count + 4 = (let l = length-append before (last ∷ []) in omega (arith, l, size)) in
        let others : List LaneWord = without_first words in
        let len : ℕ → ℕ → ℕ = λ k left. length (met (at + k) left others) in
        as_parts counter first bodies at m words before last after (takes_third first (first + 1 + count + 1)) (none_taken q v (omega (arith, lt)) (omega (arith, lt)))
        ∙ ap (λ k. meeting_in_order counter first bodies at m here with (at + k - 1) others (first + k - 1) after) {x = suc (length before)} {y = count + 4} (omega (arith, size))
        ∙ ap (λ k. meeting_in_order counter first bodies at m here with k others (first + (count + 4) - 1) after) {x = at + (count + 4) - 1} {y = at + count + 3} (omega arith)
        ∙ ap (λ k. meeting_in_order counter first bodies at m here with (at + count + 3) others k after) {x = first + (count + 4) - 1} {y = v} (omega arith)
        ∙ ap (λ k. moved here with ++ met (at + k) (at + count + 3) others ++ moved (λ j. if nat_le v j then at + k + len k (at + count + 3) - 1 + (j - v) else here j) after) long
        ∙ ap (λ k. moved here with ++ met k (at + count + 3) others ++ moved (λ j. if nat_le v j then k + length (met k (at + count + 3) others) - 1 + (j - v) else here j) after) {x = at + (count + 4)} {y = at + count + 4} (omega arith)
        ∙ ap (λ xs. xs ++ met (at + count + 4) (at + count + 3) others ++ moved (λ j. if nat_le v j then at + count + 4 + length (met (at + count + 4) (at + count + 3) others) - 1 + (j - v) else here j) after)
        (moved_append here before (last ∷ [])
        ∙ ap (λ xs. xs ++ moved here (last ∷ [])) (reads_moved mems c dims ty comb here first at word to acc begun (moves at to ps) (place_word first at word to ps))
        ∙ ap (λ o. reads mems c dims ty comb at to acc begun ++ o ∷ []) (choice_moved mems c dims ty comb here first at word to (moves at to ps) (place_word first at word to ps)))
        ∙ ap (λ k. (reads mems c dims ty comb at to acc begun ++ chooses mems c dims ty comb at to ∷ []) ++ met (at + count + 4) (at + count + 3) others ++ moved (after_place v k here) after)
        (fewer at (length (met (at + count + 4) (at + count + 3) others)))
        ∙ ap (λ xs. (reads mems c dims ty comb at to acc begun ++ chooses mems c dims ty comb at to ∷ []) ++ met (at + count + 4) (at + count + 3) others ++ xs) (tail_is q v (stands at) here (omega arith))
      where
        fewer : (at l : ℕ) → at + count + 4 + l - 1 ≡ at + count + 3 + l
        fewer at l = omega arith

    pub ordered_is : (at : ℕ) → at ≡ length (all_ops bodies) → is_balanced (operator_of comb) ty ≡ false → combined counter first bodies (el first word acc begun) ≡ in_order_ops at acc begun
    unfolding chosen_form
    ordered_is at same balanced =
        let l : List PlainOp = el first word acc begun in
        ap (λ (x : Meeting). chosen_form x l) (element_meets first word acc begun)
        ∙ ap (λ b. if b then after_joined counter first bodies (length (all_ops bodies)) m words l else in_order counter first bodies (length (all_ops bodies)) m words l) balanced
        ∙ ap (λ k. in_order counter first bodies k m words l) (sym same)
        ∙ form_is at
