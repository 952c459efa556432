-- The combination of an element in two parts: up to its choice, and from there on; in a lane, and after the words of lanes.
use Rattle.std.proofs.Common.{◌≡◌, ℕ, ◌+◌, List, [], ◌∷◌, ◌++◌, length, map, sym, ◌∙◌, ap, arith}
use Rattle.std.proofs.lemmas.List.{append_assoc, length-append}
use Rattle.sp_words.specs.declared.types.Ty.{Ty}
use Rattle.sp_words.specs.declared.types.Ty.TheVariants.{Bit}
use Rattle.sp_tree.specs.declared.statement.Comb.{Comb}
use Rattle.sp_tree.specs.PlainProgram.{PlainMem}
use Rattle.sp_core.specs.declared.operation.OpKind.TheVariants.{Two, Mux}
use Rattle.sp_core.specs.PlainCore.{PlainOp}
use Rattle.sp_sugar.specs.Combination.{operator_of, element_indices, is_last_element, element_ops}
use Rattle.sp_sugar.specs.Operations.{Code, Codes, computes, read_op, write_op, literal_op, under, codes}
use Rattle.sp_sugar.specs.Values.{no_sources}
use Rattle.sp_lanes.specs.Combined.{moved_op, moved}
use Rattle.sp_lane_trees.proofs.ElementsCodes.{counts, places, counts_long, Moves, moves_at, moves_on, places_moved, counts_moved, moved_append, map_append, at_place, Shifts, indices_are, test_shifts}

-- the parts of a list in another order of brackets
brackets : (is again tests : List PlainOp) (a b x m w l e : PlainOp) → (((a ∷ is) ++ b ∷ x ∷ m ∷ again) ++ w ∷ tests) ++ l ∷ e ∷ [] ≡ ((a ∷ is) ++ b ∷ x ∷ []) ++ m ∷ (again ++ w ∷ (tests ++ l ∷ e ∷ []))
brackets is again tests a b x m w l e =
    append_assoc ((a ∷ is) ++ b ∷ x ∷ m ∷ again) (w ∷ tests) (l ∷ e ∷ [])
    ∙ append_assoc (a ∷ is) (b ∷ x ∷ m ∷ again) (w ∷ (tests ++ l ∷ e ∷ []))
    ∙ sym (append_assoc (a ∷ is) (b ∷ x ∷ []) (m ∷ (again ++ w ∷ (tests ++ l ∷ e ∷ []))))

module _ (mems : List PlainMem) (c : ℕ) (dims : List ℕ) (ty : Ty) (comb : Comb) where
  abbrev pub n : ℕ
  n = length dims

  abbrev pub test : ℕ → Code
  test q = at_place mems q (is_last_element c dims)

  abbrev pub tests : Shifts mems (is_last_element c dims)
  tests = test_shifts mems c dims

  -- the flag is read, and under it the accumulator; the operator; and the choice
  abbrev pub read_form : (p0 p1 : ℕ) (is : List ℕ) (to : ℕ) → (acc begun : ℕ) → List PlainOp
  read_form p0 p1 is to acc begun = (read_op Bit begun [] ∷ counts c n) ++ under p0 (read_op ty acc is) ∷ computes (Two (operator_of comb)) ty (p1 ∷ to ∷ []) ∷ []

  abbrev pub choice : (p0 p2 to : ℕ) → PlainOp
  choice p0 p2 to = computes Mux ty (p0 ∷ p2 ∷ to ∷ [])

  -- a word is written, and with the last element the flag
  abbrev pub write_form : (is : List ℕ) (v : ℕ) (ops : List PlainOp) (t l : ℕ) → (acc begun : ℕ) → List PlainOp
  write_form is v ops t l acc begun = counts c n ++ write_op ty acc (is ++ v ∷ []) ∷ (ops ++ literal_op Bit 1 ∷ under t (write_op Bit begun (l ∷ [])) ∷ [])

  -- from a place on
  abbrev pub reads : (at word : ℕ) → (acc begun : ℕ) → List PlainOp
  reads at word acc begun = read_form at (at + 1 + n) (places (at + 1) n) word acc begun

  abbrev pub chooses : (at word : ℕ) → PlainOp
  chooses at word = choice at (at + 1 + n + 1) word

  abbrev pub writes : (q v : ℕ) → (acc begun : ℕ) → List PlainOp
  writes q v acc begun = write_form (places q n) v (test (q + 1 + n)).ops (test (q + 1 + n)).word (q + 1 + n + length (test (q + 1 + n)).ops) acc begun

  abbrev pub element : (at word : ℕ) → (acc begun : ℕ) → List PlainOp
  element at word acc begun = reads at word acc begun ++ chooses at word ∷ writes (at + 1 + n + 3) (at + 1 + n + 2) acc begun

  abbrev with_parts : (acc begun : ℕ) → (at word : ℕ) (a b : Codes) (k : ℕ) → List PlainOp
  with_parts acc begun at word a b k =
      (((read_op Bit begun [] ∷ a.ops) ++ under at (read_op ty acc a.words) ∷ computes (Two (operator_of comb)) ty ((at + 1 + n) ∷ word ∷ []) ∷ computes Mux ty (at ∷ (at + 1 + n + 1) ∷ word ∷ []) ∷ b.ops)
      ++ write_op ty acc (b.words ++ (at + 1 + n + 2) ∷ []) ∷ (test k).ops) ++ literal_op Bit 1 ∷ under (test k).word (write_op Bit begun ((k + length (test k).ops) ∷ [])) ∷ []

  pub element_is : (at word acc begun : ℕ) → element_ops mems at word c dims acc begun ty comb ≡ element at word acc begun
  element_is at word acc begun =
      let read : ℕ = at + 1 + n in
      let i : ℕ → Codes = λ k. record { ops = counts c n; words = places k n } in
      ap (λ x. with_parts acc begun at word x (codes mems no_sources (read + 3) (element_indices c dims)) (read + 4 + n)) (indices_are mems c (at + 1) dims)
      ∙ ap (λ x. with_parts acc begun at word (i (at + 1)) x (read + 4 + n)) (indices_are mems c (read + 3) dims)
      ∙ ap (λ k. with_parts acc begun at word (i (at + 1)) (i (read + 3)) k) {x = read + 4 + n} {y = read + 3 + 1 + n} (omega arith)
      ∙ brackets (counts c n) (counts c n) (test (read + 3 + 1 + n)).ops (read_op Bit begun []) (under at (read_op ty acc (places (at + 1) n))) (computes (Two (operator_of comb)) ty (read ∷ word ∷ [])) (chooses at word)
      (write_op ty acc (places (read + 3) n ++ (read + 2) ∷ [])) (literal_op Bit 1) (under (test (read + 3 + 1 + n)).word (write_op Bit begun ((read + 3 + 1 + n + length (test (read + 3 + 1 + n)).ops) ∷ [])))

  pub reads_long : (at word acc begun : ℕ) → length (reads at word acc begun) ≡ n + 3
  reads_long at word acc begun = omega (arith, length-append (read_op Bit begun [] ∷ counts c n) (under at (read_op ty acc (places (at + 1) n)) ∷ computes (Two (operator_of comb)) ty ((at + 1 + n) ∷ word ∷ []) ∷ []), counts_long c n)

  -- moved
  abbrev two_ops : (p0 p1 : ℕ) (is : List ℕ) (to acc : ℕ) → List PlainOp
  two_ops p0 p1 is to acc = under p0 (read_op ty acc is) ∷ computes (Two (operator_of comb)) ty (p1 ∷ to ∷ []) ∷ []

  pub reads_moved : (f : ℕ → ℕ) (q r word to acc begun : ℕ) → Moves f q r → f word ≡ to → moved f (reads q word acc begun) ≡ reads r to acc begun
  reads_moved f q r word to acc begun h e =
      moved_append f (read_op Bit begun [] ∷ counts c n) (two_ops q (q + 1 + n) (places (q + 1) n) word acc)
      ∙ ap (λ l. (read_op Bit begun [] ∷ l) ++ two_ops (f q) (f (q + 1 + n)) (map f (places (q + 1) n)) (f word) acc) (counts_moved f c n)
      ∙ ap (λ k. read_form k (f (q + 1 + n)) (map f (places (q + 1) n)) (f word) acc begun) (moves_at f q r h)
      ∙ ap (λ k. read_form r k (map f (places (q + 1) n)) (f word) acc begun) (moves_at f (q + 1 + n) (r + 1 + n) (moves_on f (q + 1) (r + 1) n (moves_on f q r 1 h)))
      ∙ ap (λ l. read_form r (r + 1 + n) l (f word) acc begun) (places_moved f (q + 1) (r + 1) n (moves_on f q r 1 h))
      ∙ ap (λ k. read_form r (r + 1 + n) (places (r + 1) n) k acc begun) e

  pub choice_moved : (f : ℕ → ℕ) (q r word to : ℕ) → Moves f q r → f word ≡ to → moved_op f (chooses q word) ≡ chooses r to
  choice_moved f q r word to h e =
      ap (λ k. choice k (f (q + 1 + n + 1)) (f word)) (moves_at f q r h)
      ∙ ap (λ k. choice r k (f word)) (moves_at f (q + 1 + n + 1) (r + 1 + n + 1) (moves_on f (q + 1 + n) (r + 1 + n) 1 (moves_on f (q + 1) (r + 1) n (moves_on f q r 1 h))))
      ∙ ap (λ k. choice r (r + 1 + n + 1) k) e

  abbrev end_ops : (t l begun : ℕ) → List PlainOp
  end_ops t l begun = literal_op Bit 1 ∷ under t (write_op Bit begun (l ∷ [])) ∷ []

  pub writes_moved : (f : ℕ → ℕ) (q r v to acc begun : ℕ) → Moves f q r → f v ≡ to → moved f (writes q v acc begun) ≡ writes r to acc begun
  writes_moved f q r v to acc begun h e =
      let k : ℕ = q + 1 + n in
      let j : ℕ = r + 1 + n in
      let there : Moves f k j = moves_on f (q + 1) (r + 1) n (moves_on f q r 1 h) in
      let same : length (test k).ops ≡ length (test j).ops = tests.is_long k ∙ sym (tests.is_long j) in
      moved_append f (counts c n) (write_op ty acc (places q n ++ v ∷ []) ∷ ((test k).ops ++ end_ops (test k).word (k + length (test k).ops) begun))
      ∙ ap (λ l. l ++ write_op ty acc (map f (places q n ++ v ∷ [])) ∷ moved f ((test k).ops ++ end_ops (test k).word (k + length (test k).ops) begun)) (counts_moved f c n)
      ∙ ap (λ l. counts c n ++ write_op ty acc l ∷ moved f ((test k).ops ++ end_ops (test k).word (k + length (test k).ops) begun)) (map_append f (places q n) (v ∷ []))
      ∙ ap (λ l. counts c n ++ write_op ty acc (map f (places q n) ++ f v ∷ []) ∷ l) (moved_append f (test k).ops (end_ops (test k).word (k + length (test k).ops) begun))
      ∙ ap (λ l. write_form l (f v) (moved f (test k).ops) (f (test k).word) (f (k + length (test k).ops)) acc begun) (places_moved f q r n h)
      ∙ ap (λ z. write_form (places r n) z (moved f (test k).ops) (f (test k).word) (f (k + length (test k).ops)) acc begun) e
      ∙ ap (λ l. write_form (places r n) to l (f (test k).word) (f (k + length (test k).ops)) acc begun) (tests.ops f k j there)
      ∙ ap (λ z. write_form (places r n) to (test j).ops z (f (k + length (test k).ops)) acc begun) (tests.place f k j there)
      ∙ ap (λ z. write_form (places r n) to (test j).ops (test j).word z acc begun) (there (length (test k).ops) ∙ ap (λ z. j + z) same)

  pub element_moved : (f : ℕ → ℕ) (q r word to acc begun : ℕ) → Moves f q r → f word ≡ to → moved f (element q word acc begun) ≡ element r to acc begun
  element_moved f q r word to acc begun h e =
      let there : Moves f (q + 1 + n) (r + 1 + n) = moves_on f (q + 1) (r + 1) n (moves_on f q r 1 h) in
      moved_append f (reads q word acc begun) (chooses q word ∷ writes (q + 1 + n + 3) (q + 1 + n + 2) acc begun)
      ∙ ap (λ l. l ++ moved_op f (chooses q word) ∷ moved f (writes (q + 1 + n + 3) (q + 1 + n + 2) acc begun)) (reads_moved f q r word to acc begun h e)
      ∙ ap (λ o. reads r to acc begun ++ o ∷ moved f (writes (q + 1 + n + 3) (q + 1 + n + 2) acc begun)) (choice_moved f q r word to h e)
      ∙ ap (λ l. reads r to acc begun ++ chooses r to ∷ l) (writes_moved f (q + 1 + n + 3) (r + 1 + n + 3) (q + 1 + n + 2) (r + 1 + n + 2) acc begun (moves_on f (q + 1 + n) (r + 1 + n) 3 there) (there 2))
