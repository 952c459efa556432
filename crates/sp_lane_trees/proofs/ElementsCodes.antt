-- The operations by which elements are combined: those of indices, of the test for the last element, and between them.
use Rattle.std.proofs.Common.{◌≡◌, ℕ, zero, suc, ◌+◌, ◌-◌, ◌<◌, ◌≤◌, Bool, true, false, ◌||◌, List, [], ◌∷◌, ◌++◌, length, map, refl, sym, ◌∙◌, ap, arith, ◌==◌}
use Rattle.std.proofs.lemmas.Bool.{ne_eqb}
use Rattle.std.proofs.lemmas.List.{length-append}
use Rattle.std.specs.List.{list_any}
use Rattle.sp_words.specs.declared.kind.BinOp.TheVariants as binary
use Rattle.sp_words.specs.declared.types.Ty.{Ty}
use Rattle.sp_words.specs.declared.types.Ty.TheVariants.{Bit}
use Rattle.sp_words.specs.Types.{int_type}
use Rattle.sp_tree.specs.PlainExpression.{PlainExpr, expr, two, type_of}
use Rattle.sp_tree.specs.PlainProgram.{PlainMem}
use Rattle.sp_core.specs.declared.operation.OpKind.TheVariants.{Two}
use Rattle.sp_core.specs.PlainCore.{PlainOp}
use Rattle.sp_sugar.specs.Combination.{element_indices, is_last_at, conjunction, is_last_element}
use Rattle.sp_sugar.specs.Operations.{Code, Codes, computes, literal_op, counter_op, code, code_of, codes}
use Rattle.sp_sugar.specs.Values.{no_sources}
use Rattle.sp_lanes.specs.Combined.{takes, moved_op, moved}

-- so many counters from one on, and so many places
abbrev pub counts : (c n : ℕ) → List PlainOp
counts c zero = []
counts c (suc n) = counter_op int_type c ∷ counts (suc c) n

abbrev pub places : (k n : ℕ) → List ℕ
places k zero = []
places k (suc n) = k ∷ places (k + 1) n

pub counts_long : (c n : ℕ) → length (counts c n) ≡ n
counts_long c zero = refl
counts_long c (suc n) = ap suc (counts_long (suc c) n)

-- where a function moves places from one on to places from another one on
abbrev pub Moves : (ℕ → ℕ) → (from to : ℕ) → Type 0
Moves f q r = (j : ℕ) → f (q + j) ≡ r + j

pub moves_at : (f : ℕ → ℕ) (q r : ℕ) → Moves f q r → f q ≡ r
moves_at f q r h = ap f {x = q} {y = q + 0} (omega arith) ∙ h 0 ∙ omega arith

pub moves_on : (f : ℕ → ℕ) (q r n : ℕ) → Moves f q r → Moves f (q + n) (r + n)
moves_on f q r n h j = ap f {x = q + n + j} {y = q + (n + j)} (omega arith) ∙ h (n + j) ∙ omega arith

pub places_moved : (f : ℕ → ℕ) (q r n : ℕ) → Moves f q r → map f (places q n) ≡ places r n
places_moved f q r zero h = refl
places_moved f q r (suc n) h = ap (λ k. k ∷ map f (places (q + 1) n)) (moves_at f q r h) ∙ ap (λ l. r ∷ l) (places_moved f (q + 1) (r + 1) n (moves_on f q r 1 h))

pub counts_moved : (f : ℕ → ℕ) (c n : ℕ) → moved f (counts c n) ≡ counts c n
counts_moved f c zero = refl
counts_moved f c (suc n) = ap (λ l. counter_op int_type c ∷ l) (counts_moved f (suc c) n)

pub moved_append : (f : ℕ → ℕ) (xs ys : List PlainOp) → moved f (xs ++ ys) ≡ moved f xs ++ moved f ys
moved_append f [] ys = refl
moved_append f (x ∷ xs) ys = ap (λ l. moved_op f x ∷ l) (moved_append f xs ys)

pub map_append : (f : ℕ → ℕ) (xs ys : List ℕ) → map f (xs ++ ys) ≡ map f xs ++ map f ys
map_append f [] ys = refl
map_append f (x ∷ xs) ys = ap (λ l. f x ∷ l) (map_append f xs ys)

-- what takes no word from before a place
pub any_append : (word : ℕ) (xs ys : List PlainOp) → list_any (takes word) xs ≡ false → list_any (takes word) ys ≡ false → list_any (takes word) (xs ++ ys) ≡ false
any_append word [] ys h k = k
any_append word (x ∷ xs) ys h k = by (takes word x) (λ e. any_append word xs ys e k) h
  where
    by : (b : Bool) → (list_any (takes word) xs ≡ false → list_any (takes word) (xs ++ ys) ≡ false) → (b || list_any (takes word) xs) ≡ false → (b || list_any (takes word) (xs ++ ys)) ≡ false
    by true more e = e
    by false more e = more e

pub counts_take : (word c n : ℕ) → list_any (takes word) (counts c n) ≡ false
counts_take word c zero = refl
counts_take word c (suc n) = counts_take word (suc c) n

pub apart : (word q : ℕ) → word < q → (q == word) ≡ false
apart word q lt = ne_eqb q word (λ e. after word q lt e)
  where
    after : (w q : ℕ) → w < q → q ≡ w → ⊥
    after w q lt e = omega (arith, lt, e)

module _ (mems : List PlainMem) where
  -- the operations of an expression, and the place of its word, from a place on
  abbrev pub at_place : ℕ → PlainExpr → Code
  at_place q e = code mems no_sources q e

  -- at other places they are the same, moved; they are as many, and take no word from before
  pub record Shifts (e : PlainExpr) : Type 0 where
    pub long : ℕ
    pub is_long : (q : ℕ) → length (at_place q e).ops ≡ long
    pub inside : (q : ℕ) → (at_place q e).word < q + long
    pub ops : (f : ℕ → ℕ) (q r : ℕ) → Moves f q r → moved f (at_place q e).ops ≡ (at_place r e).ops
    pub place : (f : ℕ → ℕ) (q r : ℕ) → Moves f q r → f (at_place q e).word ≡ (at_place r e).word
    pub later : (q : ℕ) → q ≤ (at_place q e).word
    pub take : (word q : ℕ) → word < q → list_any (takes word) (at_place q e).ops ≡ false

  pub indices_are : (c q : ℕ) (dims : List ℕ) → codes mems no_sources q (element_indices c dims) ≡ record { ops = counts c (length dims); words = places q (length dims) }
  unfolding code code_of codes
  indices_are c q [] = refl
  indices_are c q (d ∷ dims) = ap (λ (x : Codes). record { ops = counter_op int_type c ∷ x.ops; words = q ∷ x.words }) (indices_are (suc c) (q + 1) dims)

  pub last_shifts : (c d : ℕ) → Shifts (is_last_at c d)
  unfolding code code_of
  last_shifts c d = record {
    long = 3;
    is_long = λ q. refl;
    inside = λ q. omega arith;
    ops = λ f q r h. ap (λ n. list n (f (q + 1))) (moves_at f q r h) ∙ ap (λ n. list r n) (h 1);
    place = λ f q r h. h 2;
    later = λ q. omega arith;
    take = λ word q lt. ap (λ b. (b || ((q + 1 == word) || false)) || false) (apart word q lt) ∙ ap (λ b. (b || false) || false) (apart word (q + 1) (omega (arith, lt)));
  }
    where
      list : (a b : ℕ) → List PlainOp
      list a b = counter_op int_type c ∷ literal_op int_type (d - 1) ∷ computes (Two binary.Eq) int_type (a ∷ b ∷ []) ∷ []

  -- a test and one more
  abbrev both : PlainExpr → (c d : ℕ) → PlainExpr
  both t c d = expr 0 Bit (two binary.And t (is_last_at c d))

  abbrev both_ops : Ty → (xs ys : List PlainOp) → (a b : ℕ) → List PlainOp
  both_ops ty xs ys a b = (xs ++ ys) ++ computes (Two binary.And) ty (a ∷ b ∷ []) ∷ []

  pub both_shifts : (t : PlainExpr) → Shifts t → (c d : ℕ) → Shifts (both t c d)
  unfolding code code_of
  both_shifts t h c d = record {
    long = h.long + 4;
    is_long = λ q. (let a = h.is_long q in omega (arith, a, length-append (xs q ++ ys q) (end q), length-append (xs q) (ys q)));
    inside = λ q. (let a = h.is_long q in omega (arith, a, length-append (xs q) (ys q)));
    ops = λ f q r m. moved_append f (xs q ++ ys q) (end q) ∙ ap (λ l. l ++ moved f (end q)) (moved_append f (xs q) (ys q)) ∙ ap (λ l. (l ++ moved f (ys q)) ++ moved f (end q)) (h.ops f q r m)
        ∙ ap (λ l. (xs r ++ l) ++ moved f (end q)) ((last_shifts c d).ops f (q + length (xs q)) (r + length (xs q)) (moves_on f q r (length (xs q)) m) ∙ ap (λ n. (at_place (r + n) (is_last_at c d)).ops) (same q r))
        ∙ ap (λ n. both_ops (type_of t) (xs r) (ys r) n (f (at_place (q + length (xs q)) (is_last_at c d)).word)) (h.place f q r m)
        ∙ ap (λ n. both_ops (type_of t) (xs r) (ys r) (at_place r t).word n) ((last_shifts c d).place f (q + length (xs q)) (r + length (xs q)) (moves_on f q r (length (xs q)) m) ∙ ap (λ n. (at_place (r + n) (is_last_at c d)).word) (same q r));
    place = λ f q r m. m (length (xs q ++ ys q)) ∙ ap (λ n. r + n) (length-append (xs q) (ys q) ∙ ap (λ n. n + 3) (same q r) ∙ sym (length-append (xs r) (ys r)));
    later = λ q. omega arith;
    take = λ word q lt. any_append word (xs q ++ ys q) (end q) (any_append word (xs q) (ys q) (h.take word q lt) ((last_shifts c d).take word (q + length (xs q)) (omega (arith, lt))))
        (ap (λ b. (b || (((at_place (q + length (xs q)) (is_last_at c d)).word == word) || false)) || false) (apart word (at_place q t).word (let l = h.later q in omega (arith, lt, l)))
        ∙ ap (λ b. (b || false) || false) (apart word (at_place (q + length (xs q)) (is_last_at c d)).word (omega (arith, lt))));
  }
    where
      xs : ℕ → List PlainOp
      xs q = (at_place q t).ops

      ys : ℕ → List PlainOp
      ys q = (at_place (q + length (xs q)) (is_last_at c d)).ops

      end : ℕ → List PlainOp
      end q = computes (Two binary.And) (type_of t) ((at_place q t).word ∷ (at_place (q + length (xs q)) (is_last_at c d)).word ∷ []) ∷ []

      same : (q r : ℕ) → length (xs q) ≡ length (xs r)
      same q r = h.is_long q ∙ sym (h.is_long r)

  all_shift : (t : PlainExpr) → Shifts t → (c : ℕ) (dims : List ℕ) → Shifts (conjunction t c dims)
  all_shift t h c [] = h
  all_shift t h c (d ∷ dims) = all_shift (both t c d) (both_shifts t h c d) (suc c) dims

  -- the test for the last element
  pub test_shifts : (c : ℕ) (dims : List ℕ) → Shifts (is_last_element c dims)
  unfolding code code_of
  test_shifts c [] = record {
    long = 1;
    is_long = λ q. refl;
    inside = λ q. omega arith;
    ops = λ f q r h. refl;
    place = λ f q r h. moves_at f q r h;
    later = λ q. omega arith;
    take = λ word q lt. refl;
  }
  test_shifts c (d ∷ dims) = all_shift (is_last_at c d) (last_shifts c d) (suc c) dims
