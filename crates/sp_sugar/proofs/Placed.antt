-- The registers that the compiler adds stand at their numbers, and may be used where they are owned.
use Rattle.std.proofs.Common.{◌≡◌, ℕ, zero, suc, ◌+◌, ◌-◌, ◌<◌, ◌≤◌, Bool, true, false, ◌||◌, List, [], ◌∷◌, ◌++◌, refl, sym, ◌∙◌, ap, subst, arith, length-append, ◌==◌, if◌then◌else◌}
use Rattle.std.proofs.lemmas.Bool.{and_from, eq-eqb, lt-ltb, or_left, or_right, false≢true}
use Rattle.std.specs.Prelude.{length, slice_index_or}
use Rattle.sp_words.specs.declared.kind.Kind.TheVariants.{Reg}
use Rattle.sp_words.specs.declared.types.Ty.{Ty}
use Rattle.sp_words.specs.Types.{int_type}
use Rattle.sp_tree.specs.PlainExpression.{PlainExpr}
use Rattle.sp_core.specs.Around.{Around, is_port_kind}
use Rattle.sp_core.specs.Declarations.{mem, is_among}
use Rattle.sp_core.specs.PlainCore.{PlainMem, PlainCore, no_mem}
use Rattle.sp_sugar.specs.Early.{registers_for}
use Rattle.sp_sugar.specs.Numbers.{crossing_register, numbers_from}
use Rattle.sp_sugar.specs.Rules.{IsRegister}
use Rattle.sp_sugar.proofs.NumberLemmas.{either}

pub among_left : (k : ℕ) (xs ys : List ℕ) → is_among k xs ≡ true → is_among k (xs ++ ys) ≡ true
among_left k [] ys e = absurd (false≢true e)
among_left k (x ∷ xs) ys e = either (k == x)
    (λ f. or_left (k == x) (is_among k (xs ++ ys)) f)
    (λ f. or_right (k == x) (is_among k (xs ++ ys)) (among_left k xs ys (ap (λ b. b || is_among k xs) (sym f) ∙ e)))

pub among_right : (k : ℕ) (xs ys : List ℕ) → is_among k ys ≡ true → is_among k (xs ++ ys) ≡ true
among_right k [] ys e = e
among_right k (x ∷ xs) ys e = or_right (k == x) (is_among k (xs ++ ys)) (among_right k xs ys e)

pub among_either : {P : Type 0} (k : ℕ) (xs ys : List ℕ) → is_among k (xs ++ ys) ≡ true → (is_among k xs ≡ true → P) → (is_among k ys ≡ true → P) → P
among_either k [] ys e f g = g e
among_either k (x ∷ xs) ys e f g = either (k == x)
    (λ c. f (or_left (k == x) (is_among k xs) c))
    (λ c. among_either k xs ys (ap (λ b. b || is_among k (xs ++ ys)) (sym c) ∙ e) (λ u. f (or_right (k == x) (is_among k xs) u)) g)

-- what some nodes own may be used here
abbrev pub Has : Around → List ℕ → Type 0
Has around ks = (k : ℕ) → is_among k ks ≡ true → is_among k around.owned ≡ true

pub has_left : (around : Around) (xs ys : List ℕ) → Has around (xs ++ ys) → Has around xs
has_left around xs ys f k e = f k (among_left k xs ys e)

pub has_right : (around : Around) (xs ys : List ℕ) → Has around (xs ++ ys) → Has around ys
has_right around xs ys f k e = f k (among_right k xs ys e)

pub numbers_in : (k first count : ℕ) → first ≤ k → k < first + count → is_among k (numbers_from first count) ≡ true
numbers_in k first zero le lt = absurd (omega arith)
numbers_in k first (suc count) le lt = either (k == first)
    (λ e. or_left (k == first) (is_among k (numbers_from (suc first) count)) e)
    (λ e. or_right (k == first) (is_among k (numbers_from (suc first) count)) (numbers_in k (suc first) count (above e) (omega arith)))
  where
    above : (k == first) ≡ false → suc first ≤ k
    above e = least (λ f. false≢true (sym e ∙ eq-eqb k first f)) le
      where
        least : (k ≡ first → ⊥) → first ≤ k → suc first ≤ k
        least ne le = omega (arith, ne, le)

module _ (core : PlainCore) where
  -- memories stand from a number on
  pub record Placed (n : ℕ) (l : List PlainMem) : Type 0 where
    pub within : n + length l ≤ length core.mems
    pub each : (j : ℕ) → j < length l → mem core (n + j) ≡ slice_index_or l j no_mem

  front : (xs ys : List PlainMem) (j : ℕ) → j < length xs → slice_index_or (xs ++ ys) j no_mem ≡ slice_index_or xs j no_mem
  front [] ys j lt = absurd (omega arith)
  front (x ∷ xs) ys zero lt = refl
  front (x ∷ xs) ys (suc j) lt = front xs ys j (omega arith)

  back : (xs ys : List PlainMem) (j : ℕ) → slice_index_or (xs ++ ys) (length xs + j) no_mem ≡ slice_index_or ys j no_mem
  back [] ys j = ap (λ k. slice_index_or ys k no_mem) {x = 0 + j} {y = j} (omega arith)
  back (x ∷ xs) ys j = ap (λ k. slice_index_or (x ∷ xs ++ ys) k no_mem) {x = suc (length xs) + j} {y = suc (length xs + j)} (omega arith) ∙ back xs ys j

  pub placed_left : (n : ℕ) (xs ys : List PlainMem) → Placed n (xs ++ ys) → Placed n xs
  placed_left n xs ys p = record { within = let e : length (xs ++ ys) ≡ length xs + length ys = length-append xs ys in let w : n + length (xs ++ ys) ≤ length core.mems = p.within in omega (arith, e, w); each = λ j lt. p.each j (omega (arith, length-append xs ys, lt)) ∙ front xs ys j lt }

  pub placed_right : (n : ℕ) (xs ys : List PlainMem) → Placed n (xs ++ ys) → Placed (n + length xs) ys
  placed_right n xs ys p = record {
    within = let e : length (xs ++ ys) ≡ length xs + length ys = length-append xs ys in let w : n + length (xs ++ ys) ≤ length core.mems = p.within in omega (arith, e, w);
    each = λ j lt. ap (λ k. mem core k) {x = n + length xs + j} {y = n + (length xs + j)} (omega arith) ∙ p.each (length xs + j) (omega (arith, length-append xs ys, lt)) ∙ back xs ys j;
  }

  module _ (around : Around) where
    -- a register of them
    pub register_at : (n : ℕ) (l : List PlainMem) → Placed n l → Has around (numbers_from n (length l)) → (j : ℕ) → j < length l → (ty : Ty) → (slice_index_or l j no_mem).kind ≡ Reg → (slice_index_or l j no_mem).ty ≡ ty → IsRegister core around (n + j) ty
    register_at n l p has j lt ty k t = record {
      usable = and_from _ _ (lt-ltb (n + j) (length core.mems) (let w : n + length l ≤ length core.mems = p.within in omega (arith, w, lt)))
          (or_right (is_port_kind (mem core (n + j)).kind) (is_among (n + j) around.owned) (has (n + j) (numbers_in (n + j) n (length l) (omega arith) (omega (arith, lt)))));
      is_kind = ap (λ (x : PlainMem). x.kind) (p.each j lt) ∙ k;
      is_type = ap (λ (x : PlainMem). x.ty) (p.each j lt) ∙ t;
    }

    pub first_register : (n : ℕ) (x : PlainMem) (ty : Ty) → Placed n (x ∷ []) → Has around (n ∷ []) → x.kind ≡ Reg → x.ty ≡ ty → IsRegister core around n ty
    first_register n x ty p has k t = subst (λ m. IsRegister core around m ty) {x = n + 0} {y = n} (omega arith) (register_at n (x ∷ []) p has 0 (omega arith) ty k t)

    crossing_each : (crosses : PlainExpr → Bool) (es : List PlainExpr) (j : ℕ) → j < length (registers_for crosses es) → slice_index_or (registers_for crosses es) j no_mem ≡ crossing_register int_type
    crossing_each crosses [] j lt = absurd (omega arith)
    crossing_each crosses (e ∷ es) j lt = choose (crosses e) (λ i l. crossing_each crosses es i l) j lt
      where
        choose : (b : Bool) → ((i : ℕ) → i < length (registers_for crosses es) → slice_index_or (registers_for crosses es) i no_mem ≡ crossing_register int_type) → (j : ℕ)
            → j < length ((if b then crossing_register int_type ∷ [] else []) ++ registers_for crosses es) → slice_index_or ((if b then crossing_register int_type ∷ [] else []) ++ registers_for crosses es) j no_mem ≡ crossing_register int_type
        choose true f zero lt = refl
        choose true f (suc j) lt = f j (omega arith)
        choose false f j lt = f j lt

    -- those of words that cross early
    pub early_at : (crosses : PlainExpr → Bool) (r : ℕ) (es : List PlainExpr) → Placed r (registers_for crosses es) → Has around (numbers_from r (length (registers_for crosses es)))
        → (j : ℕ) → r ≤ j → j < r + length (registers_for crosses es) → IsRegister core around j int_type
    early_at crosses r es p has j le lt =
        let i : ℕ = j - r in
        let e : r + i ≡ j = omega arith in
        let l : i < length (registers_for crosses es) = omega arith in
        subst (λ m. IsRegister core around m int_type) e
        (register_at r (registers_for crosses es) p has i l int_type (ap (λ (x : PlainMem). x.kind) (crossing_each crosses es i l)) (ap (λ (x : PlainMem). x.ty) (crossing_each crosses es i l)))
