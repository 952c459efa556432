-- What the reader of the tests' cells counts.
use Rattle.std.proofs.Common.{◌≡◌, ℕ, zero, suc, ◌+◌, ◌<◌, ◌≤◌, ◌^◌, Bool, true, cond, List, [], ◌∷◌, ◌++◌, length, get_or, take, filter_map, count_by, Contains, Option, Some, None, is_some, nat_eq, nat_le, IsTrue, sym, ap, ◌∙◌, subst, arith, leb-true, eqb-true, pow-suc, lt_of_le_of_lt}
use Rattle.std.specs.List.{cons_option}
use Rattle.std.proofs.lemmas.List.{take_more}
use Rattle.sp_netlist.specs.declared.cell.Cell.{Cell}
use Rattle.sp_netlist.specs.Cells.{PlainCell, plain_cell, plain_cells}
use Rattle.sp_netlist.proofs.Splits.{count-cons, count-append}

pub count_more : (p : Cell → Bool) (cells : List Cell) (i : ℕ) (cell : Cell) (n : ℕ) (test : Bool) (new : ℕ) → i < length cells → cell ≡ get_or cells i cell → n ≡ count_by p (take i cells) → test ≡ p cell → new ≡ n + cond test 1 0
    → new ≡ count_by p (take (i + 1) cells)
count_more p cells i cell n test new within is before tested sum =
    let one = ap (count_by p) (take_more cells i cell within ∙ ap (λ c. take i cells ++ c ∷ []) (sym is)) ∙ count-append p (take i cells) (cell ∷ []) in
    let last = count-cons p cell [] in
    let same : ◌≡◌ {A = ℕ} (cond test 1 0) (cond (p cell) 1 0) = ap (λ b. cond b 1 0) tested in
    omega (arith, one, last, same, before, sum)

none_counted : (f : PlainCell → Option (List ℕ)) (cells : List Cell) (name : List ℕ) → count_by (λ x. is_some (f (plain_cell x))) cells ≡ 0 → Contains (filter_map f (plain_cells cells)) name → ⊥
none_counted f [] name none within = omega (arith, within.1)
none_counted f (x ∷ cells) name none within = none_in_rest (f (plain_cell x)) (count-cons (λ (y : Cell). is_some (f (plain_cell y))) x cells) (none_counted f cells name) within
  where
    none_in_rest : (o : Option (List ℕ)) → count_by (λ y. is_some (f (plain_cell y))) (x ∷ cells) ≡ cond (is_some o) 1 0 + count_by (λ y. is_some (f (plain_cell y))) cells → (count_by (λ y. is_some (f (plain_cell y))) cells ≡ 0 → Contains (filter_map f (plain_cells cells)) name → ⊥) → Contains (cons_option o (filter_map f (plain_cells cells))) name → ⊥
    none_in_rest None e rest w = rest (omega (arith, e, none)) w
    none_in_rest (Some v) e rest w = omega (arith, e, none)

pub none_named : (f : PlainCell → Option (List ℕ)) (cells : List Cell) (n : ℕ) → n ≡ count_by (λ x. is_some (f (plain_cell x))) cells → IsTrue (nat_eq n 0) → (name : List ℕ) → Contains (filter_map f (plain_cells cells)) name → ⊥
none_named f cells n counted none name within = none_counted f cells name (sym counted ∙ eqb-true n 0 none) within

below_pow : (n : ℕ) → n < 2 ^ n
below_pow zero = omega arith
below_pow (suc n) = let before = below_pow n in rw pow-suc (omega (arith, before))

pub small : (word width n : ℕ) → n ≡ width → IsTrue (nat_le word n) → word < 2 ^ width
small word width n same low = lt_of_le_of_lt (subst (λ m. word ≤ m) same (leb-true word n low)) (below_pow width)
