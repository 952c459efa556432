-- How many places a bank has.
use Rattle.std.proofs.Common.{◌≡◌, ℕ, zero, suc, ◌+◌, ◌-◌, ◌*◌, ◌<◌, ◌≤◌, List, [], ◌∷◌, length, take, drop, get_or, All, sym, ap, ◌∙◌, arith}
use Rattle.std.specs.Int.{div_ceil}
use Rattle.std.proofs.Math.Nat.{le-mul_of_pos_right, mul_comm}
use Rattle.std.proofs.lemmas.List.{get_or_default}
use Rattle.sp_bank.specs.Places.{product_of, IsInside, periods, bank_length}
use Rattle.sp_bank.proofs.Distinct.{offset-below}
use Rattle.sp_bank.proofs.MemorySizes.{product_of-append, rest_is}
use Rattle.sp_netlist.specs.Rules.{IsLength}
use Rattle.sp_places.specs.declared.layout.Layout.{Layout}
use Rattle.sp_places.specs.Layouts.{IsLayout, banking_of}

zeros : List ℕ → List ℕ
zeros [] = []
zeros (d ∷ ds) = 0 ∷ zeros ds

zeros_inside : (dims : List ℕ) → All IsLength dims → IsInside dims (zeros dims)
unfolding zeros
zeros_inside [] h = tt
zeros_inside (d ∷ ds) h = (let one = (h 0 d (omega arith)).0 in omega (arith, one), zeros_inside ds (λ k x l. h (suc k) x (omega (arith, l))))

-- parts of a size
pub record Parts (front back n : ℕ) : Type 0 where
  pub front_small : front ≤ n
  pub back_small : back ≤ n
  pub both_small : front * back ≤ n

parts : (front back row n : ℕ) → front * back * row ≡ n → 0 < n → Parts front back n
parts front back zero n e some = absurd (omega (arith, e, some))
parts front zero (suc row) n e some = absurd (omega (arith, e, some))
parts zero (suc back) (suc row) n e some = absurd (omega (arith, e, some))
parts (suc front) (suc back) (suc row) n e some =
    let whole = le-mul_of_pos_right {m = suc row} (suc front * suc back) (omega arith) in
    let one = le-mul_of_pos_right {m = suc back} (suc front) (omega arith) in
    let two = le-mul_of_pos_right {m = suc front} (suc back) (omega arith) in
    let turned = mul_comm (suc back) (suc front) in
    record { front_small = omega (arith, whole, one, e); back_small = omega (arith, whole, two, turned, e); both_small = omega (arith, whole, e) }

module _ (l : Layout) (h : IsLayout l) where
  pub whole : product_of (take l.hinge l.dims.items) * product_of (drop (suc l.hinge) l.dims.items) * (periods (banking_of l) l.dims.items * l.block) ≡ bank_length (banking_of l) l.dims.items
  whole = ap (λ n. n * (periods (banking_of l) l.dims.items * l.block)) (sym (product_of-append (take l.hinge l.dims.items) (drop (suc l.hinge) l.dims.items)))

  pub some : 0 < bank_length (banking_of l) l.dims.items
  some = let below = offset-below (banking_of l) l.dims.items (zeros l.dims.items) h.space h.rank (zeros_inside l.dims.items h.sizes) in omega (arith, below)

  pub size_parts : Parts (product_of (take l.hinge l.dims.items)) (product_of (drop (suc l.hinge) l.dims.items)) (bank_length (banking_of l) l.dims.items)
  size_parts = parts (product_of (take l.hinge l.dims.items)) (product_of (drop (suc l.hinge) l.dims.items)) (periods (banking_of l) l.dims.items * l.block) (bank_length (banking_of l) l.dims.items) whole some

-- sizes behind the hinge's
pub after_is : (dims items : List ℕ) (hinge : ℕ) → items ≡ dims → product_of (take (length items - (hinge + 1)) (drop (hinge + 1) items)) ≡ product_of (drop (suc hinge) dims)
after_is dims items hinge e = ap (λ ds. product_of (take (length ds - (hinge + 1)) (drop (hinge + 1) ds))) e ∙ ap product_of (rest_is dims hinge)

pub before_is : (dims items : List ℕ) (hinge : ℕ) → items ≡ dims → product_of (take hinge items) ≡ product_of (take hinge dims)
before_is dims items hinge e = ap (λ ds. product_of (take hinge ds)) e

pub row_is : (dims : List ℕ) (hinge period size periods from block from_block : ℕ) → hinge < length dims → size ≡ get_or dims hinge size → periods ≡ div_ceil size period → from ≡ periods → from_block ≡ block
    → from * from_block ≡ div_ceil (get_or dims hinge 0) period * block
row_is dims hinge period size periods from block from_block l e f g k =
    ap (λ n. n * from_block) (g ∙ f ∙ ap (λ n. div_ceil n period) (e ∙ get_or_default dims hinge size 0 l)) ∙ ap (λ n. div_ceil (get_or dims hinge 0) period * n) k

pub product_is : (a b c x y z : ℕ) → a ≡ x → b ≡ y → c ≡ z → a * b * c ≡ x * y * z
product_is a b c x y z e f g = rw (e, f, g) (omega arith)
