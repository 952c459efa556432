-- The numbers on the way to an offset.
use Rattle.std.proofs.Common.{◌≡◌, ℕ, ◌+◌, ◌*◌, ◌/◌, ◌%◌, ◌<◌, ◌≤◌, ◌⊎◌, inl, inr, List, length, get_or, ap, arith}
use Rattle.std.specs.List.{remove}
use Rattle.std.specs.Int.{div_ceil}
use Rattle.std.proofs.lemmas.Nat.{mul-lt}
use Rattle.sp_bank.specs.Banking.{Banking, InSpace}
use Rattle.sp_bank.specs.Places.{product_of, IsInside, row_major, weighted, offset}
use Rattle.sp_bank.proofs.ApartLemmas.{block_positive}
use Rattle.sp_bank.proofs.Distinct.{IsInside-at, below_periods}
use Rattle.sp_bank.proofs.MemorySizes.{product_of-remove, div_ceil-le, row_small}

block_small : (b : ℕ) → (b ≡ 1) ⊎ ((b ≡ 2) ⊎ (b ≡ 4)) → b ≤ 4
block_small b (inl e) = omega arith
block_small b (inr (inl e)) = omega arith
block_small b (inr (inr e)) = omega arith

pub record Sizes (row block : ℕ) : Type 0 where
  pub row_fits : row < 4294967295
  pub some_block : 0 < block
  pub block_fits : block ≤ 4

pub sizes : (s : Banking) (dims x : List ℕ) (q lead size at period periods block : ℕ) → InSpace s → length dims ≡ length s.alpha → IsInside dims x →
    product_of dims ≤ 4294967295 → q ≡ s.hinge → size ≡ get_or dims q 0 → at ≡ get_or x q 0 → period ≡ s.banks * s.block →
    periods ≡ div_ceil size period → lead < product_of (remove dims q) → block ≡ s.block → Sizes (lead * periods + at / period) block
sizes s dims x q lead size at period periods block space rank inside small is_q is_size is_at is_period is_periods lead_below is_block =
    let hinge_in : q < length dims = omega (arith, is_q, rank, space.size.hinge_place) in
    let some_block = block_positive s.block space.size.allowed_block in
    let some_period : 0 < s.banks * s.block = mul-lt 0 0 s.banks s.block (omega (arith, space.size.some_bank)) some_block in
    let period_some : 0 < period = omega (arith, some_period, is_period) in
    let at_below : at < size = omega (arith, IsInside-at dims x q hinge_in inside, is_at, is_size) in
    let along : at / period < periods = omega (arith, below_periods at size period period_some at_below, is_periods) in
    let few : periods ≤ size = omega (arith, div_ceil-le size period period_some, is_periods) in
    let whole = product_of-remove dims q hinge_in in
    let scaled = ap (λ z. product_of (remove dims q) * z) is_size in
    record {
      row_fits = row_small lead (product_of (remove dims q)) (at / period) periods size 4294967295 lead_below along few (omega (arith, whole, scaled, small));
      some_block = omega (arith, some_block, is_block);
      block_fits = omega (arith, block_small s.block space.size.allowed_block, is_block);
    }

pub is_offset : (s : Banking) (dims x : List ℕ) (q lead size at period periods block w : ℕ) → q ≡ s.hinge → size ≡ get_or dims q 0 → at ≡ get_or x q 0 →
    period ≡ s.banks * s.block → periods ≡ div_ceil size period → lead ≡ row_major (remove dims q) (remove x q) → block ≡ s.block → w ≡ weighted s.alpha x →
    (lead * periods + at / period) * block + w % block ≡ offset s dims x
is_offset s dims x q lead size at period periods block w is_q is_size is_at is_period is_periods is_lead is_block is_w = cc
