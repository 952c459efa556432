-- The numbers that memories of a program have in its core.
use Rattle.std.proofs.Common.{◌≡◌, ℕ, zero, suc, ◌+◌, ◌<◌, Bool, true, false, cond, List, [], ◌∷◌, ◌++◌, refl, sym, ◌∙◌, ap, arith}
use Rattle.std.proofs.lemmas.List.Sums.{sum_by-cons}
use Rattle.std.specs.Prelude.{length, map, filter, take, slice_index_or}
use Rattle.sp_tree.specs.PlainProgram.{PlainMem, no_mem}
use Rattle.sp_core.specs.PlainCore as core
use Rattle.sp_sugar.specs.Numbers.{is_off_dram, mem_number, written_mem, written_mems}

number_cons : (x : PlainMem) (xs : List PlainMem) (m : ℕ) → mem_number (x ∷ xs) (suc m) ≡ cond (is_off_dram x) 1 0 + mem_number xs m
number_cons x xs m = sum_by-cons (λ y. cond (is_off_dram y) 1 0) x (take m xs)

pub number_kept : (x : PlainMem) (xs : List PlainMem) (m : ℕ) → is_off_dram x ≡ true → mem_number (x ∷ xs) (suc m) ≡ suc (mem_number xs m)
number_kept x xs m e = number_cons x xs m ∙ ap (λ b. cond b 1 0 + mem_number xs m) e ∙ omega arith

pub number_skipped : (x : PlainMem) (xs : List PlainMem) (m : ℕ) → is_off_dram x ≡ false → mem_number (x ∷ xs) (suc m) ≡ mem_number xs m
number_skipped x xs m e = number_cons x xs m ∙ ap (λ b. cond b 1 0 + mem_number xs m) e ∙ omega arith

pub written_kept : (x : PlainMem) (xs : List PlainMem) → is_off_dram x ≡ true → written_mems (x ∷ xs) ≡ written_mem x ∷ written_mems xs
written_kept x xs e = ap (λ b. map written_mem (cond b (x ∷ filter is_off_dram xs) (filter is_off_dram xs))) e

pub written_skipped : (x : PlainMem) (xs : List PlainMem) → is_off_dram x ≡ false → written_mems (x ∷ xs) ≡ written_mems xs
written_skipped x xs e = ap (λ b. map written_mem (cond b (x ∷ filter is_off_dram xs) (filter is_off_dram xs))) e

pub either : {P : Type 0} (b : Bool) → (b ≡ true → P) → (b ≡ false → P) → P
either true f g = f refl
either false f g = g refl

-- a memory that is no DRAM stands at its number
pub written_at : (mems : List PlainMem) (others : List core.PlainMem) (m : ℕ) → m < length mems → is_off_dram (slice_index_or mems m no_mem) ≡ true
    → slice_index_or (written_mems mems ++ others) (mem_number mems m) core.no_mem ≡ written_mem (slice_index_or mems m no_mem)
written_at [] others m lt h = absurd (omega arith)
written_at (x ∷ xs) others zero lt h = ap (λ l. slice_index_or (l ++ others) 0 core.no_mem) (written_kept x xs h)
written_at (x ∷ xs) others (suc m) lt h = either (is_off_dram x)
    (λ e. ap (λ l. slice_index_or (l ++ others) (mem_number (x ∷ xs) (suc m)) core.no_mem) (written_kept x xs e)
    ∙ ap (λ n. slice_index_or (written_mem x ∷ written_mems xs ++ others) n core.no_mem) (number_kept x xs m e)
    ∙ written_at xs others m (omega arith) h)
    (λ e. ap (λ l. slice_index_or (l ++ others) (mem_number (x ∷ xs) (suc m)) core.no_mem) (written_skipped x xs e)
    ∙ ap (λ n. slice_index_or (written_mems xs ++ others) n core.no_mem) (number_skipped x xs m e)
    ∙ written_at xs others m (omega arith) h)

pub number_below : (mems : List PlainMem) (m : ℕ) → m < length mems → is_off_dram (slice_index_or mems m no_mem) ≡ true → mem_number mems m < length (written_mems mems)
number_below [] m lt h = absurd (omega arith)
number_below (x ∷ xs) zero lt h = rw (written_kept x xs h) (omega arith)
number_below (x ∷ xs) (suc m) lt h =
    let f : mem_number xs m < length (written_mems xs) = number_below xs m (omega arith) h in
    either (is_off_dram x)
    (λ e. omega (arith, f, number_kept x xs m e, ap length (written_kept x xs e)))
    (λ e. omega (arith, f, number_skipped x xs m e, ap length (written_skipped x xs e)))

-- no two have one number
pub numbers_apart : (mems : List PlainMem) (m n : ℕ) → m < length mems → n < length mems → is_off_dram (slice_index_or mems m no_mem) ≡ true → is_off_dram (slice_index_or mems n no_mem) ≡ true
    → mem_number mems m ≡ mem_number mems n → m ≡ n
numbers_apart [] m n lt lt2 h k e = absurd (omega arith)
numbers_apart (x ∷ xs) zero zero lt lt2 h k e = refl
numbers_apart (x ∷ xs) zero (suc n) lt lt2 h k e = absurd (omega (arith, e, number_kept x xs n h))
numbers_apart (x ∷ xs) (suc m) zero lt lt2 h k e = absurd (omega (arith, e, number_kept x xs m k))
numbers_apart (x ∷ xs) (suc m) (suc n) lt lt2 h k e = either (is_off_dram x)
    (λ f. ap suc (numbers_apart xs m n (omega arith) (omega arith) h k (omega (arith, e, number_kept x xs m f, number_kept x xs n f))))
    (λ f. ap suc (numbers_apart xs m n (omega arith) (omega arith) h k (sym (number_skipped x xs m f) ∙ e ∙ number_skipped x xs n f)))
