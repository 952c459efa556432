-- Words of lanes.
use Rattle.std.proofs.Common.{◌≡◌, ℕ, suc, ◌%◌, ◌^◌, ◌||◌, Bool, ℤ, pos, ◌+ℤ◌, refl, sym, ap, ◌∙◌}
use Rattle.sp_words.specs.Types.{int_type}
use Rattle.sp_words.specs.WholeNumbers.{modulo}
use Rattle.sp_words.specs.Words.{word_add, wrap}
use Rattle.sp_words.proofs.LawLemmas.{add-KeepsWrapping}

wrapped_number : (n : ℕ) → wrap int_type (pos n) ≡ n % 2 ^ 32
unfolding wrap modulo
wrapped_number n = refl

pub lane_words : (value : ℤ) (more : ℕ) → word_add int_type (wrap int_type value) (more % 2 ^ 32) ≡ wrap int_type (value +ℤ pos more)
lane_words value more = ap (word_add int_type (wrap int_type value)) (sym (wrapped_number more)) ∙ add-KeepsWrapping int_type value (pos more)
