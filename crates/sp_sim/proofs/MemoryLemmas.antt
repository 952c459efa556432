-- Words of memories after a write.
use Rattle.std.proofs.Common.{◌≡◌, ◌≢◌, ℕ, ◌<◌, ◌≤◌, ◌^◌, List, length, get_or, set, refl, sym, ap, ◌∙◌, subst, arith, ⊎_elim, ◌==◌}
use Rattle.std.proofs.lemmas.Bool.{cases_eq, cases_lt, cond_both}
use Rattle.std.proofs.lemmas.List.{set_past, length-set, get_or-set_same, get_or-set_other, get_or_past}
use Rattle.sp_netlist.specs.Cells.{PlainCell, write_tap, store_unit}
use Rattle.sp_sim.specs.Memories.{Words, no_words, word_at, width_at, written}
use Rattle.sp_sim.specs.Writing.{bank_write, dram_write, BankWordFits, DramWordFits}

abbrev memory_with : List Words → ℕ → ℕ → ℕ → Words
memory_with ms n a v = record { width = (get_or ms n no_words).width; words = set (get_or ms n no_words).words a v }

-- the memory that is written, and any other
at_same : (ms : List Words) (n a v : ℕ) → n < length ms → get_or (written ms n a v) n no_words ≡ memory_with ms n a v
unfolding written
at_same ms n a v l = get_or-set_same ms n (memory_with ms n a v) no_words l

at_other : (ms : List Words) (n a v m : ℕ) → m ≢ n → get_or (written ms n a v) m no_words ≡ get_or ms m no_words
unfolding written
at_other ms n a v m d = get_or-set_other ms n m (memory_with ms n a v) no_words d

at_past : (ms : List Words) (n a v : ℕ) → length ms ≤ n → written ms n a v ≡ ms
unfolding written
at_past ms n a v l = set_past ms n (memory_with ms n a v) l

-- a function of a memory that a write keeps
kept_at : {X : Type 0} (f : Words → X) → ((ms : List Words) (n a v : ℕ) → f (memory_with ms n a v) ≡ f (get_or ms n no_words))
    → (ms : List Words) (n a v m : ℕ) → f (get_or (written ms n a v) m no_words) ≡ f (get_or ms m no_words)
kept_at f keeps ms n a v m = ⊎_elim
    (λ e. ⊎_elim
    (λ l. ap (λ k. f (get_or (written ms n a v) k no_words)) e ∙ ap f (at_same ms n a v l) ∙ keeps ms n a v ∙ ap (λ k. f (get_or ms k no_words)) (sym e))
    (λ l. ap (λ ns. f (get_or ns m no_words)) (at_past ms n a v l)) (cases_lt n (length ms)))
    (λ d. ap f (at_other ms n a v m d)) (cases_eq m n)

pub width_at-written : (ms : List Words) (n a v m : ℕ) → width_at (written ms n a v) m ≡ width_at ms m
unfolding width_at
width_at-written ms n a v m = kept_at (λ w. w.width) (λ ms n a v. refl) ms n a v m

-- how many words a memory has
abbrev pub len_at : List Words → ℕ → ℕ
len_at ms n = length (get_or ms n no_words).words

pub len_at-written : (ms : List Words) (n a v m : ℕ) → len_at (written ms n a v) m ≡ len_at ms m
len_at-written ms n a v m = kept_at (λ w. length w.words) (λ ms n a v. length-set (get_or ms n no_words).words a v) ms n a v m

pub word_at-written : (ms : List Words) (n a v : ℕ) → a < len_at ms n → word_at (written ms n a v) n a ≡ v
unfolding word_at
word_at-written ms n a v l = ⊎_elim
    (λ b. ap (λ w. get_or w.words a 0) (at_same ms n a v b) ∙ get_or-set_same (get_or ms n no_words).words a v 0 l)
    (λ b. absurd (omega (arith, ap (λ w. length w.words) (get_or_past ms n no_words b))))
    (cases_lt n (length ms))

pub word_at-other_memory : (ms : List Words) (n a v m b : ℕ) → m ≢ n → word_at (written ms n a v) m b ≡ word_at ms m b
unfolding word_at
word_at-other_memory ms n a v m b d = ap (λ w. get_or w.words b 0) (at_other ms n a v m d)

pub word_at-other_place : (ms : List Words) (n a v b : ℕ) → b ≢ a → word_at (written ms n a v) n b ≡ word_at ms n b
unfolding word_at
word_at-other_place ms n a v b d = ⊎_elim
    (λ l. ap (λ w. get_or w.words b 0) (at_same ms n a v l) ∙ get_or-set_other (get_or ms n no_words).words a b v 0 d)
    (λ l. ap (λ ns. get_or (get_or ns n no_words).words b 0) (at_past ms n a v l))
    (cases_lt n (length ms))

-- past its end a memory has 0
pub word_at-past : (ms : List Words) (n a : ℕ) → len_at ms n ≤ a → word_at ms n a ≡ 0
unfolding word_at
word_at-past ms n a l = get_or_past (get_or ms n no_words).words a 0 l

pub length-written : (ms : List Words) (n a v : ℕ) → length (written ms n a v) ≡ length ms
unfolding written
length-written ms n a v = length-set ms n (memory_with ms n a v)

-- what the cells write keeps the widths
pub width_at-bank_write : (w : ℕ → ℕ) (ms : List Words) (x : PlainCell) (n : ℕ) → width_at (bank_write w ms x) n ≡ width_at ms n
width_at-bank_write w ms (write_tap bank enable addr word) n = cond_both (w enable == 1) (written ms bank (w addr) (w word)) ms (λ ns. width_at ns n ≡ width_at ms n) (λ t. width_at-written ms bank (w addr) (w word) n) (λ t. refl)
width_at-bank_write w ms _ n = refl

pub width_at-dram_write : (w : ℕ → ℕ) (ms : List Words) (x : PlainCell) (n : ℕ) → width_at (dram_write w ms x) n ≡ width_at ms n
width_at-dram_write w ms (store_unit channel dram ready request last addr word) n = cond_both (w ready == 1) (written ms dram (w addr) (w word)) ms (λ ns. width_at ns n ≡ width_at ms n) (λ t. width_at-written ms dram (w addr) (w word) n) (λ t. refl)
width_at-dram_write w ms _ n = refl

pub len_at-bank_write : (w : ℕ → ℕ) (ms : List Words) (x : PlainCell) (n : ℕ) → len_at (bank_write w ms x) n ≡ len_at ms n
len_at-bank_write w ms (write_tap bank enable addr word) n = cond_both (w enable == 1) (written ms bank (w addr) (w word)) ms (λ ns. len_at ns n ≡ len_at ms n) (λ t. len_at-written ms bank (w addr) (w word) n) (λ t. refl)
len_at-bank_write w ms _ n = refl

pub len_at-dram_write : (w : ℕ → ℕ) (ms : List Words) (x : PlainCell) (n : ℕ) → len_at (dram_write w ms x) n ≡ len_at ms n
len_at-dram_write w ms (store_unit channel dram ready request last addr word) n = cond_both (w ready == 1) (written ms dram (w addr) (w word)) ms (λ ns. len_at ns n ≡ len_at ms n) (λ t. len_at-written ms dram (w addr) (w word) n) (λ t. refl)
len_at-dram_write w ms _ n = refl

pub bank_word_fits : (w : ℕ → ℕ) (ms ns : List Words) → ((n : ℕ) → width_at ms n ≡ width_at ns n) → (x : PlainCell) → BankWordFits w ns x → BankWordFits w ms x
bank_word_fits w ms ns same (write_tap bank enable addr word) h = subst (λ k. w word < 2 ^ k) (sym (same bank)) h
bank_word_fits w ms ns same _ h = tt

pub dram_word_fits : (w : ℕ → ℕ) (ms ns : List Words) → ((n : ℕ) → width_at ms n ≡ width_at ns n) → (x : PlainCell) → DramWordFits w ns x → DramWordFits w ms x
dram_word_fits w ms ns same (store_unit channel dram ready request last addr word) h = subst (λ k. w word < 2 ^ k) (sym (same dram)) h
dram_word_fits w ms ns same _ h = tt
