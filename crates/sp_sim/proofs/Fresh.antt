-- The memories with which a simulation begins.
use Rattle.std.proofs.Common.{◌≡◌, ℕ, zero, suc, ◌<◌, ◌^◌, List, [], ◌∷◌, ◌++◌, Bool, true, false, cond, ◌==◌, length, get_or, take, drop, flat_map, replicate, count_by, All, Contains, refl, sym, ap, ◌∙◌, subst, arith, ⊎_elim, append_assoc, eq-eqb, ne_eqb, take-append-drop, drop-cons}
use Rattle.std.proofs.lemmas.Bool.{cases_lt, cond-true, cond-false, false≢true}
use Rattle.std.proofs.lemmas.List.{get_or_past, get_or-replicate, length-replicate, length-append, get_or_at}
use Rattle.std.proofs.lemmas.List.Concat.{flat_map-append}
use Rattle.std.proofs.lemmas.List.Elements.{Contains-get_or}
use Rattle.std.proofs.lemmas.Nat.{pow_pos}
use Rattle.sp_words.specs.declared.types.Ty.{Ty}
use Rattle.sp_words.specs.Types.{width_of}
use Rattle.sp_netlist.specs.Cells.{PlainCell, done_cell, bank_cell, dram_cell}
use Rattle.sp_netlist.specs.Rules.{is_bank, is_dram, bank_width, dram_width, IsNetlist, IsRight}
use Rattle.sp_sim.specs.Given.{IsGiven}
use Rattle.sp_sim.specs.Memories.{Words, no_words, word_at, width_at}
use Rattle.sp_sim.specs.Settling.{cell_at}
use Rattle.sp_sim.specs.Standing.{HasBankLen, HasDramLen, AreBanks, AreDrams}
use Rattle.sp_sim.specs.Loading.{fresh_bank, fresh_dram}
use Rattle.sp_sim.proofs.CellLemmas.{place_split, nth_place, count-cons, flat_place}
use Rattle.sp_sim.proofs.Served.{count_split}

abbrev bank_numbered : ℕ → PlainCell → Bool
bank_numbered n (bank_cell bank width len) = bank == n
bank_numbered n cell = false

abbrev dram_numbered : ℕ → PlainCell → Bool
dram_numbered n (dram_cell dram name ty dims) = dram == n
dram_numbered n cell = false

split_of_front : (xs : List PlainCell) (x : PlainCell) → Contains xs x → (b : List PlainCell) × (a : List PlainCell) × (xs ≡ b ++ x ∷ a)
split_of_front xs x c = (take c.0 xs, drop (suc c.0) xs, sym (take-append-drop c.0 xs) ∙ ap (λ r. take c.0 xs ++ r) (drop-cons xs c.0 x c.1 ∙ ap (λ r. r ∷ drop (suc c.0) xs) c.2))

-- the words of a list of memories fit, where those of each do
fit_each : (ms : List Words) → ((m : Words) → Contains ms m → (a : ℕ) → get_or m.words a 0 < 2 ^ m.width) → (n a : ℕ) → word_at ms n a < 2 ^ width_at ms n
unfolding word_at width_at
fit_each ms each n a = ⊎_elim
    (λ l. each (get_or ms n no_words) (Contains-get_or ms n no_words l) a)
    (λ l. subst (λ m. get_or m.words a 0 < 2 ^ m.width) (sym (get_or_past ms n no_words l)) (omega arith))
    (cases_lt n (length ms))

pub zeros_at : (len a : ℕ) → get_or (replicate {A = ℕ} len 0) a 0 ≡ 0
zeros_at len a = ⊎_elim (λ l. get_or-replicate {A = ℕ} len a 0 0 l) (λ l. get_or_past (replicate {A = ℕ} len 0) a 0 (omega (arith, length-replicate {A = ℕ} len 0))) (cases_lt a len)

-- ---- banks
length_banks : (xs : List PlainCell) → length (flat_map fresh_bank xs) ≡ count_by is_bank xs
length_banks [] = refl
length_banks (x ∷ xs) = length-append (fresh_bank x) (flat_map fresh_bank xs) ∙ omega (arith, one x, length_banks xs, count-cons is_bank x xs)
  where
    one : (y : PlainCell) → length (fresh_bank y) ≡ cond (is_bank y) 1 0
    one (bank_cell bank width len) = refl
    one _ = refl

bank_found : (front : List PlainCell) (bank width len : ℕ) (rest : List PlainCell) → get_or (flat_map fresh_bank (front ++ bank_cell bank width len ∷ rest)) (count_by is_bank front) no_words ≡ record { width = width; words = replicate len 0 }
bank_found front bank width len rest =
    ap (λ ms. get_or ms (count_by is_bank front) no_words) (flat_map-append fresh_bank front (bank_cell bank width len ∷ rest))
    ∙ get_or_at (flat_map fresh_bank front) (record { width = width; words = replicate len 0 }) (flat_map fresh_bank rest) no_words (count_by is_bank front) (length_banks front)

-- the width of a bank's words
bank_width_past : (front : List PlainCell) (bank width len : ℕ) (rest : List PlainCell) → ((x : PlainCell) → Contains front x → bank_numbered bank x ≡ false) → bank_width (front ++ bank_cell bank width len ∷ rest) bank ≡ width
bank_width_past [] bank width len rest others = cond-true (bank == bank) width (bank_width rest bank) (eq-eqb bank bank refl)
bank_width_past (x ∷ front) bank width len rest others = one x (others x (0, omega arith, refl)) (bank_width_past front bank width len rest (λ y c. others y (suc c.0, let l = c.1 in omega arith, c.2)))
  where
    one : (y : PlainCell) → bank_numbered bank y ≡ false → bank_width (front ++ bank_cell bank width len ∷ rest) bank ≡ width → bank_width (y ∷ (front ++ bank_cell bank width len ∷ rest)) bank ≡ width
    one (bank_cell other w l) e k = cond-false (other == bank) w (bank_width (front ++ bank_cell bank width len ∷ rest) bank) e ∙ k
    one _ e k = k

bank_not_before : (cells : List PlainCell) → IsNetlist cells → (front : List PlainCell) (z : PlainCell) (rest : List PlainCell) → cells ≡ front ++ z ∷ rest → (n : ℕ) → n ≡ count_by is_bank front → (x : PlainCell) → Contains front x → bank_numbered n x ≡ false
bank_not_before cells h front z rest e n same x c =
    let p = split_of_front front x c in
    one p.0 x p.1 p.2 (h.right p.0 x (p.1 ++ z ∷ rest) (e ∙ ap (λ ys. ys ++ z ∷ rest) p.2 ∙ append_assoc p.0 (x ∷ p.1) (z ∷ rest)))
  where
    one : (b : List PlainCell) (y : PlainCell) (a : List PlainCell) → front ≡ b ++ y ∷ a → IsRight cells b y → bank_numbered n y ≡ false
    one b (bank_cell other w l) a k r = ne_eqb other n (λ t. absurd (omega (arith, count_split is_bank front b (bank_cell other w l) a k refl, same, r.0, t)))
    one b _ a k r = refl

-- ---- drams
length_drams : (contents : List (List ℕ)) (xs : List PlainCell) → length (flat_map (fresh_dram contents) xs) ≡ count_by is_dram xs
length_drams contents [] = refl
length_drams contents (x ∷ xs) = length-append ((fresh_dram contents) x) (flat_map (fresh_dram contents) xs) ∙ omega (arith, one x, length_drams contents xs, count-cons is_dram x xs)
  where
    one : (y : PlainCell) → length ((fresh_dram contents) y) ≡ cond (is_dram y) 1 0
    one (dram_cell dram name ty dims) = refl
    one _ = refl

dram_found : (contents : List (List ℕ)) (front : List PlainCell) (dram : ℕ) (name : List ℕ) (ty : Ty) (dims : List ℕ) (rest : List PlainCell) → get_or (flat_map (fresh_dram contents) (front ++ dram_cell dram name ty dims ∷ rest)) (count_by is_dram front) no_words ≡ record { width = (width_of ty); words = get_or contents dram [] }
dram_found contents front dram name ty dims rest =
    ap (λ ms. get_or ms (count_by is_dram front) no_words) (flat_map-append (fresh_dram contents) front (dram_cell dram name ty dims ∷ rest))
    ∙ get_or_at (flat_map (fresh_dram contents) front) (record { width = (width_of ty); words = get_or contents dram [] }) (flat_map (fresh_dram contents) rest) no_words (count_by is_dram front) (length_drams contents front)

-- the width of a dram's words
dram_width_past : (front : List PlainCell) (dram : ℕ) (name : List ℕ) (ty : Ty) (dims : List ℕ) (rest : List PlainCell) → ((x : PlainCell) → Contains front x → dram_numbered dram x ≡ false) → dram_width (front ++ dram_cell dram name ty dims ∷ rest) dram ≡ (width_of ty)
dram_width_past [] dram name ty dims rest others = cond-true (dram == dram) (width_of ty) (dram_width rest dram) (eq-eqb dram dram refl)
dram_width_past (x ∷ front) dram name ty dims rest others = one x (others x (0, omega arith, refl)) (dram_width_past front dram name ty dims rest (λ y c. others y (suc c.0, let l = c.1 in omega arith, c.2)))
  where
    one : (y : PlainCell) → dram_numbered dram y ≡ false → dram_width (front ++ dram_cell dram name ty dims ∷ rest) dram ≡ (width_of ty) → dram_width (y ∷ (front ++ dram_cell dram name ty dims ∷ rest)) dram ≡ (width_of ty)
    one (dram_cell other m2 t2 d2) e k = cond-false (other == dram) (width_of t2) (dram_width (front ++ dram_cell dram name ty dims ∷ rest) dram) e ∙ k
    one _ e k = k

dram_not_before : (cells : List PlainCell) → IsNetlist cells → (front : List PlainCell) (z : PlainCell) (rest : List PlainCell) → cells ≡ front ++ z ∷ rest → (n : ℕ) → n ≡ count_by is_dram front → (x : PlainCell) → Contains front x → dram_numbered n x ≡ false
dram_not_before cells h front z rest e n same x c =
    let p = split_of_front front x c in
    one p.0 x p.1 p.2 (h.right p.0 x (p.1 ++ z ∷ rest) (e ∙ ap (λ ys. ys ++ z ∷ rest) p.2 ∙ append_assoc p.0 (x ∷ p.1) (z ∷ rest)))
  where
    one : (b : List PlainCell) (y : PlainCell) (a : List PlainCell) → front ≡ b ++ y ∷ a → IsRight cells b y → dram_numbered n y ≡ false
    one b (dram_cell other m2 t2 d2) a k r = ne_eqb other n (λ t. absurd (omega (arith, count_split is_dram front b (dram_cell other m2 t2 d2) a k refl, same, r.0, t)))
    one b _ a k r = refl

module _ (cells : List PlainCell) (h : IsNetlist cells) where
  pub bank_memory : (at bank width len : ℕ) → at < length cells → cell_at cells at ≡ bank_cell bank width len → get_or (flat_map fresh_bank cells) bank no_words ≡ record { width = width; words = replicate len 0 }
  bank_memory at bank width len l e =
      let split = place_split cells at l ∙ ap (λ x. take at cells ++ x ∷ drop (suc at) cells) e in
      let right = h.right (take at cells) (bank_cell bank width len) (drop (suc at) cells) split in
      ap (λ n. get_or (flat_map fresh_bank cells) n no_words) right.0 ∙ ap (λ xs. get_or (flat_map fresh_bank xs) (count_by is_bank (take at cells)) no_words) split
      ∙ bank_found (take at cells) bank width len (drop (suc at) cells)

  bank_has_len : (at : ℕ) → at < length cells → (x : PlainCell) → cell_at cells at ≡ x → HasBankLen (flat_map fresh_bank cells) x
  bank_has_len at l (bank_cell bank width len) e = ap (λ m. length m.words) (bank_memory at bank width len l e) ∙ length-replicate {A = ℕ} len 0
  bank_has_len at l _ e = tt

  bank_has_width : (at n : ℕ) → at < length cells → count_by is_bank (take at cells) ≡ n → (x : PlainCell) → cell_at cells at ≡ x → is_bank x ≡ true → width_at (flat_map fresh_bank cells) n ≡ bank_width cells n
  unfolding width_at
  bank_has_width at n l place (bank_cell bank width len) e is =
      let split = place_split cells at l ∙ ap (λ x. take at cells ++ x ∷ drop (suc at) cells) e in
      let right = h.right (take at cells) (bank_cell bank width len) (drop (suc at) cells) split in
      subst (λ k. (get_or (flat_map fresh_bank cells) k no_words).width ≡ bank_width cells k) (right.0 ∙ place)
      (ap (λ m. m.width) (bank_memory at bank width len l e)
      ∙ sym (ap (λ xs. bank_width xs bank) split ∙ bank_width_past (take at cells) bank width len (drop (suc at) cells) (bank_not_before cells h (take at cells) (bank_cell bank width len) (drop (suc at) cells) split bank right.0)))
  bank_has_width at n l place _ e is = absurd (false≢true is)

  pub are_banks_first : AreBanks cells (flat_map fresh_bank cells)
  unfolding cell_at
  are_banks_first = record {
    number = length_banks cells;
    lens = λ at l. bank_has_len at l (cell_at cells at) refl;
    widths = λ n l. let p = nth_place is_bank cells (done_cell 0) n l in bank_has_width p.0 n p.1 p.3 (cell_at cells p.0) refl p.2;
    fit = fit_each (flat_map fresh_bank cells) (λ m c a. let p = flat_place fresh_bank cells (done_cell 0) m c in each (cell_at cells p.0) m p.2 a);
  }
    where
      each : (x : PlainCell) (m : Words) → Contains (fresh_bank x) m → (a : ℕ) → get_or m.words a 0 < 2 ^ m.width
      each (bank_cell bank width len) m c a = one c.0 c.1 c.2
        where
          one : (k : ℕ) → k < 1 → get_or (record { width = width; words = replicate len 0 } ∷ []) k m ≡ m → get_or m.words a 0 < 2 ^ m.width
          one zero l e = subst (λ y. get_or y.words a 0 < 2 ^ y.width) e (subst (λ w. w < 2 ^ width) (sym (zeros_at len a)) (pow_pos width))
          one (suc k) l e = absurd (omega arith)
      each _ m c a = let l = c.1 in absurd (omega arith)

  module _ (args : List ℕ) (contents : List (List ℕ)) (given : IsGiven cells args contents) where
    pub dram_memory : (at dram : ℕ) (name : List ℕ) (ty : Ty) (dims : List ℕ) → at < length cells → cell_at cells at ≡ dram_cell dram name ty dims
        → get_or (flat_map (fresh_dram contents) cells) dram no_words ≡ record { width = width_of ty; words = get_or contents dram [] }
    dram_memory at dram name ty dims l e =
        let split = place_split cells at l ∙ ap (λ x. take at cells ++ x ∷ drop (suc at) cells) e in
        let right = h.right (take at cells) (dram_cell dram name ty dims) (drop (suc at) cells) split in
        ap (λ n. get_or (flat_map (fresh_dram contents) cells) n no_words) right.0 ∙ ap (λ xs. get_or (flat_map (fresh_dram contents) xs) (count_by is_dram (take at cells)) no_words) split
        ∙ dram_found contents (take at cells) dram name ty dims (drop (suc at) cells)

    dram_has_len : (at : ℕ) → at < length cells → (x : PlainCell) → cell_at cells at ≡ x → HasDramLen (flat_map (fresh_dram contents) cells) x
    dram_has_len at l (dram_cell dram name ty dims) e =
        let split = place_split cells at l ∙ ap (λ x. take at cells ++ x ∷ drop (suc at) cells) e in
        ap (λ m. length m.words) (dram_memory at dram name ty dims l e) ∙ (given.drams_fit (take at cells) dram name ty dims (drop (suc at) cells) split).0
    dram_has_len at l _ e = tt

    dram_has_width : (at n : ℕ) → at < length cells → count_by is_dram (take at cells) ≡ n → (x : PlainCell) → cell_at cells at ≡ x → is_dram x ≡ true → width_at (flat_map (fresh_dram contents) cells) n ≡ dram_width cells n
    unfolding width_at
    dram_has_width at n l place (dram_cell dram name ty dims) e is =
        let split = place_split cells at l ∙ ap (λ x. take at cells ++ x ∷ drop (suc at) cells) e in
        let right = h.right (take at cells) (dram_cell dram name ty dims) (drop (suc at) cells) split in
        subst (λ k. (get_or (flat_map (fresh_dram contents) cells) k no_words).width ≡ dram_width cells k) (right.0 ∙ place)
        (ap (λ m. m.width) (dram_memory at dram name ty dims l e)
        ∙ sym (ap (λ xs. dram_width xs dram) split ∙ dram_width_past (take at cells) dram name ty dims (drop (suc at) cells) (dram_not_before cells h (take at cells) (dram_cell dram name ty dims) (drop (suc at) cells) split dram right.0)))
    dram_has_width at n l place _ e is = absurd (false≢true is)

    dram_fits : (at : ℕ) → at < length cells → (x : PlainCell) → cell_at cells at ≡ x → (m : Words) → Contains (fresh_dram contents x) m → (a : ℕ) → get_or m.words a 0 < 2 ^ m.width
    dram_fits at l (dram_cell dram name ty dims) e m c a = one (given.drams_fit (take at cells) dram name ty dims (drop (suc at) cells) (place_split cells at l ∙ ap (λ x. take at cells ++ x ∷ drop (suc at) cells) e)).1 c.0 c.1 c.2
      where
        within : All (λ w. w < 2 ^ width_of ty) (get_or contents dram []) → get_or (get_or contents dram []) a 0 < 2 ^ width_of ty
        within all = ⊎_elim (λ k. all a 0 k) (λ k. subst (λ w. w < 2 ^ width_of ty) (sym (get_or_past (get_or contents dram []) a 0 k)) (pow_pos (width_of ty))) (cases_lt a (length (get_or contents dram [])))

        one : All (λ w. w < 2 ^ width_of ty) (get_or contents dram []) → (k : ℕ) → k < 1 → get_or (record { width = width_of ty; words = get_or contents dram [] } ∷ []) k m ≡ m → get_or m.words a 0 < 2 ^ m.width
        one all zero b same = subst (λ y. get_or y.words a 0 < 2 ^ y.width) same (within all)
        one all (suc k) b same = absurd (omega arith)
    dram_fits at l _ e m c a = let b = c.1 in absurd (omega arith)

    pub are_drams_first : AreDrams cells (flat_map (fresh_dram contents) cells)
    unfolding cell_at
    are_drams_first = record {
      number = length_drams contents cells;
      lens = λ at l. dram_has_len at l (cell_at cells at) refl;
      widths = λ n l. let p = nth_place is_dram cells (done_cell 0) n l in dram_has_width p.0 n p.1 p.3 (cell_at cells p.0) refl p.2;
      fit = fit_each (flat_map (fresh_dram contents) cells) (λ m c a. let p = flat_place (fresh_dram contents) cells (done_cell 0) m c in dram_fits p.0 p.1 (cell_at cells p.0) refl m p.2 a);
    }
