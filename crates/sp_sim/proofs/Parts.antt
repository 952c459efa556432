-- Cells picked from a list.
use Rattle.std.proofs.Common.{◌≡◌, ℕ, zero, suc, ◌<◌, List, [], ◌∷◌, Bool, true, false, cond, length, get_or, filter, map, Contains, refl, sym, ap, ◌∙◌, subst, arith, ⊎_elim, ◌⊎◌, inl, inr}
use Rattle.std.specs.List.{fold}
use Rattle.std.proofs.lemmas.Bool.{cases_Bool, cond-true, cond-false, false≢true, true≢false}
use Rattle.sp_netlist.specs.declared.cell.Port.TheVariants.{Read, Write}
use Rattle.sp_netlist.specs.Cells.{PlainCell, in_cell, done_cell, const_cell, op_cell, not_cell, shift_cell, cast_cell, mux_cell, reg_cell, read_tap, write_tap, load_unit, store_unit}
use Rattle.sp_netlist.specs.Rules.{drives, is_computed, is_unit, is_done}
use Rattle.sp_netlist.specs.Cycle.{cell_is_done, is_over}
use Rattle.sp_sim.specs.Memories.{Words}
use Rattle.sp_sim.specs.Programs.{is_read, is_write, is_kept, is_fixed}
use Rattle.sp_sim.specs.Conflicts.{tally}
use Rattle.sp_sim.specs.Serving.{Channels, serve_one}
use Rattle.sp_sim.specs.Writing.{bank_write, dram_write}

-- what the others leave as it is can be left out
fold_filter : {A B : Type 0} (f : B → A → B) (p : A → Bool) → ((b : B) (x : A) → p x ≡ false → f b x ≡ b) → (xs : List A) (b : B) → fold f b (filter p xs) ≡ fold f b xs
fold_filter f p idle [] b = refl
fold_filter {A} {B} f p idle (x ∷ xs) b = ⊎_elim
    (λ t. ap (fold f b) (cond-true (p x) (x ∷ filter p xs) (filter p xs) t) ∙ fold_filter f p idle xs (f b x))
    (λ t. ap (fold f b) (cond-false (p x) (x ∷ filter p xs) (filter p xs) t) ∙ fold_filter f p idle xs b ∙ ap (λ (c : B). fold f c xs) (sym (idle b x t)))
    (cases_Bool (p x))

pub Contains-filter : {X : Type 0} (p : X → Bool) (xs : List X) (x : X) → Contains xs x → p x ≡ true → Contains (filter p xs) x
Contains-filter p [] x c e = let l = c.1 in absurd (omega arith)
Contains-filter {X} p (y ∷ ys) x c e = at (Contains-filter p ys x) c.0 c.1 c.2
  where
    more : Contains (filter p ys) x → Contains (cond (p y) (y ∷ filter p ys) (filter p ys)) x
    more k = ⊎_elim
        (λ t. subst (λ zs. Contains zs x) (sym (cond-true (p y) (y ∷ filter p ys) (filter p ys) t)) (suc k.0, let l = k.1 in omega arith, k.2))
        (λ t. subst (λ zs. Contains zs x) (sym (cond-false (p y) (y ∷ filter p ys) (filter p ys) t)) k)
        (cases_Bool (p y))

    at : (Contains ys x → p x ≡ true → Contains (filter p ys) x) → (k : ℕ) → k < length (y ∷ ys) → get_or (y ∷ ys) k x ≡ x → Contains (filter p (y ∷ ys)) x
    at rest zero l same = subst (λ zs. Contains zs x) (sym (cond-true (p y) (y ∷ filter p ys) (filter p ys) (ap p same ∙ e))) (0, omega arith, same)
    at rest (suc k) l same = more (rest (k, omega arith, same) e)

pub Contains-from_filter : {X : Type 0} (p : X → Bool) (xs : List X) (x : X) → Contains (filter p xs) x → Contains xs x
Contains-from_filter p [] x c = let l = c.1 in absurd (omega arith)
Contains-from_filter {X} p (y ∷ ys) x c = go (Contains-from_filter p ys x) (cases_Bool (p y))
  where
    later : Contains ys x → Contains (y ∷ ys) x
    later k = (suc k.0, let l = k.1 in omega arith, k.2)

    first : (Contains (filter p ys) x → Contains ys x) → (k : ℕ) → k < length (y ∷ filter p ys) → get_or (y ∷ filter p ys) k x ≡ x → Contains (y ∷ ys) x
    first rest zero l e = (0, omega arith, e)
    first rest (suc k) l e = later (rest (k, omega arith, e))

    go : (Contains (filter p ys) x → Contains ys x) → (p y ≡ true) ⊎ (p y ≡ false) → Contains (y ∷ ys) x
    go rest (inl t) = let d = subst (λ zs. Contains zs x) (cond-true (p y) (y ∷ filter p ys) (filter p ys) t) c in first rest d.0 d.1 d.2
    go rest (inr t) = later (rest (subst (λ zs. Contains zs x) (cond-false (p y) (y ∷ filter p ys) (filter p ys) t) c))

-- what each part of a cycle does is done by its cells
tally_reads : (w : ℕ → ℕ) (counts : List ℕ) (x : PlainCell) → is_read x ≡ false → tally w Read counts x ≡ counts
tally_reads w counts (read_tap net bank enable addr) e = absurd (true≢false e)
tally_reads w counts _ e = refl

tally_writes : (w : ℕ → ℕ) (counts : List ℕ) (x : PlainCell) → is_write x ≡ false → tally w Write counts x ≡ counts
tally_writes w counts (write_tap bank enable addr word) e = absurd (true≢false e)
tally_writes w counts _ e = refl

pub reads_tallied : (w : ℕ → ℕ) (cells : List PlainCell) (counts : List ℕ) → fold (tally w Read) counts (filter is_read cells) ≡ fold (tally w Read) counts cells
reads_tallied w cells counts = fold_filter (tally w Read) is_read (tally_reads w) cells counts

pub writes_tallied : (w : ℕ → ℕ) (cells : List PlainCell) (counts : List ℕ) → fold (tally w Write) counts (filter is_write cells) ≡ fold (tally w Write) counts cells
writes_tallied w cells counts = fold_filter (tally w Write) is_write (tally_writes w) cells counts

serves_none : (w : ℕ → ℕ) (delays : List ℕ) (c : Channels) (x : PlainCell) → is_unit x ≡ false → serve_one w delays c x ≡ c
serves_none w delays c (load_unit channel dram ready net request last addr) e = absurd (true≢false e)
serves_none w delays c (store_unit channel dram ready request last addr word) e = absurd (true≢false e)
serves_none w delays c _ e = refl

pub units_served : (w : ℕ → ℕ) (delays : List ℕ) (cells : List PlainCell) (c : Channels) → fold (serve_one w delays) c (filter is_unit cells) ≡ fold (serve_one w delays) c cells
units_served w delays cells c = fold_filter (serve_one w delays) is_unit (serves_none w delays) cells c

no_bank_write : (w : ℕ → ℕ) (banks : List Words) (x : PlainCell) → is_write x ≡ false → bank_write w banks x ≡ banks
no_bank_write w banks (write_tap bank enable addr word) e = absurd (true≢false e)
no_bank_write w banks _ e = refl

no_dram_write : (w : ℕ → ℕ) (drams : List Words) (x : PlainCell) → is_unit x ≡ false → dram_write w drams x ≡ drams
no_dram_write w drams (store_unit channel dram ready request last addr word) e = absurd (true≢false e)
no_dram_write w drams _ e = refl

pub banks_written : (w : ℕ → ℕ) (cells : List PlainCell) (banks : List Words) → fold (bank_write w) banks (filter is_write cells) ≡ fold (bank_write w) banks cells
banks_written w cells banks = fold_filter (bank_write w) is_write (no_bank_write w) cells banks

pub drams_written : (w : ℕ → ℕ) (cells : List PlainCell) (drams : List Words) → fold (dram_write w) drams (filter is_unit cells) ≡ fold (dram_write w) drams cells
drams_written w cells drams = fold_filter (dram_write w) is_unit (no_dram_write w) cells drams

not_over : (w : ℕ → ℕ) (x : PlainCell) → is_done x ≡ false → cell_is_done w x ≡ false
not_over w (done_cell net) e = absurd (true≢false e)
not_over w _ e = refl

pub over_by_dones : (w : ℕ → ℕ) (cells : List PlainCell) → is_over (filter is_done cells) w ≡ is_over cells w
over_by_dones w [] = refl
over_by_dones w (x ∷ cells) = ⊎_elim
    (λ t. ap (λ xs. is_over xs w) (cond-true (is_done x) (x ∷ filter is_done cells) (filter is_done cells) t) ∙ (let rest = over_by_dones w cells in rw rest refl))
    (λ t. ap (λ xs. is_over xs w) (cond-false (is_done x) (x ∷ filter is_done cells) (filter is_done cells) t) ∙ over_by_dones w cells ∙ (let none = not_over w x t in rw none refl))
    (cases_Bool (is_done x))

-- what drives a net and isn't computed keeps it, or its word stays
pub kept_or_fixed : (cells : List PlainCell) (x : PlainCell) → is_computed x ≡ false → is_kept x ≡ false → (n : ℕ) → Contains (map (λ p. p.0) (drives cells x)) n → is_fixed x ≡ true
kept_or_fixed cells (in_cell name net ty) free un n c = refl
kept_or_fixed cells (const_cell net width word) free un n c = refl
kept_or_fixed cells (op_cell net ty op a b) free un n c = absurd (true≢false free)
kept_or_fixed cells (not_cell net ty a) free un n c = absurd (true≢false free)
kept_or_fixed cells (shift_cell net ty side a places) free un n c = absurd (true≢false free)
kept_or_fixed cells (cast_cell net from to a) free un n c = absurd (true≢false free)
kept_or_fixed cells (mux_cell net width choice a b) free un n c = absurd (true≢false free)
kept_or_fixed cells (reg_cell net width first next enable) free un n c = absurd (true≢false un)
kept_or_fixed cells (read_tap net bank enable addr) free un n c = absurd (true≢false un)
kept_or_fixed cells (load_unit channel dram ready net request last addr) free un n c = absurd (true≢false un)
kept_or_fixed cells (store_unit channel dram ready request last addr word) free un n c = absurd (true≢false un)
kept_or_fixed cells _ free un n c = let l = c.1 in absurd (omega arith)

pub fixed_free : (x : PlainCell) → is_fixed x ≡ true → is_computed x ≡ false
fixed_free (in_cell name net ty) e = refl
fixed_free (const_cell net width word) e = refl
fixed_free _ e = absurd (false≢true e)
