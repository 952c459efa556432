-- A netlist within the limits has a listing.
use Rattle.std.proofs.Common.{◌≡◌, ℕ, ◌<◌, ◌≤◌, ◌^◌, List, [], ◌∷◌, ◌++◌, length, get_or, take, drop, suc, flat_map, All, Contains, refl, sym, ap, ◌∙◌, subst, take-append-drop, drop-cons, append_assoc, arith, ⊎_elim, lit<, lt_of_le_of_lt, lt-ltb, length-append}
use Rattle.std.proofs.lemmas.Bool.{cases_lt}
use Rattle.std.proofs.lemmas.List.Elements.{All-contains, Contains-append_left, Contains-append_right}
use Rattle.std.proofs.lemmas.List.Concat.{flat_map-append}
use Rattle.std.proofs.lemmas.List.Sums.{count_by-le-length}
use Rattle.sp_words.specs.Types.{width_of}
use Rattle.sp_netlist.specs.Cells.{PlainCell, in_cell, out_cell, done_cell, const_cell, op_cell, not_cell, shift_cell, cast_cell, mux_cell, reg_cell, bank_cell, read_tap, write_tap, dram_cell, load_unit, store_unit}
use Rattle.sp_netlist.specs.Rules.{IsRight, is_bank, is_dram, is_unit, bank_width, dram_width, op_width, drives, reads, driven_nets, read_nets, IsNetlist}
use Rattle.sp_netlist.specs.Refusals.{IsWithinLimits}
use Rattle.sp_netlist.specs.Laws.{RefusalsExact}
use Rattle.sp_listing.specs.declared.error.ListError.{ListError}
use Rattle.sp_listing.specs.declared.error.ListError.TheVariants.{NoListing, Net, Memory}
use Rattle.sp_listing.specs.Text.{listing_text}
use Rattle.sp_listing.specs.Reading.{IsFormed, IsNumber, IsDramNumber, IsListing}
use Rattle.sp_listing.specs.Refusal.{RefusesText}
use Rattle.sp_listing.specs.Laws.{ReadsBack}
use Rattle.sp_listing.proofs.LawLemmas.{one_reading}
use Rattle.sp_listing.proofs.BreakLemmas.{breaks_nowhere}

small : (n : ℕ) → n ≤ 2000000 → IsNumber n
small n l = lt_of_le_of_lt l (lit< tt)

small_dram : (n : ℕ) → n ≤ 2000000 → IsDramNumber n
small_dram n l = lt_of_le_of_lt l (lit< tt)

few_cells : (cells : List PlainCell) → IsWithinLimits cells → length cells ≤ 2000000
few_cells cells within = ⊎_elim (λ more. absurd (let test = lt-ltb 2000000 (length cells) more in let no = rw test at within in cc)) (λ few. few) (cases_lt 2000000 (length cells))

contains_flat : {Y : Type 0} (f : PlainCell → List Y) (before : List PlainCell) (x : PlainCell) (after : List PlainCell) (y : Y) → Contains (f x) y → Contains (flat_map f (before ++ x ∷ after)) y
contains_flat f before x after y c =
    subst (λ ys. Contains ys y) (sym (flat_map-append f before (x ∷ after)))
    (Contains-append_right (flat_map f before) (f x ++ flat_map f after) y (Contains-append_left (f x) (flat_map f after) y c))

-- a cell of a list that isn't long, whose nets are numbers
module _ (cells before : List PlainCell) (few : length cells ≤ 2000000) (fewer : length before ≤ 2000000) where
  formed : (x : PlainCell) → IsRight cells before x → ((n w : ℕ) → Contains (drives cells x) (n, w) → IsNumber n) → ((n w : ℕ) → Contains (reads cells x) (n, w) → IsNumber n) → IsFormed x
  formed (in_cell name net ty) r d k = (r.0, d net (width_of ty) (0, omega arith, refl))
  formed (out_cell name net ty) r d k = (r.0, k net (width_of ty) (0, omega arith, refl))
  formed (done_cell net) r d k = k net 1 (0, omega arith, refl)
  formed (const_cell net width word) r d k = (d net width (0, omega arith, refl), r.0, r.1)
  formed (op_cell net ty op a b) r d k = (d net (op_width ty op) (0, omega arith, refl), k a (width_of ty) (0, omega arith, refl), k b (width_of ty) (1, omega arith, refl))
  formed (not_cell net ty a) r d k = (d net (width_of ty) (0, omega arith, refl), k a (width_of ty) (0, omega arith, refl))
  formed (shift_cell net ty side a places) r d k = (d net (width_of ty) (0, omega arith, refl), k a (width_of ty) (0, omega arith, refl), r)
  formed (cast_cell net from to a) r d k = (d net (width_of to) (0, omega arith, refl), k a (width_of from) (0, omega arith, refl))
  formed (mux_cell net width choice a b) r d k =
      (d net width (0, omega arith, refl), r, k choice 1 (0, omega arith, refl), k a width (1, omega arith, refl), k b width (2, omega arith, refl))
  formed (reg_cell net width first next enable) r d k =
      (d net width (0, omega arith, refl), r.0, r.1, k next width (0, omega arith, refl), k enable 1 (1, omega arith, refl))
  formed (bank_cell bank width len) r d k = (small bank (let e = r.0 in let l = count_by-le-length is_bank before in omega (arith, e, l)), r.1, r.2)
  formed (read_tap net bank enable addr) r d k =
      (d net (bank_width cells bank) (0, omega arith, refl), small bank (let l = count_by-le-length is_bank cells in omega (arith, r, l)), k enable 1 (0, omega arith, refl), k addr 32 (1, omega arith, refl))
  formed (write_tap bank enable addr word) r d k =
      (small bank (let l = count_by-le-length is_bank cells in omega (arith, r, l)), k enable 1 (0, omega arith, refl), k addr 32 (1, omega arith, refl), k word (bank_width cells bank) (2, omega arith, refl))
  formed (dram_cell dram name ty dims) r d k = (small_dram dram (let e = r.0 in let l = count_by-le-length is_dram before in omega (arith, e, l)), r.1, r.3, r.4, r.5)
  formed (load_unit channel dram ready net request last addr) r d k = (
    small channel (let e = r.0 in let l = count_by-le-length is_unit before in omega (arith, e, l)),
    small_dram dram (let b = r.1 in let l = count_by-le-length is_dram cells in omega (arith, b, l)),
    d ready 1 (0, omega arith, refl),
    d net (dram_width cells dram) (1, omega arith, refl),
    k request 1 (0, omega arith, refl),
    k last 1 (1, omega arith, refl),
    k addr 32 (2, omega arith, refl),
  )
  formed (store_unit channel dram ready request last addr word) r d k = (
    small channel (let e = r.0 in let l = count_by-le-length is_unit before in omega (arith, e, l)),
    small_dram dram (let b = r.1 in let l = count_by-le-length is_dram cells in omega (arith, b, l)),
    d ready 1 (0, omega arith, refl),
    k request 1 (0, omega arith, refl),
    k last 1 (1, omega arith, refl),
    k addr 32 (2, omega arith, refl),
    k word (dram_width cells dram) (3, omega arith, refl),
  )

module _ (cells : List PlainCell) (h : IsNetlist cells) (within : IsWithinLimits cells) where
  number : (n w : ℕ) → Contains (driven_nets cells) (n, w) → IsNumber n
  number n w c = All-contains (λ p. p.0 < 2 ^ 64) (driven_nets cells) (n, w) h.numbers c

  formed_at : (before : List PlainCell) (x : PlainCell) (after : List PlainCell) → cells ≡ before ++ x ∷ after → IsFormed x
  formed_at before x after e =
      let few = few_cells cells within in
      formed cells before few (omega (arith, few, ap length e, length-append before (x ∷ after))) x (h.right before x after e)
      (λ n w c. number n w (subst (λ xs. Contains (flat_map (drives cells) xs) (n, w)) (sym e) (contains_flat (drives cells) before x after (n, w) c)))
      (λ n w c. number n w (All-contains (Contains (driven_nets cells)) (read_nets cells) (n, w) h.read_driven (subst (λ xs. Contains (flat_map (reads cells) xs) (n, w)) (sym e) (contains_flat (reads cells) before x after (n, w) c))))

  all_formed : (rest before : List PlainCell) → cells ≡ before ++ rest → All IsFormed rest
  all_formed rest before e = λ i d l. one i d l
    where
      one : (i : ℕ) (d : PlainCell) → i < length rest → IsFormed (get_or rest i d)
      one i d l =
          let x = get_or rest i d in
          formed_at (before ++ take i rest) x (drop (suc i) rest)
          (e ∙ ap (λ xs. before ++ xs) (sym (take-append-drop i rest) ∙ ap (λ xs. take i rest ++ xs) (drop-cons rest i d l)) ∙ sym (append_assoc before (take i rest) (x ∷ drop (suc i) rest)))

  listed : IsListing (listing_text cells) cells
  listed = record { formed = all_formed cells [] refl; right = record { right = h.right; one_done = h.one_done }; same = refl }

  no_other : (others : List PlainCell) → IsListing (listing_text cells) others → others ≡ cells
  no_other others l = one_reading others cells l.formed listed.formed (sym l.same)

  not_refused : RefusalsExact → (error : ListError) → RefusesText (listing_text cells) error → error ≡ Memory
  not_refused exact (NoListing line) r = absurd (breaks_nowhere (listing_text cells) line cells listed r)
  not_refused exact (Net fault) r = absurd (r.3 (exact.of_no_netlist r.0 (subst IsNetlist (sym (no_other r.0 r.1)) h) (subst IsWithinLimits (sym (no_other r.0 r.1)) within) fault r.2))
  not_refused exact Memory r = refl

pub reads_back : RefusalsExact → ReadsBack
reads_back exact = record {
  listed = listed;
  no_other = λ cells others h within l. no_other cells h within others l;
  not_refused = λ cells error h within r. not_refused cells h within exact error r;
  written = λ text cells l. l.same;
}
