-- The DRAMs of a core in its netlist: their units, their sizes, and the lists of their words.
use Rattle.std.proofs.Common.{◌≡◌, ℕ, zero, suc, ◌+◌, ◌-◌, ◌<◌, nat_lt, false, List, [], ◌∷◌, ◌++◌, length, map, slice_index, slice_index_or, refl, sym, ap, ap₂, subst, ◌∙◌, arith, append-nil}
use Rattle.std.specs.List.{All, AllZip, list_any, range_with_len}
use Rattle.std.proofs.lemmas.Bool.{or_parts, le-ltb}
use Rattle.std.proofs.lemmas.List.{map-append}
use Rattle.std.proofs.lemmas.List.FromFn.{map-range_with_len_more, fill_by_all}
use Rattle.sp_words.specs.Interface.{word_count}
use Rattle.sp_words.specs.Ports.{PlainPort, PlainInput}
use Rattle.sp_words.specs.Words.{IsWord}
use Rattle.sp_netlist.specs.Cells.{PlainCell, store_unit}
use Rattle.sp_netlist.specs.Parts.{NoCell}
use Rattle.sp_core.specs.Declarations.{dims, dram_number}
use Rattle.sp_core.specs.Elements.{numbers_below}
use Rattle.sp_core.specs.Inputs.{InputFits}
use Rattle.sp_core.specs.Meaning.{dram_words}
use Rattle.sp_core.specs.PlainCore.{no_port, PlainCore}
use Rattle.sp_core.specs.Store.{Store, words_of}
use Rattle.sp_frames.specs.Framed.{is_store}
use Rattle.sp_frames.specs.Laws.{held_lists}
use Rattle.sp_dram_words.specs.Laws.{dram_size}
use Rattle.sp_dram_words.specs.Units.{units_in, UnitsJoin}

pub zip_length : {A B : Type 0} (R : A → B → Type 0) (xs : List A) (ys : List B) → AllZip R xs ys → length xs ≡ length ys
zip_length R [] [] z = refl
zip_length R [] (y ∷ ys) z = elim z [ ]
zip_length R (x ∷ xs) [] z = elim z [ ]
zip_length R (x ∷ xs) (y ∷ ys) z = let rest = zip_length R xs ys z.1 in omega (arith, rest)

zip_at : {A B : Type 0} (R : A → B → Type 0) (xs : List A) (ys : List B) → AllZip R xs ys → (i : ℕ) (x : A) (y : B) → i < length xs → R (slice_index_or xs i x) (slice_index_or ys i y)
zip_at R [] ys z i x y l = absurd (omega (arith, l))
zip_at R (a ∷ xs) [] z i x y l = elim z [ ]
zip_at R (a ∷ xs) (b ∷ ys) z zero x y l = z.0
zip_at R (a ∷ xs) (b ∷ ys) z (suc i) x y l = zip_at R xs ys z.1 i x y (omega (arith, l))

pub twice : {A B C : Type 0} (f : B → C) (g : A → B) (xs : List A) → map f (map g xs) ≡ map (λ x. f (g x)) xs
twice f g [] = refl
twice f g (x ∷ xs) = ap (λ ys. f (g x) ∷ ys) (twice f g xs)

below_is_range : {A : Type 0} (f : ℕ → A) (n : ℕ) → map f (numbers_below n) ≡ map f (range_with_len 0 n)
below_is_range f zero = refl
below_is_range f (suc n) =
    map-append f (numbers_below n) (n ∷ []) ∙ ap (λ xs. xs ++ f n ∷ []) (below_is_range f n) ∙ sym (map-range_with_len_more f 0 n n (omega arith)) ∙ (let next : n + 1 ≡ suc n = omega arith in ap (λ k. map f (range_with_len 0 k)) next)

-- where no unit stores among cells, no DRAM has one among them
pub no_units_in : (r : ℕ) (cells : List PlainCell) → NoCell is_store cells → units_in r cells ≡ []
no_units_in r [] none = refl
no_units_in r (store_unit channel into ready request last at word ∷ cells) none = absurd (cc)
no_units_in r (x ∷ cells) none = no_units_in r cells (or_parts (is_store x) (list_any is_store cells) none).1

-- so cells among which none stores add none
pub none_behind : UnitsJoin → (r : ℕ) (front cells more : List PlainCell) → cells ≡ front ++ more → NoCell is_store more → units_in r cells ≡ units_in r front
none_behind join r front cells more e none = ap (units_in r) e ∙ join r front more ∙ ap (λ us. units_in r front ++ us) (no_units_in r more none) ∙ append-nil (units_in r front)

-- the dimensions of a DRAM are those of its port
pub dram_dims : (core : PlainCore) (r : ℕ) → dims core (dram_number core r) ≡ (slice_index_or core.ports.drams r no_port).dims
dram_dims core r =
    let past : nat_lt (dram_number core r) (length core.mems) ≡ false = le-ltb (dram_number core r) (length core.mems) (omega arith) in
    let back : dram_number core r - length core.mems ≡ r = omega arith in
    rw (past, back) refl

-- an input that fits has a list for each DRAM, of as many words as it has
module _ (core : PlainCore) (input : PlainInput) (fits : InputFits core input) where
  pub drams_for_each : length input.drams ≡ length core.ports.drams
  drams_for_each = sym (zip_length (λ (port : PlainPort) ws. (length ws ≡ word_count port.dims) × All (IsWord port.ty) ws) core.ports.drams input.drams fits.drams)

  pub drams_fit : (r : ℕ) → r < length core.ports.drams → length (slice_index_or input.drams r []) ≡ dram_size core r
  drams_fit r l =
      (zip_at (λ (port : PlainPort) ws. (length ws ≡ word_count port.dims) × All (IsWord port.ty) ws) core.ports.drams input.drams fits.drams r no_port [] l).0
      ∙ ap word_count (sym (dram_dims core r))

-- words that are as many as a DRAM has, and which it holds, are its list
module _ (held : ℕ → ℕ → ℕ) (words : ℕ → List ℕ) where
  abbrev AreHeld : (r : ℕ) → PlainPort → Type 0
  AreHeld r port = (length (words r) ≡ word_count port.dims) × ((i : ℕ) → i < word_count port.dims → held r i ≡ slice_index (words r) i)

  lists_held : (first : ℕ) (ports : List PlainPort) → ((n r : ℕ) → first + r ≡ n → r < length ports → AreHeld n (slice_index_or ports r no_port)) → held_lists held first ports ≡ map words (range_with_len first (length ports))
  lists_held first [] each = refl
  lists_held first (port ∷ ports) each =
      let here = each first 0 (omega arith) (omega arith) in
      ap₂ (λ (ws : List ℕ) (wss : List (List ℕ)). ws ∷ wss) (sym (fill_by_all (held first) (words first) (word_count port.dims) 0 here.0 (λ i l. sym (here.1 i l))))
      (lists_held (suc first) ports (λ n r e l. each n (suc r) (omega (arith, e)) (omega (arith, l))) ∙ (let next : suc first ≡ first + 1 = omega arith in ap (λ n. map words (range_with_len n (length ports))) next))

-- so where DRAMs hold the words of a store, their lists are its words
pub lists_left : (core : PlainCore) (left : Store) (held : ℕ → ℕ → ℕ) → ((r : ℕ) → r < length core.ports.drams → length (words_of (left (dram_number core r))) ≡ dram_size core r)
    → ((r i : ℕ) → r < length core.ports.drams → i < dram_size core r → held r i ≡ slice_index_or (words_of (left (dram_number core r))) i 0) → held_lists held 0 core.ports.drams ≡ dram_words core left
lists_left core left held sizes same =
    lists_held held (λ r. words_of (left (dram_number core r))) 0 core.ports.drams
    (λ n r e l. subst (λ k. AreHeld held (λ q. words_of (left (dram_number core q))) k (slice_index_or core.ports.drams r no_port)) {x = r} {y = n} (omega (arith, e))
    (sizes r l ∙ ap word_count (dram_dims core r), λ i inside. same r i l (subst (λ ds. i < word_count ds) (sym (dram_dims core r)) inside)))
    ∙ sym (below_is_range (λ r. words_of (left (dram_number core r))) (length core.ports.drams)) ∙ sym (twice (λ m. words_of (left m)) (dram_number core) (numbers_below (length core.ports.drams)))
