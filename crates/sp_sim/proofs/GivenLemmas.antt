-- Ports that an input fits, as cells.
use Rattle.std.proofs.Common.{◌≡◌, ℕ, zero, suc, ◌+◌, ◌<◌, ◌≤◌, List, [], ◌∷◌, ◌++◌, Bool, length, get_or, filter_map, count_by, refl, sym, ap, ◌∙◌, subst, arith, All, Option, Some, None, is_some, one-add}
use Rattle.std.specs.List.{AllZip, cons_option}
use Rattle.sp_words.specs.Words.{IsWord}
use Rattle.sp_words.specs.Interface.{word_count}
use Rattle.sp_netlist.specs.Cells.{PlainCell, in_cell, dram_cell}
use Rattle.sp_netlist.specs.Rules.{is_in, is_dram, IsNetlist}
use Rattle.sp_words.specs.Ports.{PlainPort}
use Rattle.sp_netlist.specs.Ports.{ports_of, in_port, dram_port}
use Rattle.sp_sim.specs.Given.{IsGiven, NoFault, no_port}
use Rattle.sp_sim.proofs.CellLemmas.{count_first, count_skip}

-- an argument, and the words of a DRAM, at a plain port
abbrev ArgAt : PlainPort → ℕ → Type 0
ArgAt port word = IsWord port.ty word

abbrev DramAt : PlainPort → List ℕ → Type 0
DramAt port words = (length words ≡ word_count port.dims) × All (IsWord port.ty) words

zip_length : {X Y : Type 0} (R : X → Y → Type 0) (xs : List X) (ys : List Y) → AllZip R xs ys → length ys ≡ length xs
zip_length R [] [] z = refl
zip_length R [] (y ∷ ys) z = absurd z
zip_length R (x ∷ xs) [] z = absurd z
zip_length R (x ∷ xs) (y ∷ ys) z = ap suc (zip_length R xs ys z.1)

zip_later : {X : Type 0} (R : PlainPort → X → Type 0) (q p : PlainPort) (qs : List PlainPort) (n : ℕ) (d : X) → ((vs : List X) → AllZip R qs vs → R p (get_or vs n d)) → (ws : List X) → AllZip R (q ∷ qs) ws → R p (get_or ws (1 + n) d)
zip_later R q p qs n d rest [] z = absurd z
zip_later R q p qs n d rest (w ∷ ws) z = subst (λ k. R p (get_or (w ∷ ws) k d)) (sym (one-add n)) (rest ws z.1)

module _ (pick : PlainCell → Bool) (port : PlainCell → Option PlainPort) (agree : (x : PlainCell) → pick x ≡ is_some (port x)) where
  ports_number : (cells : List PlainCell) → length (filter_map port cells) ≡ count_by pick cells
  ports_number [] = refl
  ports_number (x ∷ cells) = go (port x) refl (ports_number cells)
    where
      go : (o : Option PlainPort) → port x ≡ o → length (filter_map port cells) ≡ count_by pick cells → length (filter_map port (x ∷ cells)) ≡ count_by pick (x ∷ cells)
      go None k r = ap (λ v. length (cons_option v (filter_map port cells))) k ∙ r ∙ sym (count_skip pick x cells (agree x ∙ ap is_some k))
      go (Some q) k r = ap (λ v. length (cons_option v (filter_map port cells))) k ∙ omega (arith, r, count_first pick x cells (agree x ∙ ap is_some k))

  -- the n-th word is that of the n-th port
  zip_at : {X : Type 0} (R : PlainPort → X → Type 0) (front : List PlainCell) (x : PlainCell) (p : PlainPort) (rest : List PlainCell) (ws : List X) (d : X) → port x ≡ Some p
      → AllZip R (filter_map port (front ++ x ∷ rest)) ws → R p (get_or ws (count_by pick front) d)
  zip_at {X} R [] x p rest ws d e z = first ws (subst (λ o. AllZip R (cons_option o (filter_map port rest)) ws) e z)
    where
      first : (vs : List X) → AllZip R (p ∷ filter_map port rest) vs → R p (get_or vs 0 d)
      first [] y = absurd y
      first (v ∷ vs) y = y.0
  zip_at {X} R (y ∷ front) x p rest ws d e z = go (port y) refl (λ vs. zip_at R front x p rest vs d e)
    where
      go : (o : Option PlainPort) → port y ≡ o → ((vs : List X) → AllZip R (filter_map port (front ++ x ∷ rest)) vs → R p (get_or vs (count_by pick front) d)) → R p (get_or ws (count_by pick (y ∷ front)) d)
      go None k more = subst (λ n. R p (get_or ws n d)) (sym (count_skip pick y front (agree y ∙ ap is_some k))) (more ws (subst (λ o. AllZip R (cons_option o (filter_map port (front ++ x ∷ rest))) ws) k z))
      go (Some q) k more = subst (λ n. R p (get_or ws n d)) (sym (count_first pick y front (agree y ∙ ap is_some k)))
          (zip_later R q p (filter_map port (front ++ x ∷ rest)) (count_by pick front) d more ws (subst (λ o. AllZip R (cons_option o (filter_map port (front ++ x ∷ rest))) ws) k z))

in_agrees : (x : PlainCell) → is_in x ≡ is_some (in_port x)
in_agrees (in_cell name net ty) = refl
in_agrees _ = refl

dram_agrees : (x : PlainCell) → is_dram x ≡ is_some (dram_port x)
dram_agrees (dram_cell dram name ty dims) = refl
dram_agrees _ = refl

zip_from_places : {X Y : Type 0} (R : X → Y → Type 0) (d : X) (e : Y) (xs : List X) (ys : List Y) → length ys ≡ length xs → ((n : ℕ) → n < length xs → R (get_or xs n d) (get_or ys n e)) → AllZip R xs ys
zip_from_places R d e [] [] same each = tt
zip_from_places R d e [] (y ∷ ys) same each = absurd (omega arith)
zip_from_places R d e (x ∷ xs) [] same each = absurd (omega arith)
zip_from_places R d e (x ∷ xs) (y ∷ ys) same each = (each 0 (omega arith), zip_from_places R d e xs ys (omega arith) (λ n l. each (suc n) (omega arith)))

-- as many as there are places, if there are no more and one at each place
as_many : (n m : ℕ) → m ≤ n → ((k : ℕ) → k < n → k < m) → m ≡ n
as_many zero m few each = omega arith
as_many (suc n) m few each = let last = each n (omega arith) in omega arith

-- an input that fits a netlist's ports is given
pub given_without_fault : (cells : List PlainCell) → IsNetlist cells → (args : List ℕ) (drams : List (List ℕ)) → NoFault (ports_of cells) args drams → IsGiven cells args drams
given_without_fault cells h args contents fit =
    let args_there = as_many (length (filter_map in_port cells)) (length args) fit.no_more_args (λ k l. (fit.each_arg k l).0) in
    let drams_there = as_many (length (filter_map dram_port cells)) (length contents) fit.no_more_drams (λ k l. (fit.each_dram k l).0) in
    let zip : AllZip ArgAt (filter_map in_port cells) args = zip_from_places ArgAt no_port 0 (filter_map in_port cells) args args_there (λ k l. (fit.each_arg k l).1) in
    let drams : AllZip DramAt (filter_map dram_port cells) contents = zip_from_places DramAt no_port [] (filter_map dram_port cells) contents drams_there (λ k l. let one = fit.each_dram k l in (one.1, one.2)) in
    record {
      args_number = zip_length ArgAt (filter_map in_port cells) args zip ∙ ports_number is_in in_port in_agrees cells;
      args_fit = λ before name net ty after split.
          zip_at is_in in_port in_agrees ArgAt before (in_cell name net ty) (record { name = name; ty = ty; dims = [] }) after args 0 refl (subst (λ xs. AllZip ArgAt (filter_map in_port xs) args) split zip);
      drams_number = zip_length DramAt (filter_map dram_port cells) contents drams ∙ ports_number is_dram dram_port dram_agrees cells;
      drams_fit = λ before dram name ty dims after split.
          let right = h.right before (dram_cell dram name ty dims) after split in
          subst (λ n. DramAt (record { name = name; ty = ty; dims = dims }) (get_or contents n [])) (sym right.0)
          (zip_at is_dram dram_port dram_agrees DramAt before (dram_cell dram name ty dims) (record { name = name; ty = ty; dims = dims }) after contents [] refl
          (subst (λ xs. AllZip DramAt (filter_map dram_port xs) contents) split drams));
    }
