-- What a program and a core say of slices in words of their own is the same.
use Rattle.std.proofs.Common.{◌≡◌, ℕ, zero, suc, ◌+◌, List, [], ◌∷◌, ◌++◌, refl, ◌∙◌, ap}
use Rattle.std.specs.Prelude.{ℤ, pos, negsuc, ◌-ℤ◌, nat_le, map, flat_map, ◌&&◌, ◌||◌, ◌==◌}
use Rattle.sp_tree.specs.Elements as program_elements
use Rattle.sp_tree.specs.Transfers as program
use Rattle.sp_core.specs.Elements as core_elements
use Rattle.sp_core.specs.Transfers as core
use Rattle.sp_sugar.proofs.TwinLemmas.{same_natural}

abbrev pub as_core : program.Part → core.Part
as_core (program.index i) = core.index i
as_core (program.between a b) = core.between a b

pub same_lengths : (ps : List program.Part) → core.lengths (map as_core ps) ≡ program.lengths ps
same_lengths [] = refl
same_lengths (program.index i ∷ ps) = same_lengths ps
same_lengths (program.between a b ∷ ps) = ap (λ n. n ∷ core.lengths (map as_core ps)) (same_natural (b -ℤ a)) ∙ ap (λ ns. program_elements.natural (b -ℤ a) ∷ ns) (same_lengths ps)

pub same_none : (ns : List ℕ) → core.has_none ns ≡ program.has_none ns
same_none [] = refl
same_none (n ∷ ns) = ap (λ b. (n == 0) || b) (same_none ns)

pub same_is_below : (z : ℤ) (n : ℕ) → core_elements.is_below z n ≡ program_elements.is_below z n
same_is_below (pos k) n = refl
same_is_below (negsuc k) n = refl

same_part_inside : (d : ℕ) (p : program.Part) → core.is_part_inside d (as_core p) ≡ program.is_part_inside d p
same_part_inside d (program.index i) = same_is_below i d
same_part_inside d (program.between a b) = refl

pub same_parts_inside : (dims : List ℕ) (ps : List program.Part) → core.are_parts_inside dims (map as_core ps) ≡ program.are_parts_inside dims ps
same_parts_inside [] [] = refl
same_parts_inside [] (p ∷ ps) = refl
same_parts_inside (d ∷ dims) [] = refl
same_parts_inside (d ∷ dims) (p ∷ ps) = ap (λ b. b && core.are_parts_inside dims (map as_core ps)) (same_part_inside d p) ∙ ap (λ b. program.is_part_inside d p && b) (same_parts_inside dims ps)

pub same_fit : (dims ns : List ℕ) → core.do_fit dims ns ≡ program.do_fit dims ns
same_fit [] ns = refl
same_fit (d ∷ dims) [] = refl
same_fit (d ∷ dims) (n ∷ ns) = ap (λ b. nat_le n d && b) (same_fit dims ns)

pub same_places_of : (ps : List program.Part) (offsets : List ℕ) → core.places_of (map as_core ps) offsets ≡ program.places_of ps offsets
same_places_of [] offsets = refl
same_places_of (program.index i ∷ ps) offsets = ap (λ n. n ∷ core.places_of (map as_core ps) offsets) (same_natural i) ∙ ap (λ ns. program_elements.natural i ∷ ns) (same_places_of ps offsets)
same_places_of (program.between a b ∷ ps) [] = refl
same_places_of (program.between a b ∷ ps) (k ∷ offsets) =
    ap (λ n. (n + k) ∷ core.places_of (map as_core ps) offsets) (same_natural a) ∙ ap (λ ns. (program_elements.natural a + k) ∷ ns) (same_places_of ps offsets)

pub same_numbers_below : (n : ℕ) → core_elements.numbers_below n ≡ program_elements.numbers_below n
same_numbers_below zero = refl
same_numbers_below (suc n) = ap (λ l. l ++ n ∷ []) (same_numbers_below n)

all_below : (ns : List ℕ) → map core_elements.numbers_below ns ≡ map program_elements.numbers_below ns
all_below [] = refl
all_below (n ∷ ns) = ap (λ l. l ∷ map core_elements.numbers_below ns) (same_numbers_below n) ∙ ap (λ ls. program_elements.numbers_below n ∷ ls) (all_below ns)

pub same_tuples : (ls : List (List ℕ)) → core_elements.tuples ls ≡ program_elements.tuples ls
same_tuples [] = refl
same_tuples (xs ∷ ls) = ap (λ ts. flat_map (λ x. map (λ others. x ∷ others) ts) xs) (same_tuples ls)

pub same_offsets : (ps : List program.Part) → core.all_offsets (map as_core ps) ≡ program.all_offsets ps
same_offsets ps = ap (λ ls. core_elements.tuples (map core_elements.numbers_below ls)) (same_lengths ps) ∙ ap core_elements.tuples (all_below (program.lengths ps)) ∙ same_tuples (map program_elements.numbers_below (program.lengths ps))
