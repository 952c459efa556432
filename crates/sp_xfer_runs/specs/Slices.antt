-- The words of a slice of a DRAM, and the groups of the loops that a transfer walks through.
use Rattle.std.specs.Prelude.{◌≡◌, ℕ, ℤ, true, pos, ◌+ℤ◌, List, [], ◌∷◌, map}
use Rattle.sp_core.specs.Elements.{natural}
use Rattle.sp_core.specs.Scope.{Loop, group_values}
use Rattle.sp_core.specs.Transfers.{Part, index, between, are_parts_inside, places_of, all_offsets}

-- a dimension's loop goes by one: from an index to the one after it, or through a range
pub data AreLoopsOf : List Part → List Loop → Type 0 where
  no_part : AreLoopsOf [] []
  of_index : {i : ℤ} {l : Loop} {parts : List Part} {loops : List Loop} → l.from ≡ i → l.until ≡ i +ℤ pos 1 → l.advance ≡ 1 → AreLoopsOf parts loops → AreLoopsOf (index i ∷ parts) (l ∷ loops)
  of_range : {a b : ℤ} {l : Loop} {parts : List Part} {loops : List Loop} → l.from ≡ a → l.until ≡ b → l.advance ≡ 1 → AreLoopsOf parts loops → AreLoopsOf (between a b ∷ parts) (l ∷ loops)

-- the groups are the places of the slice's words, in their order
abbrev pub SlicesAreLoops : Type 0
SlicesAreLoops = (dims : List ℕ) (parts : List Part) (loops : List Loop) → AreLoopsOf parts loops → are_parts_inside dims parts ≡ true
    → map (map natural) (group_values loops) ≡ map (places_of parts) (all_offsets parts)
