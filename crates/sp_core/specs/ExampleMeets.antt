-- Forms and meets of worked cores. Their accesses have the numbers that stand beside them.
use Rattle.std.specs.Prelude.{ℕ, ℤ, pos, List, [], ◌∷◌, Option, Some, None}
use Rattle.sp_core.specs.declared.access.Meet.{Meet}
use Rattle.sp_core.specs.ExampleForms.{meet, form}
use Rattle.sp_core.specs.Forms.{PlainForms}

-- of the histogram: the load is 2, the clearing write 7, the loop reads s in 11 and h in 12 and writes h in 15, and the
-- store is 18; where the elements of h are isn't known
abbrev pub histogram_forms : (coefficient : ℤ) → PlainForms
histogram_forms c = record {
  forms = Some (form [] (pos 0) None ∷ []) ∷ Some (form (pos 1 ∷ []) (pos 0) None ∷ []) ∷ Some (form (c ∷ []) (pos 0) None ∷ []) ∷ None ∷ None ∷ Some (form [] (pos 0) None ∷ []) ∷ [];
  lengths = Some 8 ∷ Some 4 ∷ [];
}

abbrev pub histogram_meets : (next : ℕ) → List Meet
histogram_meets next = meet 2 11 0 ∷ meet 7 12 0 ∷ meet 7 15 0 ∷ meet 7 18 0 ∷ meet 15 18 0 ∷ meet 12 15 0 ∷ meet 15 12 next ∷ meet 15 15 1 ∷ []

-- of squares in four lanes, which write in 7, 13, 19 and 25; the store is 28
abbrev pub squares_forms : (last : ℤ) → PlainForms
squares_forms last = record {
  forms = Some (form (pos 1 ∷ []) (pos 0) None ∷ []) ∷ Some (form (pos 1 ∷ []) (pos 1) None ∷ []) ∷ Some (form (pos 1 ∷ []) (pos 2) None ∷ []) ∷ Some (form (pos 1 ∷ []) last None ∷ []) ∷ Some (form [] (pos 0) None ∷ []) ∷ [];
  lengths = Some 10 ∷ [];
}

abbrev pub squares_meets : List Meet
squares_meets = meet 7 28 0 ∷ meet 13 28 0 ∷ meet 19 28 0 ∷ meet 25 28 0 ∷ []

-- of the stores in two lanes, which fill their memories in 6 and 16; the stores are 11 and 21
abbrev pub stores_meets : (later : ℕ) → List Meet
stores_meets later = meet 6 11 0 ∷ meet 16 21 0 ∷ meet 11 21 0 ∷ meet 21 11 later ∷ []

-- of `s(i + r) = 1`: the read of r is 3, the write 6, with r as a symbol
abbrev pub shifted_forms : (symbol : Option ℕ) → PlainForms
shifted_forms symbol = record { forms = Some [] ∷ Some (form (pos 1 ∷ []) (pos 0) symbol ∷ []) ∷ []; lengths = [] }
