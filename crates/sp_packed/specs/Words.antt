-- The elements that a block of each width holds.
use Rattle.std.specs.Prelude.{[]}
use Rattle.sp_packed.specs.Elements.{Elements, elements}
use Rattle.sp_packed.specs.declared.Words.{Words}
use Rattle.sp_packed.specs.declared.Words.TheVariants.{Empty, One, Two, Four, Eight}

abbrev pub elements_of : Words → Elements
elements_of (Empty w) = elements w []
elements_of (One ns) = elements 1 ns
elements_of (Two ns) = elements 2 ns
elements_of (Four ns) = elements 4 ns
elements_of (Eight ns) = elements 8 ns
