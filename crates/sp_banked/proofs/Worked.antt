-- The worked memory.
use Rattle.std.proofs.Common.{◌≡◌, [], ◌∷◌, refl}
use Rattle.sp_bank.specs.Places.{offset}
use Rattle.sp_mem.specs.declared.part.Touch.{Touch}
use Rattle.sp_places.specs.Layouts.{banking_of}
use Rattle.sp_requests.specs.Elements.{element_after}
use Rattle.sp_banked.specs.declared.part.Banked.{Banked}
use Rattle.sp_banked.specs.Fits.{bank_count, bank_size}
use Rattle.sp_banked.specs.Runs.{number_of}
use Rattle.sp_banked.specs.Examples.{IsWorked, IsWorkedTouch, worked_signals}

pub count : (part : Banked) → IsWorked part → bank_count part ≡ 8
count part h = rw (h.duplicates, h.copies, h.banks) refl

pub size : (part : Banked) → IsWorked part → bank_size part ≡ 3
size part h = rw (h.dims, h.hinge, h.banks, h.block) refl

pub number : (part : Banked) → IsWorked part → number_of part 1 1 (3 ∷ []) ≡ 10
number part h = rw (h.bank, h.copies, h.banks, h.block, h.alpha) refl

pub place : (part : Banked) → IsWorked part → offset (banking_of part.layout) part.layout.dims.items (3 ∷ []) ≡ 1
place part h = rw (h.dims, h.hinge, h.banks, h.block, h.alpha) refl

pub written : (w v : Touch) → IsWorkedTouch 2 w → IsWorkedTouch 3 v → element_after worked_signals 5 0 (w ∷ v ∷ []) (5 ∷ []) 9 ≡ 300
written w v h k = rw (h.enable, h.copy, h.index, h.word_net, k.enable, k.copy, k.index, k.word_net) refl

pub other_element : (w v : Touch) → IsWorkedTouch 2 w → IsWorkedTouch 3 v → element_after worked_signals 5 0 (w ∷ v ∷ []) (4 ∷ []) 9 ≡ 9
other_element w v h k = rw (h.enable, h.copy, h.index, k.enable, k.copy, k.index) refl

pub other_copy : (w v : Touch) → IsWorkedTouch 2 w → IsWorkedTouch 3 v → element_after worked_signals 5 1 (w ∷ v ∷ []) (5 ∷ []) 9 ≡ 9
other_copy w v h k = rw (h.enable, h.copy, k.enable, k.copy) refl
