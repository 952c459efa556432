-- A worked memory: five elements in two banks, with two copies and two duplicates, whose banks begin with number 3.
use Rattle.std.specs.Prelude.{◌≡◌, ℕ, ◌*◌, ◌==◌, if◌then◌else◌, [], ◌∷◌, None}
use Rattle.sp_bank.specs.Places.{offset}
use Rattle.sp_netlist.specs.Signals.{Signals, idle}
use Rattle.sp_mem.specs.declared.part.Touch.{Touch}
use Rattle.sp_places.specs.Layouts.{banking_of}
use Rattle.sp_requests.specs.Elements.{element_after}
use Rattle.sp_banked.specs.declared.part.Banked.{Banked}
use Rattle.sp_banked.specs.Fits.{bank_count, bank_size}
use Rattle.sp_banked.specs.Runs.{number_of}

pub record IsWorked (part : Banked) : Type 0 where
  pub bank : part.bank ≡ 3
  pub copies : part.copies ≡ 2
  pub duplicates : part.duplicates ≡ 2
  pub banks : part.layout.banks ≡ 2
  pub block : part.layout.block ≡ 1
  pub alpha : part.layout.alpha.items ≡ 1 ∷ []
  pub hinge : part.layout.hinge ≡ 0
  pub dims : part.layout.dims.items ≡ 5 ∷ []

-- an access that is always enabled at copy 0, at the element whose index is the number of the cycle
pub record IsWorkedTouch (word : ℕ) (touch : Touch) : Type 0 where
  pub enable : touch.enable ≡ 0
  pub index : touch.index.items ≡ 1 ∷ []
  pub copy : touch.copy ≡ None
  pub word_net : touch.word ≡ word

-- net 0 is 1, net 1 is the number of the cycle, and any other net n has 100 n
abbrev pub worked_net : (cycle net : ℕ) → ℕ
worked_net t net = if net == 0 then 1 else (if net == 1 then t else 100 * net)

abbrev pub worked_signals : Signals
worked_signals = record { net = worked_net; bank = λ t b x. 0; dram = λ t d x. 0; phase = λ t c. idle; asked = λ t. 0 }

pub record WorkedMemory : Type 0 where
  -- eight banks of three places; element 3 of copy 1 stands in the last bank of the second duplicate, at place 1
  pub count : (part : Banked) → IsWorked part → bank_count part ≡ 8
  pub size : (part : Banked) → IsWorked part → bank_size part ≡ 3
  pub number : (part : Banked) → IsWorked part → number_of part 1 1 (3 ∷ []) ≡ 10
  pub place : (part : Banked) → IsWorked part → offset (banking_of part.layout) part.layout.dims.items (3 ∷ []) ≡ 1
  -- in cycle 5 element 5 of copy 0 takes the word of the second of two writes; element 4, and copy 1, keep theirs
  pub written : (w v : Touch) → IsWorkedTouch 2 w → IsWorkedTouch 3 v → element_after worked_signals 5 0 (w ∷ v ∷ []) (5 ∷ []) 9 ≡ 300
  pub other_element : (w v : Touch) → IsWorkedTouch 2 w → IsWorkedTouch 3 v → element_after worked_signals 5 0 (w ∷ v ∷ []) (4 ∷ []) 9 ≡ 9
  pub other_copy : (w v : Touch) → IsWorkedTouch 2 w → IsWorkedTouch 3 v → element_after worked_signals 5 1 (w ∷ v ∷ []) (5 ∷ []) 9 ≡ 9
