-- What is asked of the copies of a queue.
use Rattle.std.specs.Prelude.{◌≡◌, ℕ, ◌+◌, ◌<◌, Bool, false, ◌||◌, List, [], ◌∷◌, length, slice_index_or}
use Rattle.sp_netlist.specs.Draft.{Draft}
use Rattle.sp_netlist.specs.Signals.{Signals}
use Rattle.sp_gates.specs.Nets.{HasNet}
use Rattle.sp_gates.specs.Tested.{is_on}
use Rattle.sp_mem.specs.declared.part.Fresh.{Fresh}
use Rattle.sp_mem.specs.declared.part.Touch.{Touch}
use Rattle.sp_mem.specs.Copies.{is_at, written}
use Rattle.sp_mem.specs.Fits.{CopyFits}
use Rattle.sp_taps.specs.declared.store.Store.{Store}
use Rattle.sp_ring.specs.declared.part.Asked.{Asked}
use Rattle.sp_ring.specs.declared.part.Ring.{Ring}
use Rattle.sp_ring.specs.Rings.{RunsRing}

-- an access to a queue has no index
pub record TouchFits (d : Draft) (touch : Touch) : Type 0 where
  pub enable : HasNet d touch.enable 1
  pub copy : CopyFits d touch.copy

-- whether a copy is made fresh in a cycle, and whether one of some accesses is enabled at it
abbrev pub is_freshened : Signals → (cycle copy : ℕ) → List Fresh → Bool
is_freshened s t copy [] = false
is_freshened s t copy (f ∷ fs) = is_at s t f.enable f.copy copy || is_freshened s t copy fs

abbrev pub is_touched : Signals → (cycle copy : ℕ) → List Touch → Bool
is_touched s t copy [] = false
is_touched s t copy (a ∷ es) = is_at s t a.enable a.copy copy || is_touched s t copy es

-- the nets ask of the queue what is done to the copy: of several puts the last one's word
pub record IsAsked (s : Signals) (cycle copy : ℕ) (fresh_list : List Fresh) (puts takes : List Touch) (asked : Asked) : Type 0 where
  pub fresh : is_on s asked.fresh cycle ≡ is_freshened s cycle copy fresh_list
  pub put : is_on s asked.put cycle ≡ is_touched s cycle copy puts
  pub take : is_on s asked.take cycle ≡ is_touched s cycle copy takes
  pub word : s.net cycle asked.word ≡ written s cycle copy puts 0

-- the copy is a ring in its bank
pub record RunsQueue (s : Signals) (bank depth : ℕ) (store : Store) (copy : ℕ) (fresh : List Fresh) (puts takes : List Touch) : Type 0 where
  pub asked : Asked
  pub ring : Ring
  pub is_asked : (t : ℕ) → IsAsked s t copy fresh puts takes asked
  pub runs : RunsRing s bank depth store asked ring

-- each copy in its bank
abbrev pub RunQueues : Signals → (first depth : ℕ) → List Store → List Fresh → (puts takes : List Touch) → Type 0
RunQueues s first depth stores fresh puts takes = (i : ℕ) (other : Store) → i < length stores → RunsQueue s (first + i) depth (slice_index_or stores i other) i fresh puts takes
