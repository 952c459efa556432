-- When a queue can be emitted, and what its takes find.
use Rattle.std.specs.Prelude.{◌≡◌, ℕ, suc, ◌<◌, List, length, slice_index_or, All}
use Rattle.sp_words.specs.Types.{width_of}
use Rattle.sp_netlist.specs.Draft.{Draft}
use Rattle.sp_netlist.specs.Rules.{IsLength}
use Rattle.sp_netlist.specs.Signals.{Signals}
use Rattle.sp_gates.specs.Nets.{HasNet, Awaits}
use Rattle.sp_gates.specs.Runs.{RunsOn}
use Rattle.sp_mem.specs.declared.part.Touch.{Touch}
use Rattle.sp_mem.specs.Copies.{copy_at}
use Rattle.sp_mem.specs.Fits.{FreshFits, WriteFits, AreApart}
use Rattle.sp_taps.specs.declared.store.Store.{Store}
use Rattle.sp_taps.specs.Wires.{AreInRows, AreWires}
use Rattle.sp_taps.specs.Stores.{AreStores}
use Rattle.sp_requests.specs.declared.part.Request.{Request}
use Rattle.sp_requests.specs.Requests.{RequestFits}
use Rattle.sp_queue_copies.specs.Events.{TouchFits}
use Rattle.sp_queue.specs.declared.part.Queue.{Queue}

-- the request is that of a take, from the one bank of its copy
pub record IsTake (d : Draft) (zero : ℕ) (touch : Touch) (r : Request) : Type 0 where
  pub fits : RequestFits d r
  pub word : r.word ≡ touch.word
  pub duplicate : r.duplicate ≡ 0
  pub bank : r.bank ≡ zero
  pub copy : (s : Signals) → RunsOn s d.cells → (t : ℕ) → s.net t r.copy ≡ copy_at s t touch.copy

pub record TakesFit (d : Draft) (part : Queue) : Type 0 where
  pub takes : All (TouchFits d) part.takes.items
  pub found : All (λ r. Awaits d r.word (width_of part.ty)) part.takes.items
  pub apart : AreApart part.takes.items

pub record QueueFits (d : Draft) (part : Queue) : Type 0 where
  pub start : HasNet d part.start 1
  pub depth : IsLength part.depth
  pub fresh : All (FreshFits d) part.fresh.items
  pub puts : All (WriteFits d (width_of part.ty)) part.puts.items
  pub takes : TakesFit d part

-- the banks were added, one for each copy, and the nets of their ports are to be driven
pub record BanksFit (d : Draft) (part : Queue) (stores : List Store) : Type 0 where
  pub each : length stores ≡ part.copies
  pub rows : (first : ℕ) × AreInRows first stores
  pub wires : All (AreWires d (width_of part.ty)) stores
  pub banks : AreStores d part.bank (width_of part.ty) part.depth stores

-- a take's net has, two cycles after it asked, what the bank of its copy found a cycle after it asked
abbrev pub RunsTakes : Signals → (copies : ℕ) → List Store → Touch → Type 0
RunsTakes s copies stores touch = (t : ℕ) → copy_at s t touch.copy < copies → (other : Store) → s.net (suc (suc t)) touch.word ≡ s.net (suc t) (slice_index_or stores (copy_at s t touch.copy) other).found
