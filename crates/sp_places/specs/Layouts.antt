-- How a memory lies in banks, and what tells where an element stands.
use Rattle.std.specs.Prelude.{◌≡◌, ℕ, ◌<◌, ◌^◌, List, length, map, All}
use Rattle.sp_bank.specs.Banking.{Banking, InSpace}
use Rattle.sp_bank.specs.Places.{weighted, IsInside, bank_length, bank as bank_number, offset}
use Rattle.sp_netlist.specs.Rules.{IsLength}
use Rattle.sp_netlist.specs.Draft.{Draft}
use Rattle.sp_netlist.specs.Signals.{Signals}
use Rattle.sp_gates.specs.Nets.{HasNet}
use Rattle.sp_gates.specs.Runs.{RunsOn}
use Rattle.sp_places.specs.declared.layout.Layout.{Layout}
use Rattle.sp_places.specs.declared.layout.Spot.{Spot}

abbrev pub banking_of : Layout → Banking
banking_of l = record { banks = l.banks; block = l.block; alpha = l.alpha.items; hinge = l.hinge }

pub record IsLayout (l : Layout) : Type 0 where
  pub space : InSpace (banking_of l)
  pub rank : length l.dims.items ≡ length l.alpha.items
  pub sizes : All IsLength l.dims.items
  pub small : bank_length (banking_of l) l.dims.items < 2 ^ 31

-- the words of nets in a cycle
abbrev pub words_at : Signals → (cycle : ℕ) → List ℕ → List ℕ
words_at s t nets = map (s.net t) nets

-- In each cycle in which the nets' words are the indices of an element, the two nets have its bank and its place there.
pub record IsSpot (d : Draft) (l : Layout) (index : List ℕ) (spot : Spot) : Type 0 where
  pub bank_net : HasNet d spot.bank 32
  pub place_net : HasNet d spot.place 32
  pub bank : (s : Signals) → RunsOn s d.cells → (t : ℕ) → IsInside l.dims.items (words_at s t index) → s.net t spot.bank ≡ bank_number (banking_of l) (words_at s t index)
  pub place : (s : Signals) → RunsOn s d.cells → (t : ℕ) → IsInside l.dims.items (words_at s t index) → s.net t spot.place ≡ offset (banking_of l) l.dims.items (words_at s t index)

-- the net has the indices of an element times their weights, summed
abbrev pub HasPlaces : Draft → Layout → (wide : List ℕ) → (net : ℕ) → Type 0
HasPlaces d l wide net = (s : Signals) → RunsOn s d.cells → (t : ℕ) → IsInside l.dims.items (words_at s t wide) → s.net t net ≡ weighted (banking_of l).alpha (words_at s t wide)
