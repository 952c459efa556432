-- What is known of the ports of a netlist before their cells are added.
use Rattle.std.specs.Prelude.{◌≡◌, ℕ, ◌≤◌, List, [], ◌∷◌, ◌++◌, length, All, Contains}
use Rattle.std.specs.List.{AllByRecursion as Each}
use Rattle.sp_words.specs.Names.{IsName}
use Rattle.sp_words.specs.Ports.{PlainPort}
use Rattle.sp_words.specs.Types.{width_of}
use Rattle.sp_netlist.specs.Draft.{Draft}
use Rattle.sp_netlist.specs.Rules.{IsLength}
use Rattle.sp_gates.specs.Nets.{HasNet}

-- the name of each port is one, and is none of these nor that of a port before it
abbrev pub AreNamedAfter : List (List ℕ) → List PlainPort → Type 0
AreNamedAfter before [] = Unit {0}
AreNamedAfter before (port ∷ ports) = IsName port.name × (Contains before port.name → ⊥) × AreNamedAfter (before ++ port.name ∷ []) ports

abbrev pub AreNamed : List PlainPort → Type 0
AreNamed = AreNamedAfter []

-- arguments and outputs have no dimensions
abbrev pub HaveNoDims : List PlainPort → Type 0
HaveNoDims ports = Each (λ (port : PlainPort). port.dims ≡ []) ports

-- a DRAM has one to three dimensions, each of a length that a cell may have
abbrev pub HasSizes : PlainPort → Type 0
HasSizes port = (1 ≤ length port.dims) × (length port.dims ≤ 3) × All IsLength port.dims

abbrev pub HaveSizes : List PlainPort → Type 0
HaveSizes ports = Each HasSizes ports

-- there is a net for each port, in order, of the width of its type, whose word stands before any cell that is added next
abbrev pub HaveNets : Draft → List PlainPort → List ℕ → Type 0
HaveNets d [] [] = Unit {0}
HaveNets d (port ∷ ports) (net ∷ nets) = HasNet d net (width_of port.ty) × HaveNets d ports nets
HaveNets d _ _ = ⊥
