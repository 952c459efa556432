-- The nets of the units of loads, and of those of stores.
use Rattle.std.proofs.Common.{ℕ, inl, inr, List, [], ◌∷◌, ◌++◌, Contains}
use Rattle.std.proofs.lemmas.List.Elements.{Contains-append_left, Contains-append_right, Contains-append_cases}
use Rattle.sp_op_nets.specs.Reserved.{Rise}
use Rattle.sp_tree_handed.specs.declared.moves.Direction.{Direction}
use Rattle.sp_tree_handed.specs.declared.moves.Direction.TheVariants.{Load as Inward, Store as Outward}
use Rattle.sp_load_units.specs.declared.unit.TransferUnit.{TransferUnit}
use Rattle.sp_load_units.specs.Units.{unit_wires, unit_wires_in}
use Rattle.sp_load_units.proofs.Standing.{none_in}
use Rattle.sp_lower.specs.LoadsParts.{wires_of, wires_for}
use Rattle.sp_lower.proofs.LoadsAdding.{rise_from_none, later_rise, apart as units_apart}
use Rattle.sp_lower.specs.StoresParts.{store_wires_in}
use Rattle.sp_lower.specs.StoresLaws.{WiresAreApart}

own_net : (way own : Direction) (wires : List ℕ) (net : ℕ) → Contains (wires_of way own wires) net → Contains wires net
own_net Inward Inward wires net c = c
own_net Inward Outward wires net c = absurd (none_in net c)
own_net Outward Inward wires net c = absurd (none_in net c)
own_net Outward Outward wires net c = c

one_way : (own : Direction) (wires : List ℕ) (net : ℕ) → Contains (wires_of Inward own wires) net → Contains (wires_of Outward own wires) net → ⊥
one_way Inward wires net c d = absurd (none_in net d)
one_way Outward wires net c d = absurd (none_in net c)

-- those of one direction are among all
among_all : (way : Direction) (units : List TransferUnit) (net : ℕ) → Contains (wires_for way units) net → Contains (unit_wires_in units) net
among_all way [] net c = absurd (none_in net c)
among_all way (u ∷ units) net c = elim (Contains-append_cases (wires_of way u.transfer.direction (unit_wires u)) (wires_for way units) net c) [
  | inl own ↦ Contains-append_left (unit_wires u) (unit_wires_in units) net (own_net way u.transfer.direction (unit_wires u) net own)
  | inr rest ↦ Contains-append_right (unit_wires u) (unit_wires_in units) net (among_all way units net rest)
]

apart_in : (units : List TransferUnit) → Rise 0 (unit_wires_in units) → (net : ℕ) → Contains (wires_for Inward units) net → Contains (store_wires_in units) net → ⊥
apart_in [] rise net c d = absurd (none_in net c)
apart_in (u ∷ units) rise net c d =
    elim (Contains-append_cases (wires_of Inward u.transfer.direction (unit_wires u)) (wires_for Inward units) net c) [
      | inl own ↦ elim (Contains-append_cases (wires_of Outward u.transfer.direction (unit_wires u)) (store_wires_in units) net d) [
        | inl other ↦ one_way u.transfer.direction (unit_wires u) net own other
        | inr rest ↦ units_apart u units rise net (among_all Outward units net rest) (own_net Inward u.transfer.direction (unit_wires u) net own)
      ]
      | inr more ↦ elim (Contains-append_cases (wires_of Outward u.transfer.direction (unit_wires u)) (store_wires_in units) net d) [
        | inl other ↦ units_apart u units rise net (among_all Inward units net more) (own_net Outward u.transfer.direction (unit_wires u) net other)
        | inr rest ↦ apart_in units (later_rise u units rise) net more rest
      ]
    ]

-- each of all is of one direction
by_way : (own : Direction) (wires loads stores : List ℕ) (net : ℕ) → Contains wires net → Contains ((wires_of Inward own wires ++ loads) ++ (wires_of Outward own wires ++ stores)) net
by_way Inward wires loads stores net c = Contains-append_left (wires ++ loads) stores net (Contains-append_left wires loads net c)
by_way Outward wires loads stores net c = Contains-append_right loads (wires ++ stores) net (Contains-append_left wires stores net c)

all_in : (units : List TransferUnit) (net : ℕ) → Contains (unit_wires_in units) net → Contains (wires_for Inward units ++ store_wires_in units) net
all_in [] net c = absurd (none_in net c)
all_in (u ∷ units) net c = elim (Contains-append_cases (unit_wires u) (unit_wires_in units) net c) [
  | inl own ↦ by_way u.transfer.direction (unit_wires u) (wires_for Inward units) (store_wires_in units) net own
  | inr rest ↦ elim (Contains-append_cases (wires_for Inward units) (store_wires_in units) net (all_in units net rest)) [
    | inl loads ↦ Contains-append_left (front Inward ++ wires_for Inward units) (front Outward ++ store_wires_in units) net (Contains-append_right (front Inward) (wires_for Inward units) net loads)
    | inr stores ↦ Contains-append_right (front Inward ++ wires_for Inward units) (front Outward ++ store_wires_in units) net (Contains-append_right (front Outward) (store_wires_in units) net stores)
  ]
]
  where
    front : Direction → List ℕ
    front way = wires_of way u.transfer.direction (unit_wires u)

no_other_in : (units : List TransferUnit) (net : ℕ) → Contains (wires_for Inward units ++ store_wires_in units) net → Contains (unit_wires_in units) net
no_other_in units net c = elim (Contains-append_cases (wires_for Inward units) (store_wires_in units) net c) [
  | inl loads ↦ among_all Inward units net loads
  | inr stores ↦ among_all Outward units net stores
]

pub wires_apart : (units : List TransferUnit) → WiresAreApart units
wires_apart units = record { apart = λ from rise. apart_in units (rise_from_none from (unit_wires_in units) rise); all = all_in units; no_other = no_other_in units }
