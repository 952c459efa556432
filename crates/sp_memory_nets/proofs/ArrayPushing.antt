-- Banks of memories, one memory more at a time.
use Rattle.std.proofs.Common.{◌≡◌, ℕ, ◌+◌, ◌<◌, ◌⊎◌, inl, inr, List, [], ◌∷◌, ◌++◌, length, map, flat_map, slice_index, slice_index_or, Contains, sym, ap, subst, ◌∙◌, arith}
use Rattle.std.proofs.lemmas.List.{append-nil, map-append, length-map, get_or_append_left, get_or_push}
use Rattle.std.proofs.lemmas.List.Concat.{flat_map-append}
use Rattle.sp_netlist.specs.Draft.{Draft}
use Rattle.sp_core.specs.PlainCore.{PlainCore}
use Rattle.sp_plan.specs.PlainPlan.{PlainPlan}
use Rattle.sp_taps.specs.declared.store.Store.{Store}
use Rattle.sp_taps.specs.Wires.{Promises, wires_of}
use Rattle.sp_memory_nets.specs.declared.array_array.Array.{Array}
use Rattle.sp_memory_nets.specs.ArrayBanks.{ArrayStands, banks_before, bank_at, stores_at, wires_at, stores_in, wires_in}
use Rattle.sp_memory_nets.proofs.ArrayWires.{some_wire, wire_open, wire_within, array_stays}

below_or_at : (k m : ℕ) → k < m + 1 → (k < m) ⊎ (k ≡ m)
below_or_at k m l = grind arith

-- no two of so many memories have a net in common
abbrev pub AreApart : List Array → (count : ℕ) → Type 0
AreApart arrays n = (i k net : ℕ) → i < k → k < n → Contains (wires_at arrays i) net → Contains (wires_at arrays k) net → ⊥

-- the nets of the banks of one memory more
pub wires_push : (arrays : List Array) (array : Array) → wires_in (arrays ++ array ∷ []) ≡ wires_in arrays ++ flat_map wires_of array.stores.items
wires_push arrays array =
    ap (flat_map wires_of) (flat_map-append (λ (a : Array). a.stores.items) arrays (array ∷ []))
    ∙ flat_map-append wires_of (stores_in arrays) (array.stores.items ++ [])
    ∙ ap (λ (stores : List Store). wires_in arrays ++ flat_map wires_of stores) (append-nil array.stores.items)

module _ (arrays : List Array) (array : Array) where
  bank_before : (k : ℕ) → k < length arrays → bank_at (arrays ++ array ∷ []) k ≡ bank_at arrays k
  bank_before k l =
      let e = length-map arrays (λ (a : Array). a.bank) in
      ap (λ (ns : List ℕ). slice_index ns k) (map-append (λ (a : Array). a.bank) arrays (array ∷ [])) ∙ get_or_append_left (map (λ (a : Array). a.bank) arrays) (array.bank ∷ []) 0 k (omega (arith, e, l))

  bank_last : (n : ℕ) → length arrays ≡ n → bank_at (arrays ++ array ∷ []) n ≡ array.bank
  bank_last n e = ap (λ (ns : List ℕ). slice_index ns n) (map-append (λ (a : Array). a.bank) arrays (array ∷ [])) ∙ get_or_push (map (λ (a : Array). a.bank) arrays) array.bank 0 n (length-map arrays (λ (a : Array). a.bank) ∙ e)

  stores_before : (k : ℕ) → k < length arrays → stores_at (arrays ++ array ∷ []) k ≡ stores_at arrays k
  stores_before k l =
      let e = length-map arrays (λ (a : Array). a.stores.items) in
      ap (λ (ss : List (List Store)). slice_index_or ss k []) (map-append (λ (a : Array). a.stores.items) arrays (array ∷ []))
      ∙ get_or_append_left (map (λ (a : Array). a.stores.items) arrays) (array.stores.items ∷ []) [] k (omega (arith, e, l))

  stores_last : (n : ℕ) → length arrays ≡ n → stores_at (arrays ++ array ∷ []) n ≡ array.stores.items
  stores_last n e =
      ap (λ (ss : List (List Store)). slice_index_or ss n []) (map-append (λ (a : Array). a.stores.items) arrays (array ∷ []))
      ∙ get_or_push (map (λ (a : Array). a.stores.items) arrays) array.stores.items [] n (length-map arrays (λ (a : Array). a.stores.items) ∙ e)

module _ (a b : Draft) (core : PlainCore) (plan : PlainPlan) (arrays : List Array) (array : Array) (bank m : ℕ) (each : length arrays ≡ m) (p : Promises a b (flat_map wires_of array.stores.items))
    (old : (k : ℕ) → k < m → ArrayStands a core plan k (bank_at arrays k) (stores_at arrays k)) where
  pub stand_more : array.bank ≡ bank → ArrayStands b core plan m bank array.stores.items → (k : ℕ) → k < m + 1 → ArrayStands b core plan k (bank_at (arrays ++ array ∷ []) k) (stores_at (arrays ++ array ∷ []) k)
  stand_more at own k l = elim (below_or_at k m l) [
    | inl less ↦
        let was = old k less in
        let within : k < length arrays = omega (arith, less, each) in
        subst (λ n. ArrayStands b core plan k n (stores_at (arrays ++ array ∷ []) k)) (sym (bank_before arrays array k within))
        (subst (λ (ss : List Store). ArrayStands b core plan k (bank_at arrays k) ss) (sym (stores_before arrays array k within))
        (array_stays a b core plan p.grows k (bank_at arrays k) (stores_at arrays k) (λ net c. p.still_open net (wire_open a net (some_wire a _ (stores_at arrays k) net was.wires c))) was))
    | inr same ↦
        subst (λ j. ArrayStands b core plan j (bank_at (arrays ++ array ∷ []) j) (stores_at (arrays ++ array ∷ []) j)) (sym same)
        (subst (λ n. ArrayStands b core plan m n (stores_at (arrays ++ array ∷ []) m)) (sym (bank_last arrays array m each ∙ at))
        (subst (λ (ss : List Store). ArrayStands b core plan m bank ss) (sym (stores_last arrays array m each)) own))
  ]

  -- the numbers of their first banks
  pub numbered_more : (first : ℕ) → array.bank ≡ bank → bank ≡ first + banks_before core plan m → ((k : ℕ) → k < m → bank_at arrays k ≡ first + banks_before core plan k) → (k : ℕ) → k < m + 1 → bank_at (arrays ++ array ∷ []) k ≡ first + banks_before core plan k
  numbered_more first at here before k l = elim (below_or_at k m l) [
    | inl less ↦ bank_before arrays array k (omega (arith, less, each)) ∙ before k less
    | inr same ↦ ap (bank_at (arrays ++ array ∷ [])) same ∙ bank_last arrays array m each ∙ at ∙ here ∙ ap (λ n. first + banks_before core plan n) (sym same)
  ]

  in_old : (k net : ℕ) → k < m → Contains (wires_at (arrays ++ array ∷ []) k) net → Contains (wires_at arrays k) net
  in_old k net l c = subst (λ (ss : List Store). Contains (flat_map wires_of ss) net) (stores_before arrays array k (omega (arith, l, each))) c

  pub apart_more : AreApart arrays m → AreApart (arrays ++ array ∷ []) (m + 1)
  apart_more before i k net lt l c d = elim (below_or_at k m l) [
    | inl less ↦ before i k net lt less (in_old i net (omega (arith, lt, less)) c) (in_old k net less d)
    | inr same ↦
        let lower : i < m = omega (arith, lt, same) in
        let fresh = p.fresh net (subst (λ (ss : List Store). Contains (flat_map wires_of ss) net) (stores_last arrays array m each) (subst (λ j. Contains (wires_at (arrays ++ array ∷ []) j) net) same d)) in
        let within = wire_within a net (some_wire a _ (stores_at arrays i) net (old i lower).wires (in_old i net lower c)) in
        omega (arith, fresh, within)
  ]
