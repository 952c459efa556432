-- The nets of a row of banks, while those of others are driven.
use Rattle.std.proofs.Common.{◌≡◌, ℕ, zero, suc, ◌+◌, ◌*◌, ◌<◌, ◌≤◌, List, [], ◌∷◌, ◌++◌, length, take, flat_map, Contains, slice_index_or, All, sym, ap, subst, ◌∙◌, ⊎_elim, arith}
use Rattle.std.proofs.lemmas.List.{take_more, length-take-le, get_or-take}
use Rattle.std.proofs.lemmas.List.Elements.{Contains-append_cases}
use Rattle.sp_netlist.specs.Draft.{Draft}
use Rattle.sp_gates.specs.Grows.{Fills}
use Rattle.sp_taps.specs.declared.store.Store.{Store}
use Rattle.sp_taps.specs.Wires.{AreInRow, AreInRows, AreWires, wires_of}
use Rattle.sp_taps.proofs.Rows.{nets_push}
use Rattle.sp_bank_ports.proofs.Wires.{wire_beside}
use Rattle.sp_stores.proofs.Kept.{at_item}

row_tail : (first : ℕ) (store : Store) (stores : List Store) → AreInRows first (store ∷ stores) → AreInRows (first + 6) stores
row_tail first store stores h = λ i other l. let e : first + 6 * suc i ≡ first + 6 + 6 * i = omega arith in subst (λ n. AreInRow n (slice_index_or stores i other)) e (h (suc i) other (omega (arith, l)))

in_row : (first : ℕ) (store : Store) (net : ℕ) → AreInRow first store → Contains (wires_of store) net → net < first + 6
in_row first store net row (zero, l, e) = let r = row.write in omega (arith, r, e)
in_row first store net row (suc zero, l, e) = let r = row.write_at in omega (arith, r, e)
in_row first store net row (suc (suc zero), l, e) = let r = row.word in omega (arith, r, e)
in_row first store net row (suc (suc (suc zero)), l, e) = let r = row.read in omega (arith, r, e)
in_row first store net row (suc (suc (suc (suc zero))), l, e) = let r = row.read_at in omega (arith, r, e)
in_row first store net row (suc (suc (suc (suc (suc k)))), l, e) = absurd (omega (arith, l))

rows_below : (stores : List Store) (first net : ℕ) → AreInRows first stores → Contains (flat_map wires_of stores) net → net < first + 6 * length stores
rows_below [] first net rows (k, l, e) = absurd (omega (arith, l))
rows_below (store ∷ stores) first net rows c =
    ⊎_elim
    (λ h. let b = in_row (first + 6 * 0) store net (rows 0 store (omega arith)) h in omega (arith, b))
    (λ h. let b = rows_below stores (first + 6) net (row_tail first store stores rows) h in omega (arith, b))
    (Contains-append_cases (wires_of store) (flat_map wires_of stores) net c)

rows_taken : (first n : ℕ) (stores : List Store) → n ≤ length stores → AreInRows first stores → AreInRows first (take n stores)
rows_taken first n stores m h = λ i other l.
    let e = length-take-le n stores (omega (arith, m)) in
    let below : i < n = omega (arith, e, l) in
    subst (AreInRow (first + 6 * i)) (sym (get_or-take n stores i other below)) (h i other (omega (arith, below, m)))

-- the nets of the next bank in the row
module _ (a b : Draft) (first width n : ℕ) (stores : List Store) (store : Store) (rows : AreInRows first stores) (l : n < length stores) (is : store ≡ slice_index_or stores n store) where
  row_of : AreInRow (first + 6 * n) store
  row_of = subst (AreInRow (first + 6 * n)) (sym is) (rows n store l)

  pub own_row : AreInRow store.write store
  own_row = let r = row_of in let w = r.write in let a = r.write_at in let v = r.word in let q = r.read in let p = r.read_at in let f = r.found in record {
    write = omega arith;
    write_at = omega (arith, w, a);
    word = omega (arith, w, v);
    read = omega (arith, w, q);
    read_at = omega (arith, w, p);
    found = omega (arith, w, f);
  }

  not_driven : (net : ℕ) → first + 6 * n ≤ net → Contains (flat_map wires_of (take n stores)) net → ⊥
  not_driven net m c =
      let e = length-take-le n stores (omega (arith, l)) in
      let below = rows_below (take n stores) first net (rows_taken first n stores (omega (arith, l)) rows) c in
      let same = ap (λ k. first + 6 * k) e in
      absurd (omega (arith, below, m, same))

  pub wires_left : Fills a b (flat_map wires_of (take n stores)) → All (AreWires a width) stores → AreWires b width store
  wires_left f wires =
      let was = at_item (AreWires a width) stores n store wires l is in
      let r = row_of in
      let w = r.write in let p = r.write_at in let v = r.word in let q = r.read in let m = r.read_at in
      record {
        write = wire_beside a b _ 1 _ f (not_driven _ (omega (arith, w))) was.write;
        write_at = wire_beside a b _ 32 _ f (not_driven _ (omega (arith, p))) was.write_at;
        word = wire_beside a b _ width _ f (not_driven _ (omega (arith, v))) was.word;
        read = wire_beside a b _ 1 _ f (not_driven _ (omega (arith, q))) was.read;
        read_at = wire_beside a b _ 32 _ f (not_driven _ (omega (arith, m))) was.read_at;
      }

  pub wires_more : flat_map wires_of (take n stores) ++ wires_of store ≡ flat_map wires_of (take (n + 1) stores)
  wires_more = sym (ap (flat_map wires_of) (take_more stores n store l ∙ ap (λ x. take n stores ++ x ∷ []) (sym is)) ∙ nets_push (take n stores) store)

none_in : (net : ℕ) → Contains [] net → ⊥
none_in net (k, l, e) = absurd (omega (arith, l))

-- while gates are added
pub wires_beside : (a b : Draft) (width : ℕ) (store : Store) → Fills a b [] → AreWires a width store → AreWires b width store
wires_beside a b width store f was = record {
  write = wire_beside a b _ 1 [] f (none_in _) was.write;
  write_at = wire_beside a b _ 32 [] f (none_in _) was.write_at;
  word = wire_beside a b _ width [] f (none_in _) was.word;
  read = wire_beside a b _ 1 [] f (none_in _) was.read;
  read_at = wire_beside a b _ 32 [] f (none_in _) was.read_at;
}
