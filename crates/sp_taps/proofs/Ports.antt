-- The nets of a bank's ports.
use Rattle.std.proofs.Common.{◌≡◌, ℕ, zero, suc, ◌+◌, ◌<◌, ◌≤◌, ◌==◌, Bool, true, false, cond, List, [], ◌∷◌, ◌++◌, length, count_by, Contains, Some, slice_get, option_map, ◌-◌, eq-eqb, refl, ap, subst, ◌∙◌, ◌⊎◌, inl, inr, arith, ne_eqb}
use Rattle.std.proofs.lemmas.Bool.{cases_eq}
use Rattle.std.proofs.lemmas.List.{length-append}
use Rattle.sp_netlist.specs.Cells.{bank_cell, write_tap, read_tap}
use Rattle.sp_netlist.specs.Rules.{is_bank}
use Rattle.sp_netlist.specs.Draft.{Draft, IsDraft, Keeps, driver_count}
use Rattle.sp_netlist.proofs.DraftNames.{draft_laws}
use Rattle.sp_gates.specs.Nets.{HasNet}
use Rattle.sp_gates.specs.Grows.{Grows}
use Rattle.sp_gates.proofs.Growing.{Keeps-join}
use Rattle.sp_taps.specs.declared.store.Store.{Store}
use Rattle.sp_taps.specs.Wires.{IsWire, Promises, AreInRow, AreWires, wires_of}
use Rattle.sp_taps.proofs.Promised.{at_back}

abbrev pub ports_of : (width : ℕ) → List (ℕ × Bool)
ports_of width = (1, false) ∷ (32, false) ∷ (width, false) ∷ (1, false) ∷ (32, false) ∷ (width, true) ∷ []

as_count : (a b : Bool) → a ≡ b → cond {A = ℕ} a 1 0 ≡ cond {A = ℕ} b 1 0
as_count a b e = rw e refl

-- what was promised stands under its number
pub promised_at : (old mid : Draft) (width net k : ℕ) → mid.promised ≡ old.promised ++ ports_of width → net ≡ length old.promised + k → slice_get mid.promised net ≡ slice_get (ports_of width) k
promised_at old mid width net k e n = ap (λ ps. slice_get ps net) e ∙ at_back old.promised (ports_of width) net k n

module _ (old mid new : Draft) (bank width len : ℕ) (store : Store) (h : IsDraft old) (is : bank ≡ count_by is_bank old.cells) (promised : mid.promised ≡ old.promised ++ ports_of width) (row : AreInRow (length old.promised) store)
    (same : mid.cells ≡ old.cells) (k : Keeps old mid) (l : Keeps mid new) (d : IsDraft new)
    (cells : new.cells ≡ mid.cells ++ bank_cell bank width len ∷ write_tap bank store.write store.write_at store.word ∷ read_tap store.found bank store.read store.read_at ∷ [])
    (nets : new.promised ≡ mid.promised) (drivers : (net : ℕ) → driver_count new.cells net ≡ driver_count mid.cells net + (0 + cond (store.found == net) 1 0)) where
  wire : (net w k : ℕ) → net ≡ length old.promised + k → k < 5 → slice_get (ports_of width) k ≡ Some (w, false) → IsWire new net w
  wire net w j at small e = record {
    promised = ap (λ ps. slice_get ps net) nets ∙ promised_at old mid width net j promised at ∙ e;
    undriven =
        let free = draft_laws.net old net h (omega (arith, at)) in
        let f = row.found in
        let other = ne_eqb store.found net (λ q. absurd (omega (arith, at, small, f, q))) in
        let all = drivers net in
        let now = ap (λ cs. driver_count cs net) same in
        let none = as_count (store.found == net) false other in
        omega (arith, all, now, free, none);
  }

  pub wires : AreWires new width store
  wires = record {
    write = wire store.write 1 0 (let r = row.write in omega (arith, r)) (omega arith) refl;
    write_at = wire store.write_at 32 1 row.write_at (omega arith) refl;
    word = wire store.word width 2 row.word (omega arith) refl;
    read = wire store.read 1 3 row.read (omega arith) refl;
    read_at = wire store.read_at 32 4 row.read_at (omega arith) refl;
  }

  pub longer : length new.promised ≡ length old.promised + 6
  longer = let e = ap length nets ∙ ap length promised ∙ length-append old.promised (ports_of width) in e

  pub found : HasNet new store.found width
  found = let p = ap (λ ps. slice_get ps store.found) nets ∙ promised_at old mid width store.found 5 promised row.found in
      record { wide = ap (option_map (λ q. q.0)) p; ready = inl (ap (option_map (λ q. q.1)) p) }

  in_wires : (net : ℕ) → Contains (wires_of store) net → (length old.promised ≤ net) × (net < length old.promised + 5)
  in_wires net (zero, b, e) = let r = row.write in (omega (arith, r, e), omega (arith, r, e))
  in_wires net (suc zero, b, e) = let r = row.write_at in (omega (arith, r, e), omega (arith, r, e))
  in_wires net (suc (suc zero), b, e) = let r = row.word in (omega (arith, r, e), omega (arith, r, e))
  in_wires net (suc (suc (suc zero)), b, e) = let r = row.read in (omega (arith, r, e), omega (arith, r, e))
  in_wires net (suc (suc (suc (suc zero))), b, e) = let r = row.read_at in (omega (arith, r, e), omega (arith, r, e))
  in_wires net (suc (suc (suc (suc (suc i)))), b, e) = absurd (omega (arith, b))

  five_cases : (n : ℕ) → n < 5 → (P : ℕ → Type 0) → P 0 → P 1 → P 2 → P 3 → P 4 → P n
  five_cases zero l P a b c d e = a
  five_cases (suc zero) l P a b c d e = b
  five_cases (suc (suc zero)) l P a b c d e = c
  five_cases (suc (suc (suc zero))) l P a b c d e = d
  five_cases (suc (suc (suc (suc zero)))) l P a b c d e = e
  five_cases (suc (suc (suc (suc (suc n))))) l P a b c d e = absurd (omega (arith, l))

  all_in : (j : ℕ) → j < 5 → Contains (wires_of store) (length old.promised + j)
  all_in j small = five_cases j small (λ n. Contains (wires_of store) (length old.promised + n))
      (0, omega arith, row.write ∙ omega arith) (1, omega arith, row.write_at) (2, omega arith, row.word) (3, omega arith, row.read) (4, omega arith, row.read_at)

  grows : Grows old new
  grows = record {
    added = bank_cell bank width len ∷ write_tap bank store.write store.write_at store.word ∷ read_tap store.found bank store.read store.read_at ∷ [];
    stands = cells ∙ ap (λ cs. cs ++ bank_cell bank width len ∷ write_tap bank store.write store.write_at store.word ∷ read_tap store.found bank store.read store.read_at ∷ []) same;
    keeps = Keeps-join old mid new k l;
    draft = λ o. d;
    no_done = refl;
    apart = λ other below. rw (ne_eqb bank other (λ q. absurd (omega (arith, is, below, q)))) refl;
  }

  driven_at : (net : ℕ) → driver_count new.cells net ≡ driver_count old.cells net + cond (store.found == net) 1 0
  driven_at net = let all = drivers net in let now = ap (λ cs. driver_count cs net) same in omega (arith, all, now)

  pub promises : Promises old new (wires_of store)
  promises = record {
    grows = grows;
    longer = let n = longer in omega (arith, n);
    fresh = λ net c. (in_wires net c).0;
    still_open = λ net o.
        let w = o.within in
        let u = o.undriven in
        let f = row.found in
        let other = as_count (store.found == net) false (ne_eqb store.found net (λ q. absurd (omega (arith, w, f, q)))) in
        let all = driven_at net in
        let n = longer in
        record { within = omega (arith, w, n); undriven = omega (arith, all, u, other) };
    no_other = λ net o out.
        let w = o.within in
        let u = o.undriven in
        let all = driven_at net in
        let n = longer in
        elim (cases_eq store.found net) [
          | inl here ↦ absurd (let t = as_count (store.found == net) true (eq-eqb store.found net here) in omega (arith, all, u, t))
          | inr other ↦ elim (lt_or net (length old.promised)) [
            | inl below ↦ record { within = below; undriven = omega (arith, all, u) }
            | inr past ↦ absurd (let f = row.found in
                let small : net - length old.promised < 5 = omega (arith, w, n, past, f, other) in
                let same_net : length old.promised + (net - length old.promised) ≡ net = omega (arith, past) in
                out (subst (Contains (wires_of store)) same_net (all_in (net - length old.promised) small)))
          ]
        ];
  }
    where
      lt_or : (a b : ℕ) → (a < b) ⊎ (b ≤ a)
      lt_or a b = grind arith
