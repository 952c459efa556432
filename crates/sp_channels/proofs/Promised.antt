-- Nets that are promised with a unit.
use Rattle.std.proofs.Common.{◌≡◌, ℕ, ◌+◌, ◌-◌, ◌<◌, ◌≤◌, List, length, Contains, Bool, subst, ◌⊎◌, inl, inr, arith}
use Rattle.sp_netlist.specs.Draft.{Draft, IsDraft, driver_count}
use Rattle.sp_netlist.proofs.DraftNames.{draft_laws}
use Rattle.sp_gates.specs.Grows.{Grows}
use Rattle.sp_taps.specs.Wires.{Promises}

-- A row of nets was promised, the first ones to be driven; the others are driven, and no other net is.
module _ (old mid new : Draft) (ports : List (ℕ × Bool)) (nets : List ℕ) (w n : ℕ) (hit : ℕ → ℕ) (h : IsDraft old) (g : Grows old new) (few : w ≤ n) (longer : length new.promised ≡ length old.promised + n)
    (drivers : (net : ℕ) → driver_count new.cells net ≡ driver_count old.cells net + hit net) (in_row : (net : ℕ) → Contains nets net → (length old.promised ≤ net) × (net < length old.promised + w))
    (all_in : (j : ℕ) → j < w → Contains nets (length old.promised + j)) (low : (net : ℕ) → net < length old.promised + w → hit net ≡ 0)
    (high : (net : ℕ) → length old.promised + w ≤ net → net < length old.promised + n → 1 ≤ hit net) where
  pub undriven : (net : ℕ) → length old.promised ≤ net → net < length old.promised + w → driver_count new.cells net ≡ 0
  undriven net l m = let d = drivers net in let free = draft_laws.net old net h l in let z = low net m in omega (arith, d, free, z)

  lt_or : (a b : ℕ) → (a < b) ⊎ (b ≤ a)
  lt_or a b = grind arith

  pub promises : Promises old new nets
  promises = record {
    grows = g;
    longer = omega (arith, longer);
    fresh = λ net c. (in_row net c).0;
    still_open = λ net o.
        let a = o.within in
        let u = o.undriven in
        let d = drivers net in
        let z = low net (omega (arith, a)) in
        record { within = omega (arith, a, longer); undriven = omega (arith, d, u, z) };
    no_other = λ net o out.
        let a = o.within in
        let u = o.undriven in
        let d = drivers net in
        elim (lt_or net (length old.promised)) [
          | inl below ↦ record { within = below; undriven = omega (arith, d, u) }
          | inr past ↦ elim (lt_or net (length old.promised + w)) [
            | inl wire ↦ absurd (out (subst (Contains nets) (let e : length old.promised + (net - length old.promised) ≡ net = omega (arith, past) in e) (all_in (net - length old.promised) (omega (arith, wire, past)))))
            | inr driven ↦ absurd (let k = high net driven (omega (arith, a, longer)) in omega (arith, k, d, u))
          ]
        ];
  }
