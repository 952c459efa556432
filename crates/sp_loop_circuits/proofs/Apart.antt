-- Nets that were reserved one after the other.
use Rattle.std.proofs.Common.{◌≡◌, ℕ, zero, suc, ◌<◌, ◌≤◌, arith, List, [], ◌∷◌, ◌++◌, length}
use Rattle.std.specs.Prelude.{Contains, slice_index_or}
use Rattle.std.proofs.lemmas.List.Elements.{Contains-append_left, Contains-append_right}
use Rattle.sp_op_nets.specs.Reserved.{Rise}
use Rattle.sp_loop_nets.specs.Laws.{IsPart, no_net, kept, left_out}
use Rattle.sp_stage_members.specs.Placed.{AreOnce}
use Rattle.sp_stage_members.proofs.Standing.{once_right, once_apart}
use Rattle.sp_loop_circuits.specs.Laws.{NetsAreApart}

rise_earlier : (a b : ℕ) (nets : List ℕ) → a ≤ b → Rise b nets → Rise a nets
rise_earlier a b [] l h = tt
rise_earlier a b (n ∷ nets) l h = (let m = h.0 in omega (arith, l, m), h.1)

rise_part : (from : ℕ) (some all : List ℕ) → IsPart some all → Rise from all → Rise from some
rise_part from _ _ no_net h = tt
rise_part from _ _ (kept {n = n} {some = some} {all = all} p) h = (h.0, rise_part (suc n) some all p h.1)
rise_part from _ _ (left_out {n = n} {some = some} {all = all} p) h = rise_earlier from (suc n) some (let m = h.0 in omega (arith, m)) (rise_part (suc n) some all p h.1)

rise_above : (from : ℕ) (nets : List ℕ) (n : ℕ) → Rise from nets → Contains nets n → from ≤ n
rise_above from [] n h c = let l = c.1 in absurd (omega (arith, l))
rise_above from (m ∷ nets) n h c = by c.0 c.1 c.2 (rise_above (suc m) nets n h.1)
  where
    by : (k : ℕ) → k < suc (length nets) → slice_index_or (m ∷ nets) k n ≡ n → (Contains nets n → suc m ≤ n) → from ≤ n
    by zero l e rest = let o = h.0 in omega (arith, o, e)
    by (suc k) l e rest = let o = h.0 in let r = rest (k, omega (arith, l), e) in omega (arith, o, r)

rise_once : (from : ℕ) (nets : List ℕ) → Rise from nets → AreOnce nets
rise_once from [] h = tt
rise_once from (n ∷ nets) h = (λ c. (let r = rise_above (suc n) nets n h.1 c in absurd (omega (arith, r))), rise_once (suc n) nets h.1)

pub nets_are_apart : NetsAreApart
nets_are_apart from step rows starts all r p =
    let h = rise_once from (step ∷ (rows ++ starts)) (rise_part from (step ∷ (rows ++ starts)) all p r) in
    (once_right rows starts h.1, once_apart rows starts h.1, λ c. h.0 (Contains-append_left rows starts step c), λ c. h.0 (Contains-append_right rows starts step c))
