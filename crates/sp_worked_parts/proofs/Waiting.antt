-- Nets that await their drivers while others are promised.
use Rattle.std.proofs.Common.{◌≢◌, ℕ, zero, suc, [], ◌∷◌, Contains, inl, arith}
use Rattle.sp_netlist.specs.declared.parts.Child.{Child}
use Rattle.sp_netlist.specs.Draft.{Draft}
use Rattle.sp_gates.specs.Grows.{Fills, Opens}
use Rattle.sp_gates.specs.Nets.{Awaits, HasNet}
use Rattle.sp_gates.proofs.Growing.{Awaits-stays, Grows-join, HasNet-stays, more_gates}
use Rattle.sp_mem.proofs.Waiting.{awaits_open}
use Rattle.sp_ctrl.specs.Fits.{IsChild}

pub awaited_net : (d : Draft) (net : ℕ) → Awaits d net 32 → HasNet d net 32
awaited_net d net h = record { wide = h.wide; ready = inl h.kept }

pub awaits_past : (a b : Draft) (net other : ℕ) → Opens a b other → Awaits a net 32 → Awaits b net 32
awaits_past a b net other o h = Awaits-stays a b net 32 o.grows (o.still_open net (awaits_open a net 32 h)) h

pub opened_other : (a b : Draft) (net other : ℕ) → Opens a b other → Awaits a net 32 → other ≢ net
opened_other a b net other o h = λ e. let l = (awaits_open a net 32 h).within in let f = o.fresh in absurd (omega (arith, l, f, e))

pub none_of_four : (a b c d net : ℕ) → a ≢ net → b ≢ net → c ≢ net → d ≢ net → Contains (a ∷ b ∷ c ∷ d ∷ []) net → ⊥
none_of_four a b c d net p q r s (zero, l, e) = p e
none_of_four a b c d net p q r s (suc zero, l, e) = q e
none_of_four a b c d net p q r s (suc (suc zero), l, e) = r e
none_of_four a b c d net p q r s (suc (suc (suc zero)), l, e) = s e
none_of_four a b c d net p q r s (suc (suc (suc (suc k))), l, e) = absurd (omega (arith, l))

-- a net is promised, and cells are added that drive no open net
pub opens_more : (a b c : Draft) (net : ℕ) → Opens a b net → Fills b c [] → Opens a c net
opens_more a b c net o f = record {
  grows = Grows-join a b c o.grows f.grows;
  gates = more_gates a b c o.gates f.gates;
  fresh = o.fresh;
  still_open = λ n was. f.still_open n (o.still_open n was) (none_in n);
  no_other = λ n is other. o.no_other n (f.no_other n is).0 other;
}
  where
    none_in : (n : ℕ) → Contains [] n → ⊥
    none_in n k = let l = k.1 in absurd (omega (arith, l))

-- a child stays one while another net is promised, and its start is another net
pub child_beside : (a b : Draft) (child : Child) (net : ℕ) → Opens a b net → IsChild a child → IsChild b child
child_beside a b child net o h = record {
  start = Awaits-stays a b child.start 1 o.grows (o.still_open child.start (awaits_open a child.start 1 h.start)) h.start;
  done = HasNet-stays a b child.done 1 o.grows h.done;
}

pub other_start : (a b : Draft) (child : Child) (net : ℕ) → Opens a b net → IsChild a child → net ≢ child.start
other_start a b child net o h = λ e. let l = (awaits_open a child.start 1 h.start).within in let f = o.fresh in absurd (omega (arith, l, f, e))
