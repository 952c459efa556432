-- A net that is to be driven stays so while others are.
use Rattle.std.proofs.Common.{◌≡◌, ℕ, Bool, [], Contains, Option, Some, None, option_map, slice_get, refl, arith}
use Rattle.std.proofs.lemmas.Option.{slice_get_within}
use Rattle.sp_netlist.specs.Draft.{Draft}
use Rattle.sp_gates.specs.Grows.{Fills}
use Rattle.sp_gates.specs.Nets.{IsOpen, Awaits}
use Rattle.sp_gates.proofs.Growing.{Awaits-stays}

was_promised : (x : Option (ℕ × Bool)) (width : ℕ) → option_map (λ p. p.0) x ≡ Some width → (p : ℕ × Bool) × (x ≡ Some p)
was_promised (Some p) width e = (p, refl)
was_promised None width e = absurd (cc)

pub awaits_open : (d : Draft) (net width : ℕ) → Awaits d net width → IsOpen d net
awaits_open d net width h = record { within = (let p = was_promised (slice_get d.promised net) width h.wide in slice_get_within d.promised net p.0 p.1); undriven = h.undriven }

pub none_in : (x : ℕ) → Contains [] x → ⊥
none_in x c = let l = c.1 in absurd (omega (arith, l))

pub awaits_kept : (a b : Draft) (net width : ℕ) → Fills a b [] → Awaits a net width → Awaits b net width
awaits_kept a b net width f h = Awaits-stays a b net width f.grows (f.still_open net (awaits_open a net width h) (none_in net)) h
