-- Drafts with more nets open, one after the other.
use Rattle.std.proofs.Common.{◌≡◌, ℕ, zero, suc, ◌<◌, ◌≤◌, ⊎_elim, Bool, List, [], ◌∷◌, ◌++◌, length, Contains, Option, Some, None, option_map, slice_get, refl, sym, arith}
use Rattle.std.proofs.lemmas.List.Elements.{Contains-append_right, Contains-append_left, Contains-append_cases}
use Rattle.std.proofs.lemmas.Option.{slice_get_within}
use Rattle.sp_netlist.specs.Draft.{Draft}
use Rattle.sp_gates.specs.Grows.{Grows, Fills, Opens}
use Rattle.sp_gates.specs.Nets.{IsOpen, Awaits}
use Rattle.sp_gates.proofs.Growing.{Grows-same, Grows-join, more_gates, no_gates}
use Rattle.sp_op_nets.specs.Reserved.{Rise, Reserves}

none_in : (x : ℕ) → Contains [] x → ⊥
none_in x c = let l = c.1 in absurd (omega (arith, l))

one_in : (x y : ℕ) → Contains (x ∷ []) y → y ≡ x
one_in x y (zero, l, e) = sym e
one_in x y (suc k, l, e) = absurd (omega (arith, l))

was_promised : (x : Option (ℕ × Bool)) (width : ℕ) → option_map (λ p. p.0) x ≡ Some width → (p : ℕ × Bool) × (x ≡ Some p)
was_promised (Some p) width e = (p, refl)
was_promised None width e = absurd (cc)

pub awaits_open : (d : Draft) (net width : ℕ) → Awaits d net width → IsOpen d net
awaits_open d net width h = record { within = (let p = was_promised (slice_get d.promised net) width h.wide in slice_get_within d.promised net p.0 p.1); undriven = h.undriven }

no_place : (p : ℕ × Bool) (x : Option (ℕ × Bool)) → x ≡ None → x ≡ Some p → ⊥
no_place p x e f = absurd (cc)

-- a list that has each of another's places is as long
as_long : (xs ys : List (ℕ × Bool)) → ((net width : ℕ) (kept : Bool) → slice_get xs net ≡ Some (width, kept) → slice_get ys net ≡ Some (width, kept)) → length xs ≤ length ys
as_long [] ys h = omega arith
as_long (x ∷ xs) [] h = absurd (no_place (x.0, x.1) None refl (h 0 x.0 x.1 refl))
as_long (x ∷ xs) (y ∷ ys) h = (let rest = as_long xs ys (λ net width kept e. h (suc net) width kept e) in omega (arith, rest))

pub longer : (a b : Draft) → Grows a b → length a.promised ≤ length b.promised
longer a b g = as_long a.promised b.promised g.keeps.promised

lower : (from to : ℕ) (ns : List ℕ) → from ≤ to → Rise to ns → Rise from ns
lower from to [] le r = tt
lower from to (n ∷ ns) le r = ((let l = r.0 in omega (arith, le, l)), r.1)

rise_join : (from to : ℕ) (ns ms : List ℕ) → from ≤ to → Rise from ns → ((n : ℕ) → Contains ns n → n < to) → Rise to ms → Rise from (ns ++ ms)
rise_join from to [] ms le r below later = lower from to ms le later
rise_join from to (n ∷ ns) ms le r below later =
    (r.0, rise_join (suc n) to ns ms (let l = below n (0, omega arith, refl) in omega (arith, l)) r.1 (λ m k. below m (Contains-append_right (n ∷ []) ns m k)) later)

pub none_reserved : (a b : Draft) → Fills a b [] → Reserves a b []
none_reserved a b f = record {
  grows = f.grows;
  rise = tt;
  are_open = λ n k. absurd (none_in n k);
  gates = f.gates;
  still_open = λ n o. f.still_open n o (none_in n);
  no_other = λ n o out. (f.no_other n o).0;
}

pub one_reserved : (a b : Draft) (net width : ℕ) → Opens a b net → Awaits b net width → Reserves a b (net ∷ [])
one_reserved a b net width o w = record {
  grows = o.grows;
  rise = ((let e = o.fresh in omega (arith, e)), tt);
  are_open = λ n k. (let here = awaits_open b net width w in rw (one_in net n k) here);
  gates = o.gates;
  still_open = o.still_open;
  no_other = λ n is out. o.no_other n is (λ e. out (0, omega arith, sym e));
}

pub reserved_join : (a b c : Draft) (xs ys : List ℕ) → Reserves a b xs → Reserves b c ys → Reserves a c (xs ++ ys)
reserved_join a b c xs ys r q = record {
  grows = Grows-join a b c r.grows q.grows;
  rise = rise_join (length a.promised) (length b.promised) xs ys (longer a b r.grows) r.rise (λ n k. (r.are_open n k).within) q.rise;
  are_open = λ n k. ⊎_elim (λ l. q.still_open n (r.are_open n l)) (λ m. q.are_open n m) (Contains-append_cases xs ys n k);
  gates = more_gates a b c r.gates q.gates;
  still_open = λ n o. q.still_open n (r.still_open n o);
  no_other = λ n o out. r.no_other n (q.no_other n o (λ k. out (Contains-append_right xs ys n k))) (λ k. out (Contains-append_left xs ys n k));
}

pub same_reserved : (a : Draft) → Reserves a a []
same_reserved a = record { grows = Grows-same a; gates = no_gates a; rise = tt; are_open = λ n k. absurd (none_in n k); still_open = λ n o. o; no_other = λ n o out. o }
