-- The least net of which a fact holds, and the widths of nets in a list, step by step.
use Rattle.std.proofs.Common.{◌≡◌, ◌≢◌, ℕ, ◌+◌, ◌<◌, ◌^◌, All, ◌≤◌, ◌==◌, min, Bool, true, false, not, cond, List, [], ◌∷◌, ◌++◌, length, get_or, take, Contains, Option, Some, None, is_some, is_none, ◌⊎◌, inl, inr, refl, sym, ap, ap₂, ◌∙◌, subst, arith, if◌then◌else◌, eqb-true, ne_eqb, eq-eqb, true≢false}
use Rattle.std.proofs.lemmas.Bool.{cases_eq, cases_lt}
use Rattle.std.proofs.lemmas.List.{take_more, map_push}
use Rattle.std.proofs.lemmas.List.Sums.{sum_by-append, sum_by-cons}
use Rattle.std.proofs.lemmas.List.Elements.{Contains-push_cases, Contains-append_left, Contains-push, All-push}
use Rattle.sp_netlist.specs.declared.parts.Wire.{Wire}
use Rattle.sp_netlist.specs.Draft.{net_count}
use Rattle.sp_netlist.specs.Tables.{IsLeastOrNone, least_with, or_else, latest, wire_pairs, IsMissing, IsClash, differs_from}
use Rattle.sp_netlist.proofs.Lists.{Contains-here, Contains-later, counted}

noted_false : (P Q : ℕ → Type 0) (best : Option ℕ) → IsLeastOrNone P best → ((m : ℕ) → P m → Q m) → ((m : ℕ) → Q m → P m) → IsLeastOrNone Q best
noted_false P Q None none to from = λ m q. none m (from m q)
noted_false P Q (Some b) least to from = record { holds = to b least.holds; least = λ m q. least.least m (from m q) }

noted_true : (P Q : ℕ → Type 0) (best : Option ℕ) (n : ℕ) → IsLeastOrNone P best → ((m : ℕ) → P m → Q m) → ((m : ℕ) → Q m → P m ⊎ (m ≡ n)) → Q n → IsLeastOrNone Q (Some (least_with best n))
noted_true P Q None n none to from here = record {
  holds = here;
  least = λ m q. elim (from m q) [ inl p ↦ absurd (none m p) | inr e ↦ omega (arith, e) ];
}
noted_true P Q (Some b) n least to from here = record {
  holds = elim (cases_lt b n) [
    | inl lt ↦ (let e : min b n ≡ b = omega (arith, lt) in rw e (to b least.holds))
    | inr le ↦ (let e : min b n ≡ n = omega (arith, le) in rw e here)
  ];
  least = λ m q. elim (from m q) [ inl p ↦ (let below = least.least m p in omega (arith, below)) | inr e ↦ omega (arith, e) ];
}

pub noted_step : (P Q : ℕ → Type 0) (best : Option ℕ) (bad : Bool) (n : ℕ) → IsLeastOrNone P best → ((m : ℕ) → P m → Q m)
    → ((m : ℕ) → Q m → P m ⊎ ((bad ≡ true) × (m ≡ n))) → (bad ≡ true → Q n) → IsLeastOrNone Q (if bad then Some (least_with best n) else best)
noted_step P Q best true n least to from here = noted_true P Q best n least to (λ m q. elim (from m q) [ inl p ↦ inl p | inr e ↦ inr e.1 ]) (here refl)
noted_step P Q best false n least to from here = noted_false P Q best least to (λ m q. elim (from m q) [ inl p ↦ p | inr e ↦ absurd (true≢false (sym e.0)) ])

or_else_some : (one other : Option ℕ) (w : ℕ) → or_else one other ≡ Some w → (one ≡ Some w) ⊎ (other ≡ Some w)
or_else_some (Some v) other w e = inl e
or_else_some None other w e = inr e

or_else_none : (one other : Option ℕ) → or_else one other ≡ None → (one ≡ None) × (other ≡ None)
or_else_none (Some v) other e = absurd (cc)
or_else_none None other e = (refl, e)

or_else_if : (b : Bool) (w : ℕ) (one other : Option ℕ) → or_else (if b then Some w else one) other ≡ (if b then Some w else or_else one other)
or_else_if true w one other = refl
or_else_if false w one other = refl

if_some : (b : Bool) (v w : ℕ) → (if b then Some v else None) ≡ Some w → (b ≡ true) × (v ≡ w)
if_some true v w e = (refl, cc)
if_some false v w e = absurd (cc)

if_none : (b : Bool) (v : ℕ) → (if b then Some v else None) ≡ None → b ≡ false
if_none true v e = absurd (cc)
if_none false v e = refl

latest-push : (nets : List (ℕ × ℕ)) (p : ℕ × ℕ) (net : ℕ) → latest (nets ++ p ∷ []) net ≡ (if p.0 == net then Some p.1 else latest nets net)
latest-push [] p net = refl
latest-push (q ∷ nets) p net =
    ap (λ o. or_else o (if q.0 == net then Some q.1 else None)) (latest-push nets p net) ∙ or_else_if (p.0 == net) p.1 (latest nets net) (if q.0 == net then Some q.1 else None)

pub latest-some : (nets : List (ℕ × ℕ)) (net w : ℕ) → latest nets net ≡ Some w → Contains nets (net, w)
latest-some [] net w e = absurd (cc)
latest-some (p ∷ nets) net w e =
    elim (or_else_some (latest nets net) (if p.0 == net then Some p.1 else None) w e) [
      | inl later ↦ Contains-later p nets (net, w) (latest-some nets net w later)
      | inr here ↦
          let parts = if_some (p.0 == net) p.1 w here in
          subst (Contains (p ∷ nets)) (ap₂ (λ (a b : ℕ). (a, b)) (eqb-true p.0 net parts.0) parts.1) (Contains-here p nets)
    ]

pub latest-none : (nets : List (ℕ × ℕ)) (net : ℕ) → latest nets net ≡ None → net_count nets net ≡ 0
latest-none [] net e = refl
latest-none (p ∷ nets) net e =
    let parts = or_else_none (latest nets net) (if p.0 == net then Some p.1 else None) e in
    let test = if_none (p.0 == net) p.1 parts.1 in
    let step = sum_by-cons (λ (q : ℕ × ℕ). cond (q.0 == net) 1 0) p nets in
    let rest = latest-none nets net parts.0 in
    step ∙ rw (test, rest) refl

net_count-push : (nets : List (ℕ × ℕ)) (p : ℕ × ℕ) (net : ℕ) → net_count (nets ++ p ∷ []) net ≡ net_count nets net + cond (p.0 == net) 1 0
net_count-push nets p net = let e = sum_by-append (λ (q : ℕ × ℕ). cond (q.0 == net) 1 0) nets (p ∷ []) in omega (arith, e)

pub wires_more : (wires : List Wire) (i : ℕ) (wire : Wire) → i < length wires → wire ≡ get_or wires i wire → wire_pairs (take (i + 1) wires) ≡ wire_pairs (take i wires) ++ (wire.net, wire.width) ∷ []
wires_more wires i wire within is =
    ap wire_pairs (take_more wires i wire within ∙ ap (λ w. take i wires ++ w ∷ []) (sym is)) ∙ map_push (λ (w : Wire). (w.net, w.width)) (take i wires) wire

is_some_count : (nets : List (ℕ × ℕ)) (net : ℕ) → (is_some (latest nets net) ≡ true) ⊎ (net_count nets net ≡ 0)
is_some_count nets net = found (latest nets net) refl
  where
    found : (o : Option ℕ) → latest nets net ≡ o → (is_some (latest nets net) ≡ true) ⊎ (net_count nets net ≡ 0)
    found (Some w) e = inl (ap is_some e)
    found None e = inr (latest-none nets net e)

some_counted : (nets : List (ℕ × ℕ)) (net : ℕ) → is_some (latest nets net) ≡ true → 1 ≤ net_count nets net
some_counted nets net yes' = found (latest nets net) refl
  where
    found : (o : Option ℕ) → latest nets net ≡ o → 1 ≤ net_count nets net
    found (Some w) e = counted (λ (q : ℕ × ℕ). q.0 == net) nets (net, w) (latest-some nets net w e) (eq-eqb net net refl)
    found None e = absurd (true≢false (sym yes' ∙ ap is_some e))

-- one more driver
pub twice_step : (nets : List (ℕ × ℕ)) (p : ℕ × ℕ) (best : Option ℕ) → IsLeastOrNone (λ n. 1 < net_count nets n) best
    → IsLeastOrNone (λ n. 1 < net_count (nets ++ p ∷ []) n) (if is_some (latest nets p.0) then Some (least_with best p.0) else best)
twice_step nets p best least =
    noted_step (λ n. 1 < net_count nets n) (λ n. 1 < net_count (nets ++ p ∷ []) n) best (is_some (latest nets p.0)) p.0 least
    (λ m h. let e = net_count-push nets p m in omega (arith, e, h))
    (λ m h. let e = net_count-push nets p m in elim (cases_eq p.0 m) [
      | inl same ↦ elim (is_some_count nets p.0) [
        | inl was ↦ inr (was, sym same)
        | inr none ↦ (let test = eq-eqb p.0 m same in let one : ◌≡◌ {A = ℕ} (cond (p.0 == m) 1 0) 1 = rw test in let gone = subst (λ k. net_count nets k ≡ 0) same none in absurd (omega (arith, e, h, one, gone)))
      ]
      | inr other ↦ inl (let test = ne_eqb p.0 m other in let none : ◌≡◌ {A = ℕ} (cond (p.0 == m) 1 0) 0 = rw test in omega (arith, e, h, none))
    ])
    (λ was. let e = net_count-push nets p p.0 in let some = some_counted nets p.0 was in let test = eq-eqb p.0 p.0 refl in let one : ◌≡◌ {A = ℕ} (cond (p.0 == p.0) 1 0) 1 = rw test in omega (arith, e, some, one))

pub numbers_more : (wires : List Wire) (i : ℕ) (wire : Wire) → i < length wires → wire ≡ get_or wires i wire → All (λ p. p.0 < 2 ^ 64) (wire_pairs (take i wires)) → wire.net < 2 ^ 64 → All (λ p. p.0 < 2 ^ 64) (wire_pairs (take (i + 1) wires))
numbers_more wires i wire within is before small =
    rw (wires_more wires i wire within is) (All-push (λ (p : ℕ × ℕ). p.0 < 2 ^ 64) (wire_pairs (take i wires)) (wire.net, wire.width) before small)

pub widths_more : (f g : ℕ → Option ℕ) (wires : List Wire) (i : ℕ) (wire : Wire) → i < length wires → wire ≡ get_or wires i wire
    → ((net : ℕ) → f net ≡ latest (wire_pairs (take i wires)) net) → ((net : ℕ) → g net ≡ (if wire.net == net then Some wire.width else f net))
    → (net : ℕ) → g net ≡ latest (wire_pairs (take (i + 1) wires)) net
widths_more f g wires i wire within is before put net =
    put net ∙ ap (λ o. if wire.net == net then Some wire.width else o) (before net)
    ∙ sym (latest-push (wire_pairs (take i wires)) (wire.net, wire.width) net) ∙ ap (λ nets. latest nets net) (sym (wires_more wires i wire within is))

pub twice_more : (f : ℕ → Option ℕ) (wires : List Wire) (i : ℕ) (wire : Wire) (best new : Option ℕ) (was : Bool) → i < length wires → wire ≡ get_or wires i wire
    → ((net : ℕ) → f net ≡ latest (wire_pairs (take i wires)) net) → IsLeastOrNone (λ n. 1 < net_count (wire_pairs (take i wires)) n) best
    → was ≡ is_some (f wire.net) → new ≡ (if was then Some (least_with best wire.net) else best)
    → IsLeastOrNone (λ n. 1 < net_count (wire_pairs (take (i + 1) wires)) n) new
twice_more f wires i wire best new was within is before least there note =
    let nets = wire_pairs (take i wires) in
    let same : was ≡ is_some (latest nets wire.net) = there ∙ ap is_some (before wire.net) in
    let step = twice_step nets (wire.net, wire.width) best least in
    let moved : new ≡ (if is_some (latest nets wire.net) then Some (least_with best wire.net) else best) = note ∙ ap (λ b. if b then Some (least_with best wire.net) else best) same in
    subst (IsLeastOrNone (λ n. 1 < net_count (wire_pairs (take (i + 1) wires)) n)) (sym moved)
    (subst (λ ns. IsLeastOrNone (λ n. 1 < net_count ns n) (if is_some (latest nets wire.net) then Some (least_with best wire.net) else best)) (sym (wires_more wires i wire within is)) step)

none_is : (o : Option ℕ) → is_none o ≡ true → o ≡ None
none_is None e = refl
none_is (Some w) e = absurd (true≢false (sym e))

differs_true : (o : Option ℕ) (x : ℕ) → differs_from o x ≡ true → (w : ℕ) × (o ≡ Some w) × (w ≢ x)
differs_true None x e = absurd (true≢false (sym e))
differs_true (Some w) x e = (w, refl, λ same. true≢false (sym e ∙ ap not (eq-eqb w x same)))

missing_step : (f : ℕ → Option ℕ) (nets : List (ℕ × ℕ)) (p : ℕ × ℕ) (best : Option ℕ) → IsLeastOrNone (IsMissing f nets) best
    → IsLeastOrNone (IsMissing f (nets ++ p ∷ [])) (if is_none (f p.0) then Some (least_with best p.0) else best)
missing_step f nets p best least =
    noted_step (IsMissing f nets) (IsMissing f (nets ++ p ∷ [])) best (is_none (f p.0)) p.0 least
    (λ m h. (let e = net_count-push nets p m in let k = h.0 in omega (arith, e, k), h.1))
    (λ m h. elim (cases_eq p.0 m) [
      | inl same ↦ inr (ap is_none (ap f same ∙ h.1), sym same)
      | inr other ↦ inl (let e = net_count-push nets p m in let test = ne_eqb p.0 m other in let none : ◌≡◌ {A = ℕ} (cond (p.0 == m) 1 0) 0 = rw test in let k = h.0 in omega (arith, e, k, none), h.1)
    ])
    (λ bad. (let e = net_count-push nets p p.0 in let test = eq-eqb p.0 p.0 refl in let one : ◌≡◌ {A = ℕ} (cond (p.0 == p.0) 1 0) 1 = rw test in omega (arith, e, one), none_is (f p.0) bad))

clash_step : (f : ℕ → Option ℕ) (nets : List (ℕ × ℕ)) (p : ℕ × ℕ) (best : Option ℕ) → IsLeastOrNone (IsClash f nets) best
    → IsLeastOrNone (IsClash f (nets ++ p ∷ [])) (if differs_from (f p.0) p.1 then Some (least_with best p.0) else best)
clash_step f nets p best least =
    noted_step (IsClash f nets) (IsClash f (nets ++ p ∷ [])) best (differs_from (f p.0) p.1) p.0 least
    (λ m h. (h.0, h.1, h.2, Contains-append_left nets (p ∷ []) (m, h.1) h.3, h.4))
    (λ m h. elim (Contains-push_cases nets p (m, h.1) h.3) [
      | inl old ↦ inl (h.0, h.1, h.2, old, h.4)
      | inr same ↦
          let net : p.0 ≡ m = ap (λ (q : ℕ × ℕ). q.0) same in
          let width : p.1 ≡ h.1 = ap (λ (q : ℕ × ℕ). q.1) same in
          let given : f p.0 ≡ Some h.0 = ap f net ∙ h.2 in
          let test : (h.0 == p.1) ≡ false = ne_eqb h.0 p.1 (λ e. h.4 (e ∙ width)) in
          inr (ap (λ o. differs_from o p.1) given ∙ ap not test, sym net)
    ])
    (λ bad. let d = differs_true (f p.0) p.1 bad in (d.0, p.1, d.1, Contains-push nets p, d.2))

pub missing_more : (f : ℕ → Option ℕ) (wires : List Wire) (i : ℕ) (wire : Wire) (best new found : Option ℕ) (bad : Bool) → i < length wires → wire ≡ get_or wires i wire
    → IsLeastOrNone (IsMissing f (wire_pairs (take i wires))) best → found ≡ f wire.net → bad ≡ is_none found → new ≡ (if bad then Some (least_with best wire.net) else best)
    → IsLeastOrNone (IsMissing f (wire_pairs (take (i + 1) wires))) new
missing_more f wires i wire best new found bad within is least there none note =
    let moved : new ≡ (if is_none (f wire.net) then Some (least_with best wire.net) else best) = note ∙ ap (λ b. if b then Some (least_with best wire.net) else best) (none ∙ ap is_none there) in
    rw (moved, wires_more wires i wire within is) (missing_step f (wire_pairs (take i wires)) (wire.net, wire.width) best least)

pub clash_more : (f : ℕ → Option ℕ) (wires : List Wire) (i : ℕ) (wire : Wire) (best new found : Option ℕ) (bad : Bool) → i < length wires → wire ≡ get_or wires i wire
    → IsLeastOrNone (IsClash f (wire_pairs (take i wires))) best → found ≡ f wire.net → bad ≡ differs_from found wire.width → new ≡ (if bad then Some (least_with best wire.net) else best)
    → IsLeastOrNone (IsClash f (wire_pairs (take (i + 1) wires))) new
clash_more f wires i wire best new found bad within is least there differs note =
    let moved : new ≡ (if differs_from (f wire.net) wire.width then Some (least_with best wire.net) else best) = note ∙ ap (λ b. if b then Some (least_with best wire.net) else best) (differs ∙ ap (λ o. differs_from o wire.width) there) in
    rw (moved, wires_more wires i wire within is) (clash_step f (wire_pairs (take i wires)) (wire.net, wire.width) best least)
