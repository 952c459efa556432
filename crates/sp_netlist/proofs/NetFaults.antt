-- What the passes over driven and read nets find is what the rules of netlists ask.
use Rattle.std.proofs.Common.{◌≡◌, ◌≢◌, ℕ, zero, suc, ◌<◌, ◌≤◌, ◌==◌, min, cond, List, [], ◌∷◌, ◌++◌, map, Contains, Option, Some, None, ◌⊎◌, inl, inr, refl, sym, ap, ◌∙◌, subst, arith, eq-eqb}
use Rattle.std.proofs.lemmas.Bool.{cases_eq, cases_lt}
use Rattle.std.proofs.lemmas.List.{map-append}
use Rattle.std.proofs.lemmas.List.Sums.{sum_by-cons}
use Rattle.std.proofs.lemmas.List.Elements.{Contains-append_cases, Contains-append_left, Contains-append_right}
use Rattle.sp_netlist.specs.Cells.{PlainCell}
use Rattle.sp_netlist.specs.Rules.{driven_nets, read_nets}
use Rattle.sp_netlist.specs.Draft.{net_count}
use Rattle.sp_netlist.specs.Refusals.{DrivenNotOnce, WidthsDiffer}
use Rattle.sp_netlist.specs.Tables.{IsLeastOrNone, least_of, latest, IsMissing, IsClash}
use Rattle.sp_netlist.proofs.Lists.{counted}
use Rattle.sp_netlist.proofs.DraftLemmas.{counted_net, net_counted}
use Rattle.sp_netlist.proofs.DriverTables.{latest-some, latest-none}

pub least_of_two : (P Q R : ℕ → Type 0) (a b : Option ℕ) → IsLeastOrNone P a → IsLeastOrNone Q b → ((m : ℕ) → R m → P m ⊎ Q m) → ((m : ℕ) → P m → R m) → ((m : ℕ) → Q m → R m) → IsLeastOrNone R (least_of a b)
least_of_two P Q R None None p q split left right = λ m r. elim (split m r) [ inl h ↦ p m h | inr h ↦ q m h ]
least_of_two P Q R (Some n) None p q split left right = record { holds = left n p.holds; least = λ m r. elim (split m r) [ inl h ↦ p.least m h | inr h ↦ absurd (q m h) ] }
least_of_two P Q R None (Some n) p q split left right = record { holds = right n q.holds; least = λ m r. elim (split m r) [ inl h ↦ absurd (p m h) | inr h ↦ q.least m h ] }
least_of_two P Q R (Some b) (Some n) p q split left right = record {
  holds = elim (cases_lt b n) [
    | inl lt ↦ (let e : min b n ≡ b = omega (arith, lt) in rw e (left b p.holds))
    | inr le ↦ (let e : min b n ≡ n = omega (arith, le) in rw e (right n q.holds))
  ];
  least = λ m r. elim (split m r) [ inl h ↦ (let below = p.least m h in omega (arith, below)) | inr h ↦ (let below = q.least m h in omega (arith, below)) ];
}

-- a net that is counted stands in the list
pub named_counted : (nets : List (ℕ × ℕ)) (net : ℕ) → 1 ≤ net_count nets net → Contains (map (λ p. p.0) nets) net
named_counted nets net some = let found = net_counted nets net some in subst (Contains (map (λ (p : ℕ × ℕ). p.0) nets)) found.2 (named nets found.0 found.1)
  where
    named : (nets : List (ℕ × ℕ)) (p : ℕ × ℕ) → Contains nets p → Contains (map (λ q. q.0) nets) p.0
    named [] p within = absurd (let k = within.1 in omega (arith, k))
    named (q ∷ nets) p (zero, h, e) = (zero, omega arith, ap (λ (r : ℕ × ℕ). r.0) e)
    named (q ∷ nets) p (suc k, h, e) = let rest = named nets p (k, omega (arith, h), e) in (suc rest.0, (let r = rest.1 in omega (arith, r)), rest.2)

latest_none_from : (nets : List (ℕ × ℕ)) (net : ℕ) → net_count nets net ≡ 0 → latest nets net ≡ None
latest_none_from nets net none = found (latest nets net) refl
  where
    found : (o : Option ℕ) → latest nets net ≡ o → latest nets net ≡ None
    found None e = e
    found (Some w) e = absurd (let some = counted (λ (q : ℕ × ℕ). q.0 == net) nets (net, w) (latest-some nets net w e) (eq-eqb net net refl) in omega (arith, some, none))

pub not_once : (cells : List PlainCell) (f : ℕ → Option ℕ) (twice missing : Option ℕ) → ((net : ℕ) → f net ≡ latest (driven_nets cells) net)
    → IsLeastOrNone (λ n. 1 < net_count (driven_nets cells) n) twice → IsLeastOrNone (IsMissing f (read_nets cells)) missing
    → IsLeastOrNone (DrivenNotOnce cells) (least_of twice missing)
not_once cells f twice missing is p q =
    let d = driven_nets cells in
    let r = read_nets cells in
    least_of_two (λ n. 1 < net_count d n) (IsMissing f r) (DrivenNotOnce cells) twice missing p q
    (λ m h. elim (cases_lt 1 (net_count d m)) [
      | inl more ↦ inl more
      | inr few ↦
          let none : net_count d m ≡ 0 = (let other = h.1 in elim (cases_eq (net_count d m) 1) [ inl one ↦ absurd (other one) | inr apart ↦ omega (arith, few, apart) ]) in
          elim (Contains-append_cases (map (λ (x : ℕ × ℕ). x.0) d) (map (λ (x : ℕ × ℕ). x.0) r) m (subst (λ xs. Contains xs m) (map-append (λ (x : ℕ × ℕ). x.0) d r) h.0)) [
            | inl driven ↦ absurd (let some = counted_net d m driven in omega (arith, some, none))
            | inr read ↦ inr (counted_net r m read, is m ∙ latest_none_from d m none)
          ]
    ])
    (λ m h. (subst (λ xs. Contains xs m) (sym (map-append (λ (x : ℕ × ℕ). x.0) d r)) (Contains-append_left (map (λ (x : ℕ × ℕ). x.0) d) (map (λ (x : ℕ × ℕ). x.0) r) m (named_counted d m (omega (arith, h)))), λ one. omega (arith, h, one)))
    (λ m h. (subst (λ xs. Contains xs m) (sym (map-append (λ (x : ℕ × ℕ). x.0) d r)) (Contains-append_right (map (λ (x : ℕ × ℕ). x.0) d) (map (λ (x : ℕ × ℕ). x.0) r) m (named_counted r m h.0)), λ one. let none = latest-none d m (sym (is m) ∙ h.1) in omega (arith, one, none)))

cons_cases : (q : ℕ × ℕ) (nets : List (ℕ × ℕ)) (p : ℕ × ℕ) → Contains (q ∷ nets) p → (q ≡ p) ⊎ Contains nets p
cons_cases q nets p (zero, h, e) = inl e
cons_cases q nets p (suc k, h, e) = inr (k, omega (arith, h), e)

pub at_one_width : (nets : List (ℕ × ℕ)) (net a b : ℕ) → net_count nets net ≤ 1 → Contains nets (net, a) → Contains nets (net, b) → a ≡ b
at_one_width [] net a b once one two = absurd (let k = one.1 in omega (arith, k))
at_one_width (q ∷ nets) net a b once one two =
    let step = sum_by-cons (λ (x : ℕ × ℕ). cond (x.0 == net) 1 0) q nets in
    elim (cons_cases q nets (net, a) one) [
      | inl here ↦ elim (cons_cases q nets (net, b) two) [
        | inl there ↦ ap (λ (x : ℕ × ℕ). x.1) (sym here ∙ there)
        | inr later ↦
            let same : q.0 ≡ net = ap (λ (x : ℕ × ℕ). x.0) here in
            let test = eq-eqb q.0 net same in
            let first : ◌≡◌ {A = ℕ} (cond (q.0 == net) 1 0) 1 = rw test in
            let some = counted (λ (x : ℕ × ℕ). x.0 == net) nets (net, b) later (eq-eqb net net refl) in
            absurd (omega (arith, once, step, first, some))
      ]
      | inr later ↦ elim (cons_cases q nets (net, b) two) [
        | inl there ↦
            let same : q.0 ≡ net = ap (λ (x : ℕ × ℕ). x.0) there in
            let test = eq-eqb q.0 net same in
            let first : ◌≡◌ {A = ℕ} (cond (q.0 == net) 1 0) 1 = rw test in
            let some = counted (λ (x : ℕ × ℕ). x.0 == net) nets (net, a) later (eq-eqb net net refl) in
            absurd (omega (arith, once, step, first, some))
        | inr also ↦ at_one_width nets net a b (omega (arith, once, step)) later also
      ]
    ]

pub same_faults : (P Q : ℕ → Type 0) (o : Option ℕ) → ((m : ℕ) → P m → Q m) → ((m : ℕ) → Q m → P m) → IsLeastOrNone P o → IsLeastOrNone Q o
same_faults P Q None to from p = λ m q. p m (from m q)
same_faults P Q (Some n) to from p = record { holds = to n p.holds; least = λ m q. p.least m (from m q) }

pub widths_differ : (cells : List PlainCell) (f : ℕ → Option ℕ) (clash : Option ℕ) → ((net : ℕ) → f net ≡ latest (driven_nets cells) net)
    → ((net : ℕ) → DrivenNotOnce cells net → ⊥) → IsLeastOrNone (IsClash f (read_nets cells)) clash → IsLeastOrNone (WidthsDiffer cells) clash
widths_differ cells f clash is once least =
    let d = driven_nets cells in
    let r = read_nets cells in
    same_faults (IsClash f r) (WidthsDiffer cells) clash
    (λ m h. (h.0, h.1, latest-some d m h.0 (sym (is m) ∙ h.2), h.3, h.4))
    (λ m h. (h.0, h.1, is m ∙ latest_is d m h.0 (at_most_once d r m h.0 h.2 (once m)) h.2, h.3, h.4))
    least
  where
    at_most_once : (d r : List (ℕ × ℕ)) (m given : ℕ) → Contains d (m, given) → (Contains (map (λ p. p.0) (d ++ r)) m × (net_count d m ≢ 1) → ⊥) → net_count d m ≤ 1
    at_most_once d r m given within once =
        let some = counted (λ (x : ℕ × ℕ). x.0 == m) d (m, given) within (eq-eqb m m refl) in
        let named = subst (λ xs. Contains xs m) (sym (map-append (λ (x : ℕ × ℕ). x.0) d r)) (Contains-append_left (map (λ (x : ℕ × ℕ). x.0) d) (map (λ (x : ℕ × ℕ). x.0) r) m (named_counted d m some)) in
        elim (cases_eq (net_count d m) 1) [ inl one ↦ omega (arith, one) | inr apart ↦ absurd (once (named, apart)) ]

    latest_is : (d : List (ℕ × ℕ)) (m given : ℕ) → net_count d m ≤ 1 → Contains d (m, given) → latest d m ≡ Some given
    latest_is d m given once within = found (latest d m) refl
      where
        found : (o : Option ℕ) → latest d m ≡ o → latest d m ≡ Some given
        found (Some w) e = e ∙ ap (λ x. Some x) (at_one_width d m w given once (latest-some d m w e) within)
        found None e = absurd (let none = latest-none d m e in let some = counted (λ (x : ℕ × ℕ). x.0 == m) d (m, given) within (eq-eqb m m refl) in omega (arith, none, some))

-- the same, where the lists that were gone over are equal to those of the cells
pub not_once_at : (cells : List PlainCell) (f : ℕ → Option ℕ) (ds rs : List (ℕ × ℕ)) (twice missing : Option ℕ) → ds ≡ driven_nets cells → rs ≡ read_nets cells → ((net : ℕ) → f net ≡ latest ds net)
    → IsLeastOrNone (λ n. 1 < net_count ds n) twice → IsLeastOrNone (IsMissing f rs) missing → IsLeastOrNone (DrivenNotOnce cells) (least_of twice missing)
not_once_at cells f ds rs twice missing ed er is p q =
    not_once cells f twice missing (λ net. is net ∙ ap (λ d. latest d net) ed) (subst (λ d. IsLeastOrNone (λ n. 1 < net_count d n) twice) ed p) (subst (λ r. IsLeastOrNone (IsMissing f r) missing) er q)

pub widths_differ_at : (cells : List PlainCell) (f : ℕ → Option ℕ) (ds rs : List (ℕ × ℕ)) (least clash : Option ℕ) → ds ≡ driven_nets cells → rs ≡ read_nets cells → ((net : ℕ) → f net ≡ latest ds net)
    → IsLeastOrNone (DrivenNotOnce cells) least → least ≡ None → IsLeastOrNone (IsClash f rs) clash → IsLeastOrNone (WidthsDiffer cells) clash
widths_differ_at cells f ds rs least clash ed er is found none q =
    widths_differ cells f clash (λ net. is net ∙ ap (λ d. latest d net) ed) (subst (IsLeastOrNone (DrivenNotOnce cells)) none found) (subst (λ r. IsLeastOrNone (IsClash f r) clash) er q)
