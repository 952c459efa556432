-- A list of cells without a fault is a netlist, and a netlist has none.
use Rattle.std.proofs.Common.{◌≡◌, ℕ, ◌<◌, ◌≤◌, ◌==◌, ◌^◌, ◌-◌, min, option_map, List, ◌++◌, map, All, Contains, Option, Some, None, ◌⊎◌, inl, inr, sym, ap, ◌∙◌, subst, arith, eq-eqb}
use Rattle.std.proofs.lemmas.Bool.{cases_eq, cases_lt}
use Rattle.std.proofs.lemmas.List.{map-append}
use Rattle.std.proofs.lemmas.List.Elements.{All-contains, All-weaker, All-contains_itself, Contains-append_cases, Contains-append_left, Contains-append_right}
use Rattle.sp_netlist.specs.declared.error.NetError.{NetError}
use Rattle.sp_netlist.specs.declared.error.NetError.TheVariants.{Driven, Width, Loop, NetLimit, Memory}
use Rattle.sp_netlist.specs.Cells.{PlainCell}
use Rattle.sp_netlist.specs.Rules.{driven_nets, read_nets, IsRanked, IsNetlist}
use Rattle.sp_netlist.specs.Draft.{driver_count}
use Rattle.sp_netlist.specs.Refusals.{AreLines, count_over, IsWithinLimits, DrivenNotOnce, WidthsDiffer, IsLooped, IsLeast, OfNone, Refuses}
use Rattle.sp_netlist.specs.Tables.{IsLeastOrNone}
use Rattle.sp_netlist.specs.Laws.{RefusalsExact}
use Rattle.sp_netlist.proofs.Lists.{counted}
use Rattle.sp_netlist.proofs.Splits.{source, Source}
use Rattle.sp_netlist.proofs.DraftLemmas.{counted_net, net_counted}
use Rattle.sp_netlist.proofs.NetFaults.{at_one_width, named_counted}
use Rattle.sp_netlist.proofs.Endings.{no_loop}

-- a test that found nothing
pub none_found : (P : ℕ → Type 0) (o : Option ℕ) → o ≡ None → IsLeastOrNone P o → OfNone P
none_found P o none least = subst (IsLeastOrNone P) none least

pub least_found : (P : ℕ → Type 0) (o : Option ℕ) (n : ℕ) → o ≡ Some n → IsLeastOrNone P o → IsLeast P n
least_found P o n e least = subst (IsLeastOrNone P) e least

pub within_limits : (cells : List PlainCell) (o : Option ℕ) → o ≡ option_map (λ n. min n (2 ^ 64 - 1)) (count_over cells) → o ≡ None → IsWithinLimits cells
within_limits cells o is none = go (count_over cells) (sym is ∙ none)
  where
    go : (over : Option ℕ) → option_map (λ n. min n (2 ^ 64 - 1)) over ≡ None → over ≡ None
    go None e = e
    go (Some n) e = absurd (cc)

named : (cells : List PlainCell) (net : ℕ) → Contains (map (λ p. p.0) (driven_nets cells)) net ⊎ Contains (map (λ p. p.0) (read_nets cells)) net → Contains (map (λ p. p.0) (driven_nets cells ++ read_nets cells)) net
named cells net h =
    let first : ℕ × ℕ → ℕ = λ (p : ℕ × ℕ). p.0 in
    subst (λ xs. Contains xs net) (sym (map-append first (driven_nets cells) (read_nets cells))) (elim h [
      | inl d ↦ Contains-append_left (map first (driven_nets cells)) (map first (read_nets cells)) net d
      | inr r ↦ Contains-append_right (map first (driven_nets cells)) (map first (read_nets cells)) net r
    ])

module _ (cells : List PlainCell) (driven : OfNone (DrivenNotOnce cells)) where
  once_named : (net : ℕ) → Contains (map (λ p. p.0) (driven_nets cells)) net ⊎ Contains (map (λ p. p.0) (read_nets cells)) net → driver_count cells net ≡ 1
  once_named net h = elim (cases_eq (driver_count cells net) 1) [ inl one ↦ one | inr other ↦ absurd (driven net (named cells net h, other)) ]

  pub driven_once : (net : ℕ) → driver_count cells net ≤ 1
  driven_once net = elim (cases_lt 1 (driver_count cells net)) [
    | inl more ↦ (let one = once_named net (inl (named_counted (driven_nets cells) net (omega (arith, more)))) in omega (arith, one))
    | inr few ↦ few
  ]

  read_driven : OfNone (WidthsDiffer cells) → All (Contains (driven_nets cells)) (read_nets cells)
  read_driven widths = All-weaker (Contains (read_nets cells)) (Contains (driven_nets cells)) here (read_nets cells) (All-contains_itself (read_nets cells))
    where
      here : (p : ℕ × ℕ) → Contains (read_nets cells) p → Contains (driven_nets cells) p
      here p h =
          let read = counted (λ (q : ℕ × ℕ). q.0 == p.0) (read_nets cells) p h (eq-eqb p.0 p.0 (λ i. p.0)) in
          let one = once_named p.0 (inr (named_counted (read_nets cells) p.0 read)) in
          let d = net_counted (driven_nets cells) p.0 (omega (arith, one)) in
          elim (cases_eq d.0.1 p.1) [
            | inl same ↦ (let e0 = d.2 in let both : d.0 ≡ p = λ i. (e0 i, same i) in subst (Contains (driven_nets cells)) both d.1)
            | inr other ↦ absurd (widths p.0 (d.0.1, p.1, subst (Contains (driven_nets cells)) (let e0 = d.2 in let given : d.0 ≡ (p.0, d.0.1) = λ i. (e0 i, d.0.1) in given) d.1, h, other))
          ]

  pub netlist_without_faults : AreLines cells → All (λ p. p.0 < 2 ^ 64) (driven_nets cells) → OfNone (WidthsDiffer cells) → IsRanked cells → IsNetlist cells
  netlist_without_faults lines numbers widths ranked = record {
    right = lines.right;
    one_done = lines.one_done;
    numbers = numbers;
    driven_once = driven_once;
    read_driven = read_driven widths;
    ranked = ranked;
  }

-- a netlist has no fault
module _ (cells : List PlainCell) (h : IsNetlist cells) where
  not_undriven : OfNone (DrivenNotOnce cells)
  not_undriven net (within, other) =
      let first : ℕ × ℕ → ℕ = λ (p : ℕ × ℕ). p.0 in
      let most = h.driven_once net in
      let some : 1 ≤ driver_count cells net = elim (Contains-append_cases (map first (driven_nets cells)) (map first (read_nets cells)) net (subst (λ xs. Contains xs net) (map-append first (driven_nets cells) (read_nets cells)) within)) [
        | inl d ↦ counted_net (driven_nets cells) net d
        | inr r ↦ of_read (source first (read_nets cells) net r.0 r.1 r.2)
      ] in
      other (omega (arith, most, some))
    where
      of_read : Source (λ p. p.0) (read_nets cells) net → 1 ≤ driver_count cells net
      of_read s = counted (λ (q : ℕ × ℕ). q.0 == net) (driven_nets cells) s.item (All-contains (Contains (driven_nets cells)) (read_nets cells) s.item h.read_driven s.stands) (eq-eqb s.item.0 net s.gives)

  widths_agree : OfNone (WidthsDiffer cells)
  widths_agree net (given, read, d, r, other) =
      other (at_one_width (driven_nets cells) net given read (h.driven_once net) d (All-contains (Contains (driven_nets cells)) (read_nets cells) (net, read) h.read_driven r))

  not_refused : IsWithinLimits cells → (error : NetError) → Refuses cells error → error ≡ Memory
  not_refused within (NetLimit count) r = absurd (let over = r.1 in cc)
  not_refused within (Driven net) r = absurd (not_undriven net r.1.holds)
  not_refused within (Width net) r = absurd (widths_agree net r.2.holds)
  not_refused within (Loop net) r = absurd (no_loop cells h net r.3.holds)
  not_refused within Memory r = λ i. Memory

same_least : (P : ℕ → Type 0) (m n : ℕ) → IsLeast P m → IsLeast P n → m ≡ n
same_least P m n a b = let up = a.least n b.holds in let down = b.least m a.holds in omega (arith, up, down)

one_refusal : (cells : List PlainCell) (a b : NetError) → Refuses cells a → Refuses cells b → (a ≡ Memory) ⊎ ((b ≡ Memory) ⊎ (a ≡ b))
one_refusal cells Memory b p q = inl (λ i. Memory)
one_refusal cells a Memory p q = inr (inl (λ i. Memory))
one_refusal cells (NetLimit c) (NetLimit d) p q =
    let e = p.1 in
    let f = q.1 in
    let same : p.0 ≡ q.0 = cc in
    let g = p.2 in
    let k = q.2 in
    inr (inr (ap NetLimit (omega (arith, g, k, same))))
one_refusal cells (NetLimit c) (Driven n) p q = absurd (let e = p.1 in let f = q.0 in cc)
one_refusal cells (NetLimit c) (Width n) p q = absurd (let e = p.1 in let f = q.0 in cc)
one_refusal cells (NetLimit c) (Loop n) p q = absurd (let e = p.1 in let f = q.0 in cc)
one_refusal cells (Driven n) (NetLimit c) p q = absurd (let e = q.1 in let f = p.0 in cc)
one_refusal cells (Width n) (NetLimit c) p q = absurd (let e = q.1 in let f = p.0 in cc)
one_refusal cells (Loop n) (NetLimit c) p q = absurd (let e = q.1 in let f = p.0 in cc)
one_refusal cells (Driven m) (Driven n) p q = inr (inr (ap Driven (same_least (DrivenNotOnce cells) m n p.1 q.1)))
one_refusal cells (Driven m) (Width n) p q = absurd (q.1 m p.1.holds)
one_refusal cells (Driven m) (Loop n) p q = absurd (q.1 m p.1.holds)
one_refusal cells (Width m) (Driven n) p q = absurd (p.1 n q.1.holds)
one_refusal cells (Loop m) (Driven n) p q = absurd (p.1 n q.1.holds)
one_refusal cells (Width m) (Width n) p q = inr (inr (ap Width (same_least (WidthsDiffer cells) m n p.2 q.2)))
one_refusal cells (Width m) (Loop n) p q = absurd (q.2 m p.2.holds)
one_refusal cells (Loop m) (Width n) p q = absurd (p.2 n q.2.holds)
one_refusal cells (Loop m) (Loop n) p q = inr (inr (ap Loop (same_least (IsLooped cells) m n p.3 q.3)))

pub refusals_exact : RefusalsExact
refusals_exact = record {
  of_no_netlist = λ cells h within error r. not_refused cells h within error r;
  one_refusal = one_refusal;
}
