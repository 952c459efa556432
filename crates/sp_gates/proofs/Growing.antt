-- How a draft grows by a gate, and by parts one after the other.
use Rattle.std.proofs.Common.{◌≡◌, ◌≢◌, ◌↔◌, ◌⊎◌, ℕ, zero, suc, ◌+◌, ◌<◌, ◌≤◌, ◌==◌, false, cond, List, [], ◌∷◌, ◌++◌, length, count_by, Contains, refl, sym, ap, subst, ◌∙◌, inl, inr, ⊎_elim, arith, eq-eqb, ne_eqb, append_assoc}
use Rattle.std.proofs.lemmas.List.{append-nil}
use Rattle.std.proofs.lemmas.List.Elements.{Contains-append_right, Contains-append_left, Contains-append_cases}
use Rattle.std.proofs.lemmas.List.Sums.{sum_by-append, sum_by-cons}
use Rattle.std.proofs.lemmas.Bool.{cases_eq}
use Rattle.sp_netlist.specs.Cells.{PlainCell}
use Rattle.sp_netlist.specs.Rules.{is_bank, is_done}
use Rattle.sp_netlist.specs.Draft.{Draft, IsDraft, IsComplete, Keeps, driver_count, net_count}
use Rattle.sp_netlist.specs.Parts.{names_bank}
use Rattle.sp_gates.specs.Nets.{HasNet, IsOpen, Awaits}
use Rattle.sp_gates.specs.Grows.{is_no_gate, Grows, AddsGates, Builds, Fills, Opens}
use Rattle.sp_gates.specs.Bits.{HasBit, IsOne}
use Rattle.sp_gates.proofs.Running.{none_joined, runs_earlier}

pub Keeps-same : (a : Draft) → Keeps a a
Keeps-same a = record {
  promised = λ net width kept e. e;
  widths = λ net width e. e;
  kept = λ net e. e;
  driven = λ net e. e;
  ready = λ net e. e;
  banks = λ bank h. (h, refl);
  drams = λ dram h. (h, refl);
}

pub Keeps-join : (a b c : Draft) → Keeps a b → Keeps b c → Keeps a c
Keeps-join a b c k l = record {
  promised = λ net width kept e. l.promised net width kept (k.promised net width kept e);
  widths = λ net width e. l.widths net width (k.widths net width e);
  kept = λ net e. l.kept net (k.kept net e);
  driven = λ net e. l.driven net (k.driven net e);
  ready = λ net e. l.ready net (k.ready net e);
  banks = λ bank h. ((l.banks bank (k.banks bank h).0).0, (l.banks bank (k.banks bank h).0).1 ∙ (k.banks bank h).1);
  drams = λ dram h. ((l.drams dram (k.drams dram h).0).0, (l.drams dram (k.drams dram h).0).1 ∙ (k.drams dram h).1);
}

pub Grows-same : (a : Draft) → Grows a a
Grows-same a = record {
  added = [];
  stands = sym (append-nil a.cells);
  keeps = Keeps-same a;
  draft = λ d. d;
  no_done = refl;
  apart = λ bank within. refl;
}

banks_front : (old new : List PlainCell) (added : List PlainCell) → new ≡ old ++ added → count_by is_bank old ≤ count_by is_bank new
banks_front old new added e =
    let n = sum_by-append (λ c. cond (is_bank c) 1 0) old added in
    subst (λ cells. count_by is_bank old ≤ count_by is_bank cells) (sym e) (omega (arith, n))

pub Grows-join : (a b c : Draft) → Grows a b → Grows b c → Grows a c
Grows-join a b c g h = record {
  added = g.added ++ h.added;
  stands = h.stands ∙ ap (λ xs. xs ++ h.added) g.stands ∙ append_assoc a.cells g.added h.added;
  keeps = Keeps-join a b c g.keeps h.keeps;
  draft = λ d. h.draft (g.draft d);
  no_done = none_joined is_done g.added h.added g.no_done h.no_done;
  apart = λ bank within.
      let more = banks_front a.cells b.cells g.added g.stands in
      none_joined (names_bank bank) g.added h.added (g.apart bank within) (h.apart bank (omega (arith, within, more)));
}

-- a net was promised, and then a cell added
pub gate_grows : (old mid new : Draft) (x : PlainCell) → is_done x ≡ false → ((bank : ℕ) → names_bank bank x ≡ false) → mid.cells ≡ old.cells → new.cells ≡ mid.cells ++ x ∷ [] → Keeps old mid → Keeps mid new
    → IsDraft new → Grows old new
gate_grows old mid new x undone unnamed same last k l d = record {
  added = x ∷ [];
  stands = last ∙ ap (λ xs. xs ++ x ∷ []) same;
  keeps = Keeps-join old mid new k l;
  draft = λ o. d;
  no_done = rw undone refl;
  apart = λ bank within. rw (unnamed bank) refl;
}

pub no_gates : (a : Draft) → AddsGates a a
no_gates a = record { added = []; stands = sym (append-nil a.cells); all = refl }

pub more_gates : (a b c : Draft) → AddsGates a b → AddsGates b c → AddsGates a c
more_gates a b c g h = record {
  added = g.added ++ h.added;
  stands = h.stands ∙ ap (λ xs. xs ++ h.added) g.stands ∙ append_assoc a.cells g.added h.added;
  all = none_joined is_no_gate g.added h.added g.all h.all;
}

pub one_gate : (old mid new : Draft) (x : PlainCell) → is_no_gate x ≡ false → mid.cells ≡ old.cells → new.cells ≡ mid.cells ++ x ∷ [] → AddsGates old new
one_gate old mid new x gate same last = record { added = x ∷ []; stands = last ∙ ap (λ xs. xs ++ x ∷ []) same; all = rw gate refl }

one_net : (r w net : ℕ) → net_count ((r, w) ∷ []) net ≡ cond (r == net) 1 0
one_net r w net = let step = sum_by-cons (λ (p : ℕ × ℕ). cond (p.0 == net) 1 0) (r, w) [] in step ∙ omega arith

none_in : (x : ℕ) → Contains [] x → ⊥
none_in x c = let l = c.1 in absurd (omega (arith, l))

one_in : (x y : ℕ) → Contains (x ∷ []) y → y ≡ x
one_in x y (zero, l, e) = sym e
one_in x y (suc k, l, e) = absurd (omega (arith, l))

pub Fills-none : (a : Draft) → Fills a a []
Fills-none a = record { grows = Grows-same a; gates = no_gates a; still_open = λ n o out. o; no_other = λ n o. (o, none_in n) }

pub Fills-join : (a b c : Draft) (xs ys : List ℕ) → Fills a b xs → Fills b c ys → Fills a c (xs ++ ys)
Fills-join a b c xs ys g h = record {
  gates = more_gates a b c g.gates h.gates;
  grows = Grows-join a b c g.grows h.grows;
  still_open = λ n o out. h.still_open n (g.still_open n o (λ k. out (Contains-append_left xs ys n k))) (λ k. out (Contains-append_right xs ys n k));
  no_other = λ n o. ((g.no_other n (h.no_other n o).0).0, λ k. ⊎_elim (λ l. (g.no_other n (h.no_other n o).0).1 l) (λ r. (h.no_other n o).1 r) (Contains-append_cases xs ys n k));
}

-- the same of cells that aren't all gates
pub fills_build : (a b : Draft) (xs : List ℕ) → Fills a b xs → Builds a b xs
fills_build a b xs f = record { grows = f.grows; still_open = f.still_open; no_other = f.no_other }

pub Builds-join : (a b c : Draft) (xs ys : List ℕ) → Builds a b xs → Builds b c ys → Builds a c (xs ++ ys)
Builds-join a b c xs ys g h = record {
  grows = Grows-join a b c g.grows h.grows;
  still_open = λ n o out. h.still_open n (g.still_open n o (λ k. out (Contains-append_left xs ys n k))) (λ k. out (Contains-append_right xs ys n k));
  no_other = λ n o. ((g.no_other n (h.no_other n o).0).0, λ k. ⊎_elim (λ l. (g.no_other n (h.no_other n o).0).1 l) (λ r. (h.no_other n o).1 r) (Contains-append_cases xs ys n k));
}

-- the new net is driven by the cell, and no other
pub gate_fills : (old mid new : Draft) (x : PlainCell) (r w : ℕ) → is_no_gate x ≡ false → is_done x ≡ false → ((bank : ℕ) → names_bank bank x ≡ false) → mid.cells ≡ old.cells → new.cells ≡ mid.cells ++ x ∷ []
    → Keeps old mid → Keeps mid new → IsDraft new → r ≡ length old.promised → length mid.promised ≡ length old.promised + 1 → new.promised ≡ mid.promised
    → ((net : ℕ) → driver_count new.cells net ≡ driver_count mid.cells net + net_count ((r, w) ∷ []) net) → Fills old new []
gate_fills old mid new x r w gate undone unnamed same last k l d is more nets counts = record {
  gates = one_gate old mid new x gate same last;
  grows = gate_grows old mid new x undone unnamed same last k l d;
  still_open = λ net o out. record {
    within = let a = o.within in let n = ap length nets in omega (arith, n, a);
    undriven = let test = ne_eqb r net (λ e. absurd (let a = o.within in omega (arith, a, e))) in
        sum net ∙ rw test (let z = o.undriven in omega (arith, z));
  };
  no_other = λ net o. (record { within = (split net o).0; undriven = (split net o).1 }, none_in net);
}
  where
    sum : (net : ℕ) → driver_count new.cells net ≡ driver_count old.cells net + cond (r == net) 1 0
    sum net = counts net ∙ rw (one_net r w net, same) refl

    split : (net : ℕ) → IsOpen new net → (net < length old.promised) × (driver_count old.cells net ≡ 0)
    split net o =
        let n = ap length nets in
        let a = o.within in
        let z = o.undriven in
        let e = sum net in
        elim (cases_eq r net) [
          | inl same_net ↦ absurd (let test = eq-eqb r net same_net in let f = rw test at e in omega (arith, f, z))
          | inr other ↦ let apart : net ≢ r = (λ h. other (sym h)) in (omega (arith, apart, a, n, more, is), omega (arith, z, e))
        ]

-- a promised net is driven by the cell, and no other
pub drive_fills : (old new : Draft) (x : PlainCell) (r w : ℕ) → is_no_gate x ≡ false → is_done x ≡ false → ((bank : ℕ) → names_bank bank x ≡ false) → new.cells ≡ old.cells ++ x ∷ [] → Keeps old new → IsDraft new
    → new.promised ≡ old.promised → ((net : ℕ) → driver_count new.cells net ≡ driver_count old.cells net + net_count ((r, w) ∷ []) net) → Fills old new (r ∷ [])
drive_fills old new x r w gate undone unnamed last k d nets counts = record {
  gates = one_gate old old new x gate refl last;
  grows = gate_grows old old new x undone unnamed refl last (Keeps-same old) k d;
  still_open = λ net o out. record {
    within = let n = ap length nets in let a = o.within in omega (arith, n, a);
    undriven = let test = ne_eqb r net (λ e. out (0, omega arith, e)) in counts net ∙ rw (one_net r w net, test) (let z = o.undriven in omega (arith, z));
  };
  no_other = λ net o. let both = split net o (counts net ∙ rw (one_net r w net) refl) in (both.0, λ c. both.1 (one_in r net c));
}
  where
    split : (net : ℕ) → IsOpen new net → driver_count new.cells net ≡ driver_count old.cells net + cond (r == net) 1 0 → IsOpen old net × (net ≢ r)
    split net o e =
        let n = ap length nets in
        let a = o.within in
        let z = o.undriven in
        elim (cases_eq r net) [
          | inl same_net ↦ absurd (let test = eq-eqb r net same_net in let f = rw test at e in omega (arith, f, z))
          | inr other ↦ (record { within = omega (arith, a, n); undriven = omega (arith, z, e) }, λ h. other (sym h))
        ]

-- a net was promised, and nothing else
pub promise_opens : (old new : Draft) (r : ℕ) → new.cells ≡ old.cells → Keeps old new → IsDraft new → r ≡ length old.promised → length new.promised ≡ length old.promised + 1 → Opens old new r
promise_opens old new r same k d is more = record {
  grows = record {
    added = [];
    stands = same ∙ sym (append-nil old.cells);
    keeps = k;
    draft = λ o. d;
    no_done = refl;
    apart = λ bank within. refl;
  };
  gates = record { added = []; stands = same ∙ sym (append-nil old.cells); all = refl };
  fresh = is;
  still_open = λ n o. record { within = let a = o.within in omega (arith, a, more); undriven = ap (λ cells. driver_count cells n) same ∙ o.undriven };
  no_other = λ n o other. record { within = let a = o.within in omega (arith, a, more, other, is); undriven = ap (λ cells. driver_count cells n) (sym same) ∙ o.undriven };
}

pub HasNet-stays : (a b : Draft) (net width : ℕ) → Grows a b → HasNet a net width → HasNet b net width
HasNet-stays a b net width g h = record { wide = g.keeps.widths net width h.wide; ready = g.keeps.ready net h.ready }

pub HasBit-stays : (a b : Draft) (net : ℕ) → Grows a b → HasBit a net → HasBit b net
HasBit-stays a b net g h = record { net_stands = HasNet-stays a b net 1 g h.net_stands; is_bit = λ s r. h.is_bit s (runs_earlier a b s g r) }

pub IsOne-stays : (a b : Draft) (net : ℕ) → Grows a b → IsOne a net → IsOne b net
IsOne-stays a b net g h = record { net_stands = HasNet-stays a b net 1 g h.net_stands; always = λ s r. h.always s (runs_earlier a b s g r) }

pub Awaits-stays : (a b : Draft) (net width : ℕ) → Grows a b → IsOpen b net → Awaits a net width → Awaits b net width
Awaits-stays a b net width g o h = record { wide = g.keeps.widths net width h.wide; kept = g.keeps.kept net h.kept; undriven = o.undriven }

-- a net that is promised, and then driven
pub reserved : (a b c : Draft) (net : ℕ) (nets : List ℕ) → Opens a b net → Fills b c (net ∷ nets) → Fills a c nets
reserved a b c net nets o f = record {
  gates = more_gates a b c o.gates f.gates;
  grows = Grows-join a b c o.grows f.grows;
  still_open = λ n was out. f.still_open n (o.still_open n was) (λ k. elim (head_or_tail n k) [
    | inl same ↦ let a = was.within in let e = o.fresh in absurd (omega (arith, same, a, e))
    | inr there ↦ out there
  ]);
  no_other = λ n is.
      let before = f.no_other n is in
      (o.no_other n before.0 (λ same. before.1 (0, omega arith, sym same)), λ k. before.1 (Contains-append_right (net ∷ []) nets n k));
}
  where
    head_or_tail : (n : ℕ) → Contains (net ∷ nets) n → (n ≡ net) ⊎ Contains nets n
    head_or_tail n k = ⊎_elim (λ l. inl (one_in net n l)) (λ r. inr r) (Contains-append_cases (net ∷ []) nets n k)

pub built_reserved : (a b c : Draft) (net : ℕ) (nets : List ℕ) → Opens a b net → Builds b c (net ∷ nets) → Builds a c nets
built_reserved a b c net nets o f = record {
  grows = Grows-join a b c o.grows f.grows;
  still_open = λ n was out. f.still_open n (o.still_open n was) (λ k. elim (head_or_tail n k) [
    | inl same ↦ let a = was.within in let e = o.fresh in absurd (omega (arith, same, a, e))
    | inr there ↦ out there
  ]);
  no_other = λ n is.
      let before = f.no_other n is in
      (o.no_other n before.0 (λ same. before.1 (0, omega arith, sym same)), λ k. before.1 (Contains-append_right (net ∷ []) nets n k));
}
  where
    head_or_tail : (n : ℕ) → Contains (net ∷ nets) n → (n ≡ net) ⊎ Contains nets n
    head_or_tail n k = ⊎_elim (λ l. inl (one_in net n l)) (λ r. inr r) (Contains-append_cases (net ∷ []) nets n k)

pub same_built : (a b : Draft) (nets others : List ℕ) → ((net : ℕ) → Contains nets net ↔ Contains others net) → Builds a b nets → Builds a b others
same_built a b nets others same f = record {
  grows = f.grows;
  still_open = λ n was out. f.still_open n was (λ k. out ((same n).0 k));
  no_other = λ n is. ((f.no_other n is).0, λ k. (f.no_other n is).1 ((same n).1 k));
}

pub same_nets : (a b : Draft) (nets others : List ℕ) → ((net : ℕ) → Contains nets net ↔ Contains others net) → Fills a b nets → Fills a b others
same_nets a b nets others same f = record {
  gates = f.gates;
  grows = f.grows;
  still_open = λ n was out. f.still_open n was (λ k. out ((same n).0 k));
  no_other = λ n is. ((f.no_other n is).0, λ k. (f.no_other n is).1 ((same n).1 k));
}

pub complete : (d : Draft) → IsDraft d → ((net : ℕ) → IsOpen d net → ⊥) → count_by is_done d.cells ≡ 1 → IsComplete d
complete d h none one = record {
  all_driven = λ net l. one_of (driver_count d.cells net) (h.driven_once net) (λ e. none net (record { within = l; undriven = e }));
  one_done = one;
}
  where
    one_of : (n : ℕ) → n ≤ 1 → (n ≡ 0 → ⊥) → n ≡ 1
    one_of zero l k = absurd (k refl)
    one_of (suc n) l k = omega arith
