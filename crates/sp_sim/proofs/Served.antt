-- After the channels were served, their phases are those of the run's next cycle.
use Rattle.std.proofs.Common.{◌≡◌, ℕ, suc, ◌+◌, ◌<◌, ◌≤◌, min, List, [], ◌∷◌, ◌++◌, Bool, true, false, cond, ◌&&◌, nat_lt, if◌then◌else◌, length, get_or, set, count_by, slice_index, refl, sym, ap, ◌∙◌, subst, arith, ⊎_elim, append_assoc, append-nil, lt-ltb, le-ltb}
use Rattle.std.specs.List.{fold}
use Rattle.std.proofs.lemmas.Bool.{cases_eq, cases_lt}
use Rattle.std.proofs.lemmas.List.{get_or_past, get_or-set_same, get_or-set_other, length-set}
use Rattle.std.proofs.lemmas.List.Sums.{sum_by-append}
use Rattle.sp_netlist.specs.Cells.{PlainCell, load_unit, store_unit}
use Rattle.sp_netlist.specs.Rules.{is_unit, IsNetlist, IsRight}
use Rattle.sp_netlist.specs.Signals.{Setting, Signals, idle, asks, next_phase, cell_asks, delay_of, RunsChannel, Obeys}
use Rattle.sp_netlist.specs.Quiet.{IsQuiet}
use Rattle.sp_sim.specs.Serving.{Channels, served, serve_one}
use Rattle.sp_sim.proofs.CellLemmas.{count-cons, count_first}

pub count_push : {X : Type 0} (p : X → Bool) (xs : List X) (x : X) → count_by p (xs ++ x ∷ []) ≡ count_by p xs + cond (p x) 1 0
count_push p xs x = let e = sum_by-append (λ y. cond (p y) 1 0) xs (x ∷ []) in let f = count-cons p x [] in omega (arith, e, f)

pub count_split : {X : Type 0} (p : X → Bool) (xs before : List X) (x : X) (after : List X) → xs ≡ before ++ x ∷ after → p x ≡ true → count_by p before < count_by p xs
count_split p xs before x after e pass =
    let parts = sum_by-append (λ y. cond (p y) 1 0) before (x ∷ after) in
    let first = count_first p x after pass in
    omega (arith, ap (count_by p) e, parts, first)

-- the entry that is taken, also where more were asked for than there are
pub taken_delay : (ds : List ℕ) (n m : ℕ) → n ≡ min m (length ds) → slice_index ds n ≡ slice_index ds m
taken_delay ds n m e = ⊎_elim
    (λ l. ap (slice_index ds) (omega arith))
    (λ l. get_or_past ds n 0 (omega arith) ∙ sym (get_or_past ds m 0 l))
    (cases_lt m (length ds))

pub taken_next : (asking : Bool) (n m len : ℕ) → n ≡ min m len → (if asking && nat_lt n len then n + 1 else n) ≡ min (m + cond asking 1 0) len
taken_next false n m len e = omega arith
taken_next true n m len e = ⊎_elim
    (λ l. ap (λ (b : Bool). cond b (n + 1) n) (lt-ltb n len l) ∙ omega arith)
    (λ l. ap (λ (b : Bool). cond b (n + 1) n) (le-ltb n len l) ∙ omega arith)
    (cases_lt n len)

-- these cells' channels have been served in cycle t
pub record Serving (g : Setting) (s : Signals) (t : ℕ) (front : List PlainCell) (c : Channels) : Type 0 where
  pub number : length c.phases ≡ count_by is_unit g.cells
  pub before : (n : ℕ) → n < count_by is_unit front → get_or c.phases n idle ≡ s.phase (suc t) n
  pub after : (n : ℕ) → count_by is_unit front ≤ n → get_or c.phases n idle ≡ s.phase t n
  pub taken : c.taken ≡ min (s.asked t + count_by (cell_asks s t) front) (length g.delays)

-- one more cell without a channel
serving_none : (g : Setting) (s : Signals) (t : ℕ) (front : List PlainCell) (x : PlainCell) (c : Channels) → is_unit x ≡ false → cell_asks s t x ≡ false → Serving g s t front c → Serving g s t (front ++ x ∷ []) c
serving_none g s t front x c u a r =
    let units = count_push is_unit front x ∙ ap (λ (b : Bool). count_by is_unit front + cond b 1 0) u in
    let askers = count_push (cell_asks s t) front x ∙ ap (λ (b : Bool). count_by (cell_asks s t) front + cond b 1 0) a in
    record {
      number = r.number;
      before = λ n l. r.before n (omega (arith, units));
      after = λ n l. r.after n (omega (arith, units));
      taken = r.taken ∙ ap (λ k. min k (length g.delays)) (omega (arith, askers));
    }

-- one more channel
serving_one : (g : Setting) (s : Signals) (t : ℕ) (front : List PlainCell) (x : PlainCell) (after : List PlainCell) (c : Channels) (channel ready request last : ℕ)
    → g.cells ≡ front ++ x ∷ after → is_unit x ≡ true → channel ≡ count_by is_unit front → RunsChannel g s front channel ready request last
    → cell_asks s t x ≡ asks (s.phase t channel) (s.net t request) (s.net t last)
    → Serving g s t front c → Serving g s t (front ++ x ∷ []) (served g.delays c channel (s.net t request) (s.net t last))
serving_one g s t front x rest c channel ready request last e u place o a r =
    let units = count_push is_unit front x ∙ ap (λ (b : Bool). count_by is_unit front + cond b 1 0) u in
    let askers = count_push (cell_asks s t) front x in
    let phase : get_or c.phases channel idle ≡ s.phase t channel = r.after channel (omega arith) in
    let delay : slice_index g.delays c.taken ≡ delay_of g s t front = taken_delay g.delays c.taken (s.asked t + count_by (cell_asks s t) front) r.taken in
    let new : next_phase (get_or c.phases channel idle) (s.net t request) (s.net t last) (slice_index g.delays c.taken) ≡ s.phase (suc t) channel =
    ap (λ p. next_phase p (s.net t request) (s.net t last) (slice_index g.delays c.taken)) phase
    ∙ ap (next_phase (s.phase t channel) (s.net t request) (s.net t last)) delay ∙ sym (o.goes_on t) in
    let within : channel < length c.phases = omega (arith, count_split is_unit g.cells front x rest e u, r.number) in
    let asking : asks (get_or c.phases channel idle) (s.net t request) (s.net t last) ≡ cell_asks s t x = ap (λ p. asks p (s.net t request) (s.net t last)) phase ∙ sym a in
    record {
      number = length-set c.phases channel _ ∙ r.number;
      before = λ n l. ⊎_elim
          (λ same. ap (λ m. get_or (set c.phases channel (next_phase (get_or c.phases channel idle) (s.net t request) (s.net t last) (slice_index g.delays c.taken))) m idle) same
          ∙ get_or-set_same c.phases channel (next_phase (get_or c.phases channel idle) (s.net t request) (s.net t last) (slice_index g.delays c.taken)) idle within ∙ new ∙ ap (s.phase (suc t)) (sym same))
          (λ other. get_or-set_other c.phases channel n (next_phase (get_or c.phases channel idle) (s.net t request) (s.net t last) (slice_index g.delays c.taken)) idle other ∙ r.before n (omega (arith, units)))
          (cases_eq n channel);
      after = λ n l. get_or-set_other c.phases channel n (next_phase (get_or c.phases channel idle) (s.net t request) (s.net t last) (slice_index g.delays c.taken)) idle (λ same. omega (arith, units)) ∙ r.after n (omega (arith, units));
      taken = taken_next (asks (get_or c.phases channel idle) (s.net t request) (s.net t last)) c.taken (s.asked t + count_by (cell_asks s t) front) (length g.delays) r.taken
          ∙ ap (λ (b : Bool). min (s.asked t + count_by (cell_asks s t) front + cond b 1 0) (length g.delays)) asking
          ∙ ap (λ k. min k (length g.delays)) (omega (arith, askers));
    }

module _ (g : Setting) (h : IsNetlist g.cells) (s : Signals) (q : IsQuiet g s) (t : ℕ) where
  serving_step : (front : List PlainCell) (x : PlainCell) (after : List PlainCell) → g.cells ≡ front ++ x ∷ after → IsRight g.cells front x → Obeys g s front x
      → (c : Channels) → Serving g s t front c → Serving g s t (front ++ x ∷ []) (serve_one (s.net t) g.delays c x)
  serving_step front (load_unit channel dram ready net request last addr) after e r o c k =
      serving_one g s t front (load_unit channel dram ready net request last addr) after c channel ready request last e refl r.0 o.0 refl k
  serving_step front (store_unit channel dram ready request last addr word) after e r o c k =
      serving_one g s t front (store_unit channel dram ready request last addr word) after c channel ready request last e refl r.0 o refl k
  serving_step front _ after e r o c k = serving_none g s t front _ c refl refl k

  serving_all : (rest front : List PlainCell) (c : Channels) → g.cells ≡ front ++ rest → Serving g s t front c → Serving g s t g.cells (fold (serve_one (s.net t) g.delays) c rest)
  serving_all [] front c e k = subst (λ xs. Serving g s t xs c) (sym (e ∙ append-nil front)) k
  serving_all (x ∷ rest) front c e k =
      serving_all rest (front ++ x ∷ []) (serve_one (s.net t) g.delays c x) (e ∙ sym (append_assoc front (x ∷ []) rest))
      (serving_step front x rest e (h.right front x rest e) (q.run.cells front x rest e) c k)

  -- what is kept of the channels at the start of the next cycle
  pub channels_next : (c : Channels) → length c.phases ≡ count_by is_unit g.cells → ((n : ℕ) → get_or c.phases n idle ≡ s.phase t n) → c.taken ≡ min (s.asked t) (length g.delays)
      → let d = fold (serve_one (s.net t) g.delays) c g.cells in
      (length d.phases ≡ count_by is_unit g.cells) × ((n : ℕ) → get_or d.phases n idle ≡ s.phase (suc t) n) × (d.taken ≡ min (s.asked (suc t)) (length g.delays))
  channels_next c number phases taken =
      let d = fold (serve_one (s.net t) g.delays) c g.cells in
      let first : Serving g s t [] c = record { number = number; before = λ n l. absurd (omega arith); after = λ n l. phases n; taken = taken ∙ ap (λ k. min k (length g.delays)) (omega arith) } in
      let all = serving_all g.cells [] c refl first in (
        all.number,
        λ n. ⊎_elim (λ l. all.before n l) (λ l. get_or_past d.phases n idle (omega (arith, all.number)) ∙ sym (q.phases (suc t) n l)) (cases_lt n (count_by is_unit g.cells)),
        all.taken ∙ ap (λ k. min k (length g.delays)) (sym (q.run.asked_next t)),
      )
