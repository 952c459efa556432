-- Nets that are promised.
use Rattle.std.proofs.Common.{◌≡◌, ℕ, zero, suc, ◌+◌, ◌≤◌, ◌==◌, false, cond, List, [], ◌∷◌, ◌++◌, length, count_by, Contains, slice_get, sym, ap, subst, ◌∙◌, ⊎_elim, arith, append_assoc}
use Rattle.std.proofs.lemmas.List.Elements.{Contains-append_right, Contains-append_left, Contains-append_cases}
use Rattle.std.proofs.lemmas.List.Sums.{sum_by-cons, sum_by-append}
use Rattle.sp_netlist.specs.Draft.{Draft, net_count}
use Rattle.sp_gates.specs.Nets.{IsOpen}
use Rattle.sp_gates.specs.Grows.{Grows, Builds, Fills}
use Rattle.sp_gates.proofs.Growing.{HasNet-stays, Grows-join}
use Rattle.sp_gates.specs.Runs.{RunsOn}
use Rattle.sp_gates.proofs.Running.{runs_earlier, none_joined}
use Rattle.sp_netlist.specs.Cells.{PlainCell}
use Rattle.sp_netlist.specs.Rules.{is_bank}
use Rattle.sp_netlist.specs.Parts.{names_bank}
use Rattle.sp_netlist.specs.Signals.{Signals}
use Rattle.sp_taps.specs.declared.store.Store.{Store}
use Rattle.sp_taps.specs.Stores.{IsStore}
use Rattle.sp_taps.specs.Wires.{IsWire, Promises}

-- an element of the second of two lists
pub at_back : {X : Type 0} (xs ys : List X) (n k : ℕ) → n ≡ length xs + k → slice_get (xs ++ ys) n ≡ slice_get ys k
at_back [] ys n k e = ap (slice_get ys) (omega (arith, e))
at_back (x ∷ xs) ys zero k e = absurd (omega (arith, e))
at_back (x ∷ xs) ys (suc n) k e = at_back xs ys n k (omega (arith, e))

pub one_net : (r w net : ℕ) → net_count ((r, w) ∷ []) net ≡ cond (r == net) 1 0
one_net r w net = let step = sum_by-cons (λ (p : ℕ × ℕ). cond (p.0 == net) 1 0) (r, w) [] in step ∙ omega arith

pub driven : (a b c : Draft) (nets others : List ℕ) → Promises a b nets → Fills b c (nets ++ others) → Builds a c others
driven a b c nets others p f = record {
  grows = joined;
  still_open = λ n was out. f.still_open n (p.still_open n was) (λ k. ⊎_elim (λ l. past n was l) (λ r. out r) (Contains-append_cases nets others n k));
  no_other = λ n is. let before = f.no_other n is in (p.no_other n before.0 (λ k. before.1 (Contains-append_left nets others n k)), λ k. before.1 (Contains-append_right nets others n k));
}
  where
    past : (n : ℕ) → IsOpen a n → Contains nets n → ⊥
    past n was l = let w = was.within in let fresh = p.fresh n l in omega (arith, w, fresh)

    joined : Grows a c
    joined = Grows-join a b c p.grows f.grows

-- the same run, on what was built before
run_before : (a b : Draft) (s : Signals) → Grows a b → RunsOn s b.cells → RunsOn s a.cells
run_before a b s g r = record {
  setting = r.setting;
  rest = g.added ++ r.rest;
  run = r.run;
  stands = r.stands ∙ ap (λ cells. cells ++ r.rest) g.stands ∙ append_assoc a.cells g.added r.rest;
  banks = λ bank within.
      let more : count_by is_bank a.cells ≤ count_by is_bank b.cells = subst (λ cells. count_by is_bank a.cells ≤ count_by is_bank cells) (sym g.stands) (count_front a.cells g.added) in
      none_joined (names_bank bank) g.added r.rest (g.apart bank within) (r.banks bank (omega (arith, within, more)));
}
  where
    count_front : (xs ys : List PlainCell) → count_by is_bank xs ≤ count_by is_bank (xs ++ ys)
    count_front xs ys = let e = sum_by-append (λ c. cond (is_bank c) 1 0) xs ys in omega (arith, e)

pub store_stays : (a b : Draft) (bank width len : ℕ) (store : Store) → Grows a b → IsStore a bank width len store → IsStore b bank width len store
unfolding run_before
store_stays a b bank width len store g h = record {
  found = HasNet-stays a b store.found width g h.found;
  runs = λ s run. h.runs s (runs_earlier a b s g run);
  no_conflict = λ s run. h.no_conflict s (run_before a b s g run);
}

pub wire_stays : (a b : Draft) (net width : ℕ) → Grows a b → IsOpen b net → IsWire a net width → IsWire b net width
wire_stays a b net width g o h = record { promised = g.keeps.promised net width false h.promised; undriven = o.undriven }
