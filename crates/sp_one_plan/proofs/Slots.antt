-- The finest slots and chains of an outer body are one.
use Rattle.std.proofs.Common.{◌≡◌, ℕ, zero, suc, ◌+◌, ◌<◌, ◌≤◌, Bool, true, false, List, length, Option, Some, None, arith, sym, ◌∙◌, subst}
use Rattle.std.proofs.lemmas.List.{ext_get_or}
use Rattle.std.specs.Prelude.{slice_index}
use Rattle.sp_core.specs.declared.access.Meet.{Meet}
use Rattle.sp_core.specs.Declarations.{is_stream}
use Rattle.sp_core.specs.Numbering.{counters_size}
use Rattle.sp_core.specs.PlainCore.{PlainCounter, PlainNode, inner, outer, fsm, branch, load, store, sparse, PlainCore}
use Rattle.sp_plan.specs.Nodes.{Site, site_at}
use Rattle.sp_plan.specs.PlainPlan.{PlainNodePlan, inner_plan, outer_plan, other_plan}
use Rattle.sp_plan.specs.Slots.{StageRun, runs_of}
use Rattle.sp_stages.specs.Finest.{AreFinestSlots, AreFinestChains}
use Rattle.sp_stages.specs.Plans.{AreFinestIn, AreFinestOf, AreFinestAt, AreFinestChainsIn, AreFinestChainsFrom, AreFinestChainsAt, is_outer_of, IsFinestBy, IsFinestPlan}
use Rattle.sp_words.specs.declared.kind.Style.{Style}

module _ (core : PlainCore) (meets : List Meet) (counters : List PlainCounter) (style : Style) (owned : List ℕ) (runs : List StageRun) where
  one_slots : (xs ys : List ℕ) → AreFinestSlots core meets counters style owned runs xs → AreFinestSlots core meets counters style owned runs ys → xs ≡ ys
  one_slots xs ys h k = ext_get_or 0 xs ys (h.may_be.one_each ∙ sym k.may_be.one_each) (λ p l. both (slice_index xs p) (slice_index ys p) (k.finest xs h.may_be p) (h.finest ys k.may_be p))
    where
      both : (m n : ℕ) → m ≤ n → n ≤ m → m ≡ n
      both m n a b = omega arith

  module _ (slots : List ℕ) where
    abbrev Finest : List ℕ → Type 0
    Finest chains = AreFinestChains core meets counters style owned runs slots chains

    -- of two chains of a run, where those of all runs before are the same, none is the lesser one: a run before has it
    not_less : (xs ys : List ℕ) → Finest xs → Finest ys → (p : ℕ) → p < length runs → ((q : ℕ) → q < p → slice_index xs q ≡ slice_index ys q) → ¬ (slice_index xs p < slice_index ys p)
    not_less xs ys h k p l before less =
        let e = k.numbered p (slice_index xs p) l less in
        let same : slice_index xs e.place ≡ slice_index xs p = before e.place e.earlier ∙ e.chain in
        let together = h.finest ys k.may_be e.place p (omega (arith, e.earlier)) l (record { slot = e.slot; chain = same }) in
        omega (arith, together.chain, e.chain, less)

    up_to : (xs ys : List ℕ) → Finest xs → Finest ys → (n q : ℕ) → q < n → q < length runs → slice_index xs q ≡ slice_index ys q
    up_to xs ys h k zero q l in_runs = absurd (omega arith)
    up_to xs ys h k (suc n) q l in_runs =
        let before : (r : ℕ) → r < q → slice_index xs r ≡ slice_index ys r = λ r less. up_to xs ys h k n r (omega arith) (omega arith) in
        let low = not_less xs ys h k q in_runs before in
        let high = not_less ys xs k h q in_runs (λ r less. sym (before r less)) in
        same (slice_index xs q) (slice_index ys q) low high
      where
        same : (m n : ℕ) → ¬ (m < n) → ¬ (n < m) → m ≡ n
        same m n h k = omega arith

    one_chains : (xs ys : List ℕ) → Finest xs → Finest ys → xs ≡ ys
    one_chains xs ys h k =
        ext_get_or 0 xs ys (h.may_be.one_each ∙ sym k.may_be.one_each) (λ p l. up_to xs ys h k (suc p) p (omega arith) (omega (arith, l, h.may_be.one_each)))

  slots_in : (stream : Bool) (xs ys : List ℕ) → AreFinestIn core meets stream counters style owned runs xs → AreFinestIn core meets stream counters style owned runs ys → xs ≡ ys
  slots_in true xs ys h k = h ∙ sym k
  slots_in false xs ys h k = one_slots xs ys h k

  chains_in : (slots : List ℕ) (stream : Bool) (xs ys : List ℕ) → AreFinestChainsIn core meets slots stream counters style owned runs xs → AreFinestChainsIn core meets slots stream counters style owned runs ys → xs ≡ ys
  chains_in slots true xs ys h k = h ∙ sym k
  chains_in slots false xs ys h k = one_chains slots xs ys h k

module _ (core : PlainCore) (meets : List Meet) where
  slots_of : (site : Site) (node : PlainNode) (xs ys : List ℕ) → AreFinestOf core meets site node xs → AreFinestOf core meets site node ys → xs ≡ ys
  slots_of site (outer counters style owned stages) xs ys h k = slots_in core meets counters style owned (runs_of (site.number + counters_size counters) stages) (is_stream style) xs ys h k
  slots_of site (inner counters owned ops comb) xs ys h k = h ∙ sym k
  slots_of site (fsm start state test body next) xs ys h k = h ∙ sym k
  slots_of site (branch test first second) xs ys h k = h ∙ sym k
  slots_of site (load dram mem spans) xs ys h k = h ∙ sym k
  slots_of site (store dram mem spans) xs ys h k = h ∙ sym k
  slots_of site (sparse kind dram mem index spans count par) xs ys h k = h ∙ sym k

  chains_of : (slots : List ℕ) (site : Site) (node : PlainNode) (xs ys : List ℕ) → AreFinestChainsFrom core meets slots site node xs → AreFinestChainsFrom core meets slots site node ys → xs ≡ ys
  chains_of slots site (outer counters style owned stages) xs ys h k = chains_in core meets counters style owned (runs_of (site.number + counters_size counters) stages) slots (is_stream style) xs ys h k
  chains_of slots site (inner counters owned ops comb) xs ys h k = h ∙ sym k
  chains_of slots site (fsm start state test body next) xs ys h k = h ∙ sym k
  chains_of slots site (branch test first second) xs ys h k = h ∙ sym k
  chains_of slots site (load dram mem spans) xs ys h k = h ∙ sym k
  chains_of slots site (store dram mem spans) xs ys h k = h ∙ sym k
  chains_of slots site (sparse kind dram mem index spans count par) xs ys h k = h ∙ sym k

  slots_at : (site : Option Site) (xs ys : List ℕ) → AreFinestAt core meets site xs → AreFinestAt core meets site ys → xs ≡ ys
  slots_at None xs ys h k = h ∙ sym k
  slots_at (Some site) xs ys h k = slots_of site site.node xs ys h k

  chains_at : (slots : List ℕ) (site : Option Site) (xs ys : List ℕ) → AreFinestChainsAt core meets slots site xs → AreFinestChainsAt core meets slots site ys → xs ≡ ys
  chains_at slots None xs ys h k = h ∙ sym k
  chains_at slots (Some site) xs ys h k = chains_of slots site site.node xs ys h k

  one_by : (node : ℕ) (outer : Bool) (p q : PlainNodePlan) → IsFinestBy core meets node outer p → IsFinestBy core meets node outer q → p ≡ q
  one_by k false p q a b = a ∙ sym b
  one_by k true (outer_plan slots chains) (outer_plan others next) a b =
      let site = site_at k 0 false core.root in
      let same : others ≡ slots = slots_at site others slots b.0 a.0 in
      let last : chains ≡ next = chains_at slots site chains next a.1 (subst (λ s. AreFinestChainsAt core meets s site next) same b.1) in
      cc
  one_by k true (outer_plan slots chains) (inner_plan times ii latency serial) a b = absurd b
  one_by k true (outer_plan slots chains) other_plan a b = absurd b
  one_by k true (inner_plan times ii latency serial) q a b = absurd a
  one_by k true other_plan q a b = absurd a

  pub one_finest : (node : ℕ) (p q : PlainNodePlan) → IsFinestPlan core meets node p → IsFinestPlan core meets node q → p ≡ q
  one_finest k p q a b = one_by k (is_outer_of core k) p q a b
