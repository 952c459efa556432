-- The node of a load or a store does what its statement does.
use Rattle.std.proofs.Common.{◌≡◌, ℕ, suc, Bool, true, false, List, [], ◌∷◌, refl, sym, ◌∙◌, ap, subst, arith}
use Rattle.std.specs.Prelude.{length, map}
use Rattle.sp_tree.specs.declared.statement.FaultKind.{FaultKind}
use Rattle.sp_tree.specs.declared.statement.FaultKind.TheVariants.{DramBounds}
use Rattle.sp_tree.specs.Elements.{index_value}
use Rattle.sp_tree.specs.Expressions as expressions
use Rattle.sp_tree.specs.Expressions.{word}
use Rattle.sp_tree.specs.Invariant.{ports_of}
use Rattle.sp_tree.specs.PlainProgram.{PlainProgram}
use Rattle.sp_tree.specs.PlainStatement.{PlainSpan, single, range}
use Rattle.sp_tree.specs.Sequential.{part}
use Rattle.sp_tree.specs.Step as step
use Rattle.sp_tree.specs.Store as program_store
use Rattle.sp_tree.specs.Structure.{slice_lanes}
use Rattle.sp_tree.specs.Transfers as slice
use Rattle.sp_core.specs.Declarations.{kind_of, dims, dram_number as dram_place}
use Rattle.sp_core.specs.History.{History, Taken, moved}
use Rattle.sp_core.specs.PlainCore.{PlainCore}
use Rattle.sp_core.specs.Step as core_step
use Rattle.sp_core.specs.Store as store
use Rattle.sp_core.specs.Transfers as core_slice
use Rattle.sp_core.specs.Transfers.{part_of}
use Rattle.sp_sugar.specs.Agreement.{HasMemories, View, Agree}
use Rattle.sp_sugar.specs.Numbers.{dram_number}
use Rattle.sp_sugar.proofs.MemoryLemmas.{passed}
use Rattle.sp_sugar.proofs.NumberLemmas.{either}
use Rattle.sp_sugar.proofs.StepLemmas.{same_answer, same_store, taken_apart, then_on}
use Rattle.sp_same.proofs.LaneCounts.{one_lane, no_words}
use Rattle.sp_same.proofs.Moves.{Moving}
use Rattle.sp_same.proofs.SliceTwins.{as_core, same_lengths, same_none, same_parts_inside, same_fit}

-- a slice of no range has one lane
nonempty : (n : ℕ) (ns : List ℕ) → n ∷ ns ≡ [] → ⊥
nonempty n ns e = let f : suc (length ns) ≡ 0 = ap length e in omega (arith, f)

module _ (p : PlainProgram) where
  lengths_of : List slice.Part → Type 0
  lengths_of parts = slice.lengths parts ≡ []

  pub ranges_taken : (spans : List PlainSpan) (left rest : ℕ) (s after : program_store.Store) (parts : List slice.Part) → step.in_order (part p.mems) spans left s ≡ step.went parts rest after → slice.lengths parts ≡ [] → slice_lanes spans ≡ 1
  unfolding step.in_order step.pure
  ranges_taken [] left rest s after parts e none = refl
  ranges_taken (single x ∷ spans) left rest s after parts e none =
      let b = taken_apart (part p.mems (single x)) (λ first. step.◌>>=◌ (step.in_order (part p.mems) spans) (λ others. step.pure (first ∷ others))) left s parts rest after e in
      let c = taken_apart (word p.mems x) (λ i. step.pure (slice.index (index_value i))) left s b.answer b.between b.store b.first in
      let d = taken_apart (step.in_order (part p.mems) spans) (λ others. step.pure (b.answer ∷ others)) b.between b.store parts rest after b.second in
      let f : b.answer ∷ d.answer ≡ parts = same_answer (b.answer ∷ d.answer) parts d.between rest d.store after d.second in
      let g : slice.index (index_value c.answer) ≡ b.answer = same_answer (slice.index (index_value c.answer)) b.answer c.between b.between c.store b.store c.second in
      ranges_taken spans b.between d.between b.store d.store d.answer d.first (ap (λ q. slice.lengths (q ∷ d.answer)) g ∙ ap slice.lengths f ∙ none)
  ranges_taken (range x y par ∷ spans) left rest s after parts e none =
      let b = taken_apart (part p.mems (range x y par)) (λ first. step.◌>>=◌ (step.in_order (part p.mems) spans) (λ others. step.pure (first ∷ others))) left s parts rest after e in
      let c = taken_apart (word p.mems x) (λ i. step.◌>>=◌ (word p.mems y) (λ j. step.pure (slice.between (index_value i) (index_value j)))) left s b.answer b.between b.store b.first in
      let k = taken_apart (word p.mems y) (λ j. step.pure (slice.between (index_value c.answer) (index_value j))) c.between c.store b.answer b.between b.store c.second in
      let d = taken_apart (step.in_order (part p.mems) spans) (λ others. step.pure (b.answer ∷ others)) b.between b.store parts rest after b.second in
      let f : b.answer ∷ d.answer ≡ parts = same_answer (b.answer ∷ d.answer) parts d.between rest d.store after d.second in
      let g : slice.between (index_value c.answer) (index_value k.answer) ≡ b.answer = same_answer (slice.between (index_value c.answer) (index_value k.answer)) b.answer k.between b.between k.store b.store k.second in
      absurd (nonempty _ (slice.lengths d.answer) (ap (λ q. slice.lengths (q ∷ d.answer)) g ∙ ap slice.lengths f ∙ none))

module _ (p : PlainProgram) (core : PlainCore) (h : HasMemories p core) (ports : p.ports ≡ ports_of p.mems) (view : View)
    (r n : ℕ) (too_long : FaultKind) (limits : List ℕ) (dram_same : dims core (dram_place core (dram_number p.mems r)) ≡ expressions.dims p.mems r) (limits_same : core_slice.range_limits (kind_of core n) (dims core n) ≡ limits) where
  abbrev q : ℕ
  q = dram_number p.mems r

  -- a slice that is moved, or of which a range is empty
  pub record Transferred (t : store.Store) (ts : List Taken) (parts : List slice.Part) (move : core_step.Step (List ℕ)) (after : program_store.Store) : Type 0 where
    pub ws : List ℕ
    pub end : store.Store
    pub goes : core_slice.transfer core q n ts move t ≡ core_step.went (moved ts ws) end
    pub moving : Moving p core h ports view after end
    pub counted : length ws ≡ slice.words_in_lane 1 0 (slice.lengths parts)

  module _ (place left rest : ℕ) (s after : program_store.Store) (t : store.Store) (a : Agree p core view [] s t) (ts : List Taken) (parts : List slice.Part) (same : map part_of ts ≡ map as_core parts)
      {A : Type 0} (program_move : step.Step A) (move : List core_slice.Part → core_step.Step (List ℕ))
      (follow : (left rest : ℕ) (after : program_store.Store) (al : A) → slice.do_fit limits (slice.lengths parts) ≡ true → Moving p core h ports view s t → program_move left s ≡ step.went al rest after
      → (ws : List ℕ) × (u : store.Store) × (move (map as_core parts) t ≡ core_step.went ws u) × Moving p core h ports view after u × (length ws ≡ length (slice.all_offsets parts)))
      (x : Unit {0}) (e : slice.transfer place (expressions.dims p.mems r) parts too_long limits program_move left s ≡ step.went x rest after) where
    start : Moving p core h ports view s t
    start = a

    lengths_same : core_slice.lengths (map part_of ts) ≡ slice.lengths parts
    lengths_same = ap core_slice.lengths same ∙ same_lengths parts

    none_same : core_slice.has_none (core_slice.lengths (map part_of ts)) ≡ slice.has_none (slice.lengths parts)
    none_same = ap core_slice.has_none lengths_same ∙ same_none (slice.lengths parts)

    abbrev checked : step.Step (Unit {0})
    checked = step.◌>>◌ (step.ensure (slice.are_parts_inside (expressions.dims p.mems r) parts) DramBounds place) (step.◌>>◌ (step.ensure (slice.do_fit limits (slice.lengths parts)) too_long place) (step.◌>>◌ program_move (step.pure tt)))

    abbrev core_checked : core_step.Step History
    core_checked = core_step.◌>>◌ (core_step.ensure (core_slice.are_parts_inside (dims core (dram_place core q)) (map part_of ts))) (core_step.◌>>◌ (core_step.ensure (core_slice.do_fit (core_slice.range_limits (kind_of core n) (dims core n)) (core_slice.lengths (map part_of ts)))) (core_step.◌>>=◌ (move (map part_of ts)) (λ ws. core_step.pure (moved ts ws))))

    chosen : (b : Bool) → slice.has_none (slice.lengths parts) ≡ b → (elim b as (λ _. step.Step (Unit {0})) [ true ↦ step.pure tt | false ↦ checked ]) left s ≡ step.went x rest after
    chosen b f = ap (λ b. (elim b as (λ _. step.Step (Unit {0})) [ true ↦ step.pure tt | false ↦ checked ]) left s) (sym f) ∙ e

    core_chosen : (b : Bool) → slice.has_none (slice.lengths parts) ≡ b → core_slice.transfer core q n ts (move (map part_of ts)) t ≡ (elim b as (λ _. core_step.Step History) [ true ↦ core_step.pure (moved ts []) | false ↦ core_checked ]) t
    core_chosen b f = ap (λ b. (elim b as (λ _. core_step.Step History) [ true ↦ core_step.pure (moved ts []) | false ↦ core_checked ]) t) (none_same ∙ f)

    empty : slice.has_none (slice.lengths parts) ≡ true → Transferred t ts parts (move (map part_of ts)) after
    unfolding step.pure core_step.pure
    empty f = record {
      ws = [];
      end = t;
      goes = core_chosen true f;
      moving = subst (λ v. Moving p core h ports view v t) (same_store tt x left rest s after (chosen true f)) start;
      counted = sym (no_words (slice.lengths parts) f);
    }

    full : slice.has_none (slice.lengths parts) ≡ false → Transferred t ts parts (move (map part_of ts)) after
    unfolding step.pure core_step.pure
    full f =
        let one = passed (slice.are_parts_inside (expressions.dims p.mems r) parts) DramBounds place (step.◌>>◌ (step.ensure (slice.do_fit limits (slice.lengths parts)) too_long place) (step.◌>>◌ program_move (step.pure tt))) x left rest s after (chosen false f) in
        let two = passed (slice.do_fit limits (slice.lengths parts)) too_long place (step.◌>>◌ program_move (step.pure tt)) x left rest s after one.1 in
        let b = taken_apart program_move (λ _. step.pure tt) left s x rest after two.1 in
        let all = follow left b.between b.store b.answer two.0 start b.first in
        let inside : core_slice.are_parts_inside (dims core (dram_place core q)) (map part_of ts) ≡ true =
        ap (λ l. core_slice.are_parts_inside l (map part_of ts)) dram_same
        ∙ ap (core_slice.are_parts_inside (expressions.dims p.mems r)) same ∙ same_parts_inside (expressions.dims p.mems r) parts ∙ one.0 in
        let fits : core_slice.do_fit (core_slice.range_limits (kind_of core n) (dims core n)) (core_slice.lengths (map part_of ts)) ≡ true =
        ap (λ l. core_slice.do_fit l (core_slice.lengths (map part_of ts))) limits_same
        ∙ ap (core_slice.do_fit limits) lengths_same ∙ same_fit limits (slice.lengths parts) ∙ two.0 in
        record {
          ws = all.0;
          end = all.1;
          goes = core_chosen false f
              ∙ then_on (core_step.ensure (core_slice.are_parts_inside (dims core (dram_place core q)) (map part_of ts))) (λ _. core_step.◌>>◌ (core_step.ensure (core_slice.do_fit (core_slice.range_limits (kind_of core n) (dims core n)) (core_slice.lengths (map part_of ts)))) (core_step.◌>>=◌ (move (map part_of ts)) (λ ws. core_step.pure (moved ts ws)))) t tt t (ap (λ b. core_step.ensure b t) inside)
              ∙ then_on (core_step.ensure (core_slice.do_fit (core_slice.range_limits (kind_of core n) (dims core n)) (core_slice.lengths (map part_of ts)))) (λ _. core_step.◌>>=◌ (move (map part_of ts)) (λ ws. core_step.pure (moved ts ws))) t tt t (ap (λ b. core_step.ensure b t) fits)
              ∙ then_on (move (map part_of ts)) (λ ws. core_step.pure (moved ts ws)) t all.0 all.1 (ap (λ l. move l t) same ∙ all.2);
          moving = subst (λ v. Moving p core h ports view v all.1) (same_store tt x b.between rest b.store after b.second) all.3;
          counted = all.4 ∙ one_lane (slice.lengths parts);
        }

    pub transferred : Transferred t ts parts (move (map part_of ts)) after
    transferred = either (slice.has_none (slice.lengths parts)) empty full
