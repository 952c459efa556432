-- The parts of nodes keep the rules: counters, slices, stages lane by lane, combinations.
use Rattle.std.proofs.Common.{◌/◌, ◌%◌, cond, ◌≡◌, ℕ, zero, suc, ◌+◌, ◌*◌, ◌^◌, ◌<◌, ◌≤◌, Bool, true, false, ◌||◌, List, [], ◌∷◌, ◌++◌, refl, sym, ◌∙◌, ap, subst, arith, ◌==◌, nat_lt, if◌then◌else◌}
use Rattle.std.proofs.lemmas.Bool.{eq-eqb, lt-ltb, le-leb, and_from, or_left, or_right}
use Rattle.std.proofs.lemmas.Nat.{mul-le}
use Rattle.std.proofs.Math.Nat.{div-eq_of_lt, mod_self}
use Rattle.std.proofs.lemmas.List.Sums.{sum_by-cons}
use Rattle.std.specs.List.{list_all}
use Rattle.std.specs.Prelude.{length, map, filter, take, replicate, slice_index_or}
use Rattle.sp_words.specs.declared.types.Ty.{Ty}
use Rattle.sp_words.specs.Types.{int_type}
use Rattle.sp_tree.specs.PlainExpression.{PlainExpr, type_of}
use Rattle.sp_words.specs.Ports.{PlainPort}
use Rattle.sp_tree.specs.Invariant.{port_of}
use Rattle.sp_tree.specs.Meaning.{is_dram}
use Rattle.sp_tree.specs.PlainProgram.{PlainMem, PlainProgram, no_mem}
use Rattle.sp_tree.specs.PlainStatement.{PlainSpan, single, range, PlainCounter}
use Rattle.sp_tree.specs.Structure.{lanes_of}
use Rattle.sp_tree.specs.Tallies.{tally}
use Rattle.sp_tree.specs.Typing as typing
use Rattle.sp_tree.specs.Typing.{EndsInRange, Scope, Typed, HasTypeStill, SpansTyped, BoundsTyped}
use Rattle.sp_core.specs.declared.operation.OpKind.TheVariants as kind
use Rattle.sp_core.specs.Around.{Around}
use Rattle.sp_core.specs.OperationRules.{is_early_kind, is_word_list, is_bound, is_counter_right}
use Rattle.sp_core.specs.NodeRules as node_rules
use Rattle.sp_core.specs.NodeRules.{is_span_right, single_lanes, after_singles, count_zeros, are_lane_by_lane, is_of_all_lanes, are_stages, is_no_lane, are_lanes_right}
use Rattle.sp_core.specs.PlainCore as core_tree
use Rattle.sp_core.specs.PlainCore.{PlainOp, PlainCore, PlainStages, no_stage, more_stage}
use Rattle.sp_sugar.specs.Agreement.{HasMemories}
use Rattle.sp_sugar.specs.Early.{bounds_of, parts_of, is_early as is_early_bound, registers_for, after, from_register, counters_of, spans_from}
use Rattle.sp_sugar.specs.Numbers.{is_on_dram, dram_number, crossing_register}
use Rattle.sp_sugar.specs.Operations.{read_op, word_list}
use Rattle.sp_sugar.specs.Rules.{IsRegister, MayUse, MayNeed}
use Rattle.sp_sugar.specs.Uses.{uses, counters_use, spans_use}
use Rattle.sp_sugar.specs.Values.{Sources}
use Rattle.sp_sugar.proofs.KeepLemmas.{type_is}
use Rattle.sp_sugar.proofs.Keeps.{register_read}
use Rattle.sp_sugar.proofs.NumberLemmas.{either}
use Rattle.sp_sugar.proofs.UseLemmas.{only, kept_there, there_kept, typed_fewer}
use Rattle.sp_sugar.proofs.WordLists.{is_word, bound_is}

pub mul_one : (a b : ℕ) → 1 ≤ b → a ≤ a * b
mul_one a b le = let f : a * 1 ≤ a * b = mul-le a 1 a b (omega arith) le in omega (arith, f)

pub one_mul : (a b : ℕ) → 1 ≤ a → b ≤ a * b
one_mul a b le = let f : 1 * b ≤ a * b = mul-le 1 b a b le (omega arith) in omega (arith, f)

-- each word that doesn't cross reads no SRAM and no line buffer
abbrev pub Quiet : (PlainExpr → Bool) → List PlainExpr → Type 0
Quiet crosses [] = Unit {0}
Quiet crosses (e ∷ es) = (crosses e ≡ false → (tally e).arrays ≡ false) × Quiet crosses es

module _ (p : PlainProgram) (core : PlainCore) (h : HasMemories p core) (around : Around) (scope : Scope) (sources : Sources) (needed : ℕ → Bool) where
  module _ (g : MayNeed core around p scope sources needed) where
    abbrev seen_of : PlainExpr → List (ℕ × Ty)
    seen_of e = filter (λ u. uses (only u.0) e) scope.vals

    Needs : PlainExpr → Type 0
    Needs e = (v : ℕ) → uses (only v) e ≡ true → needed v ≡ true

    part_may : (e : PlainExpr) → Needs e → MayUse core around p (record scope { vals = seen_of e }) sources []
    unfolding Needs
    part_may e f = record {
      mems = g.mems;
      vals = λ v c. let k = there_kept (λ u. uses (only u.0) e) scope.vals v c in g.vals v k.0 (f v.0 k.1);
      counters = g.counters;
    }

    part_typed : (e : PlainExpr) → Typed p scope e → Typed p (record scope { vals = seen_of e }) e
    part_typed e t = typed_fewer p scope (seen_of e) e t (λ v ty c u. kept_there (λ w. uses (only w.0) e) scope.vals (v, ty) c u)

    -- a test, a start, a next state
    pub word_is : (e : PlainExpr) → Typed p scope e → ((v : ℕ) → uses (only v) e ≡ true → needed v ≡ true) → is_word_list core around (word_list p.mems sources e) (type_of e) ≡ true
    unfolding Needs
    word_is e t f = is_word p core h around (record scope { vals = seen_of e }) sources (part_may e f) e (part_typed e t)

    register_bound : (r : ℕ) → IsRegister core around r int_type → is_bound core around (read_op int_type r [] ∷ []) ≡ true
    register_bound r i = and_from _ _ (and_from _ _ (register_read core around [] r 0 int_type i refl).right (type_is int_type)) (and_from _ _ (ap (λ k. is_early_kind core around kind.Read k) i.is_kind) refl)

    -- registers from a number on, one for each word that crosses
    abbrev pub Registers_at : (crosses : PlainExpr → Bool) → ℕ → List PlainExpr → Type 0
    Registers_at crosses r es = (j : ℕ) → r ≤ j → j < r + length (registers_for crosses es) → IsRegister core around j int_type

    one_register : (b : Bool) (r : ℕ) (es : List PlainExpr) (crosses : PlainExpr → Bool) (e : PlainExpr) → crosses e ≡ b → length (registers_for crosses (e ∷ es)) ≡ (if b then 1 else 0) + length (registers_for crosses es)
    one_register true r es crosses e f = ap (λ b. length ((if b then crossing_register int_type ∷ [] else []) ++ registers_for crosses es)) f ∙ omega arith
    one_register false r es crosses e f = ap (λ b. length ((if b then crossing_register int_type ∷ [] else []) ++ registers_for crosses es)) f ∙ omega arith

    later_registers : (crosses : PlainExpr → Bool) (r : ℕ) (e : PlainExpr) (es : List PlainExpr) → Registers_at crosses r (e ∷ es) → Registers_at crosses (after crosses r e) es
    later_registers crosses r e es regs = either (crosses e)
        (λ f. subst (λ b. (j : ℕ) → (if b then suc r else r) ≤ j → j < (if b then suc r else r) + length (registers_for crosses es) → IsRegister core around j int_type) (sym f)
        (λ j le lt. regs j (omega arith) (omega (arith, one_register true r es crosses e f))))
        (λ f. subst (λ b. (j : ℕ) → (if b then suc r else r) ≤ j → j < (if b then suc r else r) + length (registers_for crosses es) → IsRegister core around j int_type) (sym f)
        (λ j le lt. regs j le (omega (arith, one_register false r es crosses e f))))

    -- a bound or an index, by its own operations or from its register
    from_right : (crosses : PlainExpr → Bool) (r : ℕ) (e : PlainExpr) (es : List PlainExpr) → Registers_at crosses r (e ∷ es) → HasTypeStill p scope int_type e → ((v : ℕ) → uses (only v) e ≡ true → needed v ≡ true) → (crosses e ≡ false → (tally e).arrays ≡ false)
        → is_bound core around (from_register p.mems sources crosses r e) ≡ true
    unfolding Needs
    from_right crosses r e es regs typed f early = either (crosses e)
        (λ b. subst (λ x. is_bound core around (if x then read_op int_type r [] ∷ [] else word_list p.mems sources e) ≡ true) (sym b) (register_bound r (regs r (omega arith) (omega (arith, one_register true r es crosses e b)))))
        (λ b. subst (λ x. is_bound core around (if x then read_op int_type r [] ∷ [] else word_list p.mems sources e) ≡ true) (sym b)
        (bound_is p core h around (record scope { vals = seen_of e }) sources (part_may e f) e (part_typed e typed.0.0) typed.0.1 (early b) typed.1))

    pub some_lanes : (loops : List PlainCounter) → BoundsTyped p scope loops → 1 ≤ lanes_of loops
    some_lanes [] t = omega arith
    some_lanes (c ∷ loops) t = mul-le 1 1 c.par (lanes_of loops) t.3.0 (some_lanes loops t.4)

    -- counters
    pub counters_right : (r : ℕ) (loops : List PlainCounter) → Registers_at is_early_bound r (bounds_of loops) → BoundsTyped p scope loops → ((v : ℕ) → counters_use (only v) loops ≡ true → needed v ≡ true) → lanes_of loops ≤ 16
        → list_all (is_counter_right core around) (counters_of p.mems sources r loops) ≡ true
    counters_right r [] regs typed f few = refl
    counters_right r (c ∷ loops) regs typed f few =
        let second = later_registers is_early_bound r c.from (c.until ∷ bounds_of loops) regs in
        let others = later_registers is_early_bound (after is_early_bound r c.from) c.until (bounds_of loops) second in
        let some : 1 ≤ lanes_of loops = some_lanes loops typed.4 in
        let one : c.par ≤ c.par * lanes_of loops = mul_one c.par (lanes_of loops) some in
        let two : lanes_of loops ≤ c.par * lanes_of loops = one_mul c.par (lanes_of loops) typed.3.0 in
        and_from _ _ (and_from _ _ (and_from _ _
        (from_right is_early_bound r c.from (c.until ∷ bounds_of loops) regs typed.0 (λ v u. f v (or_left (uses (only v) c.from || uses (only v) c.until) (counters_use (only v) loops) (or_left (uses (only v) c.from) (uses (only v) c.until) u))) (λ e. e))
        (from_right is_early_bound (after is_early_bound r c.from) c.until (bounds_of loops) second typed.1 (λ v u. f v (or_left (uses (only v) c.from || uses (only v) c.until) (counters_use (only v) loops) (or_right (uses (only v) c.from) (uses (only v) c.until) u))) (λ e. e)))
        (and_from _ _ (and_from _ _ (le-leb 1 c.step typed.2.0) (lt-ltb c.step (2 ^ 31) typed.2.1)) (and_from _ _ (le-leb 1 c.par typed.3.0) (le-leb c.par 16 (omega (arith, one, few))))))
        (counters_right (after is_early_bound (after is_early_bound r c.from) c.until) loops others typed.4 (λ v u. f v (or_right (uses (only v) c.from || uses (only v) c.until) (counters_use (only v) loops) u)) (omega (arith, two, few)))

    -- slices
    pub spans_right : (crosses : PlainExpr → Bool) (r : ℕ) (spans : List PlainSpan) → Registers_at crosses r (parts_of spans) → Quiet crosses (parts_of spans) → SpansTyped p scope spans → ((v : ℕ) → spans_use (only v) spans ≡ true → needed v ≡ true)
        → list_all (is_span_right core around) (spans_from p.mems sources crosses r spans) ≡ true
    spans_right crosses r [] regs quiet typed f = refl
    spans_right crosses r (single e ∷ spans) regs quiet typed f =
        and_from _ _ (from_right crosses r e (parts_of spans) regs typed.0 (λ v u. f v (or_left (uses (only v) e) (spans_use (only v) spans) u)) quiet.0)
        (spans_right crosses (after crosses r e) spans (later_registers crosses r e (parts_of spans) regs) quiet.1 typed.1 (λ v u. f v (or_right (uses (only v) e) (spans_use (only v) spans) u)))
    spans_right crosses r (range a b par ∷ spans) regs quiet typed f =
        let second = later_registers crosses r a (b ∷ parts_of spans) regs in
        and_from _ _ (and_from _ _
        (from_right crosses r a (b ∷ parts_of spans) regs typed.0 (λ v u. f v (or_left (uses (only v) a || uses (only v) b) (spans_use (only v) spans) (or_left (uses (only v) a) (uses (only v) b) u))) quiet.0)
        (from_right crosses (after crosses r a) b (parts_of spans) second typed.1 (λ v u. f v (or_left (uses (only v) a || uses (only v) b) (spans_use (only v) spans) (or_right (uses (only v) a) (uses (only v) b) u))) quiet.1.0))
        (spans_right crosses (after crosses (after crosses r a) b) spans (later_registers crosses (after crosses r a) b (parts_of spans) second) quiet.1.1 typed.3 (λ v u. f v (or_right (uses (only v) a || uses (only v) b) (spans_use (only v) spans) u)))

    -- a count is a bound by itself
    pub count_right : (r : ℕ) (e : PlainExpr) → Registers_at is_early_bound r (e ∷ []) → HasTypeStill p scope int_type e → ((v : ℕ) → uses (only v) e ≡ true → needed v ≡ true) → is_bound core around (from_register p.mems sources is_early_bound r e) ≡ true
    count_right r e regs typed f = from_right is_early_bound r e [] regs typed f (λ x. x)

-- what the spans of a slice are, whatever crosses
module _ (mems : List PlainMem) (sources : Sources) (crosses : PlainExpr → Bool) where
  pub spans_length : (r : ℕ) (spans : List PlainSpan) → length (spans_from mems sources crosses r spans) ≡ length spans
  spans_length r [] = refl
  spans_length r (single e ∷ spans) = ap suc (spans_length (after crosses r e) spans)
  spans_length r (range a b par ∷ spans) = ap suc (spans_length (after crosses (after crosses r a) b) spans)

  pub spans_ranges : (r : ℕ) (spans : List PlainSpan) → node_rules.range_count (spans_from mems sources crosses r spans) ≡ typing.range_count spans
  spans_ranges r [] = refl
  spans_ranges r (single e ∷ spans) = spans_ranges (after crosses r e) spans
  spans_ranges r (range a b par ∷ spans) = ap (λ n. 1 + n) (spans_ranges (after crosses (after crosses r a) b) spans)

  pub spans_end : (r : ℕ) (spans : List PlainSpan) → EndsInRange spans → (node_rules.ends_in_range (spans_from mems sources crosses r spans) ≡ true) × (node_rules.range_count (spans_from mems sources crosses r spans) ≡ 1)
  spans_end r [] e = absurd e
  spans_end r (single x ∷ []) e = absurd e
  spans_end r (single x ∷ single y ∷ spans) e = spans_end (after crosses r x) (single y ∷ spans) e
  spans_end r (single x ∷ range a b par ∷ spans) e = spans_end (after crosses r x) (range a b par ∷ spans) e
  spans_end r (range a b par ∷ []) e = (refl, omega arith)
  spans_end r (range a b par ∷ single x ∷ spans) e = absurd e
  spans_end r (range a b par ∷ range c d par2 ∷ spans) e = absurd e

-- a DRAM stands at its number
dram_cons : (x : PlainMem) (xs : List PlainMem) (m : ℕ) → dram_number (x ∷ xs) (suc m) ≡ cond (is_on_dram x) 1 0 + dram_number xs m
dram_cons x xs m = sum_by-cons (λ y. cond (is_on_dram y) 1 0) x (take m xs)

abbrev pub dram_ports : List PlainMem → List PlainPort
dram_ports l = map port_of (filter (λ (m : PlainMem). is_dram m.kind) l)

pub dram_at : (l : List PlainMem) (m : ℕ) → m < length l → is_dram (slice_index_or l m no_mem).kind ≡ true → (slice_index_or (dram_ports l) (dram_number l m) core_tree.no_port ≡ port_of (slice_index_or l m no_mem)) × (dram_number l m < length (dram_ports l))
dram_at [] m lt d = absurd (omega arith)
dram_at (x ∷ l) zero lt d =
    let e : dram_ports (x ∷ l) ≡ port_of x ∷ dram_ports l = ap (λ b. map port_of (cond b (x ∷ filter (λ (m : PlainMem). is_dram m.kind) l) (filter (λ (m : PlainMem). is_dram m.kind) l))) d in
    (ap (λ y. slice_index_or y 0 core_tree.no_port) e, omega (arith, ap length e))
dram_at (x ∷ l) (suc m) lt d =
    let rest = dram_at l m (omega arith) d in
    either (is_dram x.kind)
    (λ f. let e : dram_ports (x ∷ l) ≡ port_of x ∷ dram_ports l = ap (λ b. map port_of (cond b (x ∷ filter (λ (m : PlainMem). is_dram m.kind) l) (filter (λ (m : PlainMem). is_dram m.kind) l))) f in
    let n : dram_number (x ∷ l) (suc m) ≡ suc (dram_number l m) = dram_cons x l m ∙ ap (λ b. cond b 1 0 + dram_number l m) f ∙ omega arith in
    (ap (λ y. slice_index_or y (dram_number (x ∷ l) (suc m)) core_tree.no_port) e ∙ ap (λ k. slice_index_or (port_of x ∷ dram_ports l) k core_tree.no_port) n ∙ rest.0, omega (arith, ap length e, n, rest.1)))
    (λ f. let e : dram_ports (x ∷ l) ≡ dram_ports l = ap (λ b. map port_of (cond b (x ∷ filter (λ (m : PlainMem). is_dram m.kind) l) (filter (λ (m : PlainMem). is_dram m.kind) l))) f in
    let n : dram_number (x ∷ l) (suc m) ≡ dram_number l m = dram_cons x l m ∙ ap (λ b. cond b 1 0 + dram_number l m) f ∙ omega arith in
    (ap (λ y. slice_index_or y (dram_number (x ∷ l) (suc m)) core_tree.no_port) e ∙ ap (λ k. slice_index_or (dram_ports l) k core_tree.no_port) n ∙ rest.0, omega (arith, ap length e, n, rest.1)))

-- stages of lane 0 alone
abbrev pub InLaneZero : PlainStages → Type 0
InLaneZero no_stage = Unit {0}
InLaneZero (more_stage first last comb x rest) = (first ≡ 0) × (last ≡ 0) × InLaneZero rest

stage_count : PlainStages → ℕ
stage_count no_stage = 0
stage_count (more_stage first last comb x rest) = suc (stage_count rest)

zeros_alone : (xs : PlainStages) → InLaneZero xs → (single_lanes xs ≡ replicate (stage_count xs) 0) × (after_singles xs ≡ no_stage)
unfolding stage_count
zeros_alone no_stage z = (refl, refl)
zeros_alone (more_stage first last comb x rest) z =
    let same : (first == last) ≡ true = eq-eqb first last (z.0 ∙ sym z.1) in
    let others = zeros_alone rest z.2 in (
      ap (λ b. elim b as (λ _. List ℕ) [ true ↦ first ∷ single_lanes rest | false ↦ [] ]) same ∙ ap (λ n. n ∷ single_lanes rest) z.0 ∙ ap (λ l. 0 ∷ l) others.0,
      ap (λ b. elim b as (λ _. PlainStages) [ true ↦ after_singles rest | false ↦ more_stage first last comb x rest ]) same ∙ others.1,
    )

all_zero : (n lanes : ℕ) → 1 ≤ lanes → list_all (λ l. nat_lt l lanes) (replicate n 0) ≡ true
all_zero zero lanes le = refl
all_zero (suc n) lanes le = and_from _ _ (lt-ltb 0 lanes (omega arith)) (all_zero n lanes le)

zeros_counted : (n : ℕ) → count_zeros (replicate n 0) ≡ n
zeros_counted zero = refl
zeros_counted (suc n) = omega (arith, zeros_counted n)

by_lane : (n i j : ℕ) → i + j ≡ n → are_lane_by_lane n i (replicate j 0) ≡ true
by_lane n i zero e = eq-eqb (i % n) 0 (ap (λ k. k % n) {x = i} {y = n} (omega (arith, e)) ∙ mod_self n)
by_lane n i (suc j) e = and_from _ _ (eq-eqb 0 (i / n) (sym (div-eq_of_lt (omega (arith, e))))) (by_lane n (i + 1) j (omega (arith, e)))

pub lanes_right : (lanes : ℕ) (xs : PlainStages) → InLaneZero xs → are_stages xs ≡ true → 1 ≤ lanes → are_lanes_right lanes xs ≡ true
lanes_right lanes xs z some le =
    let all = zeros_alone xs z in
    let n : ℕ = stage_count xs in
    and_from _ _ (and_from _ _ some (subst (λ l. list_all (λ l. nat_lt l lanes) l ≡ true) (sym all.0) (all_zero n lanes le)))
    (and_from _ _ (or_right (is_no_lane (single_lanes xs)) (are_lane_by_lane (count_zeros (single_lanes xs)) 0 (single_lanes xs))
    (subst (λ l. are_lane_by_lane (count_zeros l) 0 l ≡ true) (sym all.0) (subst (λ k. are_lane_by_lane k 0 (replicate n 0) ≡ true) (sym (zeros_counted n)) (by_lane n 0 n (omega arith)))))
    (subst (λ l. is_of_all_lanes lanes l ≡ true) (sym all.1) refl))
