-- The memories and ports of lanes keep the rules of cores.
use Rattle.std.proofs.Common.{◌≡◌, ℕ, zero, suc, ◌+◌, ◌<◌, ◌≤◌, Bool, true, false, not, ◌&&◌, ◌||◌, List, [], ◌∷◌, ◌++◌, length, map, refl, sym, ◌∙◌, ap, subst, arith, ◌⊎◌, inl, inr, ◌==◌, nat_lt}
use Rattle.std.proofs.lemmas.Bool.{eq-eqb, and_parts, and_from, true≢false, lt-ltb, ltb-true, cases_lt}
use Rattle.std.proofs.lemmas.Bool.Decides.{eqb_tells}
use Rattle.std.proofs.lemmas.List.{append_assoc, length-map}
use Rattle.std.proofs.lemmas.List.Folds.{list_all-append, list_all-map}
use Rattle.std.specs.List.{list_all}
use Rattle.std.specs.Prelude.{filter, slice_index_or}
use Rattle.sp_words.specs.declared.kind.Kind.{Kind}
use Rattle.sp_words.specs.declared.kind.Kind.TheVariants.{Reg, Sram, Fifo, LineBuf, Dram, ArgIn, ArgOut}
use Rattle.sp_core.specs.Around.{Around, nothing, within, is_port_kind}
use Rattle.sp_core.specs.Declarations.{mem, is_among}
use Rattle.sp_core.specs.Elements.{numbers_below}
use Rattle.sp_core.specs.Invariant.{IsRight, AreRight, owned_in, owned_in_stages, has_owner, have_owners}
use Rattle.sp_core.specs.Meaning.{is_arg, is_out}
use Rattle.sp_core.specs.MemoryRules.{is_mem_right, is_dram_right, are_ports_of, are_port_names, names_of}
use Rattle.sp_core.specs.NodeRules.{with_state, is_owned_once, is_node_right}
use Rattle.sp_core.specs.PlainCore.{PlainMem, PlainNode, PlainStages, inner, outer, fsm, branch, load, store, sparse, no_stage, more_stage, PlainCore, no_mem}
use Rattle.sp_lanes.specs.Order.{is_port, is_written, is_added, placed, memories_in, memories_where, memory_order, occurrence}
use Rattle.sp_lanes.specs.Unrolled.{unrolled}
use Rattle.sp_lane_rules.specs.Copies.{one_if, occurrences}
use Rattle.sp_lane_rules.specs.CopiesRules.{ArePortsWritten, KeepMemoryRules}
use Rattle.sp_lane_rules.proofs.CopiesCounts.{count_append, are_counted, node_kept, node_left, where_left}
use Rattle.sp_lane_rules.proofs.CopiesFound.{are_declared}
use Rattle.sp_lane_rules.proofs.CopiesOwned.{once_valid, have_owners as copies_owned}
use Rattle.sp_lane_rules.proofs.CopiesOwners.{among_count, no_copies}
use Rattle.sp_lane_rules.proofs.CopiesPortOrder.{filter_append, filter_map, filter_none, filter_twice, listed, numbers_rise, owned_rise, base_past, base_free}

-- memories are owned once in the whole core, as each node keeps the rule
module _ (core : PlainCore) where
  join_once : (earlier xs ys : List ℕ) → is_owned_once core earlier xs ≡ true → is_owned_once core (earlier ++ xs) ys ≡ true → is_owned_once core earlier (xs ++ ys) ≡ true
  join_once earlier [] ys a b = subst (λ l. is_owned_once core l ys ≡ true) (append_none earlier) b
    where
      append_none : (xs : List ℕ) → xs ++ [] ≡ xs
      append_none [] = refl
      append_none (x ∷ xs) = ap (λ l. x ∷ l) (append_none xs)
  join_once earlier (m ∷ xs) ys a b =
      let h = and_parts ((nat_lt m (length core.mems) && not (is_port_kind (mem core m).kind)) && not (is_among m earlier)) (is_owned_once core (earlier ++ m ∷ []) xs) a in
      and_from _ _ h.0 (join_once (earlier ++ m ∷ []) xs ys h.1 (subst (λ l. is_owned_once core l ys ≡ true) (sym (append_assoc earlier (m ∷ []) xs)) b))

  mutual
    pub node_once : (node : PlainNode) (around : Around) (earlier : List ℕ) → IsRight core around earlier node → is_owned_once core earlier (owned_in node) ≡ true
    node_once (inner counters owned ops comb) around earlier r = (and_parts (is_node_right core around (inner counters owned ops comb)) (is_owned_once core earlier owned) r).1
    node_once (outer counters style owned stages) around earlier r =
        join_once earlier owned (owned_in_stages stages) (and_parts (is_node_right core around (outer counters style owned stages)) (is_owned_once core earlier owned) r.0).1
        (stages_once stages (within around counters owned) (earlier ++ owned) r.1)
    node_once (fsm start state test body next) around earlier r =
        join_once earlier (state ∷ []) (owned_in body) (and_parts (is_node_right core around (fsm start state test body next)) (is_owned_once core earlier (state ∷ [])) r.0).1
        (node_once body (with_state core around state) (earlier ++ state ∷ []) r.1)
    node_once (branch test first second) around earlier r =
        join_once earlier (owned_in first) (owned_in second) (node_once first around earlier r.1) (node_once second around (earlier ++ owned_in first) r.2)
    node_once (load d m spans) around earlier r = refl
    node_once (store d m spans) around earlier r = refl
    node_once (sparse kind d m index spans count par) around earlier r = refl

    stages_once : (stages : PlainStages) (around : Around) (earlier : List ℕ) → AreRight core around earlier stages → is_owned_once core earlier (owned_in_stages stages) ≡ true
    stages_once no_stage around earlier r = refl
    stages_once (more_stage first last comb node rest) around earlier r =
        join_once earlier (owned_in node) (owned_in_stages rest) (node_once node around earlier r.0) (stages_once rest around (earlier ++ owned_in node) r.1)

-- tests of each element of a list
all_at : {A : Type 0} (p : A → Bool) (xs : List A) (i : ℕ) (d : A) → list_all p xs ≡ true → i < length xs → p (slice_index_or xs i d) ≡ true
all_at p [] i d h lt = absurd (omega arith)
all_at p (x ∷ xs) zero d h lt = (and_parts (p x) (list_all p xs) h).0
all_at p (x ∷ xs) (suc i) d h lt = all_at p xs i d (and_parts (p x) (list_all p xs) h).1 (omega arith)

all_counted : (p : ℕ → Bool) (xs : List ℕ) → ((m : ℕ) → 1 ≤ occurrences m xs → p m ≡ true) → list_all p xs ≡ true
all_counted p [] h = refl
all_counted p (x ∷ xs) h = and_from _ _ (h x (let e : one_if (x == x) ≡ 1 = ap one_if (eq-eqb x x refl) in omega (arith, e))) (all_counted p xs (λ m c. h m (omega arith)))

all_below : (f : ℕ → Bool) (n : ℕ) → ((k : ℕ) → k < n → f k ≡ true) → list_all f (numbers_below n) ≡ true
all_below f zero h = refl
all_below f (suc n) h = list_all-append f (numbers_below n) (n ∷ []) ∙ and_from _ _ (all_below f n (λ k lt. h k (omega arith))) (and_from _ _ (h n (omega arith)) refl)

pub count_among : (m : ℕ) (xs : List ℕ) → is_among m xs ≡ true → 1 ≤ occurrences m xs
count_among m [] e = absurd (true≢false (sym e))
count_among m (x ∷ xs) e = elim (eqb_tells m x) [
  | inl same ↦ let g : one_if (x == m) ≡ 1 = ap one_if (eq-eqb x m (sym same.1)) in omega (arith, g)
  | inr apart ↦ let g : 1 ≤ occurrences m xs = count_among m xs (ap (λ b. b || is_among m xs) (sym apart.0) ∙ e) in omega (arith, g)
]

from_counts : (c : PlainCore) (earlier xs : List ℕ) → ((k : ℕ) → occurrences k (earlier ++ xs) ≤ 1) → ((k : ℕ) → 1 ≤ occurrences k xs → (k < length c.mems) × (is_port c k ≡ false)) → is_owned_once c earlier xs ≡ true
from_counts c earlier [] most valid = refl
from_counts c earlier (m ∷ rest) most valid =
    let self : 1 ≤ occurrences m (m ∷ rest) = (let e : one_if (m == m) ≡ 1 = ap one_if (eq-eqb m m refl) in omega (arith, e)) in
    let here = valid m self in
    and_from _ _ (and_from _ _ (and_from _ _ (lt-ltb m (length c.mems) here.0) (ap not here.1)) (not_there (is_among m earlier) (λ e. crowded (occurrences m earlier) (occurrences m (m ∷ rest)) (occurrences m (earlier ++ m ∷ rest)) (count_among m earlier e) self (most m) (count_append m earlier (m ∷ rest)))))
    (from_counts c (earlier ++ m ∷ []) rest (λ k. subst (λ xs. occurrences k xs ≤ 1) (sym (append_assoc earlier (m ∷ []) rest)) (most k)) (λ k e. valid k (omega arith)))
  where
    not_there : (b : Bool) → (b ≡ true → ⊥) → not b ≡ true
    not_there true h = absurd (h refl)
    not_there false h = refl

    crowded : (a b t : ℕ) → 1 ≤ a → 1 ≤ b → t ≤ 1 → t ≡ a + b → ⊥
    crowded a b t x y le e = omega (arith, e)

-- kinds of ports
arg_is_port : (k : Kind) → is_arg k ≡ true → is_port_kind k ≡ true
arg_is_port Reg e = absurd (true≢false (sym e))
arg_is_port Sram e = absurd (true≢false (sym e))
arg_is_port Fifo e = absurd (true≢false (sym e))
arg_is_port LineBuf e = absurd (true≢false (sym e))
arg_is_port Dram e = absurd (true≢false (sym e))
arg_is_port ArgIn e = refl
arg_is_port ArgOut e = refl

out_is_port : (k : Kind) → is_out k ≡ true → is_port_kind k ≡ true
out_is_port Reg e = absurd (true≢false (sym e))
out_is_port Sram e = absurd (true≢false (sym e))
out_is_port Fifo e = absurd (true≢false (sym e))
out_is_port LineBuf e = absurd (true≢false (sym e))
out_is_port Dram e = absurd (true≢false (sym e))
out_is_port ArgIn e = refl
out_is_port ArgOut e = refl

module _ (core : PlainCore) (once : is_owned_once core [] (owned_in core.root) ≡ true) where
  zero_or_more : (n : ℕ) → (n ≡ 0) ⊎ (1 ≤ n)
  zero_or_more zero = inl refl
  zero_or_more (suc n) = inr (omega arith)

  -- what stands in the order is a memory
  pub in_order : (m : ℕ) → 1 ≤ occurrences m (memory_order core) → m < length core.mems
  in_order m c = elim (zero_or_more (occurrences m (owned_in core.root))) [
    | inr some ↦ (once_valid core [] (owned_in core.root) m once some).0
    | inl none ↦ by (is_port core m) (nat_lt m (length core.mems)) refl (omega (arith, c, are_counted core m, no_copies m core.root none))
  ]
    where
      by : (p b : Bool) → nat_lt m (length core.mems) ≡ b → 1 ≤ one_if (p && b) → m < length core.mems
      by true true e l = ltb-true m (length core.mems) e
      by true false e l = absurd (omega arith)
      by false b e l = absurd (omega arith)

  -- the ports of a kind stand in their order
  module _ (is : Kind → Bool) (are : (k : Kind) → is k ≡ true → is_port_kind k ≡ true) (written : ArePortsWritten core) where
    free_when : (m : ℕ) (b : Bool) → is_port core m ≡ false → is (mem core m).kind ≡ b → b ≡ false
    free_when m true e f = absurd (true≢false (sym (are (mem core m).kind f) ∙ e))
    free_when m false e f = refl

    root_free : filter (λ m. is (mem core m).kind) (memories_in (is_written core) core.root) ≡ []
    root_free = filter_none (λ m. is (mem core m).kind) (memories_in (is_written core) core.root) (λ m c. by m (is_written core m) refl c)
      where
        by : (m : ℕ) (b : Bool) → is_written core m ≡ b → 1 ≤ occurrences m (memories_in (is_written core) core.root) → is (mem core m).kind ≡ false
        by m true e c = elim (zero_or_more (occurrences m (owned_in core.root))) [
          | inr some ↦ free_when m (is (mem core m).kind) (once_valid core [] (owned_in core.root) m once some).1 refl
          | inl none ↦ absurd (omega (arith, c, node_kept (is_written core) m core.root e, no_copies m core.root none))
        ]
        by m false e c = absurd (omega (arith, c, node_left (is_written core) m core.root e))

    added_free : filter (λ m. is (mem core m).kind) (memories_where core (is_added core)) ≡ []
    added_free = filter_none (λ m. is (mem core m).kind) (memories_where core (is_added core)) (λ m c. by m (is (mem core m).kind) refl c)
      where
        by : (m : ℕ) (b : Bool) → is (mem core m).kind ≡ b → 1 ≤ occurrences m (memories_where core (is_added core)) → b ≡ false
        by m true e c = absurd (omega (arith, c, where_left core (is_added core) m (ap not (written m (are (mem core m).kind e)))))
        by m false e c = refl

    ports_in_order : filter (λ m. is (mem core m).kind) (memory_order core) ≡ filter (λ m. is (mem core m).kind) (numbers_below (length core.mems))
    ports_in_order =
        filter_append (λ m. is (mem core m).kind) (memories_where core (is_written core)) (memories_where core (is_added core))
        ∙ ap (λ l. filter (λ m. is (mem core m).kind) (memories_where core (is_written core)) ++ l) added_free
        ∙ append_none (filter (λ m. is (mem core m).kind) (memories_where core (is_written core)))
        ∙ (owned_rise (λ m. is (mem core m).kind) (is_written core) (λ m e. written m (are (mem core m).kind e)) (filter (is_port core) (numbers_below (length core.mems))) (placed (memories_in (is_written core) core.root) [])
        (base_past (λ m. is (mem core m).kind) (is_written core) (λ m e. written m (are (mem core m).kind e)) (memories_in (is_written core) core.root) root_free)
        (base_free (λ m. is (mem core m).kind) (is_written core) (λ m e. written m (are (mem core m).kind e)) (memories_in (is_written core) core.root) root_free)
        (numbers_rise (is_port core) (length core.mems)).0).0
        ∙ filter_twice (λ m. is (mem core m).kind) (is_port core) (λ m e. are (mem core m).kind e) (numbers_below (length core.mems))
      where
        append_none : (xs : List ℕ) → xs ++ [] ≡ xs
        append_none [] = refl
        append_none (x ∷ xs) = ap (λ l. x ∷ l) (append_none xs)

    pub ports_kept : filter (λ (m : PlainMem). is m.kind) (map (mem core) (memory_order core)) ≡ filter (λ (m : PlainMem). is m.kind) core.mems
    ports_kept =
        filter_map (λ (m : PlainMem). is m.kind) (mem core) (memory_order core) ∙ ap (map (mem core)) ports_in_order
        ∙ sym (filter_map (λ (m : PlainMem). is m.kind) (mem core) (numbers_below (length core.mems))) ∙ ap (filter (λ (m : PlainMem). is m.kind)) (listed core.mems no_mem)

abbrev HaveCounts : PlainCore → Type 0
HaveCounts core =
    ((m k : ℕ) → k < occurrences m (memory_order core) → occurrences (occurrence m k (memory_order core)) (owned_in (unrolled core).root) ≡ one_if (not (is_port core m)))
    × ((i : ℕ) → length (memory_order core) ≤ i → occurrences i (owned_in (unrolled core).root) ≡ 0)

pub keep_memory_rules : (core : PlainCore) → KeepMemoryRules core
unfolding unrolled
keep_memory_rules core h lanes written = (memories, ports, owners, from_counts (unrolled core) [] (owned_in (unrolled core).root) most valid)
  where
    once : is_owned_once core [] (owned_in core.root) ≡ true
    once = node_once core core.root nothing [] h.nodes

    memories : (list_all is_mem_right (map (mem core) (memory_order core)) && list_all is_dram_right core.ports.drams) ≡ true
    memories =
        let a = and_parts (list_all is_mem_right core.mems) (list_all is_dram_right core.ports.drams) h.memories in
        and_from _ _ (list_all-map is_mem_right (mem core) (memory_order core) ∙ all_counted (λ m. is_mem_right (mem core m)) (memory_order core) (λ m c. all_at is_mem_right core.mems m no_mem a.0 (in_order core once m c))) a.1

    ports : ((are_port_names (names_of core.ports.args) && (are_port_names (names_of core.ports.outs) && are_port_names (names_of core.ports.drams)))
        && (are_ports_of core.ports.args (filter (λ (m : PlainMem). is_arg m.kind) (map (mem core) (memory_order core))) && are_ports_of core.ports.outs (filter (λ (m : PlainMem). is_out m.kind) (map (mem core) (memory_order core))))) ≡ true
    ports =
        ap (λ (xs : List PlainMem). (are_port_names (names_of core.ports.args) && (are_port_names (names_of core.ports.outs) && are_port_names (names_of core.ports.drams)))
        && (are_ports_of core.ports.args xs && are_ports_of core.ports.outs (filter (λ (m : PlainMem). is_out m.kind) (map (mem core) (memory_order core))))) (ports_kept core once is_arg arg_is_port written)
        ∙ ap (λ (ys : List PlainMem). (are_port_names (names_of core.ports.args) && (are_port_names (names_of core.ports.outs) && are_port_names (names_of core.ports.drams)))
        && (are_ports_of core.ports.args (filter (λ (m : PlainMem). is_arg m.kind) core.mems) && are_ports_of core.ports.outs ys)) (ports_kept core once is_out out_is_port written)
        ∙ h.ports

    counts : HaveCounts core
    counts = (copies_owned core) once lanes

    same_length : length (map (mem core) (memory_order core)) ≡ length (memory_order core)
    same_length = length-map (memory_order core) (mem core)

    -- a memory of lanes is a copy of one, which tells how it is declared and how often it is owned
    Copied : ℕ → Type 0
    Copied i = (m : ℕ) × (occurrences i (owned_in (unrolled core).root) ≡ one_if (not (is_port core m))) × (is_port (unrolled core) i ≡ is_port core m)

    copied : (i : ℕ) → i < length (map (mem core) (memory_order core)) → Copied i
    copied i lt =
        let f = (are_declared core).1 i lt in (
          f.0,
          subst (λ n. occurrences n (owned_in (unrolled core).root) ≡ one_if (not (is_port core f.0))) f.3 (counts.0 f.0 f.1 f.2),
          ap (λ n. is_port_kind (mem (unrolled core) n).kind) (sym f.3) ∙ ap (λ (x : PlainMem). is_port_kind x.kind) ((are_declared core).0 f.0 f.1 f.2).1,
        )

    one_at_most : (b : Bool) → one_if b ≤ 1
    one_at_most true = omega arith
    one_at_most false = omega arith

    not_a_port : (b : Bool) → 1 ≤ one_if (not b) → b ≡ false
    not_a_port true c = absurd (omega arith)
    not_a_port false c = refl

    past : (i : ℕ) → length (map (mem core) (memory_order core)) ≤ i → occurrences i (owned_in (unrolled core).root) ≡ 0
    past i le = counts.1 i (subst (λ n. n ≤ i) same_length le)

    most : (i : ℕ) → occurrences i (owned_in (unrolled core).root) ≤ 1
    most i = elim (cases_lt i (length (map (mem core) (memory_order core)))) [
      | inl lt ↦ (let f : Copied i = copied i lt in omega (arith, f.1, one_at_most (not (is_port core f.0))))
      | inr le ↦ omega (arith, past i le)
    ]

    valid : (i : ℕ) → 1 ≤ occurrences i (owned_in (unrolled core).root) → (i < length (map (mem core) (memory_order core))) × (is_port (unrolled core) i ≡ false)
    valid i c = elim (cases_lt i (length (map (mem core) (memory_order core)))) [
      | inl lt ↦ (let f : Copied i = copied i lt in (lt, f.2 ∙ not_a_port (is_port core f.0) (omega (arith, c, f.1))))
      | inr le ↦ absurd (omega (arith, c, past i le))
    ]

    owners : have_owners (unrolled core) ≡ true
    owners = all_below (has_owner (unrolled core)) (length (map (mem core) (memory_order core))) (λ i lt. by i (is_port (unrolled core) i) refl (copied i lt))
      where
        by : (i : ℕ) (b : Bool) → is_port (unrolled core) i ≡ b → Copied i → (b || is_among i (owned_in (unrolled core).root)) ≡ true
        by i true e f = refl
        by i false e f = among_count i (owned_in (unrolled core).root) (omega (arith, f.1, ap (λ b. one_if (not b)) (sym f.2 ∙ e)))
