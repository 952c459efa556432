-- The core of a program is one.
use Rattle.std.proofs.Common.{◌≡◌, ℕ, zero, suc, ◌+◌, ◌<◌, ◌≤◌, Bool, true, false, not, List, [], ◌∷◌, ◌++◌, refl, ◌∙◌, ap, subst, arith, nat_lt}
use Rattle.std.proofs.lemmas.Bool.{and_from, or_left, lt-ltb, ltb-true, ltb-false, false≢true, true≢false, not-true}
use Rattle.std.specs.Prelude.{length, Contains}
use Rattle.sp_words.specs.declared.kind.Kind.{Kind}
use Rattle.sp_words.specs.declared.kind.Kind.TheVariants.{Reg, Sram, Fifo, LineBuf, Dram, ArgIn, ArgOut}
use Rattle.sp_words.specs.declared.kind.Style.TheVariants.{Pipe}
use Rattle.sp_words.specs.Ports.{PlainPorts}
use Rattle.sp_tree.specs.Counts.{is_port, lanes_in}
use Rattle.sp_tree.specs.Expressions as expressions
use Rattle.sp_tree.specs.Invariant.{IsProgram, outer_scope, port_numbers}
use Rattle.sp_tree.specs.Meaning.{numbers_of, is_dram}
use Rattle.sp_tree.specs.PlainProgram.{PlainProgram}
use Rattle.sp_tree.specs.Structure.{depth, mems_declared, is_inner}
use Rattle.sp_core.specs.Around.{nothing as nowhere, within, is_port_kind, is_usable}
use Rattle.sp_core.specs.Declarations.{mem}
use Rattle.sp_core.specs.Invariant.{IsCore}
use Rattle.sp_core.specs.PlainCore as core_tree
use Rattle.sp_core.specs.PlainCore.{PlainCore}
use Rattle.sp_sugar.specs.Agreement.{HasMemories}
use Rattle.sp_sugar.specs.Core.{core_of}
use Rattle.sp_sugar.specs.Numbers.{is_off_dram, mem_number, written_mems}
use Rattle.sp_sugar.specs.Registers.{registers, registers_in}
use Rattle.sp_sugar.specs.Rules.{MayNeed}
use Rattle.sp_sugar.specs.Runs.{no_run}
use Rattle.sp_sugar.specs.Stages.{nothing, stages}
use Rattle.sp_sugar.specs.Uses.{no_more}
use Rattle.sp_sugar.specs.Values.{no_sources}
use Rattle.sp_sugar.proofs.Declared.{memories_right}
use Rattle.sp_sugar.proofs.PortNames.{ports_right}
use Rattle.sp_sugar.proofs.Entering.{Chips, within_need}
use Rattle.sp_sugar.proofs.MemoryLemmas.{chip_exists, chip_mem}
use Rattle.sp_sugar.proofs.NodeParts.{dram_ports}
use Rattle.sp_sugar.proofs.NodeSteps.{inside_of, enter, body_right, placed_outer, no_loops}
use Rattle.sp_sugar.proofs.NodeWalk.{stages_right}
use Rattle.sp_sugar.proofs.NumberLemmas.{either}
use Rattle.sp_sugar.proofs.OwnerCounts.{one_if, count_of, count_append}
use Rattle.sp_sugar.proofs.Owners.{one_owner, declared_is, off_dram, self_count, later_count, port_count, below_out}
use Rattle.sp_sugar.proofs.Placed.{Placed, placed_right}
use Rattle.sp_sugar.proofs.RightNodes.{NodesRight, right_from}
use Rattle.sp_sugar.proofs.Small.{core_is_small}
use Rattle.sp_sugar.proofs.UseLemmas.{used, only}

pub contains_count : (xs : List ℕ) (m : ℕ) → Contains xs m → 1 ≤ count_of m xs
contains_count [] m c = absurd (omega (arith, c.1))
contains_count (x ∷ xs) m (zero, lt, e) = subst (λ y. 1 ≤ count_of y (x ∷ xs)) e (self_count x xs)
contains_count (x ∷ xs) m (suc j, lt, e) = later_count m x xs (contains_count xs m (j, omega arith, e))

port_used : (k : Kind) → is_port k ≡ true → is_dram k ≡ false → is_port_kind k ≡ true
port_used Reg e d = absurd (false≢true e)
port_used Sram e d = absurd (false≢true e)
port_used Fifo e d = absurd (false≢true e)
port_used LineBuf e d = absurd (false≢true e)
port_used Dram e d = absurd (true≢false d)
port_used ArgIn e d = refl
port_used ArgOut e d = refl

module _ (p : PlainProgram) (h : IsProgram p) where
  has_memories : HasMemories p (core_of p)
  unfolding core_of
  has_memories = record { declared = h.declarations; others = registers_in p.body no_more; mems = refl; ports = refl }

  has_drams : (core_of p).ports.drams ≡ dram_ports p.mems
  unfolding core_of
  has_drams = ap (λ (x : PlainPorts). x.drams) h.ports

  pub port_is : (m : ℕ) → Contains (port_numbers p) m → (m < length p.mems) × (is_port (expressions.mem p.mems m).kind ≡ true)
  port_is m c =
      let n : 1 ≤ count_of m (numbers_of is_port 0 p.mems) = contains_count (port_numbers p) m c in
      either (nat_lt m (length p.mems))
      (λ e. let lt : m < length p.mems = ltb-true m (length p.mems) e in
      (lt, counted (is_port (expressions.mem p.mems m).kind) (subst (λ k. 1 ≤ k) (port_count is_port p.mems 0 m m lt (omega arith)) n)))
      (λ e. let le : length p.mems ≤ m = ltb-false m (length p.mems) e in
      let f : count_of m (numbers_of is_port 0 p.mems ++ mems_declared p.body) ≡ 0 = ap (count_of m) h.mem_numbers ∙ below_out m (length p.mems) le in
      absurd (omega (arith, n, f, count_append m (numbers_of is_port 0 p.mems) (mems_declared p.body))))
    where
      counted : (b : Bool) → 1 ≤ one_if b → b ≡ true
      counted true f = refl
      counted false f = absurd (omega (arith, f))

  port_usable : (m : ℕ) → Contains (port_numbers p) m → is_off_dram (expressions.mem p.mems m) ≡ true → (m < length p.mems) × (is_usable (core_of p) nowhere (mem_number p.mems m) ≡ true)
  port_usable m c off =
      let x = port_is m c in (
        x.0,
        and_from _ _ (lt-ltb (mem_number p.mems m) (length (core_of p).mems) (chip_exists p (core_of p) has_memories m x.0 off))
            (or_left (is_port_kind (mem (core_of p) (mem_number p.mems m)).kind) false
            (ap (λ (y : core_tree.PlainMem). is_port_kind y.kind) (chip_mem p (core_of p) has_memories m x.0 off) ∙ port_used (expressions.mem p.mems m).kind x.1 (not-true (is_dram (expressions.mem p.mems m).kind) off))),
      )

  start_need : MayNeed (core_of p) nowhere p (outer_scope p) no_sources (λ v. used (only v) p.body no_more)
  start_need = record { mems = port_usable; vals = λ v c u. absurd (omega (arith, c.1)); counters = λ k c. absurd (omega (arith, c.1)) }

  body_chips : Chips p (core_of p) has_memories (mems_declared p.body)
  body_chips m c = let d = declared_is p h m (contains_count (mems_declared p.body) m c) in (d.0, off_dram p h m d.1)

  abbrev first : ℕ
  first = length (written_mems p.mems)

  body_placed : Placed (core_of p) first (registers_in p.body no_more)
  unfolding core_of
  body_placed = subst (λ k. Placed (core_of p) k (registers_in p.body no_more)) {x = 0 + length (written_mems p.mems)} {y = length (written_mems p.mems)} (omega arith)
      (placed_right (core_of p) 0 (written_mems p.mems) (registers_in p.body no_more)
      (record { within = omega arith; each = λ j lt. ap (λ k. mem (core_of p) k) {x = 0 + j} {y = j} (omega arith) }))

  inside_need : (owned : List ℕ) → MayNeed (core_of p) (within nowhere [] owned) p (outer_scope p) no_sources (λ v. used (only v) p.body no_more)
  inside_need owned = within_need p (core_of p) has_memories nowhere (outer_scope p) no_sources (λ v. used (only v) p.body no_more) (λ v. used (only v) p.body no_more) [] [] owned (omega arith) refl (λ v u. u) start_need

  nodes_right : NodesRight (core_of p) nowhere (core_of p).root
  unfolding core_of
  nodes_right =
      let d : depth p.body ≤ 64 = h.nested in
      let w : lanes_in p.body 1 ≤ 16 = h.limits.lanes in
      body_right p (core_of p) has_memories has_drams nowhere (outer_scope p) no_sources first [] p.body no_more inside_need h.typed body_chips Pipe nothing (stages p.mems (length p.counters) (no_run no_sources) first p.body no_more nothing)
      (no_loops p (core_of p) has_memories has_drams nowhere (omega arith)) (omega arith) (λ v u. u) (λ owned. tt)
      (λ i. let r = stages_right p (core_of p) has_memories has_drams p.body no_more nothing (inside_of p (core_of p) has_memories has_drams nowhere (outer_scope p) no_sources first [] p.body no_more inside_need h.typed body_chips) (outer_scope p) (no_run no_sources) first 1
      (enter p (core_of p) has_memories has_drams nowhere (outer_scope p) no_sources first [] p.body no_more inside_need h.typed body_chips 1 (placed_outer p (core_of p) has_memories has_drams first p.body (registers p.body no_more) i body_placed) (omega (arith, d)) w (omega arith)) tt in
      (r.0, r.1 (or_left (not (is_inner p.body)) false (ap not i))))

  pub core_is_right : IsCore (core_of p)
  core_is_right =
      let owners = one_owner p h in
      record {
        memories = memories_right p h;
        ports = ports_right p h;
        owners = owners.1;
        size = core_is_small p h;
        nodes = right_from (core_of p) (core_of p).root nowhere [] nodes_right owners.0;
      }
