-- Transfers keep the rules of nodes.
use Rattle.std.proofs.Common.{◌≡◌, ℕ, zero, suc, ◌+◌, ◌<◌, ◌≤◌, Bool, true, false, not, ◌&&◌, ◌||◌, List, [], ◌∷◌, Some, None, refl, sym, ◌∙◌, ap, subst, arith, ◌==◌, nat_lt, if◌then◌else◌}
use Rattle.std.proofs.lemmas.Bool.{and_from, eq-eqb, eqb-true, lt-ltb, ltb-true, ltb-false, le-leb, or_left, or_right, true≢false}
use Rattle.std.proofs.lemmas.Nat.{mul-le}
use Rattle.std.specs.Prelude.{length, slice_index_or}
use Rattle.sp_words.specs.declared.kind.Kind.TheVariants.{Sram, LineBuf, Dram}
use Rattle.sp_words.specs.declared.types.Ty.{Ty}
use Rattle.sp_words.specs.Ports.{PlainPort}
use Rattle.sp_words.specs.Types.{int_type}
use Rattle.sp_tree.specs.Expressions as expressions
use Rattle.sp_tree.specs.Invariant.{port_of}
use Rattle.sp_tree.specs.Meaning.{is_dram}
use Rattle.sp_tree.specs.PlainExpression.{PlainExpr, PlainExprKind, expr, literal, counter, value, get_reg, get_arg, get_sram, get_line, deq, one, two, shift, mux, cast}
use Rattle.sp_tree.specs.PlainProgram.{PlainMem, PlainProgram, no_mem}
use Rattle.sp_tree.specs.PlainStatement.{PlainSpan, single, range}
use Rattle.sp_tree.specs.Structure.{slice_lanes}
use Rattle.sp_tree.specs.Tallies.{tally, kind_tally, slice_tally}
use Rattle.sp_tree.specs.Typing as typing
use Rattle.sp_tree.specs.Typing.{Scope, IsMem, IsSlice, IsSparse, SpansTyped, EndsInRange}
use Rattle.sp_core.specs.declared.node.SparseKind.TheVariants.{WideLoad, WideStore}
use Rattle.sp_core.specs.Around.{Around, is_usable}
use Rattle.sp_core.specs.Declarations.{mem, dram}
use Rattle.sp_core.specs.NodeRules as node_rules
use Rattle.sp_core.specs.NodeRules.{is_slice_right, is_sram_here, fits_sram, fits_line, is_sram, is_line, are_places, is_pick_right, is_node_right}
use Rattle.sp_core.specs.PlainCore as core_tree
use Rattle.sp_core.specs.PlainCore.{PlainCore}
use Rattle.sp_core.specs.Typed.{is_type}
use Rattle.sp_sugar.specs.Agreement.{HasMemories}
use Rattle.sp_sugar.specs.Early.{parts_of, is_early, is_early_slice, is_early_part, registers_for, from_register, spans_of}
use Rattle.sp_sugar.specs.Numbers.{is_off_dram, mem_number, dram_number, written_mem}
use Rattle.sp_sugar.specs.Rules.{IsRegister, MayNeed}
use Rattle.sp_sugar.specs.Stages.{load_node, store_node}
use Rattle.sp_sugar.specs.Uses.{uses, spans_use}
use Rattle.sp_sugar.specs.Values.{Sources}
use Rattle.sp_sugar.proofs.KeepLemmas.{type_is}
use Rattle.sp_sugar.proofs.MemoryLemmas.{chip_mem}
use Rattle.sp_sugar.proofs.NodeParts.{Quiet, dram_ports, dram_at, spans_right, spans_length, spans_ranges, spans_end, count_right}
use Rattle.sp_sugar.proofs.NumberLemmas.{either}
use Rattle.sp_sugar.proofs.UseLemmas.{only}

-- an expression without an operation reads nothing
no_reads : (k : PlainExprKind) → (kind_tally k).operations ≡ 0 → (kind_tally k).arrays ≡ false
no_reads (literal w) e = refl
no_reads (counter c) e = refl
no_reads (value v) e = refl
no_reads (get_reg m) e = refl
no_reads (get_arg m) e = refl
no_reads (get_sram m is) e = absurd (omega (arith, e))
no_reads (get_line m r c) e = absurd (omega (arith, e))
no_reads (deq m) e = refl
no_reads (one op a) e = absurd (omega (arith, e))
no_reads (two op a b) e = absurd (omega (arith, e))
no_reads (shift left a by) e = absurd (omega (arith, e))
no_reads (mux c a b) e = absurd (omega (arith, e))
no_reads (cast a) e = absurd (omega (arith, e))

none_read : (e : PlainExpr) → (tally e).operations ≡ 0 → (tally e).arrays ≡ false
none_read (expr place ty k) e = no_reads k (omega (arith, e))

neither : (a b : Bool) → (a || b) ≡ false → (a ≡ false) × (b ≡ false)
neither true b e = absurd (true≢false e)
neither false b e = (refl, e)

quiet_early : (spans : List PlainSpan) → (crosses : PlainExpr → Bool) → (slice_tally spans).arrays ≡ false → Quiet crosses (parts_of spans)
quiet_early [] crosses e = tt
quiet_early (single x ∷ spans) crosses e = let a = neither (tally x).arrays (slice_tally spans).arrays e in (λ u. a.0, quiet_early spans crosses a.1)
quiet_early (range x y par ∷ spans) crosses e =
    let a = neither ((tally x).arrays || (tally y).arrays) (slice_tally spans).arrays e in
    let b = neither (tally x).arrays (tally y).arrays a.0 in
    (λ u. b.0, (λ u. b.1, quiet_early spans crosses a.1))

quiet_all : (crosses : PlainExpr → Bool) (es : List PlainExpr) → ((e : PlainExpr) → crosses e ≡ false → (tally e).arrays ≡ false) → Quiet crosses es
quiet_all crosses [] f = tt
quiet_all crosses (e ∷ es) f = (f e, quiet_all crosses es f)

pub quiet_parts : (spans : List PlainSpan) → Quiet (is_early_part spans) (parts_of spans)
quiet_parts spans = either (is_early_slice spans)
    (λ s. quiet_all (is_early_part spans) (parts_of spans) (λ e c. none_read e (eqb-true (tally e).operations 0 (positive ((tally e).operations == 0) (ap (λ b. b && not ((tally e).operations == 0)) (sym s) ∙ c)))))
    (λ s. quiet_early spans (is_early_part spans) s)
  where
    positive : (b : Bool) → not b ≡ false → b ≡ true
    positive true e = refl
    positive false e = absurd (true≢false e)

some_lanes_of : (p : PlainProgram) (scope : Scope) (spans : List PlainSpan) → SpansTyped p scope spans → 1 ≤ slice_lanes spans
some_lanes_of p scope [] t = omega arith
some_lanes_of p scope (single e ∷ spans) t = some_lanes_of p scope spans t.1
some_lanes_of p scope (range a b par ∷ spans) t = mul-le 1 1 par (slice_lanes spans) t.2.0 (some_lanes_of p scope spans t.3)

module _ (p : PlainProgram) (core : PlainCore) (h : HasMemories p core) (drams : core.ports.drams ≡ dram_ports p.mems) (around : Around) (scope : Scope) (sources : Sources) (needed : ℕ → Bool) (g : MayNeed core around p scope sources needed) where
  -- a DRAM of the program
  module _ (d : ℕ) (ty : Ty) (is : IsMem p scope d Dram ty) where
    dram_there : d < length p.mems
    dram_there = either (nat_lt d (length p.mems)) (λ e. ltb-true d (length p.mems) e) (λ e. absurd (beyond p.mems d (ltb-false d (length p.mems) e) is.is_kind))
      where
        beyond : (l : List PlainMem) (d : ℕ) → length l ≤ d → (slice_index_or l d no_mem).kind ≡ Dram → ⊥
        beyond [] zero le e = true≢false (sym (ap is_dram e))
        beyond [] (suc d) le e = true≢false (sym (ap is_dram e))
        beyond (x ∷ l) zero le e = absurd (omega arith)
        beyond (x ∷ l) (suc d) le e = beyond l d (omega arith) e

    abbrev number : ℕ
    number = dram_number p.mems d

    dram_at_number : (slice_index_or (dram_ports p.mems) number core_tree.no_port ≡ port_of (slice_index_or p.mems d no_mem)) × (number < length (dram_ports p.mems))
    dram_at_number = dram_at p.mems d dram_there (ap is_dram is.is_kind)

    dram_is : (slice_index_or core.ports.drams number core_tree.no_port).ty ≡ ty
    dram_is = ap (λ l. (slice_index_or l number core_tree.no_port).ty) drams ∙ ap (λ (x : PlainPort). x.ty) dram_at_number.0 ∙ is.is_type

    dram_dims : (slice_index_or core.ports.drams number core_tree.no_port).dims ≡ (expressions.mem p.mems d).dims
    dram_dims = ap (λ l. (slice_index_or l number core_tree.no_port).dims) drams ∙ ap (λ (x : PlainPort). x.dims) dram_at_number.0

    dram_exists : nat_lt number (length core.ports.drams) ≡ true
    dram_exists = lt-ltb number (length core.ports.drams) (omega (arith, ap length drams, dram_at_number.1))

    -- an SRAM of the program, for the words of it
    module _ (m : ℕ) (mem_is : IsMem p scope m Sram ty) where
      off : is_off_dram (expressions.mem p.mems m) ≡ true
      off = ap (λ x. not (is_dram x)) mem_is.is_kind

      there : (m < length p.mems) × (is_usable core around (mem_number p.mems m) ≡ true)
      there = g.mems m mem_is.seen off

      mem_there : mem core (mem_number p.mems m) ≡ written_mem (expressions.mem p.mems m)
      mem_there = chip_mem p core h m there.0 off

      sram_here : is_sram_here core around number (mem_number p.mems m) ≡ true
      sram_here = and_from _ _ (and_from _ _ there.1 (ap (λ (x : core_tree.PlainMem). is_sram x.kind) mem_there ∙ ap is_sram mem_is.is_kind))
          (ap (λ (x : core_tree.PlainMem). is_type x.ty (dram core number).ty) mem_there ∙ ap (λ t. is_type t (dram core number).ty) mem_is.is_type ∙ ap (λ t. is_type ty t) dram_is ∙ type_is ty)

      sram_dims : (mem core (mem_number p.mems m)).dims ≡ (expressions.mem p.mems m).dims
      sram_dims = ap (λ (x : core_tree.PlainMem). x.dims) mem_there

  -- a slice of it
  module _ (d : ℕ) (ty : Ty) (spans : List PlainSpan) (slice : IsSlice p scope d ty spans) (b : ℕ) (regs : (j : ℕ) → b ≤ j → j < b + length (registers_for (is_early_part spans) (parts_of spans)) → IsRegister core around j int_type)
      (f : (v : ℕ) → spans_use (only v) spans ≡ true → needed v ≡ true) where
    abbrev written : List core_tree.PlainSpan
    written = spans_of p.mems sources b spans

    slice_is : is_slice_right core around (dram_number p.mems d) written ≡ true
    slice_is = and_from _ _ (and_from _ _ (dram_exists d ty slice.from_dram)
        (eq-eqb (length written) (length (dram core (dram_number p.mems d)).dims) (spans_length p.mems sources (is_early_part spans) b spans ∙ slice.span_for_each ∙ ap length (sym (dram_dims d ty slice.from_dram)))))
        (spans_right p core h around scope sources needed g (is_early_part spans) b spans regs (quiet_parts spans) slice.spans_typed f)

    module _ (m : ℕ) (is : IsMem p scope m Sram ty) (ranges : typing.range_count spans ≡ length (expressions.mem p.mems m).dims) (lanes : slice_lanes spans ≤ 16) where
      fits : fits_sram core around (dram_number p.mems d) (mem_number p.mems m) written ≡ true
      fits = and_from _ _ (sram_here d ty slice.from_dram m is)
          (eq-eqb (node_rules.range_count written) (length (mem core (mem_number p.mems m)).dims) (spans_ranges p.mems sources (is_early_part spans) b spans ∙ ranges ∙ ap length (sym (sram_dims d ty slice.from_dram m is))))

      wide : node_rules.is_wide_right core around (dram_number p.mems d) (mem_number p.mems m) None written [] (slice_lanes spans) ≡ true
      wide = and_from _ _ (and_from _ _ slice_is fits) (and_from _ _ refl (and_from _ _ (le-leb 1 (slice_lanes spans) (some_lanes_of p scope spans slice.spans_typed)) (le-leb (slice_lanes spans) 16 lanes)))

      pub load_right : is_node_right core around (load_node p.mems (length p.counters) sources b m d spans) ≡ true
      load_right = choose (slice_lanes spans == 1)
        where
          choose : (w : Bool) → is_node_right core around (if w then core_tree.load (dram_number p.mems d) (mem_number p.mems m) written else core_tree.sparse WideLoad (dram_number p.mems d) (mem_number p.mems m) None written [] (slice_lanes spans)) ≡ true
          choose true = and_from _ _ slice_is (or_left (fits_sram core around (dram_number p.mems d) (mem_number p.mems m) written) (fits_line core around (dram_number p.mems d) (mem_number p.mems m) written) fits)
          choose false = wide

      pub store_right : is_node_right core around (store_node p.mems (length p.counters) sources b d m spans) ≡ true
      store_right = choose (slice_lanes spans == 1)
        where
          choose : (w : Bool) → is_node_right core around (if w then core_tree.store (dram_number p.mems d) (mem_number p.mems m) written else core_tree.sparse WideStore (dram_number p.mems d) (mem_number p.mems m) None written [] (slice_lanes spans)) ≡ true
          choose true = and_from _ _ slice_is fits
          choose false = wide

    -- into a line buffer
    module _ (m : ℕ) (is : IsMem p scope m LineBuf ty) (ends : EndsInRange spans) (lanes : slice_lanes spans ≡ 1) where
      line_off : is_off_dram (expressions.mem p.mems m) ≡ true
      line_off = ap (λ x. not (is_dram x)) is.is_kind

      line_there : (m < length p.mems) × (is_usable core around (mem_number p.mems m) ≡ true)
      line_there = g.mems m is.seen line_off

      line_mem : mem core (mem_number p.mems m) ≡ written_mem (expressions.mem p.mems m)
      line_mem = chip_mem p core h m line_there.0 line_off

      fits_it : fits_line core around (dram_number p.mems d) (mem_number p.mems m) written ≡ true
      fits_it =
          let e = spans_end p.mems sources (is_early_part spans) b spans ends in
          and_from _ _ (and_from _ _ (and_from _ _ line_there.1 (ap (λ (x : core_tree.PlainMem). is_line x.kind) line_mem ∙ ap is_line is.is_kind))
          (ap (λ x. is_type x.ty (dram core (dram_number p.mems d)).ty) line_mem ∙ ap (λ t. is_type t (dram core (dram_number p.mems d)).ty) is.is_type ∙ ap (λ t. is_type ty t) (dram_is d ty slice.from_dram) ∙ type_is ty))
          (and_from _ _ (eq-eqb (node_rules.range_count written) 1 e.1) e.0)

      pub line_right : is_node_right core around (load_node p.mems (length p.counters) sources b m d spans) ≡ true
      line_right = subst (λ w. is_node_right core around (if w then core_tree.load (dram_number p.mems d) (mem_number p.mems m) written else core_tree.sparse WideLoad (dram_number p.mems d) (mem_number p.mems m) None written [] (slice_lanes spans)) ≡ true)
          (sym (eq-eqb (slice_lanes spans) 1 lanes)) (and_from _ _ slice_is (or_right (fits_sram core around (dram_number p.mems d) (mem_number p.mems m) written) (fits_line core around (dram_number p.mems d) (mem_number p.mems m) written) fits_it))

  -- places of it
  module _ (d m places b : ℕ) (count : PlainExpr) (ty : Ty) (sparse : IsSparse p scope d ty places count) (is : IsMem p scope m Sram ty) (row : length (expressions.mem p.mems m).dims ≡ 1)
      (regs : (j : ℕ) → b ≤ j → j < b + length (registers_for is_early (count ∷ [])) → IsRegister core around j int_type) (f : (v : ℕ) → uses (only v) count ≡ true → needed v ≡ true) where
    places_off : is_off_dram (expressions.mem p.mems places) ≡ true
    places_off = ap (λ x. not (is_dram x)) sparse.from_sram.is_kind

    places_there : (places < length p.mems) × (is_usable core around (mem_number p.mems places) ≡ true)
    places_there = g.mems places sparse.from_sram.seen places_off

    places_mem : mem core (mem_number p.mems places) ≡ written_mem (expressions.mem p.mems places)
    places_mem = chip_mem p core h places places_there.0 places_off

    places_are : are_places core around (Some (mem_number p.mems places)) ≡ true
    places_are = and_from _ _ (and_from _ _ places_there.1 (ap (λ (x : core_tree.PlainMem). is_sram x.kind) places_mem ∙ ap is_sram sparse.from_sram.is_kind))
        (and_from _ _ (ap (λ (x : core_tree.PlainMem). is_type x.ty int_type) places_mem ∙ ap (λ t. is_type t int_type) sparse.from_sram.is_type ∙ type_is int_type)
        (eq-eqb (length (mem core (mem_number p.mems places)).dims) 1 (ap (λ (x : core_tree.PlainMem). length x.dims) places_mem ∙ sparse.one_row)))

    pub pick_right : is_pick_right core around (dram_number p.mems d) (mem_number p.mems m) (Some (mem_number p.mems places)) [] (from_register p.mems sources is_early b count) 1 ≡ true
    pick_right = and_from _ _
        (and_from _ _ (and_from _ _ (dram_exists d ty sparse.in_dram) (eq-eqb (length (dram core (dram_number p.mems d)).dims) 1 (ap length (dram_dims d ty sparse.in_dram) ∙ sparse.one_dimension)))
        (and_from _ _ (sram_here d ty sparse.in_dram m is) (eq-eqb (length (mem core (mem_number p.mems m)).dims) 1 (ap length (sram_dims d ty sparse.in_dram m is) ∙ row))))
        (and_from _ _ (and_from _ _ places_are (count_right p core h around scope sources needed g b count regs sparse.how_many f)) refl)
