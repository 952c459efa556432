-- How many dimensions of a memory are banked, what its core keeps of that, and that its groups are groups.
use Rattle.std.proofs.Common.{◌≡◌, ℕ, zero, suc, ◌+◌, ◌-◌, ◌<◌, ◌≤◌, ◌^◌, Bool, true, false, cond, List, [], ◌∷◌, ◌++◌, length, map, get_or, Option, Some, None, arith, refl, sym, ap, ◌∙◌, subst}
use Rattle.std.proofs.lemmas.Bool.{and_parts, or_left, leb-true, eqb-true, eq-eqb, false≢true}
use Rattle.std.proofs.lemmas.List.{length-append}
use Rattle.std.specs.List.{list_all}
use Rattle.std.specs.Prelude.{◌&&◌, ◌==◌, nat_le, nat_lt, slice_index_or, if◌then◌else◌}
use Rattle.sp_affine.specs.Affine.{Affine}
use Rattle.sp_bank.specs.Banking.{Banking}
use Rattle.sp_bank.specs.Separation.{IsGroup}
use Rattle.sp_core.specs.declared.node.SparseKind.{SparseKind}
use Rattle.sp_core.specs.declared.node.SparseKind.TheVariants.{Gather, Scatter, WideLoad, WideStore}
use Rattle.sp_core.specs.Around.{Around, within, is_usable}
use Rattle.sp_core.specs.Declarations.{mem, dram}
use Rattle.sp_core.specs.Forms.{PlainForms}
use Rattle.sp_core.specs.Invariant.{IsRight, AreRight, owned_in}
use Rattle.sp_core.specs.MemoryRules as rules
use Rattle.sp_core.specs.NodeRules.{range_count, with_state, is_sram, is_slice_right, is_sram_here, fits_sram, are_places, is_pick_right, is_none, is_wide_right, is_sparse_right}
use Rattle.sp_core.specs.OperationRules.{is_bound}
use Rattle.sp_core.specs.Typed.{is_type}
use Rattle.sp_core.specs.Numbering.{counters_size, number_count}
use Rattle.sp_core.specs.PlainCore.{PlainOp, PlainSpan, PlainMem, no_mem, PlainNode, PlainStages, inner, outer, fsm, branch, load, store, sparse, no_stage, more_stage, PlainCore}
use Rattle.sp_plan.specs.Ports.{has_banks}
use Rattle.sp_plan.specs.Validity.{has_rank}
use Rattle.sp_schemes.proofs.Flat.{is_group}
use Rattle.sp_schemes.proofs.Lists.{Each, each_append}
use Rattle.sp_schemes.proofs.Trees.{WidesFit, AllWidesFit}
use Rattle.sp_schemes.specs.Groups.{banked_forms, banked_rank}
use Rattle.sp_words.specs.declared.kind.Kind.{Kind}
use Rattle.sp_words.specs.declared.kind.Kind.TheVariants.{Reg, Sram, Fifo, LineBuf, Dram, ArgIn, ArgOut}

-- what the rules of memories say of one with banks
pub record IsBanked (kind : Kind) (dims : ℕ) : Type 0 where
  pub some : 1 ≤ banked_rank kind dims
  pub few : banked_rank kind dims ≤ 3
  pub ranked : (f : List Affine) → length f ≡ dims → length (banked_forms kind (Some f)) ≡ banked_rank kind dims
  pub whole : kind ≡ Sram → dims ≡ banked_rank kind dims
  pub fits : (rank : ℕ) → has_rank kind dims rank ≡ true → rank ≡ banked_rank kind dims
  pub fit : (rank : ℕ) → rank ≡ banked_rank kind dims → has_rank kind dims rank ≡ true

line_ranked : (dims : ℕ) → dims ≡ 2 → (f : List Affine) → length f ≡ dims → length (banked_forms LineBuf (Some f)) ≡ 1
line_ranked dims e [] l = absurd (omega (arith, e, l))
line_ranked dims e (x ∷ f) l = omega (arith, e, l)

pub is_banked : (kind : Kind) (dims : ℕ) → has_banks kind ≡ true → rules.has_rank kind dims ≡ true → IsBanked kind dims
is_banked Sram n b r =
    let parts = and_parts (nat_le 1 n) (nat_le n 3) r in record {
      some = leb-true 1 n parts.0;
      few = leb-true n 3 parts.1;
      ranked = λ f e. e;
      whole = λ e. refl;
      fits = λ k e. eqb-true k n e;
      fit = λ k e. eq-eqb k n e;
    }
is_banked LineBuf n b r = record {
  some = omega arith;
  few = omega arith;
  ranked = line_ranked n (eqb-true n 2 r);
  whole = λ e. no_line e;
  fits = λ k e. eqb-true k 1 e;
  fit = λ k e. eq-eqb k 1 e;
}
  where
    no_line : LineBuf ≡ Sram → n ≡ 1
    no_line e = cc
is_banked Reg n b r = absurd (false≢true b)
is_banked Fifo n b r = absurd (false≢true b)
is_banked Dram n b r = absurd (false≢true b)
is_banked ArgIn n b r = absurd (false≢true b)
is_banked ArgOut n b r = absurd (false≢true b)

pub right_mem : (ms : List PlainMem) → list_all rules.is_mem_right ms ≡ true → (m : ℕ) → rules.is_mem_right (slice_index_or ms m no_mem) ≡ true
right_mem [] h m = refl
right_mem (x ∷ ms) h zero = (and_parts (rules.is_mem_right x) (list_all rules.is_mem_right ms) h).0
right_mem (x ∷ ms) h (suc m) = right_mem ms (and_parts (rules.is_mem_right x) (list_all rules.is_mem_right ms) h).1 m

-- transfers in lanes are of SRAMs, and of at most 16 lanes
sram_is : (k : Kind) → is_sram k ≡ true → k ≡ Sram
sram_is Sram e = refl
sram_is Reg e = absurd (false≢true e)
sram_is Fifo e = absurd (false≢true e)
sram_is LineBuf e = absurd (false≢true e)
sram_is Dram e = absurd (false≢true e)
sram_is ArgIn e = absurd (false≢true e)
sram_is ArgOut e = absurd (false≢true e)

module _ (core : PlainCore) (m : ℕ) where
  abbrev Fits : (mem par : ℕ) → Type 0
  Fits s par = (s ≡ m → (mem core m).kind ≡ Sram) × (par < 2 ^ 30)

  here : (around : Around) (r s : ℕ) → is_sram_here core around r s ≡ true → s ≡ m → (mem core m).kind ≡ Sram
  here around r s h e =
      let parts = and_parts (is_usable core around s && is_sram (mem core s).kind) (is_type (mem core s).ty (dram core r).ty) h in
      ap (λ x. (mem core x).kind) (sym e) ∙ sram_is (mem core s).kind (and_parts (is_usable core around s) (is_sram (mem core s).kind) parts.0).1

  pick_fits : (around : Around) (r s : ℕ) (index : Option ℕ) (spans : List PlainSpan) (count : List PlainOp) (par : ℕ) → is_pick_right core around r s index spans count par ≡ true → Fits s par
  pick_fits around r s index spans count par h =
      let q = and_parts ((nat_lt r (length core.ports.drams) && (length (dram core r).dims == 1)) && (is_sram_here core around r s && (length (mem core s).dims == 1))) ((are_places core around index && is_bound core around count) && ((length spans == 0) && (par == 1))) h in
      let a = and_parts (nat_lt r (length core.ports.drams) && (length (dram core r).dims == 1)) (is_sram_here core around r s && (length (mem core s).dims == 1)) q.0 in
      let b = and_parts (are_places core around index && is_bound core around count) ((length spans == 0) && (par == 1)) q.1 in
      let one = eqb-true par 1 (and_parts (length spans == 0) (par == 1) b.1).1 in
      (here around r s (and_parts (is_sram_here core around r s) (length (mem core s).dims == 1) a.1).0, omega (arith, one))

  wide_fits : (around : Around) (r s : ℕ) (index : Option ℕ) (spans : List PlainSpan) (count : List PlainOp) (par : ℕ) → is_wide_right core around r s index spans count par ≡ true → Fits s par
  wide_fits around r s index spans count par h =
      let q = and_parts (is_slice_right core around r spans && fits_sram core around r s spans) ((is_none core around index && (length count == 0)) && (nat_le 1 par && nat_le par 16)) h in
      let a = and_parts (is_slice_right core around r spans) (fits_sram core around r s spans) q.0 in
      let b = and_parts (is_none core around index && (length count == 0)) (nat_le 1 par && nat_le par 16) q.1 in
      let few = leb-true par 16 (and_parts (nat_le 1 par) (nat_le par 16) b.1).1 in
      (here around r s (and_parts (is_sram_here core around r s) (range_count spans == length (mem core s).dims) a.1).0, omega (arith, few))

  sparse_fits : (around : Around) (kind : SparseKind) (r s : ℕ) (index : Option ℕ) (spans : List PlainSpan) (count : List PlainOp) (par : ℕ) → is_sparse_right core around kind r s index spans count par ≡ true → Fits s par
  sparse_fits around Gather r s index spans count par h = pick_fits around r s index spans count par h
  sparse_fits around Scatter r s index spans count par h = pick_fits around r s index spans count par h
  sparse_fits around WideLoad r s index spans count par h = wide_fits around r s index spans count par h
  sparse_fits around WideStore r s index spans count par h = wide_fits around r s index spans count par h

  mutual
    pub wides_fit : (around : Around) (earlier : List ℕ) (node : PlainNode) → IsRight core around earlier node → WidesFit core m node
    wides_fit around earlier (inner counters owned ops comb) r = tt
    wides_fit around earlier (outer counters style owned stages) r = all_wides_fit (within around counters owned) (earlier ++ owned) stages r.1
    wides_fit around earlier (fsm start state test body next) r = wides_fit (with_state core around state) (earlier ++ state ∷ []) body r.1
    wides_fit around earlier (branch test first second) r = (wides_fit around earlier first r.1, wides_fit around (earlier ++ owned_in first) second r.2)
    wides_fit around earlier (load d s spans) r = tt
    wides_fit around earlier (store d s spans) r = tt
    wides_fit around earlier (sparse kind d s index spans count par) r = sparse_fits around kind d s index spans count par (and_parts _ _ r).0

    pub all_wides_fit : (around : Around) (earlier : List ℕ) (stages : PlainStages) → AreRight core around earlier stages → AllWidesFit core m stages
    all_wides_fit around earlier no_stage r = tt
    all_wides_fit around earlier (more_stage first last comb node rest) r = (wides_fit around earlier node r.0, all_wides_fit around (earlier ++ owned_in node) rest r.1)
