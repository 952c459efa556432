-- The nets of an access's indices.
use Rattle.std.proofs.Common.{◌≡◌, ℕ, ◌+◌, ◌-◌, ◌<◌, ◌==◌, true, if◌then◌else◌, List, [], ◌∷◌, length, take, replicate, slice_index, Option, refl, sym, ◌∙◌, ap, subst, arith, length-take, get_or-take}
use Rattle.std.specs.Prelude.{All}
use Rattle.std.proofs.lemmas.Bool.{false≢true, ne_eqb}
use Rattle.std.proofs.lemmas.List.{length-append, length-replicate}
use Rattle.std.proofs.lemmas.List.Elements.{All-nil, All-from_get_or}
use Rattle.sp_words.specs.declared.kind.Kind.{Kind}
use Rattle.sp_words.specs.declared.kind.Kind.TheVariants.{Reg, Sram, Fifo, LineBuf, Dram, ArgIn, ArgOut}
use Rattle.sp_words.specs.declared.types.Ty.{Ty}
use Rattle.sp_words.specs.Types.{int_type, width_of}
use Rattle.sp_netlist.specs.Draft.{Draft}
use Rattle.sp_gates.specs.Nets.{HasNet}
use Rattle.sp_core.specs.declared.operation.OpKind.{OpKind}
use Rattle.sp_core.specs.declared.operation.OpKind.TheVariants as kind
use Rattle.sp_core.specs.OperationRules.{can, is_fifo}
use Rattle.sp_core.specs.Sequential.{has_reset}
use Rattle.sp_core.specs.Typed.{rank_of, taken_types}
use Rattle.sp_pipe.specs.declared.part.Act.{Act}
use Rattle.sp_pipe.specs.Values.{taken_width}
use Rattle.sp_part_runs.specs.ActsCircuits.{IsActOf, of_word, of_count, of_live, of_read, of_write, of_enq, of_deq, of_reset, of_one, of_two, of_shift, of_mux, of_cast}
use Rattle.sp_part_runs.specs.ActsEntries.{index_words}
use Rattle.sp_tree_handed.specs.Scalars.{IsInBanks}

-- each is as wide as an index is
module _ (d : Draft) (ty : Ty) (operands : List ℕ) (n : ℕ) (each : length operands ≡ n) where
  abbrev HasIndex : ℕ → Type 0
  HasIndex net = HasNet d net 32

  read_nets : ((i : ℕ) → i < n → HasNet d (slice_index operands i) 32) → All HasIndex operands
  read_nets nets = All-from_get_or HasIndex operands 0 (λ i l. nets i (omega (arith, each, l)))

  -- a write's last operand is its word
  write_nets : ((i : ℕ) → i < n → HasNet d (slice_index operands i) (if i + 1 == n then width_of ty else 32)) → All HasIndex (take (length operands - 1) operands)
  write_nets nets = All-from_get_or HasIndex (take (length operands - 1) operands) 0 one
    where
      one : (i : ℕ) → i < length (take (length operands - 1) operands) → HasIndex (slice_index (take (length operands - 1) operands) i)
      one i l =
          let t = length-take (length operands - 1) operands in
          let below : i < length operands - 1 = omega (arith, t, l) in
          subst HasIndex (sym (get_or-take (length operands - 1) operands i 0 below))
          (subst (HasNet d (slice_index operands i)) (ap (λ b. if b then width_of ty else 32) (ne_eqb (i + 1) n (λ e. omega (arith, e, each, below))))
          (nets i (omega (arith, each, below))))

  pub index_nets : (k : OpKind) (a : Act) → IsActOf k a → ((i : ℕ) → i < n → HasNet d (slice_index operands i) (taken_width a ty n i)) → All HasIndex (index_words k operands)
  index_nets _ _ (of_read net after) nets = read_nets nets
  index_nets _ _ of_write nets = write_nets nets
  index_nets _ _ of_enq nets = All-nil HasIndex
  index_nets _ _ (of_deq net after) nets = All-nil HasIndex
  index_nets _ _ of_reset nets = All-nil HasIndex
  index_nets _ _ (of_word w) nets = All-nil HasIndex
  index_nets _ _ (of_count c lane net) nets = All-nil HasIndex
  index_nets _ _ (of_live c first last net) nets = All-nil HasIndex
  index_nets _ _ (of_one op) nets = All-nil HasIndex
  index_nets _ _ (of_two op) nets = All-nil HasIndex
  index_nets _ _ (of_shift left by) nets = All-nil HasIndex
  index_nets _ _ of_mux nets = All-nil HasIndex
  index_nets _ _ (of_cast to) nets = All-nil HasIndex

-- memories in banks are read and written, and do nothing else
no_fifo : (m : Kind) → IsInBanks m → is_fifo m ≡ true → ⊥
no_fifo Sram b e = false≢true e
no_fifo LineBuf b e = false≢true e
no_fifo Reg b e = b
no_fifo Fifo b e = b
no_fifo Dram b e = b
no_fifo ArgIn b e = b
no_fifo ArgOut b e = b

no_reset : (m : Kind) (start : Option ℕ) → IsInBanks m → has_reset m start ≡ true → ⊥
no_reset Sram start b e = false≢true e
no_reset LineBuf start b e = false≢true e
no_reset Reg start b e = b
no_reset Fifo start b e = b
no_reset Dram start b e = b
no_reset ArgIn start b e = b
no_reset ArgOut start b e = b

-- by an index for each dimension
pub rank_is : (m : Kind) (n : ℕ) → IsInBanks m → rank_of m n ≡ n
rank_is Sram n b = refl
rank_is LineBuf n b = refl
rank_is Reg n b = absurd b
rank_is Fifo n b = absurd b
rank_is Dram n b = absurd b
rank_is ArgIn n b = absurd b
rank_is ArgOut n b = absurd b

pub index_each : (k : OpKind) (m : Kind) (start : Option ℕ) (ty : Ty) (n : ℕ) (operands : List ℕ) → IsInBanks m → can k m start ≡ true → length operands ≡ length (taken_types k ty n) → length (index_words k operands) ≡ n
index_each kind.Read m start ty n operands b c e = e ∙ length-replicate n int_type
index_each kind.Write m start ty n operands b c e =
    let t = length-take (length operands - 1) operands in
    let a = length-append (replicate n int_type) (ty ∷ []) in
    let r = length-replicate n int_type in
    omega (arith, e, t, a, r)
index_each kind.Enq m start ty n operands b c e = absurd (no_fifo m b c)
index_each kind.Deq m start ty n operands b c e = absurd (no_fifo m b c)
index_each kind.Reset m start ty n operands b c e = absurd (no_reset m start b c)
index_each (kind.Word w) m start ty n operands b c e = absurd (false≢true c)
index_each (kind.Count i lane) m start ty n operands b c e = absurd (false≢true c)
index_each (kind.Live i first last) m start ty n operands b c e = absurd (false≢true c)
index_each (kind.One op) m start ty n operands b c e = absurd (false≢true c)
index_each (kind.Two op) m start ty n operands b c e = absurd (false≢true c)
index_each (kind.Shift left by) m start ty n operands b c e = absurd (false≢true c)
index_each kind.Mux m start ty n operands b c e = absurd (false≢true c)
index_each (kind.Cast to) m start ty n operands b c e = absurd (false≢true c)
