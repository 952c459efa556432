-- The net of an operation, kind by kind.
use Rattle.std.proofs.Common.{◌≡◌, ℕ, zero, suc, ◌*◌, ◌-◌, ◌%◌, ◌^◌, ◌<◌, ◌≤◌, ◌==◌, Bool, true, false, if◌then◌else◌, List, [], ◌∷◌, length, slice_index, slice_index_or, refl, sym, ◌∙◌, ap, subst, arith}
use Rattle.std.proofs.lemmas.Bool.{true≢false}
use Rattle.sp_words.specs.Types.{int_type, width_of}
use Rattle.sp_words.specs.Words.{word_add}
use Rattle.sp_netlist.specs.Draft.{Draft}
use Rattle.sp_netlist.specs.Signals.{Signals}
use Rattle.sp_gates.specs.Grows.{Fills, Opens}
use Rattle.sp_gates.specs.Nets.{HasNet, Awaits}
use Rattle.sp_gates.specs.Runs.{RunsOn}
use Rattle.sp_gates.specs.Tested.{is_on}
use Rattle.sp_core.specs.declared.operation.OpKind.{OpKind}
use Rattle.sp_core.specs.declared.operation.OpKind.TheVariants.{Word, Count, Live, Read, Write, Enq, Deq, Reset, One, Two, Shift, Mux, Cast}
use Rattle.sp_core.specs.Around.{Near}
use Rattle.sp_core.specs.PlainCore.{PlainOp}
use Rattle.sp_core.specs.Scope.{is_some_up_to}
use Rattle.sp_circuit_ops.specs.declared.ops.WordNet.{WordNet}
use Rattle.sp_node_runs.specs.BodiesGiven.{IsGivenBy, counted, lived}
use Rattle.sp_op_nets.specs.declared.table.AroundNets.{AroundNets}
use Rattle.sp_op_nets.specs.Nets.{is_counted, counted_width, IsNetOf}
use Rattle.sp_op_nets.specs.Reserved.{is_reserved, reserved_by, Reserves}
use Rattle.sp_op_nets.specs.Table.{nets_at, HasLane}
use Rattle.sp_op_nets.proofs.Reserving.{none_reserved, one_reserved}

-- a counter's nets are those at its place
pub found_at : (table : List AroundNets) (c : ℕ) (a o : AroundNets) → c < length table → a ≡ slice_index_or table c o → nets_at table c ≡ record { value = a.value; step = a.step; masks = a.masks.items }
found_at [] c a o lt is = absurd (omega (arith, lt))
found_at (x ∷ table) zero a o lt is = ap (λ (a : AroundNets). record { value = a.value; step = a.step; masks = a.masks.items }) (sym is)
found_at (x ∷ table) (suc c) a o lt is = found_at table c a o (omega (arith, lt)) is

pub bit_on : (b : Bool) → ((if b then 1 else 0) == 1) ≡ b
bit_on true = refl
bit_on false = refl

module _ (new : Draft) (table : List AroundNets) (op : PlainOp) (after : ℕ) (n : WordNet) where
  no_answer : is_reserved op.kind ≡ false → is_reserved op.kind ≡ true → ⊥
  no_answer un e = true≢false (sym e ∙ un)

  pub count_is : (c lane : ℕ) → op.kind ≡ Count c lane → HasNet new n.net 32
      → ((s : Signals) → RunsOn s new.cells → (t : ℕ) → s.net t n.net ≡ word_add int_type (s.net t (nets_at table c).value) ((lane * (nets_at table c).step) % 2 ^ 32)) → IsNetOf new table op after n
  count_is c lane is wide word = record {
    counted = λ e. subst (λ k. HasNet new n.net (counted_width k)) (sym is) wide;
    given = λ e. subst (λ k. (near : List Near) → HasLane near k → (s : Signals) → RunsOn s new.cells → IsGivenBy s near (nets_at table) k n.net) (sym is) (λ near has s r. counted c lane n.net has (word s r));
    stands = λ e. absurd (no_answer (ap is_reserved is) e);
    awaits = λ e. absurd (no_answer (ap is_reserved is) e);
    later = λ e. absurd (no_answer (ap is_reserved is) e);
  }

  pub live_is : (c first last : ℕ) → op.kind ≡ Live c first last → first ≤ last → HasNet new n.net 1 → ((s : Signals) → RunsOn s new.cells → (t : ℕ) → s.net t n.net < 2)
      → ((s : Signals) → RunsOn s new.cells → (t : ℕ) → is_on s n.net t ≡ is_some_up_to (λ l. is_on s (slice_index (nets_at table c).masks l) t) first (last - first)) → IsNetOf new table op after n
  live_is c first last is order wide bit on = record {
    counted = λ e. subst (λ k. HasNet new n.net (counted_width k)) (sym is) wide;
    given = λ e. subst (λ k. (near : List Near) → HasLane near k → (s : Signals) → RunsOn s new.cells → IsGivenBy s near (nets_at table) k n.net) (sym is) (λ near has s r. lived c first last n.net order has (bit s r) (on s r));
    stands = λ e. absurd (no_answer (ap is_reserved is) e);
    awaits = λ e. absurd (no_answer (ap is_reserved is) e);
    later = λ e. absurd (no_answer (ap is_reserved is) e);
  }

  pub answer_is : is_counted op.kind ≡ false → HasNet new n.net (width_of op.ty) → Awaits new n.net (width_of op.ty) → n.after ≡ after → IsNetOf new table op after n
  answer_is un wide waits late = record {
    counted = λ e. absurd (true≢false (sym e ∙ un));
    given = λ e. absurd (true≢false (sym e ∙ un));
    stands = λ e. wide;
    awaits = λ e. waits;
    later = λ e. late;
  }

  pub other_is : is_counted op.kind ≡ false → is_reserved op.kind ≡ false → IsNetOf new table op after n
  other_is un none = record {
    counted = λ e. absurd (true≢false (sym e ∙ un));
    given = λ e. absurd (true≢false (sym e ∙ un));
    stands = λ e. absurd (no_answer none e);
    awaits = λ e. absurd (no_answer none e);
    later = λ e. absurd (no_answer none e);
  }

-- the nets that one reserves
pub reserves_none : (old new : Draft) (kind : OpKind) (net : ℕ) → is_reserved kind ≡ false → Fills old new [] → Reserves old new (reserved_by kind net)
reserves_none old new kind net un f = subst (λ b. Reserves old new (if b then net ∷ [] else [])) (sym un) (none_reserved old new f)

pub reserves_one : (old new : Draft) (kind : OpKind) (net width : ℕ) → is_reserved kind ≡ true → Opens old new net → Awaits new net width → Reserves old new (reserved_by kind net)
reserves_one old new kind net width so o w = subst (λ b. Reserves old new (if b then net ∷ [] else [])) (sym so) (one_reserved old new net width o w)

-- any other kind has no net
pub other_kind : (kind : OpKind) → ((c lane : ℕ) → kind ≡ Count c lane → ⊥) → ((c first last : ℕ) → kind ≡ Live c first last → ⊥) → (kind ≡ Read → ⊥) → (kind ≡ Deq → ⊥) → (is_counted kind ≡ false) × (is_reserved kind ≡ false)
other_kind (Word w) a b c d = (refl, refl)
other_kind (Count x lane) a b c d = absurd (a x lane refl)
other_kind (Live x first last) a b c d = absurd (b x first last refl)
other_kind Read a b c d = absurd (c refl)
other_kind Write a b c d = (refl, refl)
other_kind Enq a b c d = (refl, refl)
other_kind Deq a b c d = absurd (d refl)
other_kind Reset a b c d = (refl, refl)
other_kind (One op) a b c d = (refl, refl)
other_kind (Two op) a b c d = (refl, refl)
other_kind (Shift left by) a b c d = (refl, refl)
other_kind Mux a b c d = (refl, refl)
other_kind (Cast to) a b c d = (refl, refl)
