-- What a node of a proper block does with one memory, by what its stage lists.
use Rattle.std.proofs.Common.{◌≡◌, ℕ, ◌+◌, ◌<◌, ◌≤◌, Bool, true, List, ◌++◌, length, Option, None, Some, refl, sym, ◌∙◌, ap, subst, arith, true≢false, eqb-true}
use Rattle.sp_words.specs.declared.kind.Kind.{Kind}
use Rattle.sp_words.specs.declared.kind.Kind.TheVariants.{Reg, Sram, Fifo, LineBuf, Dram, ArgIn, ArgOut}
use Rattle.sp_tree.specs.PlainProgram.{PlainProgram}
use Rattle.sp_tree.specs.Streams as tree
use Rattle.sp_tree.specs.Tallies.{Tally, changes_of, uses_of, is_among}
use Rattle.sp_core.specs.declared.operation.OpKind.{OpKind}
use Rattle.sp_core.specs.declared.operation.OpKind.TheVariants as kind
use Rattle.sp_core.specs.OperationRules.{is_fifo}
use Rattle.sp_core.specs.PlainCore.{PlainOp, PlainNode, PlainCore}
use Rattle.sp_stream.specs.Proper.{is_put, is_take, is_change, is_number, acts_on, acts_in, ops_of}
use Rattle.sp_stream.proofs.Ways.{and_elim}
use Rattle.sp_sugar.specs.Numbers.{mem_number, written_mems}
use Rattle.sp_sugar.proofs.NumberLemmas.{number_below, numbers_apart}
use Rattle.sp_sugar.proofs.OwnerCounts.{count_of}
use Rattle.sp_proper.proofs.Counting.{Stage}
use Rattle.sp_proper.proofs.Deeds.{each_any, IsChip, Deed, computes, recalls, touches, resets, begins, listed, among_front, among_back}
use Rattle.sp_proper.proofs.Stages.{place_of, Fit}

pub same_fifo : (k : Kind) → is_fifo k ≡ tree.is_fifo k
same_fifo Reg = refl
same_fifo Sram = refl
same_fifo Fifo = refl
same_fifo LineBuf = refl
same_fifo Dram = refl
same_fifo ArgIn = refl
same_fifo ArgOut = refl

-- what is listed for an operation of a kind
pub put_listed : (k : OpKind) (m : ℕ) (t : Tally) → is_put k ≡ true → is_among m (listed k t) ≡ true → is_among m t.puts ≡ true
put_listed kind.Enq m t e h = h
put_listed kind.Reset m t e h = absurd (true≢false (sym h))
put_listed _ m t e h = absurd (true≢false (sym e))

pub take_listed : (k : OpKind) (m : ℕ) (t : Tally) → is_take k ≡ true → is_among m (listed k t) ≡ true → is_among m t.takes ≡ true
take_listed kind.Deq m t e h = h
take_listed kind.Reset m t e h = absurd (true≢false (sym h))
take_listed _ m t e h = absurd (true≢false (sym e))

pub change_listed : (k : OpKind) (m : ℕ) (t : Tally) → is_change k ≡ true → is_among m (listed k t) ≡ true → is_among m (changes_of t) ≡ true
change_listed kind.Write m t e h = among_front (t.writes ++ t.puts) t.takes m (among_front t.writes t.puts m h)
change_listed kind.Enq m t e h = among_front (t.writes ++ t.puts) t.takes m (among_back t.writes t.puts m h)
change_listed kind.Deq m t e h = among_back (t.writes ++ t.puts) t.takes m h
change_listed kind.Reset m t e h = absurd (true≢false (sym h))
change_listed _ m t e h = absurd (true≢false (sym e))

changed_used : (m : ℕ) (t : Tally) → is_among m (changes_of t) ≡ true → is_among m (uses_of t) ≡ true
changed_used m t h = among_back t.reads (changes_of t) m h

pub use_listed : (k : OpKind) (m : ℕ) (t : Tally) → is_among m (listed k t) ≡ true → is_among m (uses_of t) ≡ true
use_listed kind.Read m t h = h
use_listed kind.Write m t h = changed_used m t (change_listed kind.Write m t refl h)
use_listed kind.Enq m t h = changed_used m t (change_listed kind.Enq m t refl h)
use_listed kind.Deq m t h = changed_used m t (change_listed kind.Deq m t refl h)
use_listed _ m t h = absurd (true≢false (sym h))

-- the number of an operation's memory
number_is : (k j : ℕ) (o : Option ℕ) → is_number k o ≡ true → o ≡ Some j → k ≡ j
number_is k j o h e = eqb-true k j (sym (ap (is_number k) e) ∙ h)

no_number : (k : ℕ) (o : Option ℕ) → is_number k o ≡ true → o ≡ None → ⊥
no_number k o h e = true≢false (sym h ∙ ap (is_number k) e)

module _ (p : PlainProgram) (core : PlainCore) (outer : List ℕ) (low : ℕ) (wide : length (written_mems p.mems) ≤ low) (act : OpKind → Bool) (d : Stage) (x : PlainNode) (fit : Fit p core outer low d x) (from : low ≤ d.from) where
  acting : {P : Type 0} (k : ℕ) → acts_in act k x ≡ true → ((op : PlainOp) → Deed p (place_of p core outer low d) d.of.whole op → act op.kind ≡ true → is_number k op.mem ≡ true → P) → P
  acting k h f = each_any (Deed p (place_of p core outer low d) d.of.whole) (acts_on act k) (ops_of x) fit.deeds h (λ op does e. and_elim (act op.kind) (is_number k op.mem) e (λ a b. f op does a b))

  -- a memory of the program is touched as the tally lists, or reset by the stage that declares it
  pub acts_there : {P : Type 0} (m : ℕ) → IsChip p m → acts_in act (mem_number p.mems m) x ≡ true
      → ((k : OpKind) → act k ≡ true → is_among m (listed k d.of.whole) ≡ true → 1 ≤ count_of m outer + count_of m d.own → P)
      → (1 ≤ count_of m d.own → P) → P
  acts_there {P = P} m chip h touch reset = acting (mem_number p.mems m) h by
    where
      below : mem_number p.mems m < length (written_mems p.mems)
      below = number_below p.mems m chip.exists chip.on_chip

      same : (m2 : ℕ) → IsChip p m2 → mem_number p.mems m ≡ mem_number p.mems m2 → m2 ≡ m
      same m2 other e = sym (numbers_apart p.mems m m2 chip.exists other.exists chip.on_chip other.on_chip e)

      by : (op : PlainOp) → Deed p (place_of p core outer low d) d.of.whole op → act op.kind ≡ true → is_number (mem_number p.mems m) op.mem ≡ true → P
      by op (computes e) a n = absurd (no_number (mem_number p.mems m) op.mem n e)
      by op (recalls r e k le lt) a n = let i : mem_number p.mems m ≡ r = number_is (mem_number p.mems m) r op.mem n e in absurd (omega (arith, i, le, below))
      by op (begins r e le lt) a n = let i : mem_number p.mems m ≡ r = number_is (mem_number p.mems m) r op.mem n e in absurd (omega (arith, i, le, below, wide, from))
      by op (touches m2 e other seen l) a n =
          let i : m2 ≡ m = same m2 other (number_is (mem_number p.mems m) (mem_number p.mems m2) op.mem n e) in
          touch op.kind a (subst (λ y. is_among y (listed op.kind d.of.whole) ≡ true) i l) (subst (λ y. 1 ≤ count_of y outer + count_of y d.own) i seen)
      by op (resets m2 e other own k) a n =
          let i : m2 ≡ m = same m2 other (number_is (mem_number p.mems m) (mem_number p.mems m2) op.mem n e) in
          reset (subst (λ y. 1 ≤ count_of y d.own) i own)

  -- a register is read, if it is from before the block, or is the stage's own
  pub acts_added : {P : Type 0} (r : ℕ) → length (written_mems p.mems) ≤ r → acts_in act r x ≡ true → (act kind.Read ≡ true → r < low → P) → (d.from ≤ r → r < d.until → P) → P
  acts_added {P = P} r le h read own = acting r h by
    where
      by : (op : PlainOp) → Deed p (place_of p core outer low d) d.of.whole op → act op.kind ≡ true → is_number r op.mem ≡ true → P
      by op (computes e) a n = absurd (no_number r op.mem n e)
      by op (recalls s e k le2 lt) a n = let i : r ≡ s = number_is r s op.mem n e in read (sym (ap act k) ∙ a) (omega (arith, i, lt))
      by op (begins s e le2 lt) a n = let i : r ≡ s = number_is r s op.mem n e in own (omega (arith, i, le2)) (omega (arith, i, lt))
      by op (touches m e chip seen l) a n =
          let i : r ≡ mem_number p.mems m = number_is r (mem_number p.mems m) op.mem n e in
          let below : mem_number p.mems m < length (written_mems p.mems) = number_below p.mems m chip.exists chip.on_chip in absurd (omega (arith, i, le, below))
      by op (resets m e chip o k) a n =
          let i : r ≡ mem_number p.mems m = number_is r (mem_number p.mems m) op.mem n e in
          let below : mem_number p.mems m < length (written_mems p.mems) = number_below p.mems m chip.exists chip.on_chip in absurd (omega (arith, i, le, below))
