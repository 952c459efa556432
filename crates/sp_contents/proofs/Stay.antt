-- A run of a whole core stays with its copies.
use Rattle.std.proofs.Common.{◌≡◌, ℕ, ◌+◌, ◌<◌, inl, inr, Bool, true, false, cond, [], arith, refl, sym, subst, ap, ◌∙◌, lt-ltb}
use Rattle.std.proofs.lemmas.Bool.{and_parts, ltb-true, false≢true}
use Rattle.std.specs.Prelude.{nat_lt, length, Option, Some, None}
use Rattle.sp_words.specs.declared.kind.Kind.{Kind}
use Rattle.sp_words.specs.declared.kind.Kind.TheVariants as kinds
use Rattle.sp_core.specs.Around.{nothing, is_port_kind}
use Rattle.sp_core.specs.Declarations.{mem, kind_of, dram_number}
use Rattle.sp_core.specs.Events.{Standing}
use Rattle.sp_core.specs.History.{History}
use Rattle.sp_core.specs.Invariant.{IsCore, owned_in}
use Rattle.sp_core.specs.PlainCore.{PlainCore}
use Rattle.sp_core.specs.Sequential.{has_reset}
use Rattle.sp_plan.specs.PlainPlan.{PlainPlan}
use Rattle.sp_machine.specs.Timeline.{core_timed}
use Rattle.sp_machine.specs.Transfers.{Delays}
use Rattle.sp_overlap.specs.Whole.{IsTimed}
use Rattle.sp_overlap.proofs.Lanes.{or_choose}
use Rattle.sp_overlap.proofs.Scoped.{within_new}
use Rattle.sp_contents.specs.Steady.{IsLine}
use Rattle.sp_contents.specs.Trees.{inner_owned, hand_of, first_hand, RunsStay}
use Rattle.sp_contents.proofs.Trees.{inner_within, Ready, Stays, node_stays}

-- kinds that are none of a line buffer
port_no_line : (k : Kind) → is_port_kind k ≡ true → k ≡ kinds.LineBuf → ⊥
port_no_line k h e = false≢true (subst (λ x. is_port_kind x ≡ true) e h)

reset_no_line : (k : Kind) (start : Option ℕ) → has_reset k start ≡ true → k ≡ kinds.LineBuf → ⊥
reset_no_line k start h e = false≢true (subst (λ x. has_reset x start ≡ true) e h)

dram_no_line : kinds.Dram ≡ kinds.LineBuf → ⊥
dram_no_line e = subst IsLine (sym e) tt

module _ (core : PlainCore) where
  -- the kind of a number is that of its memory, or a DRAM's
  by_number : (m : ℕ) → ((mem core m).kind ≡ kinds.LineBuf → ⊥) → kind_of core m ≡ kinds.LineBuf → ⊥
  by_number m n = go (nat_lt m (length core.mems))
    where
      go : (b : Bool) → cond b (mem core m).kind kinds.Dram ≡ kinds.LineBuf → ⊥
      go true e = n e
      go false e = dram_no_line e

  dram_kind : (r : ℕ) → kind_of core (dram_number core r) ≡ kinds.LineBuf → ⊥
  dram_kind r = go (nat_lt (dram_number core r) (length core.mems)) refl
    where
      go : (b : Bool) → nat_lt (dram_number core r) (length core.mems) ≡ b → cond b (mem core (dram_number core r)).kind kinds.Dram ≡ kinds.LineBuf → ⊥
      go true q e = let l : dram_number core r < length core.mems = ltb-true _ _ q in absurd (omega arith)
      go false q e = dram_no_line e

-- what is at hand at first
hand_kind : (k : Kind) → (k ≡ kinds.LineBuf → ⊥) → hand_of k ≡ Some 0
hand_kind kinds.LineBuf n = absurd (n refl)
hand_kind kinds.Reg n = refl
hand_kind kinds.Sram n = refl
hand_kind kinds.Fifo n = refl
hand_kind kinds.Dram n = refl
hand_kind kinds.ArgIn n = refl
hand_kind kinds.ArgOut n = refl

pub first_at : (core : PlainCore) (m : ℕ) → m < length core.mems + length core.ports.drams → (kind_of core m ≡ kinds.LineBuf → ⊥) → first_hand core m ≡ Some 0
first_at core m l n = ap (λ b. cond b (hand_of (kind_of core m)) None) (lt-ltb m (length core.mems + length core.ports.drams) l) ∙ hand_kind (kind_of core m) n

abbrev pub start : Standing
start = record { path = []; counters = [] }

pub root_ready : (core : PlainCore) → IsCore core → Ready core nothing (inner_owned core.root) (λ m. 0) (first_hand core)
root_ready core w = record {
  usable = λ m u. first_at core m (let l : m < length core.mems = ltb-true _ _ (and_parts _ _ u).0 in omega arith) (by_number core m (elim (or_choose (is_port_kind (mem core m).kind) false (and_parts _ _ u).1) [
    | inl x ↦ port_no_line (mem core m).kind x
    | inr x ↦ absurd (false≢true x)
  ]));
  drams = λ r b. first_at core (dram_number core r) (omega arith) (dram_kind core r);
  inner = λ m e r. first_at core m (let l : m < length core.mems = (within_new core core.root nothing [] w.nodes m (inner_within core.root m e)).on_chip in omega arith) (by_number core m (reset_no_line (mem core m).kind (mem core m).start r));
}

pub root_stays : (core : PlainCore) (plan : PlainPlan) (delays : Delays) → IsCore core → IsTimed core.root → (h : History) → Stays core (owned_in core.root) (inner_owned core.root) (λ m. 0) (first_hand core) (core_timed core plan delays h).events
root_stays core plan delays w t h = node_stays core plan delays core.root 0 0 start (λ m. 0) h nothing [] (first_hand core) w.nodes t (λ m e. absurd (false≢true e)) (root_ready core w)

pub runs_stay : (core : PlainCore) (plan : PlainPlan) (delays : Delays) → RunsStay core plan delays
runs_stay core plan delays w t h = (root_stays core plan delays w t h).steady
