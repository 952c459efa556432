-- What happens at the numbers of loads and stores, and at DRAMs.
use Rattle.std.proofs.Common.{◌≡◌, ℕ, ◌<◌, true, List, [], length, Some, inl, inr, sym, ap, subst, ◌∙◌, arith}
use Rattle.std.proofs.lemmas.Bool.{false≢true}
use Rattle.sp_core.specs.Around.{nothing}
use Rattle.sp_core.specs.Declarations.{kind_of, dram_number}
use Rattle.sp_core.specs.Events.{Act, reads, writes, Event, touches}
use Rattle.sp_core.specs.Invariant.{IsCore}
use Rattle.sp_core.specs.Meeting.{changes}
use Rattle.sp_core.specs.PlainCore.{PlainOp, PlainNode, PlainCore}
use Rattle.sp_plan.specs.PlainPlan.{PlainPlan}
use Rattle.sp_time.specs.Lists.{Each}
use Rattle.sp_machine.specs.Stamps.{Stamped}
use Rattle.sp_machine.specs.Timeline.{core_timed}
use Rattle.sp_machine.specs.Transfers.{Delays}
use Rattle.sp_overlap.specs.Whole.{IsTimed}
use Rattle.sp_node_runs.specs.BodiesTold.{Happens}
use Rattle.sp_tree_events.specs.ToldItems.{operation, transfer, NodeHas}
use Rattle.sp_tree_events.specs.ToldLaws.{NumbersStandForOne, IsMoved, TransfersMove}
use Rattle.sp_memory_words.proofs.Finding.{each_at}
use Rattle.sp_dram_words.specs.Moves.{Move, loads, stores, NodeMoves, MovesIn, IsActed, TimelinesAreActed, MovesAct, TransfersAct, DramsAreMoved, TransfersMoveDrams}
use Rattle.sp_dram_words.proofs.Items.{item_of, node_item, node_one}
use Rattle.sp_dram_words.proofs.OnChip.{node_chip}
use Rattle.sp_dram_words.proofs.OneCopy.{dram_kind}

reads_not_writes : (a : Act) (v w : ℕ) → a ≡ reads v → a ≡ writes w → ⊥
reads_not_writes a v w p q = absurd (let clash : reads v ≡ writes w = sym p ∙ q in cc)

reads_not_changes : (a : Act) (w : ℕ) → a ≡ reads w → changes a ≡ true → ⊥
reads_not_changes a w p c = false≢true (sym (ap changes p) ∙ c)

no_operation : (op : PlainOp) (v : Move) → operation op ≡ item_of v → ⊥
no_operation op (loads r m) e = absurd (cc (e))
no_operation op (stores r m) e = absurd (cc (e))

module _ (core : PlainCore) (events : List Stamped) (acted : Each (λ (x : Stamped). IsActed core x.moment) events) where
  its : (n t : ℕ) (e : Event) → Happens events n t e → IsActed core (touches e)
  its n t e h = each_at (λ (x : Stamped). IsActed core x.moment) events (record { cycle = t; copy = h.copy; moment = touches e }) acted h.there

  module _ (single : NumbersStandForOne core.root) where
    -- what happens at the number of a load or a store is done by it
    of_move : (n t : ℕ) (e : Event) (v : Move) → NodeMoves core.root 0 n v → Happens events n t e → MovesIn core v e
    of_move n t e v has h = by (its n t e h)
      where
        at : NodeMoves core.root 0 e.number v
        at = subst (λ k. NodeMoves core.root 0 k v) (sym h.numbered) has

        by : IsActed core (touches e) → MovesIn core v e
        by (inl (op, is, m)) = absurd (no_operation op v (single 0 e.number (operation op) (item_of v) is (node_item core.root 0 e.number v at)))
        by (inr (u, is, does)) = subst (λ w. MovesIn core w e) (node_one core.root 0 e.number u v is at) does

    pub moves_act : MovesAct core events
    moves_act = record {
      load_reads = λ n r m has t w e h act. elim (of_move n t e (loads r m) has h) [ inl d ↦ d.0 | inr d ↦ absurd (reads_not_changes e.act w act d.1) ];
      load_writes = λ n r m has t w e h act. elim (of_move n t e (loads r m) has h) [ inl d ↦ absurd (reads_not_writes e.act d.1 w d.2 act) | inr d ↦ d.0 ];
      store_reads = λ n r m has t w e h act. elim (of_move n t e (stores r m) has h) [ inl d ↦ d.0 | inr d ↦ absurd (reads_not_writes e.act w d.1 act d.2) ];
      store_writes = λ n r m has t w e h act. elim (of_move n t e (stores r m) has h) [ inl d ↦ absurd (reads_not_writes e.act d.1 w d.2 act) | inr d ↦ d.0 ];
    }

  module _ (is : IsCore core) (timed : IsTimed core.root) (moved : TransfersMove core) where
    -- an operation is at no DRAM, and the memory of a transfer is none
    operation_apart : (n r : ℕ) (op : PlainOp) (m : ℕ) → NodeHas core.root 0 n (operation op) → op.mem ≡ Some m → m ≡ dram_number core r → ⊥
    operation_apart n r op m has named at = absurd (let l : m < length core.mems = node_chip core core.root nothing [] 0 is.nodes timed n op has m named in omega (arith, l, at))

    memory_apart : (n q k r : ℕ) → NodeHas core.root 0 n (transfer q k) → k ≡ dram_number core r → ⊥
    memory_apart n q k r has at = subst IsMoved (ap (kind_of core) at ∙ dram_kind core r) (moved is n q k has)

    same_dram : (e : Event) (q r : ℕ) → e.mem ≡ dram_number core q → e.mem ≡ dram_number core r → q ≡ r
    same_dram e q r a b = omega (arith, a, b)

    written_by : (n t r w : ℕ) (e : Event) → Happens events n t e → e.act ≡ writes w → e.mem ≡ dram_number core r → (m : ℕ) × NodeMoves core.root 0 n (stores r m)
    written_by n t r w e h act at = by (its n t e h)
      where
        by : IsActed core (touches e) → (m : ℕ) × NodeMoves core.root 0 n (stores r m)
        by (inl (op, has, m)) = absurd (operation_apart e.number r op e.mem has m at)
        by (inr (loads q k, has, inl d)) = absurd (reads_not_writes e.act d.1 w d.2 act)
        by (inr (loads q k, has, inr d)) = absurd (memory_apart e.number q k r (node_item core.root 0 e.number (loads q k) has) (sym d.0 ∙ at))
        by (inr (stores q k, has, inl d)) = absurd (reads_not_writes e.act d.1 w d.2 act)
        by (inr (stores q k, has, inr d)) = (k, subst (λ y. NodeMoves core.root 0 n (stores y k)) (same_dram e q r d.0 at) (subst (λ x. NodeMoves core.root 0 x (stores q k)) h.numbered has))

    read_by : (n t r w : ℕ) (e : Event) → Happens events n t e → e.act ≡ reads w → e.mem ≡ dram_number core r → (m : ℕ) × NodeMoves core.root 0 n (loads r m)
    read_by n t r w e h act at = by (its n t e h)
      where
        by : IsActed core (touches e) → (m : ℕ) × NodeMoves core.root 0 n (loads r m)
        by (inl (op, has, m)) = absurd (operation_apart e.number r op e.mem has m at)
        by (inr (loads q k, has, inl d)) = (k, subst (λ y. NodeMoves core.root 0 n (loads y k)) (same_dram e q r d.0 at) (subst (λ x. NodeMoves core.root 0 x (loads q k)) h.numbered has))
        by (inr (loads q k, has, inr d)) = absurd (reads_not_changes e.act w act d.1)
        by (inr (stores q k, has, inl d)) = absurd (memory_apart e.number q k r (node_item core.root 0 e.number (stores q k) has) (sym d.0 ∙ at))
        by (inr (stores q k, has, inr d)) = absurd (reads_not_writes e.act w d.1 act d.2)

    pub drams_are_moved : DramsAreMoved core events
    drams_are_moved = record { written_by = written_by; read_by = read_by }

pub transfers_act : (core : PlainCore) (plan : PlainPlan) (delays : Delays) → ((node : PlainNode) → NumbersStandForOne node) → TimelinesAreActed core plan delays → TransfersAct core plan delays
transfers_act core plan delays single acted timed h = moves_act core (core_timed core plan delays h).events (acted timed h) (single core.root)

pub transfers_move_drams : (core : PlainCore) (plan : PlainPlan) (delays : Delays) → TimelinesAreActed core plan delays → TransfersMove core → TransfersMoveDrams core plan delays
transfers_move_drams core plan delays acted moved is timed h = drams_are_moved core (core_timed core plan delays h).events (acted timed h) is timed moved
