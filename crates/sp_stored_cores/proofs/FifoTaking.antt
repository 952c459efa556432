-- Each take from a FIFO is answered with its word.
use Rattle.std.proofs.Common.{◌≡◌, ◌≢◌, ℕ, suc, ◌+◌, ◌<◌, ◌≤◌, inl, inr, Bool, true, false, if◌then◌else◌, List, [], ◌∷◌, ◌++◌, length, map, max, Contains, Option, Some, refl, sym, ap, subst, ◌∙◌, arith}
use Rattle.std.proofs.lemmas.List.Elements.{All-contains}
use Rattle.std.specs.Prelude.{All}
use Rattle.sp_words.specs.declared.kind.Kind.{Kind}
use Rattle.sp_words.specs.declared.kind.Kind.TheVariants.{Fifo}
use Rattle.sp_words.specs.Memory.{Contents}
use Rattle.sp_words.specs.Ports.{PlainInput}
use Rattle.sp_netlist.specs.Draft.{Draft}
use Rattle.sp_netlist.specs.Signals.{Signals}
use Rattle.sp_core.specs.declared.operation.OpKind.TheVariants.{Read, Deq}
use Rattle.sp_core.specs.Declarations.{kind_of, depth, room, is_among, is_stream, streamed, streamed_in}
use Rattle.sp_core.specs.PlainCore.{PlainNode, PlainStages, inner, outer, fsm, branch, load, store, sparse, no_stage, more_stage, PlainCore}
use Rattle.sp_core.specs.Store.{queue_of}
use Rattle.sp_plan.specs.PlainPlan.{PlainPlan, mem_plan}
use Rattle.sp_machine.specs.Stamps.{Stamped}
use Rattle.sp_overlap.specs.Whole.{IsTimed, AreTimed}
use Rattle.sp_contents.specs.Found.{contents_at, first_contents}
use Rattle.sp_mem.specs.declared.part.Touch.{Touch}
use Rattle.sp_circuit_ops.specs.declared.ops.WordNet.{WordNet}
use Rattle.sp_queue.specs.Takes.{RunsTakes}
use Rattle.sp_memory_words.specs.Accesses.{IsOperation, IsStill, AccessesAsk, OperationsStay}
use Rattle.sp_memory_words.specs.Answers.{IsAnswered, NamesCopies}
use Rattle.sp_memory_words.specs.Moments.{HappensWell}
use Rattle.sp_memory_words.specs.Queues.{IsQueueOf, QueueGoes, QueuesGo}
use Rattle.sp_memory_words.specs.Registers.{copy_place}
use Rattle.sp_access_nets.specs.declared.access.AccessNets.{AccessNets}
use Rattle.sp_access_nets.specs.Picking.{PicksAccessesTo}
use Rattle.sp_tree_handed.specs.declared.owners.OwnerNets.{OwnerNets}
use Rattle.sp_tree_accesses.specs.Queued.{QueuedStands}
use Rattle.sp_memory_nets.specs.ScalarLists.{PlainTouch, plain_touch, answer_net, read_of}
use Rattle.sp_memory_nets.proofs.ScalarAnswering.{read_in}
use Rattle.sp_stored_cores.specs.ScalarInTime.{MemoriesInTime}
use Rattle.sp_stored_cores.proofs.ScalarAsked.{from_mapped, all_fresh}
use Rattle.sp_memory_nets.specs.FifoRuns.{RunsFifo}
use Rattle.sp_stored_cores.specs.FifoLaws.{FifosAnswer}
use Rattle.sp_stored_cores.proofs.FifoAsking.{all_puts, all_takes}

-- without `Stream` blocks a FIFO has room for as many words as it is deep
mutual
  unstreamed : (node : PlainNode) → IsTimed node → streamed node ≡ []
  unstreamed (inner counters owned ops comb) h = refl
  unstreamed (outer counters style owned stages) h = ap (λ b. (if b then owned else []) ++ streamed_in stages) h.0 ∙ all_unstreamed stages h.1
  unstreamed (fsm start state test body next) h = unstreamed body h
  unstreamed (branch test first second) h = ap (λ ms. ms ++ streamed second) (unstreamed first h.0) ∙ unstreamed second h.1
  unstreamed (load r m spans) h = refl
  unstreamed (store r m spans) h = refl
  unstreamed (sparse kind r m places spans count par) h = absurd h

  all_unstreamed : (stages : PlainStages) → AreTimed stages → streamed_in stages ≡ []
  all_unstreamed no_stage h = refl
  all_unstreamed (more_stage first last comb node rest) h = ap (λ ms. ms ++ streamed_in rest) (unstreamed node h.0) ∙ all_unstreamed rest h.1

room_is : (core : PlainCore) (m : ℕ) → IsTimed core.root → room core m ≡ depth core m
room_is core m h = ap (λ ms. if is_among m ms then max (depth core m) 65536 else depth core m) (unstreamed core.root h)

-- at first it is empty
none_yet : (core : PlainCore) (k : Kind) (ds : List ℕ) (c : Option Contents) (i : ℕ) → k ≡ Fifo → queue_of (contents_at core k ds c i) ≡ []
none_yet core k ds c i e = ap (λ j. queue_of (contents_at core j ds c i)) e

module _ (core : PlainCore) (plan : PlainPlan) (picks : PicksAccessesTo) (asks : AccessesAsk core plan) (stays : OperationsStay core plan) (go : QueuesGo core plan) where
  module _ (timed : IsTimed core.root) (s : Signals) (events : List Stamped) (last : ℕ) (accesses : List AccessNets) (owners : OwnerNets) (input : PlainInput) (h : MemoriesInTime core s events last accesses owners) (well : HappensWell core plan events (first_contents core input))
      (d : Draft) (queued : All (QueuedStands d core) accesses) (m bank : ℕ) (within : m < length core.mems) (fifo : kind_of core m ≡ Fifo) (r : RunsFifo core plan s accesses owners m bank) where
    of_queue : (a : AccessNets) → Contains accesses a → QueuedStands d core a
    of_queue a c = All-contains (QueuedStands d core) accesses a queued c

    -- what is answered takes a word
    takes : (a : AccessNets) (w : WordNet) → Contains accesses a → a.mem ≡ m → a.answer ≡ Some w → a.kind ≡ Deq
    takes a w c e answer = elim (h.asked a w c answer) [
      | inl read ↦ absurd ((of_queue a c).unread read (ap (kind_of core) e ∙ fifo))
      | inr take ↦ take.0
    ]

    is_queue : IsQueueOf core plan m s events (first_contents core input) last bank r.part.depth r.stores r.part.fresh.items r.part.puts.items r.part.takes.items
    is_queue =
        let asked = asks h.right events (first_contents core input) well m (subst IsStill (sym fifo) tt) in
        record {
          kind = fifo;
          copies = r.each ∙ r.is.copies;
          deep = (let same = room_is core m timed in let own = r.is.depth in omega (arith, same, own));
          empty = λ c. none_yet core (kind_of core m) _ _ _ fifo;
          runs = r.runs;
          are_puts = asked.puts s last r.part.puts.items (all_puts core s events last accesses owners h m picks d queued r.part.puts.items r.is.puts);
          are_takes = asked.takes s last r.part.takes.items
              (all_takes core s events last accesses owners h m picks takes (λ a c e k. (of_queue a c).answered k) r.part.takes.items r.is.takes);
          are_fresh = asked.fresh s last r.part.fresh.items (all_fresh core s events last accesses owners h m picks r.part.fresh.items r.is.fresh);
        }

    goes : QueueGoes core m s events (first_contents core input) last r.part.depth r.stores r.part.fresh.items r.part.puts.items r.part.takes.items
    goes = go events (first_contents core input) well m s last bank r.part.depth r.stores r.part.fresh.items r.part.puts.items r.part.takes.items is_queue

    answered : (a : AccessNets) (w : WordNet) → Contains accesses a → a.mem ≡ m → a.kind ≡ Deq → a.answer ≡ Some w → IsAnswered s events (suc last) a.number Deq w.after w.net
    answered a w c e k answer =
        let operation : IsOperation core m Deq a.number = subst (λ j. IsOperation core j Deq a.number) e (subst (λ q. IsOperation core a.mem q a.number) k (h.is_operation a c)) in
        let take = from_mapped plain_touch r.part.takes.items (read_of a) (subst (λ xs. Contains xs (read_of a)) (sym r.is.takes) (read_in m accesses a w c e answer)) in
        let on : take.0.word ≡ w.net = ap (λ (p : PlainTouch). p.word) take.2 ∙ ap answer_net answer in
        let runs : RunsTakes s (length r.stores) r.stores take.0 = subst (λ n. RunsTakes s n r.stores take.0) (sym r.each) (All-contains (RunsTakes s r.part.copies r.stores) r.part.takes.items take.0 r.takes take.1) in
        let now = goes.answers a.number take.0 runs (stays events (first_contents core input) well m a.number Deq operation)
        (subst (λ (n : Option ℕ). NamesCopies s events last a.number n) (sym (ap (λ (p : PlainTouch). p.copy) take.2)) (h.named a c)) in
        subst (λ n. IsAnswered s events (suc last) a.number Deq n w.net) (sym ((of_queue a c).later w k answer)) (subst (λ n. IsAnswered s events (suc last) a.number Deq 2 n) on now)

  pub fifos_answer : FifosAnswer core plan
  fifos_answer timed s events last accesses owners input h well d queued m bank within fifo r a w c e k answer = answered timed s events last accesses owners input h well d queued m bank within fifo r a w c e k answer
