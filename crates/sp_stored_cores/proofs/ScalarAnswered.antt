-- Registers hold what stands at their places, and reads are answered.
use Rattle.std.proofs.Common.{Bool, true, false, if◌then◌else◌, ◌≡◌, ◌≢◌, ℕ, zero, suc, ◌+◌, ◌<◌, ◌&&◌, List, [], ◌∷◌, length, slice_index_or, Contains, Option, Some, None, refl, sym, ap, subst, ◌∙◌, arith, lt-ltb}
use Rattle.std.specs.List.{list_all}
use Rattle.std.proofs.lemmas.Bool.{true≢false, and_parts}
use Rattle.std.proofs.lemmas.List.Elements.{All-contains}
use Rattle.sp_words.specs.declared.kind.Kind.{Kind}
use Rattle.sp_words.specs.declared.kind.Kind.TheVariants.{Reg, Sram, Fifo, LineBuf, Dram, ArgIn, ArgOut}
use Rattle.sp_words.specs.declared.types.Ty.{Ty}
use Rattle.sp_words.specs.Ports.{PlainInput}
use Rattle.sp_netlist.specs.Signals.{Signals}
use Rattle.sp_core.specs.declared.operation.OpKind.TheVariants.{Read}
use Rattle.sp_core.specs.Declarations.{mem, kind_of}
use Rattle.sp_core.specs.Events.{Event}
use Rattle.sp_core.specs.Events.{Moment}
use Rattle.sp_core.specs.Invariant.{IsCore}
use Rattle.sp_core.specs.Latency.{read_latency}
use Rattle.sp_core.specs.Meaning.{first_store}
use Rattle.sp_core.specs.MemoryRules.{has_rank, has_start, has_words, is_mem_right}
use Rattle.sp_core.specs.PlainCore.{PlainMem, PlainCore, no_mem}
use Rattle.sp_core.specs.Store.{words_of}
use Rattle.sp_plan.specs.PlainPlan.{PlainPlan}
use Rattle.sp_time.specs.Events.{Event as Happening}
use Rattle.sp_time.specs.Lists.{Each}
use Rattle.sp_time.specs.Places.{Place}
use Rattle.sp_machine.specs.Found.{event_of, events_of, one_cell}
use Rattle.sp_machine.specs.InOrder.{is_done}
use Rattle.sp_machine.specs.Stamps.{Stamped}
use Rattle.sp_contents.specs.Found.{first_contents}
use Rattle.sp_mem.specs.Copies.{first_word}
use Rattle.sp_circuit_ops.specs.declared.ops.WordNet.{WordNet}
use Rattle.sp_node_runs.specs.BodiesTold.{Happens}
use Rattle.sp_memory_words.specs.Accesses.{IsOperation, AccessesAsk, OperationsStay}
use Rattle.sp_memory_words.specs.Answers.{IsAnswered, NamesCopies}
use Rattle.sp_memory_words.specs.Moments.{HappensWell}
use Rattle.sp_memory_words.specs.Registers.{IsRegister, copy_place, standing, HasWord, RegistersHold, RegistersAnswer, ArgumentsAnswer, ContentsBegin}
use Rattle.sp_access_nets.specs.declared.access.AccessNets.{AccessNets}
use Rattle.sp_access_nets.specs.Picking.{PicksAccessesTo}
use Rattle.sp_tree_handed.specs.declared.owners.OwnerNets.{OwnerNets}
use Rattle.sp_tree_handed.specs.Scalars.{IsScalar}
use Rattle.sp_tree_handed.specs.Standing.{AccessStands}
use Rattle.sp_memory_nets.specs.ScalarLists.{PlainTouch, plain_touch, answer_net, read_of}
use Rattle.sp_memory_nets.specs.ScalarRuns.{IsFollowed, RunsWord, an_argument, a_register}
use Rattle.sp_memory_nets.proofs.ScalarAnswering.{read_in}
use Rattle.sp_stored_cores.specs.ScalarInTime.{MemoriesInTime, RegistersAreAsked, ScalarsHold, OutputsAreLeft, ScalarsAnswer}
use Rattle.sp_stored_cores.proofs.ScalarAsked.{from_mapped, not_argument, still, all_writes, all_fresh}

right_at : (ms : List PlainMem) (m : ℕ) → list_all is_mem_right ms ≡ true → m < length ms → is_mem_right (slice_index_or ms m no_mem) ≡ true
right_at [] m h l = absurd (omega (arith, l))
right_at (x ∷ ms) zero h l = (and_parts (is_mem_right x) (list_all is_mem_right ms) h).0
right_at (x ∷ ms) (suc m) h l = right_at ms m (and_parts (is_mem_right x) (list_all is_mem_right ms) h).1 (omega (arith, l))

kind_there : (core : PlainCore) (m : ℕ) → m < length core.mems → kind_of core m ≡ (mem core m).kind
kind_there core m l = ap (λ b. if b then (mem core m).kind else Dram) (lt-ltb m (length core.mems) l)

-- an output has no start
no_start : (kind : Kind) (ty : Ty) (start : Option ℕ) → kind ≡ ArgOut → has_start kind ty start ≡ true → first_word start ≡ 0
no_start kind ty None e h = refl
no_start Reg ty (Some w) e h = absurd (cc (e))
no_start Sram ty (Some w) e h = absurd (true≢false (sym h))
no_start Fifo ty (Some w) e h = absurd (true≢false (sym h))
no_start LineBuf ty (Some w) e h = absurd (true≢false (sym h))
no_start Dram ty (Some w) e h = absurd (true≢false (sym h))
no_start ArgIn ty (Some w) e h = absurd (true≢false (sym h))
no_start ArgOut ty (Some w) e h = absurd (true≢false (sym h))

output_start : (core : PlainCore) (m : ℕ) → IsCore core → m < length core.mems → kind_of core m ≡ ArgOut → first_word (mem core m).start ≡ 0
output_start core m right l e =
    let x = mem core m in
    let is = right_at core.mems m (and_parts _ _ right.memories).0 l in
    let shape = (and_parts (has_rank x.kind (length x.dims) && has_start x.kind x.ty x.start) (has_words 4194304 x.dims) is).0 in
    no_start x.kind x.ty x.start (sym (kind_there core m l) ∙ e) (and_parts (has_rank x.kind (length x.dims)) (has_start x.kind x.ty x.start) shape).1

same_word : (core : PlainCore) (v w : ℕ) → one_cell core v ≡ one_cell core w → v ≡ w
same_word core v w e = cc (e)

-- what stands there at first is the word that the register begins with
begins : (core : PlainCore) (input : PlainInput) (m c : ℕ) (k : Kind) (word : ℕ) → ContentsBegin core input → kind_of core m ≡ k → IsRegister k → (k ≡ ArgOut → word ≡ 0) → HasWord core (first_contents core input (copy_place m c)) word
begins core input m c Reg word from e r zero_word = from.register m c word e
begins core input m c ArgOut word from e r zero_word = λ v is. zero_word refl ∙ same_word core 0 v (sym (from.output m c e) ∙ is)
begins core input m c ArgIn word from e r zero_word = absurd r
begins core input m c Sram word from e r zero_word = absurd r
begins core input m c Fifo word from e r zero_word = absurd r
begins core input m c LineBuf word from e r zero_word = absurd r
begins core input m c Dram word from e r zero_word = absurd r

one_later : (k : Kind) → IsRegister k → read_latency k ≡ 1
one_later Reg h = refl
one_later ArgOut h = refl
one_later ArgIn h = absurd h
one_later Sram h = absurd h
one_later Fifo h = absurd h
one_later LineBuf h = absurd h
one_later Dram h = absurd h

module _ (core : PlainCore) (plan : PlainPlan) where
  pub asked : PicksAccessesTo → AccessesAsk core plan → ((input : PlainInput) → ContentsBegin core input) → RegistersAreAsked core plan
  asked picks asks from s events last accesses owners input h well m net l scalar not w =
      let first = first_contents core input in
      let kind = not_argument (kind_of core m) scalar not in
      let answers = asks h.right events first well m (still (kind_of core m) scalar) in
      record {
        kind = kind;
        copies = w.is.copies;
        start = w.is.first;
        begins = λ c below. begins core input m c (kind_of core m) (first_word w.part.first) (from input) refl kind (λ out. ap first_word w.is.first ∙ output_start core m h.right l out);
        runs = w.runs;
        writes = answers.writes s last w.part.writes.items (all_writes core s events last accesses owners h m picks plan w.part w.is);
        fresh = answers.fresh s last w.part.fresh.items (all_fresh core s events last accesses owners h m picks w.part.fresh.items w.is.fresh);
      }

  pub holds : RegistersAreAsked core plan → RegistersHold core plan → ScalarsHold core plan
  holds are_asked hold s events last accesses owners input h well m net l scalar not w t until =
      subst (λ n. HasWord core (standing core events (first_contents core input) t (copy_place m 0)) (s.net t n)) (sym w.first)
      (hold events (first_contents core input) well m s last w.part w.nets (are_asked s events last accesses owners input h well m net l scalar not w) t 0 until w.some)

  module _ (s : Signals) (events : List Stamped) (last : ℕ) (accesses : List AccessNets) (owners : OwnerNets) (input : PlainInput) (h : MemoriesInTime core s events last accesses owners) (well : HappensWell core plan events (first_contents core input)) (stays : OperationsStay core plan) (a : AccessNets) (w : WordNet) (c : Contains accesses a) (k : a.kind ≡ Read) (e : a.answer ≡ Some w) where
    operation : IsOperation core a.mem Read a.number
    operation = subst (λ q. IsOperation core a.mem q a.number) k (h.is_operation a c)

    inside : a.mem < length core.mems
    inside = All-contains (λ (x : AccessNets). x.mem < length core.mems) accesses a h.within c

    by_register : RegistersAreAsked core plan → RegistersAnswer core plan → (net : ℕ) → IsScalar (kind_of core a.mem) → kind_of core a.mem ≢ ArgIn → RunsWord core plan s accesses owners a.mem net → IsAnswered s events (suc last) a.number Read w.after w.net
    by_register are_asked answer net scalar not r =
        let first = first_contents core input in
        let after : w.after ≡ 1 = (All-contains (AccessStands h.draft core) accesses a h.stand c).later w k e not ∙ one_later (kind_of core a.mem) (not_argument (kind_of core a.mem) scalar not) in
        let read = from_mapped plain_touch r.part.reads.items (read_of a) (subst (λ xs. Contains xs (read_of a)) (sym r.is.reads) (read_in a.mem accesses a w c refl e)) in
        let on : read.0.word ≡ w.net = ap (λ (p : PlainTouch). p.word) read.2 ∙ ap answer_net e in
        let now =
        (answer events first well a.mem s last r.part r.nets (are_asked s events last accesses owners input h well a.mem net inside scalar not r)).later a.number read.0 read.1 (stays events first well a.mem a.number Read operation)
        (subst (λ (n : Option ℕ). NamesCopies s events last a.number n) (sym (ap (λ (p : PlainTouch). p.copy) read.2)) (h.named a c)) in
        subst (λ n. IsAnswered s events (suc last) a.number Read n w.net) (sym after) (subst (λ n. IsAnswered s events (suc last) a.number Read 1 n) on now)

    by_port : ArgumentsAnswer core plan → ContentsBegin core input → (port : ℕ) → kind_of core a.mem ≡ ArgIn → ((t : ℕ) → s.net t port ≡ slice_index_or (words_of (first_store core input a.mem)) 0 0) → IsFollowed s accesses a.mem port
        → ((t : ℕ) (x : Event) → Happens events a.number t x → 0 < t + w.after) → IsAnswered s events (suc last) a.number Read w.after w.net
    by_port answer from port is given follows later t x happens within word act =
        let at_port = answer events (first_contents core input) well a.mem s port (slice_index_or (words_of (first_store core input a.mem)) 0 0) is (λ n. from.argument a.mem n is) given (suc last) a.number w.after (stays events (first_contents core input) well a.mem a.number Read operation) t x happens within word act in
        one_before (t + w.after) (later t x happens) at_port
      where
        one_before : (n : ℕ) → 0 < n → s.net n port ≡ word → s.net n w.net ≡ word
        one_before zero l on = absurd (omega (arith, l))
        one_before (suc n) l on = follows a w c refl e n ∙ given n ∙ sym (given (suc n)) ∙ on

  pub answer : RegistersAreAsked core plan → RegistersAnswer core plan → ArgumentsAnswer core plan → ((input : PlainInput) → ContentsBegin core input) → OperationsStay core plan → ScalarsAnswer core plan
  answer are_asked registers arguments_do from stays s events last accesses owners input h well later a w c k e scalar port net run given = elim run [
    | an_argument is same follows ↦ by_port s events last accesses owners input h well stays a w c k e arguments_do (from input) port is (given is) follows (later a w c is e)
    | a_register other r ↦ by_register s events last accesses owners input h well stays a w c k e are_asked registers net scalar other r
  ]

-- what holds of all moments of a timeline holds of its events
each_event : (core : PlainCore) (t : ℕ) (xs : List Stamped) → Each (λ (x : Stamped). x.cycle < t) xs → Each (λ (e : Happening Place Moment). e.cycle < t) (events_of core xs)
each_event core t [] h = tt
each_event core t (x ∷ xs) h = by_case (is_done core x.moment) (each_event core t xs h.1)
  where
    by_case : (b : Bool) → Each (λ (e : Happening Place Moment). e.cycle < t) (events_of core xs) → Each (λ (e : Happening Place Moment). e.cycle < t) (if b then event_of core x ∷ events_of core xs else events_of core xs)
    by_case true rest = (h.0, rest)
    by_case false rest = rest

pub left : (core : PlainCore) (plan : PlainPlan) → ScalarsHold core plan → OutputsAreLeft core plan
left core plan hold s events last accesses owners input h well m net l out w t until before word is =
    hold s events last accesses owners input h well m net l (subst IsScalar (sym out) tt) (λ e. absurd (cc (e, out))) w t until word
    (well.in_time.last t (copy_place m 0) (each_event core t events before) ∙ is)
