-- Accesses of operations that act in time ask a circuit what happens.
use Rattle.std.proofs.Common.{◌≡◌, ℕ, zero, suc, ◌-◌, ◌<◌, ◌≤◌, inl, inr, ◌==◌, true, List, [], ◌∷◌, map, length, slice_index, Option, Some, if◌then◌else◌, refl, sym, ap, subst, ◌∙◌, arith, le-ltb}
use Rattle.std.specs.List.{Contains}
use Rattle.std.proofs.lemmas.Bool.{eqb-true, eq-eqb, and_parts, and_from}
use Rattle.std.proofs.lemmas.List.{length-map}
use Rattle.sp_words.specs.declared.kind.Kind.{Kind}
use Rattle.sp_words.specs.declared.kind.Kind.TheVariants.{Reg, Sram, Fifo, LineBuf, Dram, ArgIn, ArgOut}
use Rattle.sp_words.specs.Memory.{Contents}
use Rattle.sp_netlist.specs.Signals.{Signals}
use Rattle.sp_gates.specs.Tested.{is_on}
use Rattle.sp_core.specs.declared.operation.OpKind.{OpKind}
use Rattle.sp_core.specs.declared.operation.OpKind.TheVariants.{Word, Count, Live, Read, Write, Enq, Deq, Reset, One, Two, Shift, Mux, Cast}
use Rattle.sp_core.specs.Declarations.{mem, kind_of, dram_number}
use Rattle.sp_core.specs.Events.{writes, puts, takes, resets, Event, Moment, touches, slices, renews, keeps, act_of}
use Rattle.sp_core.specs.Invariant.{IsCore}
use Rattle.sp_core.specs.PlainCore.{PlainOp, PlainNode, PlainCore}
use Rattle.sp_plan.specs.PlainPlan.{PlainPlan}
use Rattle.sp_time.specs.Places.{Place}
use Rattle.sp_machine.specs.InOrder.{is_done}
use Rattle.sp_machine.specs.Stamps.{Stamped}
use Rattle.sp_mem.specs.declared.part.Fresh.{Fresh}
use Rattle.sp_mem.specs.declared.part.Touch.{Touch}
use Rattle.sp_mem.specs.Copies.{copy_at, is_at}
use Rattle.sp_part_runs.specs.ActsEntries.{word_that_changes}
use Rattle.sp_node_runs.specs.BodiesTold.{Happens}
use Rattle.sp_tree_events.specs.ToldItems.{Item, operation, transfer, NodeHas}
use Rattle.sp_tree_events.specs.ToldLaws.{Does, IsOfItem, NumbersStandForOne, IsMoved, TransfersMove}
use Rattle.sp_memory_words.specs.Accesses.{IsOperation, IsAccess, GivesWord, IsWrite, an_operation, a_machine, Makes, a_reset, an_owner, HasAllWrites, HasAllFresh, HasAllPuts, HasAllTakes, IsStill, OperationsStay, AccessesAsk}
use Rattle.sp_memory_words.specs.Answers.{IsOf}
use Rattle.sp_memory_words.specs.Asked.{AreWrites, ArePuts, AreTakes, AreFresh}
use Rattle.sp_memory_words.specs.Moments.{IsAt, Writes, Puts, Takes, Freshens, HappensWell}
use Rattle.sp_memory_words.proofs.Finding.{each_at}

-- the word that changes a memory is that of its net
mapped_word : (f : ℕ → ℕ) (xs : List ℕ) (i : ℕ) → i < length xs → slice_index (map f xs) i ≡ f (slice_index xs i)
mapped_word f [] i l = absurd (omega (arith, l))
mapped_word f (x ∷ xs) zero l = refl
mapped_word f (x ∷ xs) (suc i) l = mapped_word f xs i (omega (arith, l))

last_word : (f : ℕ → ℕ) (xs : List ℕ) → 0 < length xs → word_that_changes Write (map f xs) ≡ f (word_that_changes Write xs)
last_word f xs l = ap (λ n. slice_index (map f xs) (n - 1)) (length-map xs f) ∙ mapped_word f xs (length xs - 1) (omega (arith, l))

-- an act tells the kind of its operation
module _ (v w : ℕ) where
  write_kind : (k : OpKind) → act_of k v ≡ Some (writes w) → k ≡ Write
  write_kind Write e = refl
  write_kind (Word x) e = absurd (cc (e))
  write_kind (Count c lane) e = absurd (cc (e))
  write_kind (Live c first last) e = absurd (cc (e))
  write_kind Read e = absurd (cc (e))
  write_kind Enq e = absurd (cc (e))
  write_kind Deq e = absurd (cc (e))
  write_kind Reset e = absurd (cc (e))
  write_kind (One op) e = absurd (cc (e))
  write_kind (Two op) e = absurd (cc (e))
  write_kind (Shift left by) e = absurd (cc (e))
  write_kind Mux e = absurd (cc (e))
  write_kind (Cast to) e = absurd (cc (e))

  put_kind : (k : OpKind) → act_of k v ≡ Some (puts w) → k ≡ Enq
  put_kind Enq e = refl
  put_kind (Word x) e = absurd (cc (e))
  put_kind (Count c lane) e = absurd (cc (e))
  put_kind (Live c first last) e = absurd (cc (e))
  put_kind Read e = absurd (cc (e))
  put_kind Write e = absurd (cc (e))
  put_kind Deq e = absurd (cc (e))
  put_kind Reset e = absurd (cc (e))
  put_kind (One op) e = absurd (cc (e))
  put_kind (Two op) e = absurd (cc (e))
  put_kind (Shift left by) e = absurd (cc (e))
  put_kind Mux e = absurd (cc (e))
  put_kind (Cast to) e = absurd (cc (e))

  take_kind : (k : OpKind) → act_of k v ≡ Some (takes w) → k ≡ Deq
  take_kind Deq e = refl
  take_kind (Word x) e = absurd (cc (e))
  take_kind (Count c lane) e = absurd (cc (e))
  take_kind (Live c first last) e = absurd (cc (e))
  take_kind Read e = absurd (cc (e))
  take_kind Write e = absurd (cc (e))
  take_kind Enq e = absurd (cc (e))
  take_kind Reset e = absurd (cc (e))
  take_kind (One op) e = absurd (cc (e))
  take_kind (Two op) e = absurd (cc (e))
  take_kind (Shift left by) e = absurd (cc (e))
  take_kind Mux e = absurd (cc (e))
  take_kind (Cast to) e = absurd (cc (e))

reset_kind : (v : ℕ) (k : OpKind) → act_of k v ≡ Some resets → k ≡ Reset
reset_kind v Reset e = refl
reset_kind v (Word x) e = absurd (cc (e))
reset_kind v (Count c lane) e = absurd (cc (e))
reset_kind v (Live c first last) e = absurd (cc (e))
reset_kind v Read e = absurd (cc (e))
reset_kind v Write e = absurd (cc (e))
reset_kind v Enq e = absurd (cc (e))
reset_kind v Deq e = absurd (cc (e))
reset_kind v (One op) e = absurd (cc (e))
reset_kind v (Two op) e = absurd (cc (e))
reset_kind v (Shift left by) e = absurd (cc (e))
reset_kind v Mux e = absurd (cc (e))
reset_kind v (Cast to) e = absurd (cc (e))

same_item : (o p : PlainOp) → operation o ≡ operation p → o ≡ p
same_item o p e = cc (e)

not_both : (op : PlainOp) (r q : ℕ) → operation op ≡ transfer r q → ⊥
not_both op r q e = absurd (cc (e))

same_mem : (o : Option ℕ) (k m : ℕ) → o ≡ Some k → o ≡ Some m → k ≡ m
same_mem o k m a b = cc (a, b)

still_stays : (k : Kind) → IsStill k → IsMoved k → ⊥
still_stays Reg h g = g
still_stays Fifo h g = g
still_stays ArgIn h g = g
still_stays ArgOut h g = g
still_stays Sram h g = h
still_stays LineBuf h g = h
still_stays Dram h g = h

module _ (one_item : (node : PlainNode) → NumbersStandForOne node) (core : PlainCore) (plan : PlainPlan) (events : List Stamped) (first : Place → Option Contents) (well : HappensWell core plan events first) where
  -- an event of an operation's number is of its kind, at its memory
  pub operation_stays : (m n : ℕ) (kind : OpKind) → IsOperation core m kind n → IsOf events kind n m
  operation_stays m n kind is t e h = by item.0 (one_item core.root 0 n (operation is.op) item.0 is.stands (subst (λ x. NodeHas core.root 0 x item.0) h.numbered item.1)) item.2
    where
      item : (i : Item) × NodeHas core.root 0 e.number i × Does core i e
      item = each_at (λ x. IsOfItem core x.moment) events _ well.of_items h.there

      by : (i : Item) → operation is.op ≡ i → Does core i e → (e.mem ≡ m) × (word : ℕ) × (act_of kind word ≡ Some e.act)
      by (operation o) same does =
          let q : is.op ≡ o = same_item is.op o same in
          (same_mem o.mem e.mem m does.0 (subst (λ x. x.mem ≡ Some m) q is.mem), does.1, subst (λ k. act_of k does.1 ≡ Some e.act) (sym (ap (λ x. x.kind) q) ∙ is.kind_is) does.2)
      by (transfer r q) same does = absurd (not_both is.op r q same)

  -- an event at a memory that no transfer moves is of an operation
  module _ (moves : TransfersMove core) (is_core : IsCore core) (m : ℕ) (still : IsStill (kind_of core m)) where
    dram_here : (r : ℕ) → kind_of core (dram_number core r) ≡ Dram
    dram_here r = ap (λ b. if b then (mem core (dram_number core r)).kind else Dram) (le-ltb (dram_number core r) (length core.mems) (omega arith))

    event_operation : (t c : ℕ) (e : Event) → IsAt events t c (touches e) → e.mem ≡ m → (kind : OpKind) → ((k : OpKind) (w : ℕ) → act_of k w ≡ Some e.act → k ≡ kind) → IsOperation core m kind e.number
    event_operation t c e there at kind tells = by item.0 item.1 item.2
      where
        item : (i : Item) × NodeHas core.root 0 e.number i × Does core i e
        item = each_at (λ x. IsOfItem core x.moment) events _ well.of_items there

        by : (i : Item) → NodeHas core.root 0 e.number i → Does core i e → IsOperation core m kind e.number
        by (operation o) stands does = record { op = o; stands = stands; mem = does.0 ∙ ap Some at; kind_is = tells o.kind does.1 does.2 }
        by (transfer r q) stands (inl is) = absurd (still_stays (kind_of core m) still (subst (λ k. IsMoved (kind_of core k)) (sym is ∙ at) (moves is_core e.number r q stands)))
        by (transfer r q) stands (inr is) = absurd (subst IsStill (ap (kind_of core) (sym at ∙ is) ∙ dram_here r) still)

module _ (one_item : (node : PlainNode) → NumbersStandForOne node) (core : PlainCore) (plan : PlainPlan) (events : List Stamped) (first : Place → Option Contents) (well : HappensWell core plan events first) (moves : TransfersMove core) (is_core : IsCore core) (m : ℕ) (still : IsStill (kind_of core m)) (s : Signals) (last : ℕ) where
  of_kind : (n : ℕ) (kind : OpKind) → IsOperation core m kind n → IsOf events kind n m
  of_kind n kind is = operation_stays one_item core plan events first well m n kind is

  event_op : (t c : ℕ) (e : Event) → IsAt events t c (touches e) → e.mem ≡ m → (kind : OpKind) → ((k : OpKind) (w : ℕ) → act_of k w ≡ Some e.act → k ≡ kind) → IsOperation core m kind e.number
  event_op t c e there at kind tells = event_operation one_item core plan events first well moves is_core m still t c e there at kind tells

  module _ (kind : OpKind) (n enable : ℕ) (operands : List ℕ) (copy : Option ℕ) (is : IsAccess core s events last m kind n enable operands copy) where
    -- where its operation's event happens, an access is at the event's copy, and there alone
    access_at : (t c : ℕ) (e : Event) → t ≤ last → IsAt events t c (touches e) → e.number ≡ n → is_at s t enable copy c ≡ true
    access_at t c e l there same =
        let h : Happens events n t e = record { copy = c; there = there; numbered = same } in
        and_from (is_on s enable t) (copy_at s t copy == c) (is.acts.enabled.on t l (e, h)) (eq-eqb _ _ (is.names t e h l))

    access_from : (t c : ℕ) → t ≤ last → is_at s t enable copy c ≡ true → (e : Event) × Happens events n t e × IsAt events t c (touches e)
    access_from t c l h =
        let parts = and_parts (is_on s enable t) (copy_at s t copy == c) h in
        let e = is.acts.enabled.only t l parts.0 in
        (e.0, e.1, subst (λ x. IsAt events t x (touches e.0)) (sym (is.names t e.0 e.1 l) ∙ eqb-true _ _ parts.1) e.1.there)

  -- a write, and a put, has the word of its net
  writes_word : (w : Touch) (g : GivesWord core s events last m Write w) (t c : ℕ) → t ≤ last → is_at s t w.enable w.copy c ≡ true → (x : Moment) × IsAt events t c x × Writes m (s.net t w.word) x
  writes_word w g t c l h =
      let e = access_from Write g.number w.enable g.operands w.copy g.access t c l h in
      let word : word_that_changes Write (map (s.net t) g.operands) ≡ s.net t w.word = last_word (s.net t) g.operands g.some ∙ ap (s.net t) (sym g.word) in
      let act : Some (writes (word_that_changes Write (map (s.net t) g.operands))) ≡ Some e.0.act = g.access.acts.word t e.0 l e.1 refl in
      let same : writes (word_that_changes Write (map (s.net t) g.operands)) ≡ e.0.act = cc (act) in
      (touches e.0, e.2, ((of_kind g.number Write g.access.is t e.0 e.1).0, sym same ∙ ap writes word))

  puts_word : (a : Touch) (g : GivesWord core s events last m Enq a) (t c : ℕ) → t ≤ last → is_at s t a.enable a.copy c ≡ true → (x : Moment) × IsAt events t c x × Puts m (s.net t a.word) x
  puts_word a g t c l h =
      let e = access_from Enq g.number a.enable g.operands a.copy g.access t c l h in
      let word : word_that_changes Enq (map (s.net t) g.operands) ≡ s.net t a.word = mapped_word (s.net t) g.operands 0 g.some ∙ ap (s.net t) (sym g.word) in
      let act : Some (puts (word_that_changes Enq (map (s.net t) g.operands))) ≡ Some e.0.act = g.access.acts.word t e.0 l e.1 refl in
      let same : puts (word_that_changes Enq (map (s.net t) g.operands)) ≡ e.0.act = cc (act) in
      (touches e.0, e.2, ((of_kind g.number Enq g.access.is t e.0 e.1).0, sym same ∙ ap puts word))

  module _ (list : List Touch) (all : HasAllWrites core s events last m list) where
    write_made : (t c : ℕ) (x : Moment) (w : ℕ) → t ≤ last → IsAt events t c x → Writes m w x → (a : Touch) × Contains list a × (is_at s t a.enable a.copy c ≡ true)
    write_made t c (touches e) w l there h = let a = all.operations e.number (event_op t c e there h.0 Write (λ k v q. write_kind v w k (q ∙ ap Some h.1))) in (a.0, a.2, access_at Write e.number a.0.enable a.1 a.0.copy a.3 t c e l there refl)
    write_made t c (slices x) w l there h = absurd h
    write_made t c (renews n) w l there h = absurd h
    write_made t c (keeps n v) w l there h = all.states t c v l (subst (λ k. IsAt events t c (keeps k v)) h.0 there)

    write_only : (t c : ℕ) (a : Touch) → IsWrite core s events last m a → t ≤ last → is_at s t a.enable a.copy c ≡ true → (x : Moment) × IsAt events t c x × Writes m (s.net t a.word) x
    write_only t c _ (an_operation a g) l h = writes_word a g t c l h
    write_only t c _ (a_machine a only) l h =
        let parts = and_parts (is_on s a.enable t) (copy_at s t a.copy == c) h in
        (keeps m (s.net t a.word), subst (λ k. IsAt events t k (keeps m (s.net t a.word))) (eqb-true _ _ parts.1) (only t l parts.0), (refl, refl))

    pub are_writes : AreWrites s events last m list
    are_writes = record { made = λ t c x l there h. write_made t c x h.0 l there h.1; only = λ t c a l k h. write_only t c a (all.each a k) l h }

  module _ (list : List Fresh) (all : HasAllFresh core s events last m list) where
    fresh_made : (t c : ℕ) (x : Moment) → t ≤ last → IsAt events t c x → Freshens m core x → (f : Fresh) × Contains list f × (is_at s t f.enable f.copy c ≡ true)
    fresh_made t c (touches e) l there h = let f = all.operations e.number (event_op t c e there h.0 Reset (λ k v q. reset_kind v k (q ∙ ap Some h.1))) in (f.0, f.2, access_at Reset e.number f.0.enable f.1 f.0.copy f.3 t c e l there refl)
    fresh_made t c (slices x) l there h = absurd h
    fresh_made t c (renews n) l there h = all.owners t c l (subst (λ k. IsAt events t c (renews k)) h.0 there) (subst (λ k. is_done core (renews k) ≡ true) h.0 h.1)
    fresh_made t c (keeps n v) l there h = absurd h

    fresh_only : (t c : ℕ) (f : Fresh) → Makes core s events last m f → t ≤ last → is_at s t f.enable f.copy c ≡ true → (x : Moment) × IsAt events t c x × Freshens m core x
    fresh_only t c _ (a_reset f n operands is) l h =
        let e = access_from Reset n f.enable operands f.copy is t c l h in
        let of = of_kind n Reset is.is t e.0 e.1 in
        let act : Some resets ≡ Some e.0.act = of.2 in
        (touches e.0, e.2, (of.0, cc (act)))
    fresh_only t c _ (an_owner f done only) l h =
        let parts = and_parts (is_on s f.enable t) (copy_at s t f.copy == c) h in
        (renews m, subst (λ k. IsAt events t k (renews m)) (eqb-true _ _ parts.1) (only t l parts.0), (refl, done))

    pub are_fresh : AreFresh s events last m core list
    are_fresh = record { made = fresh_made; only = λ t c f l k h. fresh_only t c f (all.each f k) l h }

  module _ (list : List Touch) (all : HasAllPuts core s events last m list) where
    put_made : (t c : ℕ) (x : Moment) (w : ℕ) → t ≤ last → IsAt events t c x → Puts m w x → (a : Touch) × Contains list a × (is_at s t a.enable a.copy c ≡ true)
    put_made t c (touches e) w l there h = let a = all.operations e.number (event_op t c e there h.0 Enq (λ k v q. put_kind v w k (q ∙ ap Some h.1))) in (a.0, a.2, access_at Enq e.number a.0.enable a.1 a.0.copy a.3 t c e l there refl)
    put_made t c (slices x) w l there h = absurd h
    put_made t c (renews n) w l there h = absurd h
    put_made t c (keeps n v) w l there h = absurd h

    pub are_puts : ArePuts s events last m list
    are_puts = record { made = λ t c x l there h. put_made t c x h.0 l there h.1; only = λ t c a l k h. puts_word a (all.each a k) t c l h }

  module _ (list : List Touch) (all : HasAllTakes core s events last m list) where
    take_made : (t c : ℕ) (x : Moment) (w : ℕ) → t ≤ last → IsAt events t c x → Takes m w x → (a : Touch) × Contains list a × (is_at s t a.enable a.copy c ≡ true)
    take_made t c (touches e) w l there h = let a = all.operations e.number (event_op t c e there h.0 Deq (λ k v q. take_kind v w k (q ∙ ap Some h.1))) in (a.0, a.2, access_at Deq e.number a.0.enable a.1 a.0.copy a.3 t c e l there refl)
    take_made t c (slices x) w l there h = absurd h
    take_made t c (renews n) w l there h = absurd h
    take_made t c (keeps n v) w l there h = absurd h

    take_only : (t c : ℕ) (a : Touch) → t ≤ last → Contains list a → is_at s t a.enable a.copy c ≡ true → (x : Moment) × IsAt events t c x × ((w : ℕ) × Takes m w x)
    take_only t c a l k h =
        let g = all.each a k in
        let e = access_from Deq g.0 a.enable g.1 a.copy g.2 t c l h in
        let of = of_kind g.0 Deq g.2.is t e.0 e.1 in
        let act : Some (takes of.1) ≡ Some e.0.act = of.2 in
        (touches e.0, e.2, (of.1, (of.0, cc (act))))

    pub are_takes : AreTakes s events last m list
    are_takes = record { made = λ t c x l there h. take_made t c x h.0 l there h.1; only = take_only }

pub operations_stay : ((node : PlainNode) → NumbersStandForOne node) → (core : PlainCore) (plan : PlainPlan) → OperationsStay core plan
operations_stay one_item core plan events first well m n kind is = operation_stays one_item core plan events first well m n kind is

pub accesses_ask : ((node : PlainNode) → NumbersStandForOne node) → (core : PlainCore) (plan : PlainPlan) → TransfersMove core → AccessesAsk core plan
accesses_ask one_item core plan moves is_core events first well m still = record {
  writes = are_writes one_item core plan events first well moves is_core m still;
  fresh = are_fresh one_item core plan events first well moves is_core m still;
  puts = are_puts one_item core plan events first well moves is_core m still;
  takes = are_takes one_item core plan events first well moves is_core m still;
}
