-- The accesses of all lists, by the operations of the lists.
use Rattle.std.proofs.Common.{◌≡◌, ℕ, zero, suc, ◌+◌, inl, inr, true, List, [], ◌∷◌, Option, Some, None, refl, sym, ◌∙◌, ap, subst, arith}
use Rattle.std.proofs.lemmas.Bool.{and_parts, false≢true}
use Rattle.std.proofs.lemmas.List.{get_or_default}
use Rattle.std.proofs.lemmas.List.Elements.{Contains-append_left, Contains-append_right, Contains-append_cases}
use Rattle.std.specs.List.{AllZip, Contains, list_all}
use Rattle.sp_words.specs.declared.kind.Kind.{Kind}
use Rattle.sp_words.specs.declared.kind.Kind.TheVariants.{Reg, Sram, Fifo, LineBuf, Dram, ArgIn, ArgOut}
use Rattle.sp_netlist.specs.Draft.{Draft}
use Rattle.sp_netlist.specs.Signals.{Signals}
use Rattle.sp_core.specs.declared.operation.OpKind.{OpKind}
use Rattle.sp_core.specs.declared.operation.OpKind.TheVariants as kind
use Rattle.sp_core.specs.Around.{Around}
use Rattle.sp_core.specs.Declarations.{mem}
use Rattle.sp_core.specs.Events.{act_of}
use Rattle.sp_core.specs.OperationRules.{is_early_kind, is_early_at, is_early}
use Rattle.sp_core.specs.PlainCore.{PlainOp, PlainCore}
use Rattle.sp_pipe.specs.declared.part.Act.{Act}
use Rattle.sp_pipe.specs.declared.part.Act.TheVariants as act
use Rattle.sp_pipe.specs.declared.part.PipeOp.{PipeOp}
use Rattle.sp_pipe.specs.Right.{IsAt}
use Rattle.sp_pipe.specs.Values.{is_access}
use Rattle.sp_part_runs.specs.ActsCircuits.{IsActOf, is_answered, net_of, answer_of, of_word, of_count, of_live, of_read, of_write, of_enq, of_deq, of_reset, of_one, of_two, of_shift, of_mux, of_cast}
use Rattle.sp_part_runs.specs.ActsEntries.{IsOpAt, touches_memory}
use Rattle.sp_plan.specs.PlainPlan.{PlainPlan}
use Rattle.sp_time.specs.Lists.{Each}
use Rattle.sp_machine.specs.Stamps.{Stamped}
use Rattle.sp_machine.specs.Transfers.{Delays}
use Rattle.sp_node_runs.specs.BodiesTold.{Happens, ActsInTime, AreAnsweredInTime}
use Rattle.sp_circuit_ops.specs.declared.ops.WordNet.{WordNet}
use Rattle.sp_op_nets.specs.declared.acted.ActedList.{ActedList}
use Rattle.sp_access_nets.specs.declared.access.AccessNets.{AccessNets}
use Rattle.sp_access_nets.specs.Accesses.{is_some, answer_in, AccessesNameMemories, AreAccesses, AreHandedOn}
use Rattle.sp_access_nets.specs.Laws.{RulesNameMemories, EachHasAccess, EachIsOfOperation}
use Rattle.sp_tree_events.specs.ToldItems.{IsListed}
use Rattle.sp_tree_handed.specs.Lists.{NumberedOps}
use Rattle.sp_tree_handed.specs.Scalars.{IsInBanks}
use Rattle.sp_tree_handed.specs.Standing.{IsListStanding, AreListsStanding}
use Rattle.sp_tree_accesses.specs.Accesses.{AreAllAccesses, no_list, one_list}
use Rattle.sp_tree_accesses.specs.Laws.{HasAccess, AreAccessesAnswered}
use Rattle.sp_tree_accesses.proofs.Going.{Goes}
use Rattle.sp_tree_accesses.proofs.Numbers.{HasIn}
use Rattle.sp_tree_accesses.proofs.Rules.{IsListRight}

same_some : (a b : ℕ) → Some a ≡ Some b → a ≡ b
same_some a b e = cc

some_named : (o : Option ℕ) → is_some o ≡ true → (m : ℕ) × (o ≡ Some m)
some_named None e = absurd (false≢true e)
some_named (Some m) e = (m, refl)

listed_at : (ops : List PlainOp) (first number : ℕ) (op : PlainOp) (h : IsListed ops first number op) → IsOpAt ops h.place op
listed_at ops first number op h = record { within = h.within; is = λ other. get_or_default ops h.place other op h.within ∙ h.is }

pub at_listed : (ops : List PlainOp) (first number k : ℕ) (op : PlainOp) → number ≡ first + k → IsOpAt ops k op → IsListed ops first number op
at_listed ops first number k op e h = record { place = k; within = h.within; is = h.is op; numbered = e }

op_same : (a b : PlainOp) (ops : List PlainOp) → IsOpAt (a ∷ ops) 0 b → a ≡ b
op_same a b ops at = at.is a

part_same : (a b : PipeOp) (ps : List PipeOp) → IsAt (a ∷ ps) 0 b → a ≡ b
part_same a b ps at = at.is a

both_same : (ps : List PipeOp) (k : ℕ) (a b : PipeOp) → IsAt ps k a → IsAt ps k b → a ≡ b
both_same ps k a b f g = sym (f.is a) ∙ g.is a

op_behind : (a b : PlainOp) (ops : List PlainOp) (k : ℕ) → IsOpAt (a ∷ ops) (suc k) b → IsOpAt ops k b
op_behind a b ops k at = record { within = (let w = at.within in omega (arith, w)); is = at.is }

part_behind : (a b : PipeOp) (ps : List PipeOp) (k : ℕ) → IsAt (a ∷ ps) (suc k) b → IsAt ps k b
part_behind a b ps k at = record { within = (let w = at.within in omega (arith, w)); is = at.is }

-- an operation names a memory where its circuit's is an access
named_at : (ops : List PlainOp) (ps : List PipeOp) (k : ℕ) (op : PlainOp) (p : PipeOp) → AccessesNameMemories ops ps → IsOpAt ops k op → IsAt ps k p → is_some op.mem ≡ is_access p.act
named_at [] ps k op p h at at_p = (let w = at.within in absurd (omega (arith, w)))
named_at (o ∷ ops) [] k op p h at at_p = absurd h
named_at (o ∷ ops) (q ∷ ps) zero op p h at at_p = sym (ap (λ (x : PlainOp). is_some x.mem) (op_same o op ops at)) ∙ (h.0 ∙ ap (λ (x : PipeOp). is_access x.act) (part_same q p ps at_p))
named_at (o ∷ ops) (q ∷ ps) (suc k) op p h at at_p = named_at ops ps k op p h.1 (op_behind o op ops k at) (part_behind q p ps k at_p)

touches : (kind : OpKind) (a : Act) → IsActOf kind a → is_access a ≡ true → touches_memory kind ≡ true
touches _ _ (of_word w) e = absurd (false≢true e)
touches _ _ (of_count c lane net) e = absurd (false≢true e)
touches _ _ (of_live c first last net) e = absurd (false≢true e)
touches _ _ (of_read net after) e = refl
touches _ _ of_write e = refl
touches _ _ of_enq e = refl
touches _ _ (of_deq net after) e = refl
touches _ _ of_reset e = refl
touches _ _ (of_one op) e = absurd (false≢true e)
touches _ _ (of_two op) e = absurd (false≢true e)
touches _ _ (of_shift left by) e = absurd (false≢true e)
touches _ _ of_mux e = absurd (false≢true e)
touches _ _ (of_cast to) e = absurd (false≢true e)

answered_is_access : (a : Act) → is_answered a ≡ true → is_access a ≡ true
answered_is_access (act.Read net after) e = refl
answered_is_access (act.Deq net after) e = refl
answered_is_access (act.Given net) e = absurd (false≢true e)
answered_is_access (act.Word w) e = absurd (false≢true e)
answered_is_access (act.One op) e = absurd (false≢true e)
answered_is_access (act.Two op) e = absurd (false≢true e)
answered_is_access (act.Shift left by) e = absurd (false≢true e)
answered_is_access act.Mux e = absurd (false≢true e)
answered_is_access (act.Cast to) e = absurd (false≢true e)
answered_is_access act.Write e = absurd (false≢true e)
answered_is_access act.Enq e = absurd (false≢true e)
answered_is_access act.Reset e = absurd (false≢true e)

abbrev answer_word : Act → WordNet
answer_word a = record { net = net_of a; after = answer_of a }

pub answer_is : (a : Act) → is_answered a ≡ true → answer_in a ≡ Some (answer_word a)
answer_is (act.Read net after) e = refl
answer_is (act.Deq net after) e = refl
answer_is (act.Given net) e = absurd (false≢true e)
answer_is (act.Word w) e = absurd (false≢true e)
answer_is (act.One op) e = absurd (false≢true e)
answer_is (act.Two op) e = absurd (false≢true e)
answer_is (act.Shift left by) e = absurd (false≢true e)
answer_is act.Mux e = absurd (false≢true e)
answer_is (act.Cast to) e = absurd (false≢true e)
answer_is act.Write e = absurd (false≢true e)
answer_is act.Enq e = absurd (false≢true e)
answer_is act.Reset e = absurd (false≢true e)

pub early_at : (core : PlainCore) (around : Around) (ops : List PlainOp) (k : ℕ) (op : PlainOp) → list_all (is_early core around) ops ≡ true → IsOpAt ops k op → is_early core around op ≡ true
early_at core around [] k op h at = (let w = at.within in absurd (omega (arith, w)))
early_at core around (o ∷ ops) zero op h at = subst (λ x. is_early core around x ≡ true) (op_same o op ops at) (and_parts (is_early core around o) (list_all (is_early core around) ops) h).0
early_at core around (o ∷ ops) (suc k) op h at = early_at core around ops k op (and_parts (is_early core around o) (list_all (is_early core around) ops) h).1 (op_behind o op ops k at)

-- what touches a memory and changes nothing is a read
pub early_reads : (core : PlainCore) (around : Around) (k : OpKind) (m : Kind) → touches_memory k ≡ true → is_early_kind core around k m ≡ true → k ≡ kind.Read
early_reads core around kind.Read m t e = refl
early_reads core around kind.Write m t e = absurd (false≢true e)
early_reads core around kind.Enq m t e = absurd (false≢true e)
early_reads core around kind.Deq m t e = absurd (false≢true e)
early_reads core around kind.Reset m t e = absurd (false≢true e)
early_reads core around (kind.Word w) m t e = absurd (false≢true t)
early_reads core around (kind.Count c lane) m t e = absurd (false≢true t)
early_reads core around (kind.Live c first last) m t e = absurd (false≢true t)
early_reads core around (kind.One op) m t e = absurd (false≢true t)
early_reads core around (kind.Two op) m t e = absurd (false≢true t)
early_reads core around (kind.Shift left by) m t e = absurd (false≢true t)
early_reads core around kind.Mux m t e = absurd (false≢true t)
early_reads core around (kind.Cast to) m t e = absurd (false≢true t)

-- what comes out of banks isn't early
pub banks_wait : (core : PlainCore) (around : Around) (k : OpKind) (m : Kind) → IsInBanks m → touches_memory k ≡ true → is_early_kind core around k m ≡ true → ⊥
banks_wait core around kind.Read Sram b t e = false≢true e
banks_wait core around kind.Read LineBuf b t e = false≢true e
banks_wait core around kind.Read Reg b t e = b
banks_wait core around kind.Read Fifo b t e = b
banks_wait core around kind.Read Dram b t e = b
banks_wait core around kind.Read ArgIn b t e = b
banks_wait core around kind.Read ArgOut b t e = b
banks_wait core around kind.Write m b t e = false≢true e
banks_wait core around kind.Enq m b t e = false≢true e
banks_wait core around kind.Deq m b t e = false≢true e
banks_wait core around kind.Reset m b t e = false≢true e
banks_wait core around (kind.Word w) m b t e = false≢true t
banks_wait core around (kind.Count c lane) m b t e = false≢true t
banks_wait core around (kind.Live c first last) m b t e = false≢true t
banks_wait core around (kind.One op) m b t e = false≢true t
banks_wait core around (kind.Two op) m b t e = false≢true t
banks_wait core around (kind.Shift left by) m b t e = false≢true t
banks_wait core around kind.Mux m b t e = false≢true t
banks_wait core around (kind.Cast to) m b t e = false≢true t

-- an access that no bound and no slice may have
abbrev pub IsLate : PlainCore → AccessNets → Type 0
IsLate core x = (around : Around) → touches_memory x.kind ≡ true → is_early_kind core around x.kind (mem core x.mem).kind ≡ true → ⊥

module _ (core : PlainCore) (copy : (number : ℕ) → Option ℕ) (names : RulesNameMemories) (d : Draft) where
  -- the accesses of a list, as its circuit has them
  pub name_memories : (list : NumberedOps) (a : ActedList) → IsListRight core list → IsListStanding d core list a → AccessesNameMemories list.ops a.ops.items
  name_memories list a right stand = names core right.around list.ops a.ops.items right.right stand.ops_of

  pub standing_accesses : (list : NumberedOps) (a : ActedList) (added : List AccessNets) → IsListRight core list → (stand : IsListStanding d core list a) → AreHandedOn copy list.number list.ops a.ops.items a.nets.items added
      → AreAccesses copy stand.draft stand.issue a.ops.items list.number list.ops a.ops.items added
  standing_accesses list a added right stand handed = handed stand.draft stand.issue a.ops.items (name_memories list a right stand) stand.acts

  pub found : (each : EachHasAccess) (lists : List NumberedOps) (acted : List ActedList) (accesses : List AccessNets) → AreAllAccesses copy lists acted accesses → Each (IsListRight core) lists → AreListsStanding d core lists acted
      → (m n : ℕ) (kind : OpKind) (op : PlainOp) → HasIn lists n op → op.mem ≡ Some m → op.kind ≡ kind → HasAccess accesses m kind n
  found each _ _ _ no_list rights stand m n kind op h e f = absurd h
  found each _ _ _ (one_list {list} {lists} {a} {acted} {added} {accesses} handed nets more) rights stand m n kind op (inl h) e f =
      let w = each copy stand.0.draft stand.0.issue a.ops.items list.number list.ops a.ops.items added (standing_accesses list a added rights.0 stand.0 handed) h.place op m (listed_at list.ops list.number n op h) e in
      record {
        access = w.0;
        there = Contains-append_left added accesses w.0 w.1;
        numbered = w.2.of_op.first ∙ sym h.numbered;
        mem_is = same_some w.0.mem m (sym w.2.of_op.mem ∙ e);
        kind_is = w.2.of_op.kind ∙ f;
      }
  found each _ _ _ (one_list {list} {lists} {a} {acted} {added} {accesses} handed nets more) rights stand m n kind op (inr h) e f =
      let w = found each lists acted accesses more rights.1 stand.1 m n kind op h e f in
      record { access = w.access; there = Contains-append_right added accesses w.access w.there; numbered = w.numbered; mem_is = w.mem_is; kind_is = w.kind_is }

  -- an operation of an access touches a memory
  touching : (list : NumberedOps) (a : ActedList) → IsListRight core list → IsListStanding d core list a → (k : ℕ) (op : PlainOp) (p : PipeOp) (m : ℕ) → IsOpAt list.ops k op → IsAt a.ops.items k p → op.mem ≡ Some m → touches_memory op.kind ≡ true
  touching list a right stand k op p m at at_p e =
      touches op.kind p.act (stand.ops_of.alike k op p at at_p).kinds (sym (named_at list.ops a.ops.items k op p (name_memories list a right stand) at at_p) ∙ ap is_some e)

  module _ (plan : PlainPlan) (delays : Delays) (s : Signals) (events : List Stamped) (t : ℕ) where
    told_here : (of_op : EachIsOfOperation) (list : NumberedOps) (a : ActedList) (added : List AccessNets) → IsListRight core list → IsListStanding d core list a → AreHandedOn copy list.number list.ops a.ops.items a.nets.items added
        → Goes core plan delays s events t list a → (x : AccessNets) → Contains added x → IsLate core x → ActsInTime s events t x.number x.kind x.enable x.operands.items
    told_here of_op list a added right stand handed (inl at_once) x there other =
        let w = of_op copy stand.draft stand.issue a.ops.items list.number list.ops a.ops.items added (standing_accesses list a added right stand handed) x there in
        absurd (other right.around (subst (λ k. touches_memory k ≡ true) (sym w.3.of_op.kind) (touching list a right stand w.0 w.1 w.3.placed x.mem w.2 w.3.at w.3.of_op.mem))
        (subst (λ k. is_early_kind core right.around k (mem core x.mem).kind ≡ true) (sym w.3.of_op.kind)
        (subst (λ o. is_early_at core right.around w.1.kind o ≡ true) w.3.of_op.mem (early_at core right.around list.ops w.0 w.1 (right.early at_once) w.2))))
    told_here of_op list a added right stand handed (inr goes) x there other =
        let w = of_op copy goes.draft goes.issue a.ops.items list.number list.ops a.ops.items added (handed goes.draft goes.issue a.ops.items (name_memories list a right stand) goes.nets) x there in
        subst (λ n. ActsInTime s events t n x.kind x.enable x.operands.items) (sym w.3.of_op.first)
        (subst (λ k. ActsInTime s events t (list.number + w.0) k x.enable x.operands.items) (sym w.3.of_op.kind)
        (goes.acts w.0 w.1 w.3.placed x.enable x.operands.items w.2 (touching list a right stand w.0 w.1 w.3.placed x.mem w.2 w.3.at w.3.of_op.mem) w.3.at w.3.acts))

    pub told : (of_op : EachIsOfOperation) (lists : List NumberedOps) (acted : List ActedList) (accesses : List AccessNets) → AreAllAccesses copy lists acted accesses → Each (IsListRight core) lists → AreListsStanding d core lists acted
        → AllZip (Goes core plan delays s events t) lists acted → (x : AccessNets) → Contains accesses x → IsLate core x → ActsInTime s events t x.number x.kind x.enable x.operands.items
    told of_op _ _ _ no_list rights stand go x (k, lt, e) other = absurd (omega (arith, lt))
    told of_op _ _ _ (one_list {list} {lists} {a} {acted} {added} {accesses} handed nets more) rights stand go x there other = elim (Contains-append_cases added accesses x there) [
      | inl w ↦ told_here of_op list a added rights.0 stand.0 handed go.0 x w other
      | inr w ↦ told of_op lists acted accesses more rights.1 stand.1 go.1 x w other
    ]

  module _ (s : Signals) (events : List Stamped) (last : ℕ) where
    answered_here : (each : EachHasAccess) (list : NumberedOps) (a : ActedList) (added : List AccessNets) → IsListRight core list → IsListStanding d core list a → AreHandedOn copy list.number list.ops a.ops.items a.nets.items added
        → AreAccessesAnswered s events last added → AreAnsweredInTime s events last list.number list.ops a.ops.items
    answered_here each list a added right stand handed answers k op p at at_p answered t e happens le word act_is =
        let named = some_named op.mem (named_at list.ops a.ops.items k op p (name_memories list a right stand) at at_p ∙ answered_is_access p.act answered) in
        let w = each copy stand.draft stand.issue a.ops.items list.number list.ops a.ops.items added (standing_accesses list a added right stand handed) k op named.0 at named.1 in
        let has = w.2.of_op.answered ∙ (ap (λ (x : PipeOp). answer_in x.act) (both_same a.ops.items k w.2.placed p w.2.at at_p) ∙ answer_is p.act answered) in
        answers w.0 (answer_word p.act) w.1 has t e (subst (λ n. Happens events n t e) (sym w.2.of_op.first) happens) le word (subst (λ k. act_of k word ≡ Some e.act) (sym w.2.of_op.kind) act_is)

    pub answered : (each : EachHasAccess) (lists : List NumberedOps) (acted : List ActedList) (accesses : List AccessNets) → AreAllAccesses copy lists acted accesses → Each (IsListRight core) lists → AreListsStanding d core lists acted
        → AreAccessesAnswered s events last accesses → AllZip (λ (list : NumberedOps) (a : ActedList). AreAnsweredInTime s events last list.number list.ops a.ops.items) lists acted
    answered each _ _ _ no_list rights stand answers = tt
    answered each _ _ _ (one_list {list} {lists} {a} {acted} {added} {accesses} handed nets more) rights stand answers = (
      answered_here each list a added rights.0 stand.0 handed (λ x word there e. answers x word (Contains-append_left added accesses x there) e),
      answered each lists acted accesses more rights.1 stand.1 (λ x word there e. answers x word (Contains-append_right added accesses x there) e),
    )
