-- Operations and their nets, place by place.
use Rattle.std.proofs.Common.{◌≡◌, ℕ, zero, suc, ◌+◌, ◌*◌, ◌-◌, ◌%◌, ◌^◌, ◌==◌, ◌<◌, ◌≤◌, ⊎_elim, true, ◌&&◌, nat_le, List, [], ◌∷◌, ◌++◌, length, Contains, slice_index, slice_index_or, refl, sym, ◌∙◌, ap, subst, arith}
use Rattle.std.proofs.lemmas.Bool.{true≢false, and_parts, leb-true, eqb-true}
use Rattle.std.proofs.lemmas.List.{length-map}
use Rattle.std.proofs.lemmas.List.Elements.{Contains-append_left, Contains-append_right, Contains-append_cases}
use Rattle.sp_words.specs.declared.types.Ty.{Ty}
use Rattle.sp_words.specs.declared.types.Ty.TheVariants.{Bit, Fix}
use Rattle.sp_words.specs.Types.{width_of, int_type}
use Rattle.sp_words.specs.Words.{word_add}
use Rattle.sp_netlist.specs.Draft.{Draft}
use Rattle.sp_netlist.specs.Signals.{Signals}
use Rattle.sp_gates.specs.Nets.{HasNet}
use Rattle.sp_gates.specs.Tested.{is_on}
use Rattle.sp_gates.proofs.Growing.{HasNet-stays, Grows-join, more_gates}
use Rattle.sp_gates.proofs.Running.{runs_earlier}
use Rattle.sp_core.specs.declared.operation.Op.{Op}
use Rattle.sp_core.specs.declared.operation.OpKind.{OpKind}
use Rattle.sp_core.specs.declared.operation.OpKind.TheVariants.{Word, Count, Live, Read, Write, Enq, Deq, Reset, One, Two, Shift, Mux, Cast}
use Rattle.sp_core.specs.Around.{Around, Near, has_lane}
use Rattle.sp_core.specs.Latency.{latency}
use Rattle.sp_core.specs.OperationRules.{is_in_range, names_rightly, is_operation_right, are_operations_right_after}
use Rattle.sp_core.specs.Plain.{plain_op, plain_ops}
use Rattle.sp_core.specs.PlainCore.{PlainOp, PlainCore}
use Rattle.sp_core.specs.Scope.{is_some_up_to}
use Rattle.sp_core.specs.Typed.{Given, given_type, is_type, is_same_flag}
use Rattle.sp_pipe.specs.declared.part.Act.{Act}
use Rattle.sp_part_runs.specs.ActsCircuits.{IsActOf, is_given, is_answered, of_word, of_count, of_live, of_read, of_write, of_enq, of_deq, of_reset, of_one, of_two, of_shift, of_mux, of_cast}
use Rattle.sp_part_runs.specs.ActsEntries.{IsOpAt}
use Rattle.sp_circuit_ops.specs.declared.ops.WordNet.{WordNet}
use Rattle.sp_node_runs.specs.BodiesGiven.{CounterNets, Nets, IsGivenBy, counted, lived}
use Rattle.sp_op_nets.specs.declared.table.AroundNets.{AroundNets}
use Rattle.sp_op_nets.specs.Laws.{CountersStand, OperationsAreGiven, SameNetsGive, NetsFit, ReservedAreDriven}
use Rattle.sp_op_nets.specs.Nets.{is_counted, counted_width, IsNetOf, AreNetsOf, no_op, more_ops}
use Rattle.sp_op_nets.specs.Reserved.{is_reserved, Rise}
use Rattle.sp_op_nets.specs.Table.{nets_at, HasLane, StandsAt, StandAround}

-- types that are one are as wide
same_width : (t u : Ty) → is_type t u ≡ true → width_of t ≡ width_of u
same_width Bit Bit e = refl
same_width (Fix a) (Fix b) e =
    let p = and_parts (is_same_flag a.signed b.signed) ((a.whole == b.whole) && (a.frac == b.frac)) e in
    let q = and_parts (a.whole == b.whole) (a.frac == b.frac) p.1 in
    sums a.whole b.whole a.frac b.frac (eqb-true a.whole b.whole q.0) (eqb-true a.frac b.frac q.1)
  where
    sums : (a b c d : ℕ) → a ≡ b → c ≡ d → a + c ≡ b + d
    sums a b c d e f = omega (arith, e, f)
same_width Bit (Fix b) e = absurd (true≢false (sym e))
same_width (Fix a) Bit e = absurd (true≢false (sym e))

-- what an operation's rules say of its counter
lane_right : (kind : OpKind) (ty : Ty) (around : Around) → is_in_range kind ty around ≡ true → HasLane around.counters kind
lane_right (Word w) ty around e = tt
lane_right (Count c lane) ty around e = (and_parts (has_lane around.counters c lane) (is_type ty int_type) e).0
lane_right (Live c first last) ty around e = (and_parts (nat_le first last) (has_lane around.counters c last) (and_parts (nat_le first last && has_lane around.counters c last) (is_type ty Bit) e).0).1
lane_right Read ty around e = tt
lane_right Write ty around e = tt
lane_right Enq ty around e = tt
lane_right Deq ty around e = tt
lane_right Reset ty around e = tt
lane_right (One op) ty around e = tt
lane_right (Two op) ty around e = tt
lane_right (Shift left by) ty around e = tt
lane_right Mux ty around e = tt
lane_right (Cast to) ty around e = tt

stands_right : (d : Draft) (table : List AroundNets) (kind : OpKind) (ty : Ty) (around : Around) → StandAround d table around.counters → is_in_range kind ty around ≡ true → StandsAt d table kind
stands_right d table (Word w) ty around all e = tt
stands_right d table (Count c lane) ty around all e = all c lane (and_parts (has_lane around.counters c lane) (is_type ty int_type) e).0
stands_right d table (Live c first last) ty around all e =
    let p = and_parts (nat_le first last) (has_lane around.counters c last) (and_parts (nat_le first last && has_lane around.counters c last) (is_type ty Bit) e).0 in
    (leb-true first last p.0, all c last p.1)
stands_right d table Read ty around all e = tt
stands_right d table Write ty around all e = tt
stands_right d table Enq ty around all e = tt
stands_right d table Deq ty around all e = tt
stands_right d table Reset ty around all e = tt
stands_right d table (One op) ty around all e = tt
stands_right d table (Two op) ty around all e = tt
stands_right d table (Shift left by) ty around all e = tt
stands_right d table Mux ty around all e = tt
stands_right d table (Cast to) ty around all e = tt

-- a word that is given is that of a counter or of lanes, and a memory answers reads and takes
given_right : (kind : OpKind) (a : Act) (ty : Ty) (around : Around) → IsActOf kind a → is_in_range kind ty around ≡ true → is_given a ≡ true → (is_counted kind ≡ true) × (counted_width kind ≡ width_of ty)
given_right _ _ ty around (of_word w) r e = absurd (true≢false (sym e))
given_right _ _ ty around (of_count c lane net) r e = (refl, sym (same_width ty int_type (and_parts (has_lane around.counters c lane) (is_type ty int_type) r).1))
given_right _ _ ty around (of_live c first last net) r e = (refl, sym (same_width ty Bit (and_parts (nat_le first last && has_lane around.counters c last) (is_type ty Bit) r).1))
given_right _ _ ty around (of_read net after) r e = absurd (true≢false (sym e))
given_right _ _ ty around of_write r e = absurd (true≢false (sym e))
given_right _ _ ty around of_enq r e = absurd (true≢false (sym e))
given_right _ _ ty around (of_deq net after) r e = absurd (true≢false (sym e))
given_right _ _ ty around of_reset r e = absurd (true≢false (sym e))
given_right _ _ ty around (of_one op) r e = absurd (true≢false (sym e))
given_right _ _ ty around (of_two op) r e = absurd (true≢false (sym e))
given_right _ _ ty around (of_shift left by) r e = absurd (true≢false (sym e))
given_right _ _ ty around of_mux r e = absurd (true≢false (sym e))
given_right _ _ ty around (of_cast to) r e = absurd (true≢false (sym e))

pub answered_right : (kind : OpKind) (a : Act) → IsActOf kind a → is_answered a ≡ true → is_reserved kind ≡ true
answered_right _ _ (of_word w) e = absurd (true≢false (sym e))
answered_right _ _ (of_count c lane net) e = absurd (true≢false (sym e))
answered_right _ _ (of_live c first last net) e = absurd (true≢false (sym e))
answered_right _ _ (of_read net after) e = refl
answered_right _ _ of_write e = absurd (true≢false (sym e))
answered_right _ _ of_enq e = absurd (true≢false (sym e))
answered_right _ _ (of_deq net after) e = refl
answered_right _ _ of_reset e = absurd (true≢false (sym e))
answered_right _ _ (of_one op) e = absurd (true≢false (sym e))
answered_right _ _ (of_two op) e = absurd (true≢false (sym e))
answered_right _ _ (of_shift left by) e = absurd (true≢false (sym e))
answered_right _ _ of_mux e = absurd (true≢false (sym e))
answered_right _ _ (of_cast to) e = absurd (true≢false (sym e))

-- the operation at a place is in range
range_at : (core : PlainCore) (around : Around) (earlier : Given) (ops : List PlainOp) → are_operations_right_after core around earlier ops ≡ true → (k : ℕ) (op : PlainOp) → IsOpAt ops k op → is_in_range op.kind op.ty around ≡ true
range_at core around earlier [] r k op at = absurd (let lt = at.within in omega (arith, lt))
range_at core around earlier (o ∷ ops) r zero op at =
    let here = (and_parts (is_operation_right core around earlier o) _ r).0 in
    let front = (and_parts (is_in_range o.kind o.ty around && names_rightly core around o.kind o.ty o.mem) _ here).0 in
    subst (λ (x : PlainOp). is_in_range x.kind x.ty around ≡ true) (at.is o) (and_parts (is_in_range o.kind o.ty around) (names_rightly core around o.kind o.ty o.mem) front).0
range_at core around earlier (o ∷ ops) r (suc k) op at =
    range_at core around (earlier ++ given_type o.kind o.ty ∷ []) ops (and_parts (is_operation_right core around earlier o) _ r).1 k op (record { within = (let lt = at.within in omega (arith, lt)); is = at.is })

-- and so is its net
pub net_here : (d : Draft) (table : List AroundNets) (ops : List PlainOp) (afters : List ℕ) (ns : List WordNet) (k : ℕ) (op : PlainOp) → AreNetsOf d table ops afters ns → IsOpAt ops k op
    → IsNetOf d table op (slice_index afters k) (slice_index_or ns k (record { net = 0; after = 0 }))
net_here d table _ _ _ k op no_op at = absurd (let lt = at.within in omega (arith, lt))
net_here d table _ _ _ zero op (more_ops o ops a afters n ns here rest) at = subst (λ (x : PlainOp). IsNetOf d table x a n) (at.is o) here
net_here d table _ _ _ (suc k) op (more_ops o ops a afters n ns here rest) at = net_here d table ops afters ns k op rest (record { within = (let lt = at.within in omega (arith, lt)); is = at.is })

plain_at : (ops : List Op) (k : ℕ) (op : Op) → k < length ops → slice_index_or ops k op ≡ op → IsOpAt (plain_ops ops) k (plain_op op)
plain_at ops k op lt is = record { within = (let l = length-map ops plain_op in omega (arith, lt, l)); is = at ops k lt is }
  where
    at : (xs : List Op) (i : ℕ) → i < length xs → slice_index_or xs i op ≡ op → (o : PlainOp) → slice_index_or (plain_ops xs) i o ≡ plain_op op
    at [] i lt is o = absurd (omega (arith, lt))
    at (x ∷ xs) zero lt is o = ap plain_op is
    at (x ∷ xs) (suc i) lt is o = at xs i (omega (arith, lt)) is o

pub stand_all : CountersStand
stand_all core around d table ops right all k lt op is = stands_right d table op.kind op.ty around all (range_at core around [] (plain_ops ops) right k (plain_op op) (plain_at ops k op lt is))

pub are_given : OperationsAreGiven
are_given core around d later table ops times afters nets ps s right all placed grows run k op p there at e =
    let range = range_at core around [] (plain_ops ops) right k op there in
    let kinds = (placed.ops_of.alike k op p there at).kinds in
    let here = net_here d table (plain_ops ops) afters nets k op all there in
    let word = here.given (given_right op.kind p.act op.ty around kinds range e).0 around.counters (lane_right op.kind op.ty around range) s (runs_earlier d later s grows run) in
    subst (λ n. IsGivenBy s around.counters (nets_at table) op.kind n) (sym (placed.given k p at e)) word

same_given : (s : Signals) (near : List Near) (env other : Nets) → ((c lane : ℕ) → has_lane near c lane ≡ true → env c ≡ other c) → (kind : OpKind) (net : ℕ) → IsGivenBy s near env kind net → IsGivenBy s near other kind net
same_given s near env other h _ _ (counted c lane net has word) = counted c lane net has (λ t. word t ∙ ap (λ (n : CounterNets). word_add int_type (s.net t n.value) ((lane * n.step) % 2 ^ 32)) (h c lane has))
same_given s near env other h _ _ (lived c first last net order has small on) =
    lived c first last net order has small (λ t. on t ∙ ap (λ (n : CounterNets). is_some_up_to (λ l. is_on s (slice_index n.masks l) t) first (last - first)) (h c last has))

pub same_give : SameNetsGive
same_give s near env other ops ps h given k op p there at e = same_given s near env other h op.kind _ (given k op p there at e)

pub fit_all : NetsFit
fit_all core around d later table ops times afters nets ps right all placed grows early k op p there at =
    let range = range_at core around [] (plain_ops ops) right k op there in
    let kinds = (placed.ops_of.alike k op p there at).kinds in
    let here = net_here d table (plain_ops ops) afters nets k op all there in
    record {
      given = λ e.
          let g = given_right op.kind p.act op.ty around kinds range e in
          subst (λ n. HasNet later n (width_of op.ty)) (sym (placed.given k p at e)) (subst (λ w. HasNet later (slice_index_or nets k (record { net = 0; after = 0 })).net w) g.1 (HasNet-stays d later _ _ grows (here.counted g.0)));
      answered = λ e. subst (λ n. HasNet later n (width_of op.ty)) (sym (placed.answered k p at e)) (HasNet-stays d later _ _ grows (here.stands (answered_right op.kind p.act kinds e)));
      early = λ e.
          let so = answered_right op.kind p.act kinds e in
          subst (λ n. n ≤ latency core op) (sym (placed.later k p at e ∙ here.later so)) (early k op there so);
    }

pub above : (from : ℕ) (ns : List ℕ) (n : ℕ) → Rise from ns → Contains ns n → from ≤ n
above from [] n r k = (let l = k.1 in absurd (omega (arith, l)))
above from (m ∷ ns) n r (zero, l, e) = (let a = r.0 in omega (arith, a, e))
above from (m ∷ ns) n r (suc k, l, e) = (let a = r.0 in let b = above (suc m) ns n r.1 (k, omega (arith, l), e) in omega (arith, a, b))

pub driven_all : ReservedAreDriven
driven_all a b c nets more r f = record {
  grows = Grows-join a b c r.grows f.grows;
  gates = more_gates a b c r.gates f.gates;
  still_open = λ n was out. f.still_open n (r.still_open n was) (λ k. ⊎_elim (λ l. (let low = was.within in let up = above (length a.promised) nets n r.rise l in absurd (omega (arith, low, up)))) (λ m. out m) (Contains-append_cases nets more n k));
  no_other = λ n is.
      let before = f.no_other n is in
      (r.no_other n before.0 (λ k. before.1 (Contains-append_left nets more n k)), λ k. before.1 (Contains-append_right nets more n k));
}
