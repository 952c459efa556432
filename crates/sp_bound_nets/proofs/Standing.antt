-- A list of operations that are all done and answered in the cycle itself.
use Rattle.std.proofs.Common.{◌≡◌, ℕ, zero, suc, ◌-◌, ◌<◌, ◌≤◌, true, ◌&&◌, IsTrue, List, [], ◌∷◌, ◌++◌, length, Option, Some, None, replicate, slice_index, refl, sym, ◌∙◌, ap, subst, arith}
use Rattle.std.proofs.lemmas.Bool.{true≢false, and_parts}
use Rattle.std.proofs.lemmas.List.{append-nil, length-map}
use Rattle.sp_words.specs.declared.types.Ty.{Ty}
use Rattle.sp_words.specs.Types.{int_type}
use Rattle.sp_netlist.specs.Draft.{Draft}
use Rattle.sp_gates.specs.Bits.{IsOne}
use Rattle.sp_gates.specs.Grows.{Grows, Fills}
use Rattle.sp_core.specs.declared.operation.Op.{Op}
use Rattle.sp_core.specs.declared.operation.OpKind.{OpKind}
use Rattle.sp_core.specs.declared.operation.OpKind.TheVariants as kind
use Rattle.sp_core.specs.Around.{Around}
use Rattle.sp_core.specs.OperationRules.{is_in_range, names_rightly, is_operation_right, is_word_list, are_operations_right, are_operations_right_after}
use Rattle.sp_core.specs.Plain.{plain_op, plain_ops}
use Rattle.sp_core.specs.PlainCore.{PlainOp, PlainCore}
use Rattle.sp_core.specs.Typed.{Given, given_type, last_gives}
use Rattle.sp_core.specs.Typed as typed
use Rattle.sp_pipe.specs.declared.part.Act.{Act}
use Rattle.sp_pipe.specs.declared.part.PipeOp.{PipeOp}
use Rattle.sp_pipe.specs.Acts.{HasWord, AreActs}
use Rattle.sp_pipe.specs.Right.{IsAt, IsTaken, OpsFit}
use Rattle.sp_pipe.specs.Values.{gives_word, given_width}
use Rattle.sp_part_runs.specs.ActsCircuits.{IsActOf, IsOpOf, is_answered, answer_of, of_word, of_count, of_live, of_read, of_write, of_enq, of_deq, of_reset, of_one, of_two, of_shift, of_mux, of_cast}
use Rattle.sp_part_runs.specs.ActsEntries.{IsOpAt, touches_memory}
use Rattle.sp_circuit_ops.specs.declared.ops.WordNet.{WordNet}
use Rattle.sp_circuit_ops.specs.Circuit.{ArePlaced}
use Rattle.sp_circuit_ops.specs.Fitting.{NetStands}
use Rattle.sp_circuit_ops.specs.Nets.{after_at}
use Rattle.sp_circuit_ops.proofs.Fitting.{awaited_fit}
use Rattle.sp_circuit_ops.proofs.Typing.{gives_there, stands_within}
use Rattle.sp_node_runs.specs.Bodies.{HaveMemories}
use Rattle.sp_op_nets.specs.declared.acted.ActedList.{ActedList}
use Rattle.sp_op_nets.specs.declared.table.AroundNets.{AroundNets}
use Rattle.sp_op_nets.specs.Acted.{answers_of}
use Rattle.sp_op_nets.specs.Nets.{AreNetsOf, no_op, more_ops}
use Rattle.sp_op_nets.specs.Reserved.{Reserves, is_reserved, reserved_of}
use Rattle.sp_op_nets.proofs.Driving.{answers}
use Rattle.sp_op_nets.proofs.Giving.{are_given, fit_all}
use Rattle.sp_op_nets.proofs.Reserving.{none_reserved, reserved_join}
use Rattle.sp_bound_nets.specs.Direct.{AreAtOnce, IsDirect}

-- an access that is named rightly names a memory
named : (core : PlainCore) (around : Around) (k : OpKind) (ty : Ty) (mem : Option ℕ) → names_rightly core around k ty mem ≡ true → touches_memory k ≡ true → (m : ℕ) × (mem ≡ Some m)
named core around k ty (Some m) e t = (m, refl)
named core around (kind.Word w) ty None e t = absurd (true≢false (sym t))
named core around (kind.Count c lane) ty None e t = absurd (true≢false (sym t))
named core around (kind.Live c first last) ty None e t = absurd (true≢false (sym t))
named core around kind.Read ty None e t = absurd (true≢false (sym e))
named core around kind.Write ty None e t = absurd (true≢false (sym e))
named core around kind.Enq ty None e t = absurd (true≢false (sym e))
named core around kind.Deq ty None e t = absurd (true≢false (sym e))
named core around kind.Reset ty None e t = absurd (true≢false (sym e))
named core around (kind.One op) ty None e t = absurd (true≢false (sym t))
named core around (kind.Two op) ty None e t = absurd (true≢false (sym t))
named core around (kind.Shift left by) ty None e t = absurd (true≢false (sym t))
named core around kind.Mux ty None e t = absurd (true≢false (sym t))
named core around (kind.Cast to) ty None e t = absurd (true≢false (sym t))

-- so do those of a list
memories_after : (core : PlainCore) (around : Around) (earlier : Given) (ops : List PlainOp) → are_operations_right_after core around earlier ops ≡ true → HaveMemories ops
memories_after core around earlier [] r k op at t = absurd (let lt = at.within in omega (arith, lt))
memories_after core around earlier (o ∷ ops) r zero op at t =
    let here = (and_parts (is_operation_right core around earlier o) _ r).0 in
    let front = (and_parts (is_in_range o.kind o.ty around && names_rightly core around o.kind o.ty o.mem) _ here).0 in
    let names = (and_parts (is_in_range o.kind o.ty around) (names_rightly core around o.kind o.ty o.mem) front).1 in
    named core around op.kind op.ty op.mem (subst (λ (x : PlainOp). names_rightly core around x.kind x.ty x.mem ≡ true) (at.is o) names) t
memories_after core around earlier (o ∷ ops) r (suc k) op at t =
    memories_after core around (earlier ++ given_type o.kind o.ty ∷ []) ops (and_parts (is_operation_right core around earlier o) _ r).1 k op (record { within = (let lt = at.within in omega (arith, lt)); is = at.is }) t

-- the operation at a place
there : (ops : List PlainOp) (k : ℕ) → k < length ops → (op : PlainOp) × IsOpAt ops k op
there [] k lt = absurd (omega (arith, lt))
there (op ∷ ops) zero lt = (op, record { within = lt; is = λ o. refl })
there (op ∷ ops) (suc k) lt = (let r = there ops k (omega (arith, lt)) in (r.0, record { within = lt; is = r.1.is }))

-- that at the last place gives what the list gives
last_there : (ops : List PlainOp) (ty : Ty) → last_gives ops ty ≡ true → (k : ℕ) → suc k ≡ length ops → (op : PlainOp) → IsOpAt ops k op → typed.is_given (given_type op.kind op.ty) ty ≡ true
last_there [] ty e k l op at = absurd (true≢false (sym e))
last_there (o ∷ []) ty e zero l op at = subst (λ (x : PlainOp). typed.is_given (given_type x.kind x.ty) ty ≡ true) (at.is o) e
last_there (o ∷ []) ty e (suc k) l op at = absurd (omega (arith, l))
last_there (o ∷ x ∷ ops) ty e zero l op at = absurd (omega (arith, l))
last_there (o ∷ x ∷ ops) ty e (suc k) l op at = last_there (x ∷ ops) ty e k (omega (arith, l)) op (record { within = (let lt = at.within in omega (arith, lt)); is = at.is })

-- what keeps its rules and gives a word, keeps its rules
pub right_of : (core : PlainCore) (around : Around) (ops : List PlainOp) → is_word_list core around ops int_type ≡ true → (are_operations_right core around ops ≡ true) × (last_gives ops int_type ≡ true)
right_of core around ops e = and_parts (are_operations_right core around ops) (last_gives ops int_type) e

-- a list that gives a word has a last operation
some_ops : (ops : List PlainOp) (ty : Ty) → last_gives ops ty ≡ true → 1 ≤ length ops
some_ops [] ty e = absurd (true≢false (sym e))
some_ops (op ∷ ops) ty e = omega arith

pub some_there : (ops : List Op) → last_gives (plain_ops ops) int_type ≡ true → suc (length ops - 1) ≡ length ops
some_there ops e = (let l = some_ops (plain_ops ops) int_type e in let m = length-map ops plain_op in omega (arith, l, m))

-- an answer comes with its net
after_there : (d : Draft) (table : List AroundNets) (ops : List PlainOp) (afters : List ℕ) (ns : List WordNet) (k : ℕ) (op : PlainOp) → AreNetsOf d table ops afters ns → IsOpAt ops k op → is_reserved op.kind ≡ true → after_at ns k ≡ slice_index afters k
after_there d table _ _ _ k op no_op at e = absurd (let lt = at.within in omega (arith, lt))
after_there d table _ _ _ zero op (more_ops o ops a afters n ns here rest) at e = here.later (subst (λ (x : PlainOp). is_reserved x.kind ≡ true) (sym (at.is o)) e)
after_there d table _ _ _ (suc k) op (more_ops o ops a afters n ns here rest) at e = after_there d table ops afters ns k op rest (record { within = (let lt = at.within in omega (arith, lt)); is = at.is }) e

pub nets_each : (d : Draft) (table : List AroundNets) (ops : List PlainOp) (afters : List ℕ) (nets : List WordNet) → AreNetsOf d table ops afters nets → length nets ≡ length ops
nets_each d table _ _ _ no_op = refl
nets_each d table _ _ _ (more_ops op ops after afters n nets here rest) = ap suc (nets_each d table ops afters nets rest)

-- the operation of a circuit at a place
pub pipe_there : (ps : List PipeOp) (k : ℕ) → k < length ps → (p : PipeOp) × IsAt ps k p
pipe_there [] k lt = absurd (omega (arith, lt))
pipe_there (p ∷ ps) zero lt = (p, record { within = lt; is = λ o. refl })
pipe_there (p ∷ ps) (suc k) lt = (let r = pipe_there ps k (omega (arith, lt)) in (r.0, record { within = lt; is = r.1.is }))

-- what isn't answered has no answer to come
answer_zero : (k : OpKind) (a : Act) → IsActOf k a → (is_reserved k ≡ true → is_answered a ≡ true → answer_of a ≡ 0) → answer_of a ≡ 0
answer_zero _ _ (of_word w) h = refl
answer_zero _ _ (of_count c lane net) h = refl
answer_zero _ _ (of_live c first last net) h = refl
answer_zero _ _ (of_read net after) h = h refl refl
answer_zero _ _ of_write h = refl
answer_zero _ _ of_enq h = refl
answer_zero _ _ (of_deq net after) h = h refl refl
answer_zero _ _ of_reset h = refl
answer_zero _ _ (of_one op) h = refl
answer_zero _ _ (of_two op) h = refl
answer_zero _ _ (of_shift left by) h = refl
answer_zero _ _ of_mux h = refl
answer_zero _ _ (of_cast to) h = refl

zero_at : (n k : ℕ) → slice_index (replicate n 0) k ≡ 0
zero_at zero k = refl
zero_at (suc n) zero = refl
zero_at (suc n) (suc k) = zero_at n k

module _ (mid : Draft) (table : List AroundNets) (ops : List Op) (ps : List PipeOp) (w : AreAtOnce mid table ops ps) where
  each : length ps ≡ length ops
  each = w.placed.ops_of.each ∙ length-map ops plain_op

  of_place : (k : ℕ) (p : PipeOp) → IsAt ps k p → (op : PlainOp) × IsOpAt (plain_ops ops) k op × IsOpOf op p
  of_place k p at =
      let o = there (plain_ops ops) k (let lt = at.within in let e = w.placed.ops_of.each in omega (arith, lt, e)) in
      (o.0, o.1, w.placed.ops_of.alike k o.0 p o.1 at)

  directly : (k : ℕ) (p : PipeOp) → IsAt ps k p → answer_of p.act ≡ 0
  directly k p at =
      let o = of_place k p at in
      answer_zero o.0.kind p.act o.2.kinds (λ r e. w.placed.later k p at e ∙ after_there mid table (plain_ops ops) w.zeros w.nets k o.0 w.nets_of o.1 r ∙ w.each_zero k)

  at_once : (k : ℕ) (p : PipeOp) → IsAt ps k p → p.time ≡ 0
  at_once k p at = w.placed.when k p at ∙ w.each_zero k

  -- the word of the last one is given, and is an `Int`
  module _ (gives_int : last_gives (plain_ops ops) int_type ≡ true) (k : ℕ) (last : suc k ≡ length ops) where
    last_plain : suc k ≡ length (plain_ops ops)
    last_plain = last ∙ sym (length-map ops plain_op)

    gives_at : (p : PipeOp) → IsAt ps k p → IsTrue (gives_word p.act) × (given_width p.act p.ty ≡ 32)
    gives_at p at =
        let o = of_place k p at in
        let g = gives_there o.0.kind p.act o.0.ty int_type o.2.kinds (last_there (plain_ops ops) int_type gives_int k last_plain o.0 o.1) in
        (g.0, ap (given_width p.act) o.2.types ∙ g.1)

    pub taken : IsTaken ps k 32 0
    taken =
        let p = pipe_there ps k (let e = each in omega (arith, e, last)) in
        let g = gives_at p.0 p.1 in
        record {
          op = p.0;
          at = p.1;
          gives = g.0;
          wide = g.1;
          in_time =
              let most = stands_within p.0.act p.0.mask p.0.time 0 (λ e. (let z = directly k p.0 p.1 in omega (arith, z))) in
              let when = at_once k p.0 p.1 in omega (arith, most, when);
        }

  module _ (core : PlainCore) (around : Around) (right : are_operations_right core around (plain_ops ops) ≡ true) (later : Draft) (grows : Grows mid later) where
    stands : (k : ℕ) (op : PlainOp) (p : PipeOp) → IsOpAt (plain_ops ops) k op → IsAt ps k p → NetStands later op p 0
    stands k op p here at =
        let fit = fit_all core around mid later table ops w.zeros w.zeros w.nets ps right w.nets_of w.placed grows (λ i o place e. (let z = w.each_zero i in omega (arith, z))) k op p here at in
        record { given = fit.given; answered = fit.answered; early = λ e. (let z = directly k p at in omega (arith, z)) }

    pub fits : OpsFit later ps
    fits =
        awaited_fit core around later (plain_ops ops) ps (λ k. 0) (λ k. 0) right w.placed.ops_of at_once stands (record { uses = λ k i op used here before takes. omega arith; small = λ k op here. omega arith })

  module _ (old new : Draft) (number net issue k : ℕ) (a : ActedList) (gives_int : last_gives (plain_ops ops) int_type ≡ true) (last : suc k ≡ length ops) (grows : Grows mid new) (word : HasWord new net 0 ps k)
      (always : IsOne new issue) (first : a.number ≡ number) (same : a.ops.items ≡ ps) (acts : AreActs new issue ps ps a.nets.items) where
    pub is_direct : IsDirect old new table number (plain_ops ops) net a
    is_direct core plan around right stand s run = record {
      circuit = record {
        ps = ps;
        timed = record { ops_of = w.placed.ops_of; fits = fits core around right new grows; times = at_once; memories = memories_after core around [] (plain_ops ops) right };
        given = are_given core around mid new table ops w.zeros w.zeros w.nets ps s right w.nets_of w.placed grows run;
        directly = directly;
        place = k;
        is_last = last_plain gives_int k last;
        gives = λ p at. (gives_at gives_int k last p at).0;
        word = word;
      };
      acts = record { issue = issue; always = always; acted = record { first = first; ops = same; acts = acts } };
    }

-- from the nets of operations, and the operations with them
module _ (d : Draft) (table : List AroundNets) (ops : List Op) (ps : List PipeOp) (n : ℕ) (zs ys : List ℕ) (ns nets : List WordNet) (first : zs ≡ replicate n 0) (second : ys ≡ replicate n 0) (same : ns ≡ nets)
    (nets_of : AreNetsOf d table (plain_ops ops) zs nets) (placed : ArePlaced ops ys ns ps) where
  all_of : AreNetsOf d table (plain_ops ops) (replicate n 0) nets
  all_of = subst (λ xs. AreNetsOf d table (plain_ops ops) xs nets) first nets_of

  all_placed : ArePlaced ops (replicate n 0) nets ps
  all_placed = subst (λ xs. ArePlaced ops xs nets ps) second (subst (λ ms. ArePlaced ops ys ms ps) same placed)

  pub are_at_once : AreAtOnce d table ops ps
  are_at_once = record { zeros = replicate n 0; nets = nets; each_zero = zero_at n; nets_of = all_of; placed = all_placed }

  -- the nets that are reserved are those of the answers
  pub answers_reserved : (old : Draft) → Reserves old d (reserved_of (plain_ops ops) nets) → Reserves old d (answers_of ps)
  answers_reserved old r = subst (Reserves old d) (sym (answers d table ops (replicate n 0) (replicate n 0) nets ps all_of all_placed)) r

-- what fills no open net reserves nothing more
pub reserves_on : (old mid one new : Draft) (nets : List ℕ) → Reserves old mid nets → Fills mid one [] → Fills one new [] → Reserves old new nets
reserves_on old mid one new nets r f g =
    subst (Reserves old new) (append-nil (nets ++ []) ∙ append-nil nets) (reserved_join old one new (nets ++ []) [] (reserved_join old mid one nets [] r (none_reserved mid one f)) (none_reserved one new g))
