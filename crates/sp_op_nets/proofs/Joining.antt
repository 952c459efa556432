-- The nets of a list of operations, and one more behind them.
use Rattle.std.proofs.Common.{◌≡◌, ℕ, ◌+◌, ◌<◌, List, [], ◌∷◌, ◌++◌, length, take, slice_index, slice_index_or, append_assoc, sym, ◌∙◌, ap, subst, arith}
use Rattle.std.proofs.lemmas.List.{take_more, map-append, append-nil}
use Rattle.sp_netlist.specs.Draft.{Draft}
use Rattle.sp_gates.specs.Grows.{Grows}
use Rattle.sp_gates.proofs.Growing.{HasNet-stays, Awaits-stays}
use Rattle.sp_gates.proofs.Running.{runs_earlier}
use Rattle.sp_core.specs.declared.operation.Op.{Op}
use Rattle.sp_core.specs.declared.operation.OpKind.{OpKind}
use Rattle.sp_core.specs.declared.operation.OpKind.TheVariants.{Word, Count, Live, Read, Write, Enq, Deq, Reset, One, Two, Shift, Mux, Cast}
use Rattle.sp_core.specs.Plain.{plain_op, plain_ops}
use Rattle.sp_core.specs.PlainCore.{PlainOp}
use Rattle.sp_circuit_ops.specs.declared.ops.WordNet.{WordNet}
use Rattle.sp_op_nets.specs.declared.table.AroundNets.{AroundNets}
use Rattle.sp_op_nets.specs.Nets.{IsNetOf, AreNetsOf, no_op, more_ops}
use Rattle.sp_op_nets.specs.Reserved.{reserved_by, reserved_of, Reserves}
use Rattle.sp_op_nets.specs.Table.{IsCounterAt, StandsAt}
use Rattle.sp_op_nets.proofs.Reserving.{awaits_open, reserved_join}

-- what stands, stands later
counter_later : (a b : Draft) (table : List AroundNets) (c lane : ℕ) → Grows a b → IsCounterAt a table c lane → IsCounterAt b table c lane
counter_later a b table c lane g h = record { within = h.within; value = HasNet-stays a b _ _ g h.value; has = h.has; masks = λ i lt. HasNet-stays a b _ _ g (h.masks i lt) }

pub stands_later : (a b : Draft) (table : List AroundNets) (kind : OpKind) → Grows a b → StandsAt a table kind → StandsAt b table kind
stands_later a b table (Word w) g h = tt
stands_later a b table (Count c lane) g h = counter_later a b table c lane g h
stands_later a b table (Live c first last) g h = (h.0, counter_later a b table c last g h.1)
stands_later a b table Read g h = tt
stands_later a b table Write g h = tt
stands_later a b table Enq g h = tt
stands_later a b table Deq g h = tt
stands_later a b table Reset g h = tt
stands_later a b table (One op) g h = tt
stands_later a b table (Two op) g h = tt
stands_later a b table (Shift left by) g h = tt
stands_later a b table Mux g h = tt
stands_later a b table (Cast to) g h = tt

net_later : (a b : Draft) (table : List AroundNets) (op : PlainOp) (after : ℕ) (n : WordNet) (nets : List ℕ) → Reserves a b nets → IsNetOf a table op after n → IsNetOf b table op after n
net_later a b table op after n nets r h = record {
  counted = λ e. HasNet-stays a b _ _ r.grows (h.counted e);
  given = λ e near has s run. h.given e near has s (runs_earlier a b s r.grows run);
  stands = λ e. HasNet-stays a b _ _ r.grows (h.stands e);
  awaits = λ e. Awaits-stays a b _ _ r.grows (r.still_open _ (awaits_open a _ _ (h.awaits e))) (h.awaits e);
  later = h.later;
}

nets_later : (a b : Draft) (table : List AroundNets) (ops : List PlainOp) (afters : List ℕ) (ns : List WordNet) (nets : List ℕ) → Reserves a b nets → AreNetsOf a table ops afters ns → AreNetsOf b table ops afters ns
nets_later a b table _ _ _ nets r no_op = no_op
nets_later a b table _ _ _ nets r (more_ops op ops after afters n ns here rest) = more_ops op ops after afters n ns (net_later a b table op after n nets r here) (nets_later a b table ops afters ns nets r rest)

module _ (d : Draft) (table : List AroundNets) where
  behind : (ops : List PlainOp) (afters : List ℕ) (ns : List WordNet) (op : PlainOp) (after : ℕ) (n : WordNet) → AreNetsOf d table ops afters ns → IsNetOf d table op after n
      → AreNetsOf d table (ops ++ op ∷ []) (afters ++ after ∷ []) (ns ++ n ∷ [])
  behind _ _ _ op after n no_op h = more_ops op [] after [] n [] h no_op
  behind _ _ _ op after n (more_ops o ops a afters m ns here rest) h = more_ops o (ops ++ op ∷ []) a (afters ++ after ∷ []) m (ns ++ n ∷ []) here (behind ops afters ns op after n rest h)

  reserved_behind : (ops : List PlainOp) (afters : List ℕ) (ns : List WordNet) (op : PlainOp) (n : WordNet) → AreNetsOf d table ops afters ns → reserved_of (ops ++ op ∷ []) (ns ++ n ∷ []) ≡ reserved_of ops ns ++ reserved_by op.kind n.net
  reserved_behind _ _ _ op n no_op = append-nil (reserved_by op.kind n.net)
  reserved_behind _ _ _ op n (more_ops o ops a afters m ns here rest) =
      ap (λ xs. reserved_by o.kind m.net ++ xs) (reserved_behind ops afters ns op n rest) ∙ sym (append_assoc (reserved_by o.kind m.net) (reserved_of ops ns) (reserved_by op.kind n.net))

module _ (old mid new : Draft) (table : List AroundNets) (ops : List Op) (afters : List ℕ) (i : ℕ) (ns : List WordNet) (op : Op) (n : WordNet) (low : i < length ops) (long : length afters ≡ length ops) (is : op ≡ slice_index_or ops i op)
    (before : AreNetsOf mid table (plain_ops (take i ops)) (take i afters) ns) (was : Reserves old mid (reserved_of (plain_ops (take i ops)) ns)) (here : IsNetOf new table (plain_op op) (slice_index afters i) n)
    (more : Reserves mid new (reserved_by op.kind n.net)) where
  plain_is : plain_ops (take (i + 1) ops) ≡ plain_ops (take i ops) ++ plain_op op ∷ []
  plain_is = ap plain_ops (take_more ops i op low ∙ ap (λ x. take i ops ++ x ∷ []) (sym is)) ∙ map-append plain_op (take i ops) (op ∷ [])

  afters_is : take (i + 1) afters ≡ take i afters ++ slice_index afters i ∷ []
  afters_is = take_more afters i 0 (let lt = low in let e = long in omega (arith, lt, e))

  pub nets_behind : AreNetsOf new table (plain_ops (take (i + 1) ops)) (take (i + 1) afters) (ns ++ n ∷ [])
  nets_behind =
      subst (λ xs. AreNetsOf new table xs (take (i + 1) afters) (ns ++ n ∷ [])) (sym plain_is)
      (subst (λ ys. AreNetsOf new table (plain_ops (take i ops) ++ plain_op op ∷ []) ys (ns ++ n ∷ [])) (sym afters_is)
      (behind new table (plain_ops (take i ops)) (take i afters) ns (plain_op op) (slice_index afters i) n (nets_later mid new table (plain_ops (take i ops)) (take i afters) ns (reserved_by op.kind n.net) more before) here))

  pub reserves_behind : Reserves old new (reserved_of (plain_ops (take (i + 1) ops)) (ns ++ n ∷ []))
  reserves_behind =
      subst (λ xs. Reserves old new (reserved_of xs (ns ++ n ∷ []))) (sym plain_is)
      (subst (Reserves old new) (sym (reserved_behind mid table (plain_ops (take i ops)) (take i afters) ns (plain_op op) n before))
      (reserved_join old mid new (reserved_of (plain_ops (take i ops)) ns) (reserved_by op.kind n.net) was more))
