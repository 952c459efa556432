-- One more operation behind those that are placed.
use Rattle.std.proofs.Common.{◌≡◌, ℕ, zero, suc, ◌+◌, ◌<◌, ◌⊎◌, inl, inr, true, List, [], ◌∷◌, ◌++◌, length, take, slice_index, slice_index_or, refl, sym, ◌∙◌, ap, subst, arith}
use Rattle.std.proofs.lemmas.List.{take_more, length-append, map-append, length-map, length-take-le}
use Rattle.sp_core.specs.declared.operation.Op.{Op}
use Rattle.sp_core.specs.Plain.{plain_op, plain_ops}
use Rattle.sp_core.specs.PlainCore.{PlainOp}
use Rattle.sp_pipe.specs.declared.part.PipeOp.{PipeOp}
use Rattle.sp_pipe.specs.Right.{IsAt}
use Rattle.sp_part_runs.specs.ActsCircuits.{IsOpOf, is_given, is_answered, net_of, answer_of}
use Rattle.sp_part_runs.specs.ActsEntries.{IsOpAt}
use Rattle.sp_circuit_ops.specs.declared.ops.WordNet.{WordNet}
use Rattle.sp_circuit_ops.specs.Circuit.{IsPlacedOp, ArePlaced}
use Rattle.sp_circuit_ops.specs.Nets.{net_at, after_at}
use Rattle.sp_circuit_ops.proofs.Fitting.{same_at}

-- a place of a list with one more is one of the list, or the last one
behind : {A : Type 0} (xs : List A) (x : A) (k : ℕ) → k < length (xs ++ x ∷ []) → ((k < length xs) × ((o : A) → slice_index_or (xs ++ x ∷ []) k o ≡ slice_index_or xs k o)) ⊎ ((k ≡ length xs) × ((o : A) → slice_index_or (xs ++ x ∷ []) k o ≡ x))
behind [] x zero lt = inr (refl, λ o. refl)
behind [] x (suc k) lt = absurd (omega (arith, lt))
behind (y ∷ xs) x zero lt = inl (omega arith, λ o. refl)
behind (y ∷ xs) x (suc k) lt = elim (behind xs x k (omega (arith, lt))) [
  | inl h ↦ inl (next k (length xs) h.0, h.1)
  | inr h ↦ inr (ap suc h.0, h.1)
]
  where
    next : (a b : ℕ) → a < b → suc a < suc b
    next a b lt = omega (arith, lt)

last_is : {A : Type 0} (xs : List A) (x o : A) → slice_index_or (xs ++ x ∷ []) (length xs) o ≡ x
last_is [] x o = refl
last_is (y ∷ xs) x o = last_is xs x o

front_is : {A : Type 0} (xs : List A) (x o : A) (k : ℕ) → k < length xs → slice_index_or (xs ++ x ∷ []) k o ≡ slice_index_or xs k o
front_is [] x o k lt = absurd (omega (arith, lt))
front_is (y ∷ xs) x o zero lt = refl
front_is (y ∷ xs) x o (suc k) lt = front_is xs x o k (omega (arith, lt))

module _ (ops : List Op) (times : List ℕ) (nets : List WordNet) (i : ℕ) (ps : List PipeOp) (op : Op) (net : WordNet) (p : PipeOp) (all_nets : length nets ≡ length ops) (low : i < length ops) (op_is : op ≡ slice_index_or ops i op) (net_is : net ≡ slice_index_or nets i net)
    (before : ArePlaced (take i ops) times nets ps) (here : IsPlacedOp op (slice_index times i) net.net net.after p) where
  abbrev front : List PlainOp
  front = plain_ops (take i ops)

  plain_is : plain_ops (take (i + 1) ops) ≡ front ++ plain_op op ∷ []
  plain_is = ap plain_ops (take_more ops i op low ∙ ap (λ x. take i ops ++ x ∷ []) (sym op_is)) ∙ map-append plain_op (take i ops) (op ∷ [])

  long : length ps ≡ i
  long = before.ops_of.each ∙ length-map (take i ops) plain_op ∙ length-take-le i ops (let lt = low in omega (arith, lt))

  net_here : net_at nets i ≡ net.net
  net_here = ap (λ (n : WordNet). n.net) (same_at nets i (record { net = 0; after = 0 }) net (let lt = low in let all = all_nets in omega (arith, lt, all)) ∙ sym net_is)

  after_here : after_at nets i ≡ net.after
  after_here = ap (λ (n : WordNet). n.after) (same_at nets i (record { net = 0; after = 0 }) net (let lt = low in let all = all_nets in omega (arith, lt, all)) ∙ sym net_is)

  -- an operation behind them is one of them, or the last one
  module _ (k : ℕ) (q : PipeOp) (at : IsAt (ps ++ p ∷ []) k q) where
    data Place : Type 0 where
      one_of : IsAt ps k q → Place
      last : k ≡ i → q ≡ p → Place

    place : Place
    place = elim (behind ps p k at.within) [
      | inl h ↦ one_of (record { within = h.0; is = λ o. sym (h.1 o) ∙ at.is o })
      | inr h ↦ last (h.0 ∙ long) (sym (at.is q) ∙ h.1 q)
    ]

  alike : (k : ℕ) (o : PlainOp) (q : PipeOp) → IsOpAt (plain_ops (take (i + 1) ops)) k o → IsAt (ps ++ p ∷ []) k q → IsOpOf o q
  alike k o q there at = by (place k q at)
    where
      found : (x : PlainOp) → slice_index_or (front ++ plain_op op ∷ []) k x ≡ o
      found x = ap (λ xs. slice_index_or xs k x) (sym plain_is) ∙ there.is x

      by : Place k q at → IsOpOf o q
      by (one_of at_front) =
          before.ops_of.alike k o q (record { within = (let lt = at_front.within in let each = before.ops_of.each in omega (arith, lt, each)); is = λ x. sym (front_is front (plain_op op) x k (let lt = at_front.within in let each = before.ops_of.each in omega (arith, lt, each))) ∙ found x }) at_front
      by (last same is) =
          subst (λ x. IsOpOf x q)
          (sym (last_is front (plain_op op) o) ∙ ap (λ n. slice_index_or (front ++ plain_op op ∷ []) n o) (sym (same ∙ sym long ∙ before.ops_of.each)) ∙ found o)
          (subst (λ x. IsOpOf (plain_op op) x) (sym is) here.is_of)

  when : (k : ℕ) (q : PipeOp) → IsAt (ps ++ p ∷ []) k q → q.time ≡ slice_index times k
  when k q at = by (place k q at)
    where
      by : Place k q at → q.time ≡ slice_index times k
      by (one_of at_front) = before.when k q at_front
      by (last same is) = ap (λ (x : PipeOp). x.time) is ∙ here.when ∙ ap (slice_index times) (sym same)

  given : (k : ℕ) (q : PipeOp) → IsAt (ps ++ p ∷ []) k q → is_given q.act ≡ true → net_of q.act ≡ net_at nets k
  given k q at e = by (place k q at)
    where
      by : Place k q at → net_of q.act ≡ net_at nets k
      by (one_of at_front) = before.given k q at_front e
      by (last same is) = ap (λ (x : PipeOp). net_of x.act) is ∙ here.given (ap (λ (x : PipeOp). is_given x.act) (sym is) ∙ e) ∙ sym net_here ∙ ap (net_at nets) (sym same)

  answered : (k : ℕ) (q : PipeOp) → IsAt (ps ++ p ∷ []) k q → is_answered q.act ≡ true → net_of q.act ≡ net_at nets k
  answered k q at e = by (place k q at)
    where
      by : Place k q at → net_of q.act ≡ net_at nets k
      by (one_of at_front) = before.answered k q at_front e
      by (last same is) = ap (λ (x : PipeOp). net_of x.act) is ∙ here.answered (ap (λ (x : PipeOp). is_answered x.act) (sym is) ∙ e) ∙ sym net_here ∙ ap (net_at nets) (sym same)

  later : (k : ℕ) (q : PipeOp) → IsAt (ps ++ p ∷ []) k q → is_answered q.act ≡ true → answer_of q.act ≡ after_at nets k
  later k q at e = by (place k q at)
    where
      by : Place k q at → answer_of q.act ≡ after_at nets k
      by (one_of at_front) = before.later k q at_front e
      by (last same is) = ap (λ (x : PipeOp). answer_of x.act) is ∙ here.later (ap (λ (x : PipeOp). is_answered x.act) (sym is) ∙ e) ∙ sym after_here ∙ ap (after_at nets) (sym same)

  pub one_more : ArePlaced (take (i + 1) ops) times nets (ps ++ p ∷ [])
  one_more = record {
    ops_of = record {
      each = length-append ps (p ∷ []) ∙ ap (λ n. n + 1) before.ops_of.each ∙ sym (length-append front (plain_op op ∷ [])) ∙ sym (ap length plain_is);
      alike = alike;
    };
    when = when;
    given = given;
    answered = answered;
    later = later;
  }
