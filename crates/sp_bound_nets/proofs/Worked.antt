-- The worked bound: its word is twice the counter, and one more.
use Rattle.std.proofs.Common.{◌≡◌, ℕ, zero, suc, ◌+◌, ◌*◌, ◌%◌, ◌^◌, ◌<◌, inl, inr, ℤ, pos, ◌+ℤ◌, ◌*ℤ◌, true, false, nat_lt, if◌then◌else◌, List, [], ◌∷◌, ◌++◌, length, map, take, slice_index, None, refl, sym, ◌∙◌, ap, ap₂, subst, arith, lit<}
use Rattle.std.proofs.lemmas.Bool.{true≢false, ltb-true}
use Rattle.std.proofs.lemmas.Bool.Decides.{eqb_tells}
use Rattle.std.proofs.lemmas.Int.{ints}
use Rattle.sp_words.specs.declared.kind.BinOp.{BinOp}
use Rattle.sp_words.specs.declared.kind.BinOp.TheVariants.{Add, Mul}
use Rattle.sp_words.specs.Types.{int_type}
use Rattle.sp_words.specs.WholeNumbers.{modulo}
use Rattle.sp_words.specs.Words.{word_add, word_mul, wrap}
use Rattle.sp_words.proofs.LawLemmas.{add-KeepsWrapping, mul-KeepsWrapping}
use Rattle.sp_netlist.specs.Draft.{Draft}
use Rattle.sp_netlist.specs.Signals.{Signals}
use Rattle.sp_gates.specs.Nets.{HasNet}
use Rattle.sp_gates.specs.Runs.{RunsOn}
use Rattle.sp_core.specs.declared.operation.OpKind.{OpKind}
use Rattle.sp_core.specs.declared.operation.OpKind.TheVariants as kind
use Rattle.sp_core.specs.Around.{Around, Near}
use Rattle.sp_core.specs.ExampleForms.{count, lit, two}
use Rattle.sp_core.specs.OperationRules.{are_operations_right, is_word_list}
use Rattle.sp_core.specs.Operators.{two_word}
use Rattle.sp_core.specs.PlainCore.{PlainOp, PlainCore, inner}
use Rattle.sp_pipe.specs.declared.part.Act.{Act}
use Rattle.sp_pipe.specs.declared.part.Act.TheVariants as act
use Rattle.sp_pipe.specs.declared.part.PipeOp.{PipeOp}
use Rattle.sp_pipe.specs.Right.{IsAt}
use Rattle.sp_pipe.specs.Values.{act_word, is_wanted, words_of}
use Rattle.sp_pipe.proofs.WordLemmas.{earlier_word, word_at}
use Rattle.sp_plan.specs.PlainPlan.{PlainPlan}
use Rattle.sp_part_runs.specs.ActsCircuits.{IsActOf, IsOpOf, AreOpsOf, is_given, is_answered, net_of, of_word, of_count, of_live, of_read, of_write, of_enq, of_deq, of_reset, of_one, of_two, of_shift, of_mux, of_cast}
use Rattle.sp_part_runs.specs.ActsEntries.{IsOpAt}
use Rattle.sp_node_runs.specs.BodiesGiven.{Nets, IsGivenBy, counted, lived, AreGivenBy}
use Rattle.sp_op_nets.specs.declared.table.AroundNets.{AroundNets}
use Rattle.sp_op_nets.specs.Acted.{answers_of}
use Rattle.sp_op_nets.specs.Reserved.{is_reserved}
use Rattle.sp_op_nets.specs.Table.{IsCounterAt, StandAround}
use Rattle.sp_tree_circuits.specs.Parts.{DirectNet}
use Rattle.sp_bound_nets.specs.Direct.{IsWordRight}
use Rattle.sp_bound_nets.specs.Example.{odd_ops, one_near, HasCounter}
use Rattle.sp_bound_nets.proofs.Standing.{pipe_there}

-- what an act is, by the kind of its operation
abbrev IsThat : OpKind → Act → Type 0
IsThat (kind.Word w) a = a ≡ act.Word w
IsThat (kind.Two op) a = a ≡ act.Two op
IsThat (kind.Count c lane) a = a ≡ act.Given (net_of a)
IsThat k a = Unit {0}

is_that : (k : OpKind) (a : Act) → IsActOf k a → IsThat k a
is_that _ _ (of_word w) = refl
is_that _ _ (of_count c lane net) = refl
is_that _ _ (of_live c first last net) = tt
is_that _ _ (of_read net after) = tt
is_that _ _ of_write = tt
is_that _ _ of_enq = tt
is_that _ _ (of_deq net after) = tt
is_that _ _ of_reset = tt
is_that _ _ (of_one op) = tt
is_that _ _ (of_two op) = refl
is_that _ _ (of_shift left by) = tt
is_that _ _ of_mux = tt
is_that _ _ (of_cast to) = tt

-- a word of a counter, as the net that is given has it
abbrev HasCount : Signals → Nets → OpKind → ℕ → Type 0
HasCount s env (kind.Count c lane) net = (t : ℕ) → s.net t net ≡ word_add int_type (s.net t (env c).value) ((lane * (env c).step) % 2 ^ 32)
HasCount s env k net = Unit {0}

has_count : (s : Signals) (near : List Near) (env : Nets) (k : OpKind) (net : ℕ) → IsGivenBy s near env k net → HasCount s env k net
has_count s near env _ _ (counted c lane net has word) = word
has_count s near env _ _ (lived c first last net order has small on) = tt

add_zero : (z : ℤ) → z +ℤ pos 0 ≡ z
add_zero z = omega (arith, ints)

-- numbers as words
wrapped : (n : ℕ) → wrap int_type (pos n) ≡ n % 2 ^ 32
unfolding wrap modulo
wrapped n = refl

pub odd_core : PlainCore
odd_core = record { mems = []; ports = record { args = []; outs = []; drams = [] }; root = inner [] [] [] None }

abbrev pub one_around : Around
one_around = record { counters = one_near; owned = [] }

pub no_plan : PlainPlan
no_plan = record { mems = []; nodes = [] }

pub are_odd_right : (core : PlainCore) → are_operations_right core one_around odd_ops ≡ true
are_odd_right core = refl

odd_right : (core : PlainCore) → is_word_list core one_around odd_ops int_type ≡ true
odd_right core = refl

-- the counter stands where its value and its mask do
pub counter_stands : (d : Draft) (table : List AroundNets) → IsCounterAt d table 0 0 → StandAround d table one_near
counter_stands d table at c lane has =
    elim (eqb_tells 0 c) [
      | inl same ↦
          let small : nat_lt lane 1 ≡ true = sym (ap (λ b. elim b [ true ↦ nat_lt lane 1 | false ↦ false ]) same.0) ∙ has in
          let first : 0 ≡ lane = (let l = ltb-true lane 1 small in omega (arith, l)) in
          subst (λ k. IsCounterAt d table k lane) same.1 (subst (IsCounterAt d table 0) first at)
      | inr apart ↦ absurd (true≢false (sym has ∙ ap (λ b. elim b [ true ↦ nat_lt lane 1 | false ↦ false ]) apart.0))
    ]

pub odd_is_right : (d : Draft) (table : List AroundNets) (ops : List PlainOp) → StandAround d table one_near → ops ≡ odd_ops → IsWordRight d table ops
odd_is_right d table ops stands is = record { core = odd_core; around = one_around; right = ap (λ xs. is_word_list odd_core one_around xs int_type) is ∙ odd_right odd_core; stand = stands }

module _ (s : Signals) (u : ℕ) (ops : List PlainOp) (ps : List PipeOp) (of : AreOpsOf ops ps) where
  -- the word of an operation without a mask, by those that it takes
  module _ (k : ℕ) (op : PlainOp) (at : IsOpAt ops k op) (free : op.mask ≡ None) where
    pipe : (p : PipeOp) × IsAt ps k p
    pipe = pipe_there ps k (let lt = at.within in let e = of.each in omega (arith, lt, e))

    is_of : IsOpOf op pipe.0
    is_of = of.alike k op pipe.0 at pipe.1

    abbrev earlier : List ℕ
    earlier = words_of s u (take k ps)

    word_by : slice_index (words_of s u ps) k ≡ act_word s u op.ty pipe.0.time pipe.0.act (map (slice_index earlier) op.args)
    word_by =
        word_at s u ps k pipe.0 pipe.1 ∙ ap (λ m. if is_wanted earlier m then act_word s u pipe.0.ty pipe.0.time pipe.0.act (map (slice_index earlier) pipe.0.args.items) else 0) (is_of.masks ∙ free)
        ∙ ap (λ t. act_word s u t pipe.0.time pipe.0.act (map (slice_index earlier) pipe.0.args.items)) is_of.types ∙ ap (λ xs. act_word s u op.ty pipe.0.time pipe.0.act (map (slice_index earlier) xs)) is_of.taken

    before : (j : ℕ) → j < k → slice_index earlier j ≡ slice_index (words_of s u ps) j
    before j lt = sym (earlier_word s u ps k j (let l = pipe.1.within in omega (arith, l)) lt)

-- what no operation answers, has no nets of answers
none_answered : (ps : List PipeOp) → ((k : ℕ) (p : PipeOp) → IsAt ps k p → is_answered p.act ≡ false) → answers_of ps ≡ []
none_answered [] h = refl
none_answered (p ∷ ps) h =
    ap (λ b. (if b then net_of p.act ∷ [] else []) ++ answers_of ps) (h 0 p (record { within = omega arith; is = λ o. refl }))
    ∙ none_answered ps (λ k q at. h (suc k) q (record { within = (let l = at.within in omega (arith, l)); is = at.is }))

odd_at : (k : ℕ) → k < 5 → (op : PlainOp) × IsOpAt odd_ops k op × (is_reserved op.kind ≡ false)
odd_at zero l = (count 0 0, record { within = l; is = λ o. refl }, refl)
odd_at (suc zero) l = (lit 2, record { within = l; is = λ o. refl }, refl)
odd_at (suc (suc zero)) l = (two Mul 1 0, record { within = l; is = λ o. refl }, refl)
odd_at (suc (suc (suc zero))) l = (lit 1, record { within = l; is = λ o. refl }, refl)
odd_at (suc (suc (suc (suc zero)))) l = (two Add 2 3, record { within = l; is = λ o. refl }, refl)
odd_at (suc (suc (suc (suc (suc k))))) l = absurd (omega (arith, l))

module _ (s : Signals) (u : ℕ) (near : List Near) (env : Nets) (ps : List PipeOp) (of : AreOpsOf odd_ops ps) (given : AreGivenBy s near env odd_ops ps) (i : ℤ) (value : s.net u (env 0).value ≡ wrap int_type i) where
  abbrev word : ℕ → ℕ
  word k = slice_index (words_of s u ps) k

  counter_at : IsOpAt odd_ops 0 (count 0 0)
  counter_at = record { within = lit< tt; is = λ o. refl }

  counter_word : word 0 ≡ wrap int_type i
  counter_word =
      let p = pipe s u odd_ops ps of 0 (count 0 0) counter_at refl in
      let is = is_that (kind.Count 0 0) p.0.act (is_of s u odd_ops ps of 0 (count 0 0) counter_at refl).kinds in
      let z : 0 * (env 0).step ≡ 0 = omega arith in
      word_by s u odd_ops ps of 0 (count 0 0) counter_at refl ∙ ap (λ a. act_word s u int_type p.0.time a []) is
      ∙ has_count s near env (kind.Count 0 0) (net_of p.0.act) (given 0 (count 0 0) p.0 counter_at p.1 (ap is_given is)) u
      ∙ ap₂ (word_add int_type) value (ap (λ n. n % 2 ^ 32) z ∙ sym (wrapped 0)) ∙ add-KeepsWrapping int_type i (pos 0) ∙ ap (wrap int_type) (add_zero i)

  number_word : (k n : ℕ) → IsOpAt odd_ops k (lit n) → word k ≡ n
  number_word k n at =
      let p = pipe s u odd_ops ps of k (lit n) at refl in
      let is = is_that (kind.Word n) p.0.act (is_of s u odd_ops ps of k (lit n) at refl).kinds in
      word_by s u odd_ops ps of k (lit n) at refl ∙ ap (λ a. act_word s u int_type p.0.time a []) is

  two_at : (op : BinOp) (k x y : ℕ) → IsOpAt odd_ops k (two op x y) → x < k → y < k → word k ≡ two_word op int_type (word x) (word y)
  two_at op k x y at below_x below_y =
      let p = pipe s u odd_ops ps of k (two op x y) at refl in
      let is = is_that (kind.Two op) p.0.act (is_of s u odd_ops ps of k (two op x y) at refl).kinds in
      let ws = map (slice_index (words_of s u (take k ps))) (x ∷ y ∷ []) in
      word_by s u odd_ops ps of k (two op x y) at refl ∙ ap (λ a. act_word s u int_type p.0.time a ws) is
      ∙ ap₂ (two_word op int_type) (before s u odd_ops ps of k (two op x y) at refl x below_x) (before s u odd_ops ps of k (two op x y) at refl y below_y)

  twice_word : word 2 ≡ wrap int_type (pos 2 *ℤ i)
  twice_word =
      two_at Mul 2 1 0 (record { within = lit< tt; is = λ o. refl }) (lit< tt) (lit< tt)
      ∙ ap₂ (word_mul int_type) (number_word 1 2 (record { within = lit< tt; is = λ o. refl }) ∙ sym (wrapped 2)) counter_word ∙ mul-KeepsWrapping int_type refl (pos 2) i

  pub odd_word : word 4 ≡ wrap int_type (pos 2 *ℤ i +ℤ pos 1)
  odd_word =
      two_at Add 4 2 3 (record { within = lit< tt; is = λ o. refl }) (lit< tt) (lit< tt)
      ∙ ap₂ (word_add int_type) twice_word (number_word 3 1 (record { within = lit< tt; is = λ o. refl }) ∙ sym (wrapped 1)) ∙ add-KeepsWrapping int_type (pos 2 *ℤ i) (pos 1)

-- the net of the bound
pub gives_odd : (core : PlainCore) (plan : PlainPlan) (s : Signals) (near : List Near) (env : Nets) (d : Draft) (net value : ℕ) → RunsOn s d.cells → DirectNet core plan s near env d odd_ops net → (env 0).value ≡ value
    → (t : ℕ) (i : ℤ) → s.net t value ≡ wrap int_type i → s.net t net ≡ wrap int_type (pos 2 *ℤ i +ℤ pos 1)
gives_odd core plan s near env d net value run w is t i has =
    let same : t + 0 ≡ t = omega arith in
    let place : w.place ≡ 4 = (let l = w.is_last in omega (arith, l)) in
    ap (λ u. s.net u net) (sym same) ∙ w.word s run t ∙ ap (slice_index (words_of s t w.ps)) place ∙ odd_word s t near env w.ps w.timed.ops_of w.given i (ap (s.net t) is ∙ has)

-- nothing is answered
pub no_answers : (ps : List PipeOp) → AreOpsOf odd_ops ps → answers_of ps ≡ []
no_answers ps of = none_answered ps (λ k p at. unanswered k p at)
  where
    by : (op : PlainOp) (p : PipeOp) → IsOpOf op p → is_reserved op.kind ≡ false → is_answered p.act ≡ false
    by op p is un = same op.kind p.act is.kinds ∙ un
      where
        same : (k : OpKind) (a : Act) → IsActOf k a → is_answered a ≡ is_reserved k
        same _ _ (of_word w) = refl
        same _ _ (of_count c lane net) = refl
        same _ _ (of_live c first last net) = refl
        same _ _ (of_read net after) = refl
        same _ _ of_write = refl
        same _ _ of_enq = refl
        same _ _ (of_deq net after) = refl
        same _ _ of_reset = refl
        same _ _ (of_one op) = refl
        same _ _ (of_two op) = refl
        same _ _ (of_shift left n) = refl
        same _ _ of_mux = refl
        same _ _ (of_cast to) = refl

    unanswered : (k : ℕ) (p : PipeOp) → IsAt ps k p → is_answered p.act ≡ false
    unanswered k p at =
        let l : k < 5 = (let m = at.within in let e = of.each in omega (arith, m, e)) in
        let o = odd_at k l in
        by o.0 p (of.alike k o.0 p o.1 at) o.2

pub has_counter : (d : Draft) (mask value : ℕ) (a : AroundNets) → a.masks.items ≡ mask ∷ [] → a.value ≡ value → HasNet d value 32 → HasNet d mask 1 → HasCounter d (a ∷ []) value
has_counter d mask value a masks is wide one = record {
  stands = counter_stands d (a ∷ []) (record {
    within = omega arith;
    value = subst (λ n. HasNet d n 32) (sym is) wide;
    has = (let l = ap length masks in omega (arith, l));
    masks = λ i l. subst (λ ms. HasNet d (slice_index ms i) 1) (sym masks) (at i (let e = ap length masks in omega (arith, l, e)));
  });
  is_value = is;
}
  where
    at : (i : ℕ) → i < 1 → HasNet d (slice_index (mask ∷ []) i) 1
    at zero l = one
    at (suc i) l = absurd (omega (arith, l))
