use Rattle.std.proofs.Common.{ℕ, ◌-◌, ◌<◌, ◌==◌, [], length, slice_index, sym, ap, subst, ◌∙◌, arith}
use Rattle.sp_gates.specs.Nets.{HasNet}
use Rattle.sp_gates.specs.Tested.{is_on}
use Rattle.sp_gates.proofs.Growing.{Fills-join}
use Rattle.sp_gates.proofs.Running.{runs_earlier}
use Rattle.sp_core.specs.Scope.{is_some_up_to}
use Rattle.sp_node_runs.specs.BodiesGiven.{CounterNets}
use Rattle.sp_op_nets.proofs.Making.{found_at, bit_on}
use Rattle.sp_op_nets.proofs.nets.live_net.Goals as goal

pub some_live-requires-clause-within : goal.some_live-requires-clause-within
some_live-requires-clause-within c =
    let found = found_at c.args.around.now c.args.counter c.index-around-counter.result c.index-around-counter.result c.requires.stands.within c.index-around-counter.is in
    let has = subst (λ (a : CounterNets). c.args.last < length a.masks) found c.requires.stands.has in
    rw c.deref.ensures.value has

pub some_live-requires-clause-masks : goal.some_live-requires-clause-masks
some_live-requires-clause-masks c =
    let found = found_at c.args.around.now c.args.counter c.index-around-counter.result c.index-around-counter.result c.requires.stands.within c.index-around-counter.is in
    let all = subst (λ (a : CounterNets). (i : ℕ) → i < length a.masks → HasNet c.args.builder.now (slice_index a.masks i) 1) found c.requires.stands.masks in
    rw c.deref.ensures.value all

pub returns-clause-fills : goal.returns-clause-fills
returns-clause-fills c = Fills-join _ _ _ [] [] c.in_ok-live.ensures.fills c.in_ok-net.ensures.fills

pub returns-clause-bit : goal.returns-clause-bit
returns-clause-bit c = λ s r t. (let small = c.in_ok-net.ensures.bit.is_bit s r t in omega (arith, small))

pub returns-clause-on : goal.returns-clause-on
returns-clause-on c = λ s r t.
    let found = found_at c.args.around.now c.args.counter c.index-around-counter.result c.index-around-counter.result c.requires.stands.within c.index-around-counter.is in
    ap (λ w. w == 1) (c.in_ok-net.ensures.word s r t) ∙ bit_on (is_on s c.in_ok-live.live t)
    ∙ c.in_ok-live.ensures.on s (runs_earlier _ _ s c.in_ok-net.ensures.fills.grows r) t
    ∙ ap (λ ms. is_some_up_to (λ l. is_on s (slice_index ms l) t) c.args.first (c.args.last - c.args.first)) (c.deref.ensures.value ∙ sym (ap (λ (a : CounterNets). a.masks) found))
