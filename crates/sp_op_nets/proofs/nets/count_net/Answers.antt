use Rattle.std.proofs.Common.{◌*◌, ◌%◌, ◌^◌, sym, ap, subst, ◌∙◌}
use Rattle.sp_words.specs.Types.{int_type}
use Rattle.sp_words.specs.Words.{word_add}
use Rattle.sp_gates.specs.Nets.{HasNet}
use Rattle.sp_node_runs.specs.BodiesGiven.{CounterNets}
use Rattle.sp_op_nets.proofs.Making.{found_at}
use Rattle.sp_op_nets.proofs.nets.count_net.Goals as goal

pub lane_word-requires : goal.lane_word-requires
lane_word-requires c =
    let found = found_at c.args.around.now c.args.counter c.index-around-counter.result c.index-around-counter.result c.requires.within c.index-around-counter.is in
    subst (λ (a : CounterNets). HasNet c.args.builder.now a.value 32) found c.requires.value

pub returns-clause-word : goal.returns-clause-word
returns-clause-word c = λ s r t.
    let found = found_at c.args.around.now c.args.counter c.index-around-counter.result c.index-around-counter.result c.requires.within c.index-around-counter.is in
    c.in_ok-net.ensures.word s r t ∙ ap (λ x. word_add int_type (s.net t c.index-around-counter.result.value) ((x * c.from-2.result) % 2 ^ 32)) c.from.ensures
    ∙ ap (λ x. word_add int_type (s.net t c.index-around-counter.result.value) ((c.args.lane * x) % 2 ^ 32)) c.from-2.ensures
    ∙ sym (ap (λ (a : CounterNets). word_add int_type (s.net t a.value) ((c.args.lane * a.step) % 2 ^ 32)) found)
