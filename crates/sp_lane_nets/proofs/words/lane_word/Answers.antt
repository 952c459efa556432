use Rattle.std.proofs.Common.{[], ap, ◌∙◌, ◌%◌, ◌^◌}
use Rattle.sp_words.specs.Types.{int_type}
use Rattle.sp_words.specs.Words.{word_add}
use Rattle.sp_gates.proofs.Growing.{Fills-join}
use Rattle.sp_gates.proofs.Running.{runs_earlier}
use Rattle.sp_lane_nets.proofs.words.lane_word.Goals as goal

pub returns-clause-fills : goal.returns-clause-fills
returns-clause-fills c = Fills-join _ _ _ [] [] c.in_ok-word.ensures.fills c.in_ok-net.ensures.fills

pub returns-clause-word : goal.returns-clause-word
returns-clause-word c = λ s r t. c.in_ok-net.ensures.word s r t ∙ ap (λ ty. word_add ty (s.net t c.args.value) (s.net t c.in_ok-word.word)) c.int.ensures ∙ ap (word_add int_type (s.net t c.args.value)) (c.in_ok-word.ensures.word s (runs_earlier _ _ s c.in_ok-net.ensures.fills.grows r) t)
