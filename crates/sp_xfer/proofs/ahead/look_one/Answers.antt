use Rattle.std.proofs.Common.{◌≡◌, [], if◌then◌else◌, sym, ap, ap₂, subst, ◌∙◌}
use Rattle.sp_words.specs.Types.{int_type, width_of}
use Rattle.sp_words.specs.Words.{word_add}
use Rattle.sp_gates.specs.Nets.{HasNet}
use Rattle.sp_gates.specs.Tested.{is_on}
use Rattle.sp_gates.proofs.Growing.{Fills-join, HasNet-stays}
use Rattle.sp_gates.proofs.Running.{runs_earlier}
use Rattle.sp_xfer.proofs.ahead.look_one.Goals as goal

pub operate-requires-clause-left : goal.operate-requires-clause-left
operate-requires-clause-left c = subst (λ ty. HasNet c.constant-2.new.builder c.args.axis.now.offset (width_of ty)) (sym c.int.ensures) (HasNet-stays _ _ _ _ c.in_ok-one.ensures.fills.grows (HasNet-stays _ _ _ _ c.in_ok-zero.ensures.fills.grows (c.requires.axis.offset)))

pub operate-requires-clause-right : goal.operate-requires-clause-right
operate-requires-clause-right c = subst (λ ty. HasNet c.constant-2.new.builder c.in_ok-one.one (width_of ty)) (sym c.int.ensures) c.in_ok-one.ensures.net

pub choose-requires-clause-choice : goal.choose-requires-clause-choice
choose-requires-clause-choice c = HasNet-stays _ _ _ _ c.in_ok-sum.ensures.fills.grows (HasNet-stays _ _ _ _ c.in_ok-one.ensures.fills.grows (HasNet-stays _ _ _ _ c.in_ok-zero.ensures.fills.grows (c.requires.axis.ended)))

pub choose-requires-clause-left : goal.choose-requires-clause-left
choose-requires-clause-left c = HasNet-stays _ _ _ _ c.in_ok-sum.ensures.fills.grows (HasNet-stays _ _ _ _ c.in_ok-one.ensures.fills.grows (c.in_ok-zero.ensures.net))

pub choose-requires-clause-right : goal.choose-requires-clause-right
choose-requires-clause-right c = subst (λ ty. HasNet c.operate.new.builder c.in_ok-sum.sum (width_of ty)) c.int.ensures c.in_ok-sum.ensures.net

pub choose-requires-2-clause-choice : goal.choose-requires-2-clause-choice
choose-requires-2-clause-choice c = HasNet-stays _ _ _ _ c.in_ok-moved.ensures.fills.grows (HasNet-stays _ _ _ _ c.in_ok-sum.ensures.fills.grows (HasNet-stays _ _ _ _ c.in_ok-one.ensures.fills.grows (HasNet-stays _ _ _ _ c.in_ok-zero.ensures.fills.grows (c.requires.goes))))

pub choose-requires-2-clause-right : goal.choose-requires-2-clause-right
choose-requires-2-clause-right c = HasNet-stays _ _ _ _ c.in_ok-moved.ensures.fills.grows (HasNet-stays _ _ _ _ c.in_ok-sum.ensures.fills.grows (HasNet-stays _ _ _ _ c.in_ok-one.ensures.fills.grows (HasNet-stays _ _ _ _ c.in_ok-zero.ensures.fills.grows (c.requires.axis.offset))))

pub choose-requires-3-clause-choice : goal.choose-requires-3-clause-choice
choose-requires-3-clause-choice c = HasNet-stays _ _ _ _ c.in_ok-next.ensures.fills.grows (HasNet-stays _ _ _ _ c.in_ok-moved.ensures.fills.grows (HasNet-stays _ _ _ _ c.in_ok-sum.ensures.fills.grows (HasNet-stays _ _ _ _ c.in_ok-one.ensures.fills.grows (HasNet-stays _ _ _ _ c.in_ok-zero.ensures.fills.grows (c.requires.start)))))

pub choose-requires-3-clause-left : goal.choose-requires-3-clause-left
choose-requires-3-clause-left c = HasNet-stays _ _ _ _ c.in_ok-next.ensures.fills.grows (HasNet-stays _ _ _ _ c.in_ok-moved.ensures.fills.grows (HasNet-stays _ _ _ _ c.in_ok-sum.ensures.fills.grows (HasNet-stays _ _ _ _ c.in_ok-one.ensures.fills.grows (c.in_ok-zero.ensures.net))))

pub returns-clause-fills : goal.returns-clause-fills
returns-clause-fills c = Fills-join _ _ _ [] _ c.in_ok-zero.ensures.fills (Fills-join _ _ _ [] _ c.in_ok-one.ensures.fills (Fills-join _ _ _ [] _ c.in_ok-sum.ensures.fills (Fills-join _ _ _ [] _ c.in_ok-moved.ensures.fills (Fills-join _ _ _ [] _ c.in_ok-next.ensures.fills c.in_ok-index.ensures.fills))))

pub returns-clause-word : goal.returns-clause-word
returns-clause-word c = λ s r t.
    let r_next = runs_earlier _ _ s c.in_ok-index.ensures.fills.grows r in
    let r_moved = runs_earlier _ _ s c.in_ok-next.ensures.fills.grows r_next in
    let r_sum = runs_earlier _ _ s c.in_ok-moved.ensures.fills.grows r_moved in
    let r_one = runs_earlier _ _ s c.in_ok-sum.ensures.fills.grows r_sum in
    let r_zero = runs_earlier _ _ s c.in_ok-one.ensures.fills.grows r_one in
    let zero = c.in_ok-zero.ensures.word s r_zero t in
    let sum : s.net t c.in_ok-sum.sum ≡ word_add int_type (s.net t c.args.axis.now.offset) 1 = c.in_ok-sum.ensures.word s r_sum t ∙ ap₂ (λ ty n. word_add ty (s.net t c.args.axis.now.offset) n) c.int.ensures (c.in_ok-one.ensures.word s r_one t) in
    let moved : s.net t c.in_ok-moved.moved ≡ (if is_on s c.args.axis.now.ended t then 0 else word_add int_type (s.net t c.args.axis.now.offset) 1) = c.in_ok-moved.ensures.word s r_moved t ∙ ap₂ (λ a b. if is_on s c.args.axis.now.ended t then a else b) zero sum in
    c.in_ok-index.ensures.word s r t
    ∙ ap₂ (λ a b. if is_on s c.args.start t then a else b) zero (c.in_ok-next.ensures.word s r_next t ∙ ap (λ a. if is_on s c.args.goes t then a else s.net t c.args.axis.now.offset) moved)
