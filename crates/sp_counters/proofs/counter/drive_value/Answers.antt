use Rattle.std.proofs.Common.{◌≡◌, ℕ, Bool, true, false, ◌||◌, if◌then◌else◌, [], refl, ap, ap₂, ◌∙◌}
use Rattle.sp_words.specs.Types.{int_type}
use Rattle.sp_words.specs.Words.{value_of, wrap}
use Rattle.sp_gates.specs.Tested.{is_on}
use Rattle.sp_gates.proofs.Growing.{Fills-join, HasNet-stays}
use Rattle.sp_gates.proofs.Running.{runs_earlier}
use Rattle.sp_counters.specs.Fits.{wide_type}
use Rattle.sp_counters.proofs.Waiting.{awaits_kept}
use Rattle.sp_counters.proofs.counter.drive_value.Goals as goal

-- an enable that is a start or a step, and a choice by the start
either_way : (a g : Bool) (x y o : ℕ) → (if a || g then (if a then x else y) else o) ≡ (if a then x else (if g then y else o))
either_way true g x y o = refl
either_way false true x y o = refl
either_way false false x y o = refl

pub choose-requires-2-clause-choice : goal.choose-requires-2-clause-choice
choose-requires-2-clause-choice c = HasNet-stays _ _ _ _ c.in_ok-on.ensures.fills.grows (HasNet-stays _ _ _ _ c.in_ok-ahead.ensures.fills.grows (c.requires.start))

pub choose-requires-2-clause-left : goal.choose-requires-2-clause-left
choose-requires-2-clause-left c = HasNet-stays _ _ _ _ c.in_ok-on.ensures.fills.grows (HasNet-stays _ _ _ _ c.in_ok-ahead.ensures.fills.grows (c.requires.first))

pub on_either-requires-clause-left : goal.on_either-requires-clause-left
on_either-requires-clause-left c = HasNet-stays _ _ _ _ c.in_ok-next.ensures.fills.grows (HasNet-stays _ _ _ _ c.in_ok-on.ensures.fills.grows (HasNet-stays _ _ _ _ c.in_ok-ahead.ensures.fills.grows (c.requires.start)))

pub on_either-requires-clause-right : goal.on_either-requires-clause-right
on_either-requires-clause-right c = HasNet-stays _ _ _ _ c.in_ok-next.ensures.fills.grows (HasNet-stays _ _ _ _ c.in_ok-on.ensures.fills.grows (HasNet-stays _ _ _ _ c.in_ok-ahead.ensures.fills.grows (c.requires.goes)))

pub drive-requires-clause-net : goal.drive-requires-clause-net
drive-requires-clause-net c = awaits_kept _ _ _ _ c.in_ok-enable.ensures.fills (awaits_kept _ _ _ _ c.in_ok-next.ensures.fills (awaits_kept _ _ _ _ c.in_ok-on.ensures.fills (awaits_kept _ _ _ _ c.in_ok-ahead.ensures.fills (c.requires.value))))

pub drive-requires-clause-next : goal.drive-requires-clause-next
drive-requires-clause-next c = HasNet-stays _ _ _ _ c.in_ok-enable.ensures.fills.grows (c.in_ok-next.ensures.net)

pub returns-clause-fills : goal.returns-clause-fills
returns-clause-fills c = Fills-join _ _ _ [] _ c.in_ok-ahead.ensures.fills (Fills-join _ _ _ [] _ c.in_ok-on.ensures.fills (Fills-join _ _ _ [] _ c.in_ok-next.ensures.fills (Fills-join _ _ _ [] _ c.in_ok-enable.ensures.fills (c.in_ok-drive.ensures.fills))))

pub returns-clause-zero : goal.returns-clause-zero
returns-clause-zero c = λ s r. (c.in_ok-drive.ensures.word s r).0

pub returns-clause-word : goal.returns-clause-word
returns-clause-word c = λ s r t.
    let r_enable = runs_earlier _ _ s c.in_ok-drive.ensures.fills.grows r in
    let r_next = runs_earlier _ _ s c.in_ok-enable.ensures.fills.grows r_enable in
    let r_on = runs_earlier _ _ s c.in_ok-next.ensures.fills.grows r_next in
    let r_ahead = runs_earlier _ _ s c.in_ok-on.ensures.fills.grows r_on in
    let ahead : ℕ = wrap int_type (value_of wide_type (s.net t c.args.sum)) in
    let back : s.net t c.in_ok-on.on ≡ (if is_on s c.args.last t then s.net t c.args.bounds.now.from else ahead) =
    c.in_ok-on.ensures.word s r_on t ∙ ap (λ x. if is_on s c.args.last t then s.net t c.args.bounds.now.from else x) (c.in_ok-ahead.ensures.word s r_ahead t) in
    (c.in_ok-drive.ensures.word s r).1 t
    ∙ ap₂ (λ e x. if e then x else s.net t c.args.value) (c.in_ok-enable.ensures.on s r_enable t)
    (c.in_ok-next.ensures.word s r_next t ∙ ap (λ x. if is_on s c.args.start t then s.net t c.args.bounds.now.first else x) back)
    ∙ either_way (is_on s c.args.start t) (is_on s c.args.goes t) _ _ _
