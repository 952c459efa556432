use Rattle.std.proofs.Common.{◌≡◌, ◌≤◌, get_or, length, sym, ◌∙◌, arith, lit<}
use Rattle.std.proofs.lemmas.Bool.{false≢true}
use Rattle.std.proofs.lemmas.Fmt.{parse-decimal}
use Rattle.std.proofs.lemmas.Str.Pattern.{starts_char}
use Rattle.sp_listing.proofs.NumberLemmas.{no_sign, no_leading_zero, number_read}
use Rattle.sp_listing.proofs.parts.number_of.Goals as goal
use Rattle.sp_listing.proofs.parts.number_of.Goals.{else-starts_with-2-via-then-starts_with-2+else-word-gt1, else-starts_with-2-via-else-starts_with-2}

pub returns-then-starts_with : goal.returns-then-starts_with
returns-then-starts_with c =
    no_sign c.args.word.now ((starts_char 43 c.args.word.now c.starts_with.result c.starts_with.ensures.cases (lit< tt) (lit< tt)).0 c.if-starts_with.true)

pub returns-then-word-gt1 : goal.returns-then-word-gt1
returns-then-word-gt1 c =
    no_leading_zero c.args.word.now ((starts_char 48 c.args.word.now c.starts_with-2.result c.starts_with-2.ensures.cases (lit< tt) (lit< tt)).0 c.if-starts_with-2.true) c.if-word-gt1.true

pub returns-in_default : goal.returns-in_default
returns-in_default c = λ n small same.
    c.in_default.not-Ok n (parse-decimal 64 n c.args.word.now c.parse.result small small same c.parse.ensures.value.0)

pub returns : goal.returns
returns c =
    let sign = starts_char 43 c.args.word.now c.starts_with.result c.starts_with.ensures.cases (lit< tt) (lit< tt) in
    let nought = starts_char 48 c.args.word.now c.starts_with-2.result c.starts_with-2.ensures.cases (lit< tt) (lit< tt) in
    let plain : get_or c.args.word.now 0 0 ≡ 48 → length c.args.word.now ≤ 1 = λ zero.
    elim c.else-starts_with-2.branch [
      | else-starts_with-2-via-then-starts_with-2+else-word-gt1 w ↦ w.if-word-gt1.false
      | else-starts_with-2-via-else-starts_with-2 w ↦ absurd (false≢true (sym w.if-starts_with-2.false ∙ nought.1 zero))
    ] in
    (omega (arith, c.in-Ok.ensures.value.0.0.1, c.in-Ok.ensures.value.0.1), number_read c.args.word.now c.in-Ok.number (λ plus. false≢true (sym c.if-starts_with.false ∙ sign.1 plus)) plain c.in-Ok.ensures.value.0)
