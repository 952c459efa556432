use Rattle.std.proofs.Common.{◌≡◌, ◌≤◌, ◌∙◌, ◌++◌, ◌%◌, ◌^◌, [], ◌∷◌, cond, sym, ap, arith}
use Rattle.std.specs.Prelude.{string_bytes, unsigned_abs}
use Rattle.std.specs.Int.{w128, cast_signed, cast_unsigned}
use Rattle.std.proofs.lemmas.Int.{ints}
use Rattle.sp_words.specs.Decimal.{with_point, digits_after_point}
use Rattle.sp_words.specs.Words.{has_sign, value_of}
use Rattle.sp_words.proofs.OperatorLemmas.{width-le}
use Rattle.sp_words.proofs.DecimalLemmas.{one_more, pointed, unpointed, text_joined}
use Rattle.sp_words.proofs.decimal.value_text.Goals as goal
use Rattle.sp_words.proofs.decimal.value_text.Goals.{then-is_negative+in_ok-push, else-is_negative, then-numerator-ne0+in_ok-push-2+in_ok-push_digits, else-numerator-ne0}

pub returns : goal.returns
returns c =
    let same : cast_signed w128 (cast_unsigned w128 c.value.result) ≡ c.value.result = omega (arith, ints) in
    let size : c.unsigned_abs-magnitude.result ≡ unsigned_abs (value_of c.args.ty c.args.word) =
    c.unsigned_abs-magnitude.ensures.value ∙ ap unsigned_abs (same ∙ c.value.ensures) in
    let short : c.frac-frac.result ≤ 64 = omega (arith, c.frac-frac.ensures.within, width-le c.args.ty) in
    let sign : string_bytes c.if-is_negative.text ≡ cond (has_sign c.args.ty c.args.word) (45 ∷ []) [] =
    elim c.if-is_negative.branch [
      | then-is_negative+in_ok-push w ↦
          ap string_bytes w.text-is
          ∙ one_more _ (string_bytes c.new-text.result) _ 45 w.in_ok-push.ensures.bytes w.in_ok-push.ensures.ascii (omega arith)
          ∙ ap (λ t. t ++ (45 ∷ [])) c.new-text.ensures.bytes
          ∙ sym (ap (λ s. cond s (45 ∷ []) []) (sym c.is_negative.ensures ∙ w.if-is_negative.true))
      | else-is_negative w ↦
          ap string_bytes w.text-is ∙ c.new-text.ensures.bytes
          ∙ sym (ap (λ s. cond s (45 ∷ []) []) (sym c.is_negative.ensures ∙ w.if-is_negative.false))
    ] in
    let point : string_bytes c.if-numerator-ne0.text
    ≡ string_bytes c.write.new.self ++ with_point (digits_after_point c.frac-frac.result (c.unsigned_abs-magnitude.result % 2 ^ c.frac-frac.result)) =
    elim c.if-numerator-ne0.branch [
      | then-numerator-ne0+in_ok-push-2+in_ok-push_digits w ↦
          ap string_bytes w.text-is
          ∙ pointed c.frac-frac.result c.unsigned_abs-magnitude.result (string_bytes c.write.new.self) _ _ short w.if-numerator-ne0.true
          (one_more _ (string_bytes c.write.new.self) _ 46 w.in_ok-push-2.ensures.bytes w.in_ok-push-2.ensures.ascii (omega arith))
          w.in_ok-push_digits.ensures
      | else-numerator-ne0 w ↦
          unpointed c.frac-frac.result c.unsigned_abs-magnitude.result (string_bytes c.write.new.self) _ short w.if-numerator-ne0.false
          (ap string_bytes w.text-is)
    ] in
    text_joined c.args.ty c.args.word c.unsigned_abs-magnitude.result c.frac-frac.result (string_bytes c.if-is_negative.text)
    (string_bytes c.write.new.self) (string_bytes c.if-numerator-ne0.text) size c.frac-frac.ensures.value sign c.in_ok-write.ensures.bytes point
