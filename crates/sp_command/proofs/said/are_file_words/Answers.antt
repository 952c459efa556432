use Rattle.std.proofs.Common.{refl, sym, subst, All, string_bytes, take}
use Rattle.std.proofs.lemmas.List.{take_all, take_more}
use Rattle.std.proofs.lemmas.List.Elements.{All-push}
use Rattle.sp_command.specs.Commands.{IsFileWord}
use Rattle.sp_command.proofs.said.are_file_words.Goals as goal

pub loop-word-preserved : goal.loop-word-preserved
loop-word-preserved c =
    let words = c.args.words.now in
    let word = c.word-item.result in
    let here : IsFileWord (string_bytes word) = subst IsFileWord c.as_str.ensures.value (c.is_file_word.ensures.0 c.if-not-is_file_word.false) in
    let there = subst (λ w. IsFileWord (string_bytes w)) c.word-item.is here in
    subst (All (λ w. IsFileWord (string_bytes w))) (sym (take_more words c.loop-word.word-index word c.loop-word-test.true))
    (All-push (λ w. IsFileWord (string_bytes w)) (take c.loop-word.word-index words) _ c.loop-word.invariant there)

pub returns : goal.returns
returns c = (
  λ yes. subst (All (λ w. IsFileWord (string_bytes w))) (take_all c.loop-word.word-index c.args.words.now c.loop-word-test.false) c.loop-word.invariant,
  λ all. refl,
)
