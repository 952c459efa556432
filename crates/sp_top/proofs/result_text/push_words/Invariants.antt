use Rattle.std.proofs.Common.{◌≡◌, ◌++◌, take, string_bytes}
use Rattle.sp_top.specs.ResultText.{spaced_words}
use Rattle.sp_top.proofs.result_text.push_words.Given as goal

abbrev pub invariant-loop-word : goal.invariant-loop-word
invariant-loop-word l = string_bytes l.text ≡ string_bytes l.initial.text ++ spaced_words l.ty (take l.word-index l.words)
