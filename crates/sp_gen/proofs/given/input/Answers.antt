use Rattle.std.proofs.Common.{rules, ◌≡◌, [], ◌∷◌, map}
use Rattle.std.specs.Prelude.{replicate}
use Rattle.sp_gen.specs.Draws.{word_count}
use Rattle.sp_gen.proofs.InputLemmas.{input_is}
use Rattle.sp_gen.proofs.given.input.Goals as goal

pub returns : goal.returns
returns c =
    let drams : map (λ words. words.items) c.push-2.new.self.items ≡ c.in_ok-words.words.items ∷ (c.in_ok-zeros.zeros.items ∷ []) = search rules in
    let zeros : c.in_ok-zeros.zeros.items ≡ replicate (word_count c.numbers-numbers.result) 0 = search rules in
    input_is c.args.number _ _ _ _ _ _ _ c.from.ensures c.numbers-numbers.ensures.state c.numbers-numbers.ensures.numbers c.new.ensures.items drams c.in_ok-words.ensures zeros
