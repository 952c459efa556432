-- The input of a program, by its parts.
use Rattle.std.proofs.Common.{◌≡◌, ℕ, List, [], ◌∷◌, ap, ◌∙◌}
use Rattle.std.specs.Prelude.{replicate}
use Rattle.sp_words.specs.Ports.{PlainInput}
use Rattle.sp_gen.specs.declared.numbers.Numbers.{Numbers}
use Rattle.sp_gen.specs.Draws.{state_after, drawn, numbers_of, word_count}
use Rattle.sp_gen.specs.Input.{input_of, words_of}

abbrev given : List ℕ → List (List ℕ) → PlainInput
given args drams = record { args = args; drams = drams }

pub input_is :
    (number first state : ℕ) (n : Numbers) (args : List ℕ) (drams : List (List ℕ)) (words zeros : List ℕ) → first ≡ number → state ≡ state_after 5 first → n ≡ numbers_of first
    → args ≡ [] → drams ≡ words ∷ (zeros ∷ []) → words ≡ drawn (word_count n) state → zeros ≡ replicate (word_count n) 0 → given args drams ≡ input_of number
input_is number first state n args drams words zeros e p q a d w z =
    let s : state ≡ state_after 5 number = p ∙ ap (state_after 5) e in
    let ns : n ≡ numbers_of number = q ∙ ap numbers_of e in
    ap (λ x. given x drams) a ∙ ap (given []) d
    ∙ ap (λ x. given [] (x ∷ (zeros ∷ []))) (w ∙ ap (λ x. drawn (word_count x) state) ns ∙ ap (drawn (word_count (numbers_of number))) s)
    ∙ ap (λ x. given [] (words_of number ∷ (x ∷ []))) (z ∙ ap (λ x. replicate (word_count x) 0) ns)
