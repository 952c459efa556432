-- Draws one after another.
use Rattle.std.proofs.Common.{◌≡◌, ℕ, zero, suc, ◌+◌, ◌-◌, ◌*◌, ◌%◌, ◌^◌, ◌<◌, ◌≤◌, List, [], ◌∷◌, ◌++◌, refl, sym, ap, ◌∙◌, arith, append-nil}
use Rattle.std.proofs.lemmas.List.{append_assoc}
use Rattle.sp_gen.specs.Draws.{moved, draw, state_after, drawn, combiner_of, numbers_of}
use Rattle.sp_gen.specs.declared.numbers.Combiner.{Combiner}
use Rattle.sp_gen.specs.declared.numbers.Numbers.{Numbers}

-- one more
drawn_more : (n : ℕ) (state : ℕ) → drawn (suc n) state ≡ draw state ∷ drawn n (moved state)
unfolding drawn
drawn_more n state = refl

drawn_left : (count i state : ℕ) → i < count → drawn (count - i) state ≡ draw state ∷ drawn (count - (i + 1)) (moved state)
drawn_left count i state h = let e : count - i ≡ suc (count - (i + 1)) = omega (arith, h) in ap (λ n. drawn n state) e ∙ drawn_more _ state

pub next_word :
    (words more all : List ℕ) (count i state next d : ℕ) → i < count → more ≡ words ++ d ∷ [] → d ≡ draw state → next ≡ moved state
    → words ++ drawn (count - i) state ≡ all → more ++ drawn (count - (i + 1)) next ≡ all
next_word words more all count i state next d h p q r e =
    ap (λ xs. xs ++ drawn (count - (i + 1)) next) p
    ∙ append_assoc words (d ∷ []) (drawn (count - (i + 1)) next)
    ∙ ap (λ x. words ++ x ∷ drawn (count - (i + 1)) next) q
    ∙ ap (λ x. words ++ draw state ∷ drawn (count - (i + 1)) x) r
    ∙ sym (ap (λ xs. words ++ xs) (drawn_left count i state h))
    ∙ e

pub last_word : (words all : List ℕ) (count i state : ℕ) → count ≤ i → words ++ drawn (count - i) state ≡ all → words ≡ all
unfolding drawn
last_word words all count i state h e = let none : count - i ≡ 0 = omega (arith, h) in sym (append-nil words) ∙ sym (ap (λ n. words ++ drawn n state) none) ∙ e

pub after_five : (state : ℕ) → state_after 5 state ≡ moved (moved (moved (moved (moved state))))
unfolding state_after
after_five state = refl

pub after_four : (state : ℕ) → state_after 4 state ≡ moved (moved (moved (moved state)))
unfolding state_after
after_four state = refl

pub after_three : (state : ℕ) → state_after 3 state ≡ moved (moved (moved state))
unfolding state_after
after_three state = refl

pub after_two : (state : ℕ) → state_after 2 state ≡ moved (moved state)
unfolding state_after
after_two state = refl

pub after_one : (state : ℕ) → state_after 1 state ≡ moved state
unfolding state_after
after_one state = refl

small : (k : ℕ) → k < 4 → 1 * 2 ^ k % 2 ^ 64 ≡ 2 ^ k
small zero h = refl
small (suc zero) h = refl
small (suc (suc zero)) h = refl
small (suc (suc (suc zero))) h = refl
small (suc (suc (suc (suc k)))) h = absurd (omega (arith, h))

pub lanes_is : (d : ℕ) → 1 * 2 ^ (d % 4) % 2 ^ 64 ≡ 2 ^ (d % 4)
lanes_is d = small (d % 4) (omega arith)

abbrev made : (tiles tile lanes offset : ℕ) → Combiner → Numbers
made tiles tile lanes offset combiner = record { tiles = tiles; tile = tile; lanes = lanes; offset = offset; combiner = combiner }

same_numbers : (a a' b b' c c' d d' : ℕ) (e e' : Combiner) → a ≡ a' → b ≡ b' → c ≡ c' → d ≡ d' → e ≡ e' → made a b c d e ≡ made a' b' c' d' e'
same_numbers a a' b b' c c' d d' e e' p q r s t =
    ap (λ x. made x b c d e) p ∙ ap (λ x. made a' x c d e) q ∙ ap (λ x. made a' b' x d e) r ∙ ap (λ x. made a' b' c' x e) s ∙ ap (made a' b' c' d') t

-- what five draws in order give, each from the state that the one before it left
pub numbers_are :
    (s s1 s2 s3 s4 d1 d2 d3 d4 d5 : ℕ) (combiner : Combiner) → s1 ≡ moved s → s2 ≡ moved s1 → s3 ≡ moved s2 → s4 ≡ moved s3
    → d1 ≡ draw s → d2 ≡ draw s1 → d3 ≡ draw s2 → d4 ≡ draw s3 → d5 ≡ draw s4 → combiner ≡ combiner_of (d5 % 3)
    → record { tiles = 16 + d1 % 17; tile = 64 * (1 + d2 % 4); lanes = 1 * 2 ^ (d3 % 4) % 2 ^ 64; offset = d4 % 8; combiner = combiner } ≡ numbers_of s
unfolding numbers_of
numbers_are s s1 s2 s3 s4 d1 d2 d3 d4 d5 combiner e1 e2 e3 e4 f1 f2 f3 f4 f5 g =
    let g1 : s1 ≡ state_after 1 s = e1 ∙ sym (after_one s) in
    let g2 : s2 ≡ state_after 2 s = e2 ∙ ap moved e1 ∙ sym (after_two s) in
    let g3 : s3 ≡ state_after 3 s = e3 ∙ ap moved (e2 ∙ ap moved e1) ∙ sym (after_three s) in
    let g4 : s4 ≡ state_after 4 s = e4 ∙ ap moved (e3 ∙ ap moved (e2 ∙ ap moved e1)) ∙ sym (after_four s) in
    same_numbers _ _ _ _ _ _ _ _ _ _
    (ap (λ d. 16 + d % 17) f1)
    (ap (λ d. 64 * (1 + d % 4)) (f2 ∙ ap draw g1))
    (lanes_is d3 ∙ ap (λ d. 2 ^ (d % 4)) (f3 ∙ ap draw g2))
    (ap (λ d. d % 8) (f4 ∙ ap draw g3))
    (g ∙ ap (λ d. combiner_of (d % 3)) (f5 ∙ ap draw g4))
