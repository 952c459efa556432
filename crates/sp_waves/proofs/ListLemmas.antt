-- Texts that grow, piece by piece and over lists.
use Rattle.std.proofs.Common.{◌≡◌, ℕ, suc, ◌+◌, ◌<◌, ◌≤◌, List, [], ◌∷◌, ◌++◌, map, drop, length, get_or, string_bytes, refl, sym, ap, ◌∙◌, append_assoc, append-nil, arith}
use Rattle.std.proofs.lemmas.List.{drop_more, drop_all}
use Rattle.sp_waves.specs.declared.signal.Signal.{Signal}
use Rattle.sp_waves.specs.Signals.{PlainSignal, plain_signal}
use Rattle.sp_waves.specs.Text.{declaration, declarations, value, values, change, changes}

pub drop-turn : {X : Type 0} (xs : List X) (i : ℕ) (x : X) → i < length xs → x ≡ get_or xs i x → drop i xs ≡ x ∷ drop (i + 1) xs
drop-turn xs i x h e = drop_more xs i x h ∙ ap (λ y. y ∷ drop (i + 1) xs) (sym e)

-- two pieces, one after the other
pub join : (old between new first second : List ℕ) → between ≡ old ++ first → new ≡ between ++ second → new ≡ old ++ (first ++ second)
join old between new first second e f = f ∙ ap (λ t. t ++ second) e ∙ append_assoc old first second

-- one more piece of what is left
pub one_more : (old new piece left rest whole : List ℕ) → left ≡ piece ++ rest → new ≡ old ++ piece → old ++ left ≡ whole → new ++ rest ≡ whole
one_more old new piece left rest whole turn push before = ap (λ t. t ++ rest) push ∙ append_assoc old piece rest ∙ ap (λ t. old ++ t) (sym turn) ∙ before

-- nothing is left
pub none_left : (text left whole : List ℕ) → left ≡ [] → text ++ left ≡ whole → text ≡ whole
none_left text left whole none before = sym (append-nil text) ∙ ap (λ t. text ++ t) (sym none) ∙ before

next_number : (f : ℕ → List ℕ) (n : ℕ) → f (suc (n + 1)) ≡ f (n + 1 + 1)
next_number f n = ap f (omega arith)

-- ---- declarations

pub declared_turn : (ss : List Signal) (i : ℕ) (s : Signal) → drop i ss ≡ s ∷ drop (i + 1) ss
    → declarations (i + 1) (map plain_signal (drop i ss)) ≡ declaration (i + 1) s.width (string_bytes s.name) ++ declarations (i + 1 + 1) (map plain_signal (drop (i + 1) ss))
unfolding declarations
declared_turn ss i s e =
    ap (λ xs. declarations (i + 1) (map plain_signal xs)) e
    ∙ ap (λ t. declaration (i + 1) s.width (string_bytes s.name) ++ t) (next_number (λ n. declarations n (map plain_signal (drop (i + 1) ss))) i)

pub declared_none : (ss : List Signal) (i : ℕ) → length ss ≤ i → declarations (i + 1) (map plain_signal (drop i ss)) ≡ []
unfolding declarations
declared_none ss i over = ap (λ xs. declarations (i + 1) (map plain_signal xs)) (drop_all i ss over)

-- ---- values

pub values_turn : (ss : List Signal) (ws : List ℕ) (i : ℕ) (s : Signal) (w : ℕ) → drop i ss ≡ s ∷ drop (i + 1) ss → drop i ws ≡ w ∷ drop (i + 1) ws
    → values (i + 1) (map plain_signal (drop i ss)) (drop i ws) ≡ value (i + 1) s.width w ++ values (i + 1 + 1) (map plain_signal (drop (i + 1) ss)) (drop (i + 1) ws)
unfolding values
values_turn ss ws i s w e f =
    ap (λ xs. values (i + 1) (map plain_signal xs) (drop i ws)) e
    ∙ ap (λ ys. values (i + 1) (map plain_signal (s ∷ drop (i + 1) ss)) ys) f
    ∙ ap (λ t. value (i + 1) s.width w ++ t) (next_number (λ n. values n (map plain_signal (drop (i + 1) ss)) (drop (i + 1) ws)) i)

no_words : (n : ℕ) (ps : List PlainSignal) → values n ps [] ≡ []
unfolding values
no_words n [] = refl
no_words n (p ∷ ps) = refl

pub values_none : (ss : List Signal) (ws : List ℕ) (i : ℕ) → length ss ≤ i → values (i + 1) (map plain_signal (drop i ss)) (drop i ws) ≡ []
unfolding values
values_none ss ws i over = ap (λ xs. values (i + 1) (map plain_signal xs) (drop i ws)) (drop_all i ss over)

pub values_over : (ss : List Signal) (ws : List ℕ) (i : ℕ) → length ws ≤ i → values (i + 1) (map plain_signal (drop i ss)) (drop i ws) ≡ []
values_over ss ws i over = ap (λ ys. values (i + 1) (map plain_signal (drop i ss)) ys) (drop_all i ws over) ∙ no_words (i + 1) (map plain_signal (drop i ss))

-- ---- changes

pub changes_turn : (ss : List Signal) (before now : List ℕ) (i : ℕ) (s : Signal) (b w : ℕ) → drop i ss ≡ s ∷ drop (i + 1) ss → drop i before ≡ b ∷ drop (i + 1) before → drop i now ≡ w ∷ drop (i + 1) now
    → changes (i + 1) (map plain_signal (drop i ss)) (drop i before) (drop i now) ≡ change (i + 1) s.width b w ++ changes (i + 1 + 1) (map plain_signal (drop (i + 1) ss)) (drop (i + 1) before) (drop (i + 1) now)
unfolding changes
changes_turn ss before now i s b w e f g =
    ap (λ xs. changes (i + 1) (map plain_signal xs) (drop i before) (drop i now)) e
    ∙ ap (λ ys. changes (i + 1) (map plain_signal (s ∷ drop (i + 1) ss)) ys (drop i now)) f
    ∙ ap (λ zs. changes (i + 1) (map plain_signal (s ∷ drop (i + 1) ss)) (b ∷ drop (i + 1) before) zs) g
    ∙ ap (λ t. change (i + 1) s.width b w ++ t) (next_number (λ n. changes n (map plain_signal (drop (i + 1) ss)) (drop (i + 1) before) (drop (i + 1) now)) i)

no_before : (n : ℕ) (ps : List PlainSignal) (now : List ℕ) → changes n ps [] now ≡ []
unfolding changes
no_before n [] now = refl
no_before n (p ∷ ps) now = refl

no_now : (n : ℕ) (ps : List PlainSignal) (before : List ℕ) → changes n ps before [] ≡ []
unfolding changes
no_now n [] before = refl
no_now n (p ∷ ps) [] = refl
no_now n (p ∷ ps) (b ∷ before) = refl

pub changes_none : (ss : List Signal) (before now : List ℕ) (i : ℕ) → length ss ≤ i → changes (i + 1) (map plain_signal (drop i ss)) (drop i before) (drop i now) ≡ []
unfolding changes
changes_none ss before now i over = ap (λ xs. changes (i + 1) (map plain_signal xs) (drop i before) (drop i now)) (drop_all i ss over)

pub changes_before : (ss : List Signal) (before now : List ℕ) (i : ℕ) → length before ≤ i → changes (i + 1) (map plain_signal (drop i ss)) (drop i before) (drop i now) ≡ []
changes_before ss before now i over = ap (λ ys. changes (i + 1) (map plain_signal (drop i ss)) ys (drop i now)) (drop_all i before over) ∙ no_before (i + 1) (map plain_signal (drop i ss)) (drop i now)

pub changes_now : (ss : List Signal) (before now : List ℕ) (i : ℕ) → length now ≤ i → changes (i + 1) (map plain_signal (drop i ss)) (drop i before) (drop i now) ≡ []
changes_now ss before now i over = ap (λ zs. changes (i + 1) (map plain_signal (drop i ss)) (drop i before) zs) (drop_all i now over) ∙ no_now (i + 1) (map plain_signal (drop i ss)) (drop i before)
