-- Identifiers: how many characters are allowed doesn't matter, and no two numbers have one.
use Rattle.std.proofs.Common.{◌≡◌, ℕ, zero, suc, ◌+◌, ◌-◌, ◌/◌, ◌%◌, ◌<◌, ◌≤◌, nat_lt, Bool, true, false, List, [], ◌∷◌, ◌++◌, if◌then◌else◌, append_assoc, refl, sym, ap, ◌∙◌, arith}
use Rattle.std.proofs.lemmas.Bool.{ltb-true, ltb-false, lt-ltb, le-ltb}
use Rattle.std.proofs.Math.Nat.{div-add-mod}
use Rattle.sp_waves.specs.Identifiers.{identifier_within, identifier, IdentifiersDiffer}

choose_same : (b : Bool) (xs ys : List ℕ) → (b ≡ false → xs ≡ ys) → (if b then [] else xs) ≡ (if b then [] else ys)
choose_same true xs ys h = refl
choose_same false xs ys h = h refl

-- the number that is left is less
less : (n f : ℕ) → 94 ≤ n → n < suc f → n / 94 - 1 < f
less n f many within = let whole = div-add-mod n 94 in omega (arith, whole)

-- enough characters are enough
pub enough : (f g n : ℕ) → n < f → n < g → identifier_within f n ≡ identifier_within g n
unfolding identifier_within
enough zero g n a b = absurd (omega arith)
enough (suc f) zero n a b = absurd (omega arith)
enough (suc f) (suc g) n a b =
    ap (λ rest. (33 + n % 94) ∷ rest) (choose_same (nat_lt n 94) _ _
    (λ no. let many = ltb-false n 94 no in enough f g (n / 94 - 1) (less n f many a) (less n g many b)))

-- the first character, and those after it
first_of : List ℕ → ℕ
first_of [] = 0
first_of (c ∷ cs) = c

rest_of : List ℕ → List ℕ
rest_of [] = []
rest_of (c ∷ cs) = cs

not_empty : (f n : ℕ) → n < f → [] ≡ identifier_within f n → ⊥
unfolding identifier_within
not_empty zero n within e = omega arith
not_empty (suc f) n within e = cc

same_rest : (f g a b : ℕ) → a < suc f → b < suc g → a % 94 ≡ b % 94
    → (a / 94 - 1 < f → b / 94 - 1 < g → identifier_within f (a / 94 - 1) ≡ identifier_within g (b / 94 - 1) → a / 94 - 1 ≡ b / 94 - 1)
    → (p q : Bool) → nat_lt a 94 ≡ p → nat_lt b 94 ≡ q
    → (if p then [] else identifier_within f (a / 94 - 1)) ≡ (if q then [] else identifier_within g (b / 94 - 1)) → a ≡ b
same_rest f g a b wa wb m shorter true true la lb e =
    let sa = ltb-true a 94 la in let sb = ltb-true b 94 lb in let da = div-add-mod a 94 in let db = div-add-mod b 94 in omega (arith, sa, sb, da, db, m)
same_rest f g a b wa wb m shorter true false la lb e = absurd (not_empty g (b / 94 - 1) (less b g (ltb-false b 94 lb) wb) e)
same_rest f g a b wa wb m shorter false true la lb e = absurd (not_empty f (a / 94 - 1) (less a f (ltb-false a 94 la) wa) (sym e))
same_rest f g a b wa wb m shorter false false la lb e =
    let sa = ltb-false a 94 la in let sb = ltb-false b 94 lb in let da = div-add-mod a 94 in let db = div-add-mod b 94 in
    let same = shorter (less a f sa wa) (less b g sb wb) e in omega (arith, sa, sb, da, db, m, same)

one_number : (f g a b : ℕ) → a < f → b < g → identifier_within f a ≡ identifier_within g b → a ≡ b
unfolding identifier_within first_of rest_of
one_number zero g a b wa wb e = absurd (omega arith)
one_number (suc f) zero a b wa wb e = absurd (omega arith)
one_number (suc f) (suc g) a b wa wb e =
    let m : 33 + a % 94 ≡ 33 + b % 94 = ap first_of e in
    same_rest f g a b wa wb (omega (arith, m)) (λ la lb. one_number f g (a / 94 - 1) (b / 94 - 1) la lb) (nat_lt a 94) (nat_lt b 94) refl refl (ap rest_of e)

pub identifiers_differ : IdentifiersDiffer
identifiers_differ a b e = one_number (suc a) (suc b) a b (omega arith) (omega arith) e

-- an identifier of one character, and one that goes on
pub last_character : (text new : List ℕ) (n : ℕ) → n < 94 → new ≡ text ++ (33 + n % 94) ∷ [] → new ≡ text ++ identifier n
unfolding identifier_within
last_character text new n few e = e ∙ ap (λ rest. text ++ (33 + n % 94) ∷ rest) (none (nat_lt n 94) (lt-ltb n 94 few))
  where
    none : (b : Bool) → b ≡ true → [] ≡ (if b then [] else identifier_within n (n / 94 - 1))
    none true e1 = refl
    none false e1 = absurd (cc)

pub more_characters : (text old new : List ℕ) (n : ℕ) → 94 ≤ n → old ≡ text ++ (33 + n % 94) ∷ [] → new ≡ old ++ identifier (n / 94 - 1) → new ≡ text ++ identifier n
unfolding identifier_within
more_characters text old new n many first later =
    later ∙ ap (λ t. t ++ identifier (n / 94 - 1)) first ∙ append_assoc text ((33 + n % 94) ∷ []) (identifier (n / 94 - 1))
    ∙ ap (λ rest. text ++ (33 + n % 94) ∷ rest) (enough (suc (n / 94 - 1)) n (n / 94 - 1) (omega arith) (less n n many (omega arith)) ∙ go (nat_lt n 94) (le-ltb n 94 many))
  where
    go : (b : Bool) → b ≡ false → identifier_within n (n / 94 - 1) ≡ (if b then [] else identifier_within n (n / 94 - 1))
    go false e1 = refl
    go true e1 = absurd (cc)

-- the character of a number's remainder takes one byte
pub pushed : (text new bytes : List ℕ) (n r : ℕ) → r ≡ 33 + n % 94 → (r < 128 → bytes ≡ r ∷ []) → new ≡ text ++ bytes → new ≡ text ++ (33 + n % 94) ∷ []
pushed text new bytes n r is ascii e = e ∙ ap (λ t. text ++ t) (ascii (omega (arith, is)) ∙ ap (λ c. c ∷ []) is)
