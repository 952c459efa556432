-- Texts one after another.
use Rattle.std.proofs.Common.{◌≡◌, ℕ, List, ◌++◌, Result, Ok, Err, ap, ◌∙◌}
use Rattle.std.specs.Prelude.{OnOk}
use Rattle.std.proofs.lemmas.List.{append_assoc}

-- what a call that was all right left is the same, said otherwise
pub along : {A E : Type 0} (r : Result A E) (x y z : List ℕ) → y ≡ z → OnOk r (x ≡ y) → OnOk r (x ≡ z)
along (Ok a) x y z e h = h ∙ e
along (Err b) x y z e h = h

two : (old a b n1 : List ℕ) → n1 ≡ old ++ a → n1 ++ b ≡ old ++ (a ++ b)
two old a b n1 e = ap (λ n. n ++ b) e ∙ append_assoc old a b

pub three : (old a b c n1 n2 : List ℕ) → n1 ≡ old ++ a → n2 ≡ n1 ++ b → n2 ++ c ≡ old ++ (a ++ (b ++ c))
three old a b c n1 n2 e1 e2 = two n1 b c n2 e2 ∙ two old a (b ++ c) n1 e1

pub six : (old a b c d e f n1 n2 n3 n4 n5 : List ℕ) → n1 ≡ old ++ a → n2 ≡ n1 ++ b → n3 ≡ n2 ++ c → n4 ≡ n3 ++ d → n5 ≡ n4 ++ e
    → n5 ++ f ≡ old ++ (a ++ (b ++ (c ++ (d ++ (e ++ f)))))
six old a b c d e f n1 n2 n3 n4 n5 e1 e2 e3 e4 e5 =
    three n3 d e f n4 n5 e4 e5 ∙ three n1 b c (d ++ (e ++ f)) n2 n3 e2 e3 ∙ two old a (b ++ (c ++ (d ++ (e ++ f)))) n1 e1
