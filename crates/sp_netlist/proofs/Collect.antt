-- Lists that are collected along a list, each element read with those before it.
use Rattle.std.proofs.Common.{◌≡◌, suc, List, [], ◌∷◌, ◌++◌, Bool, get_or, refl, sym, ap, ◌∙◌, append_assoc, append-nil, count_by, subst, Option, Some, None, IfSome, is_some, one-add}
use Rattle.std.specs.List.{cons_option, AllByRecursion}
use Rattle.sp_netlist.proofs.Splits.{count-cons_yes, count-cons_no}

abbrev pub collect : {X Y : Type 0} → (List X → X → Option Y) → List X → List X → List Y
collect h before [] = []
collect h before (x ∷ xs) = cons_option (h before x) (collect h (before ++ x ∷ []) xs)

-- what is collected at the n-th element that gives something
pub collected : {X Y : Type 0} (h : List X → X → Option Y) (q : X → Bool) → ((b : List X) (x : X) → q x ≡ is_some (h b x))
    → (front b : List X) (x : X) (a : List X) (d y : Y) → h (front ++ b) x ≡ Some y → get_or (collect h front (b ++ x ∷ a)) (count_by q b) d ≡ y
collected h q agree front [] x a d y e =
    let f : h front x ≡ Some y = subst (λ zs. h zs x ≡ Some y) (append-nil front) e in
    ap (λ o. get_or (cons_option o (collect h (front ++ x ∷ []) a)) 0 d) f
collected {X} {Y} h q agree front (z ∷ b) x a d y e =
    go (h front z) refl (collected h q agree (front ++ z ∷ []) b x a d y (subst (λ zs. h zs x ≡ Some y) (sym (append_assoc front (z ∷ []) b)) e))
  where
    rest : List Y
    rest = collect h (front ++ z ∷ []) (b ++ x ∷ a)

    go : (o : Option Y) → h front z ≡ o → get_or (collect h (front ++ z ∷ []) (b ++ x ∷ a)) (count_by q b) d ≡ y → get_or (collect h front (z ∷ b ++ x ∷ a)) (count_by q (z ∷ b)) d ≡ y
    go None o r =
        ap (λ n. get_or (collect h front (z ∷ b ++ x ∷ a)) n d) (count-cons_no q z b (agree front z ∙ ap is_some o))
        ∙ ap (λ v. get_or (cons_option v (collect h (front ++ z ∷ []) (b ++ x ∷ a))) (count_by q b) d) o ∙ r
    go (Some v) o r =
        ap (λ n. get_or (collect h front (z ∷ b ++ x ∷ a)) n d) (count-cons_yes q z b (agree front z ∙ ap is_some o) ∙ one-add (count_by q b))
        ∙ ap (λ v. get_or (cons_option v (collect h (front ++ z ∷ []) (b ++ x ∷ a))) (suc (count_by q b)) d) o ∙ r

-- what holds of each thing collected
pub collect_all : {X Y : Type 0} (P : Y → Type 0) (h : List X → X → Option Y) (xs front rest : List X) → xs ≡ front ++ rest
    → ((b : List X) (x : X) (a : List X) → xs ≡ b ++ x ∷ a → IfSome (h b x) P) → AllByRecursion P (collect h front rest)
collect_all P h xs front [] e holds = tt
collect_all {X} {Y} P h xs front (x ∷ rest) e holds =
    go (h front x) (holds front x rest e) (collect_all P h xs (front ++ x ∷ []) rest (e ∙ sym (append_assoc front (x ∷ []) rest)) holds)
  where
    go : (o : Option Y) → IfSome o P → AllByRecursion P (collect h (front ++ x ∷ []) rest) → AllByRecursion P (cons_option o (collect h (front ++ x ∷ []) rest))
    go None p r = r
    go (Some y) p r = (p, r)
