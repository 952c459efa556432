-- Lists that are divided into two.
use Rattle.std.proofs.Common.{ℕ, zero, suc, ◌⊎◌, inl, inr, List, [], ◌∷◌, ◌++◌, Contains, arith}
use Rattle.std.proofs.lemmas.List.Elements.{Contains-append_right}
use Rattle.sp_op_nets.specs.Reserved.{Rise}
use Rattle.sp_op_nets.proofs.Giving.{above}
use Rattle.sp_loop_nets.specs.Laws.{IsPart, no_net, kept, left_out}
use Rattle.sp_tree_nets.specs.Stages.{AreDivided, no_more, to_one, to_other}

pub ones_behind : (xs all one other : List ℕ) → AreDivided all one other → AreDivided (xs ++ all) (xs ++ one) other
ones_behind [] all one other d = d
ones_behind (x ∷ xs) all one other d = to_one (ones_behind xs all one other d)

pub others_behind : (xs all one other : List ℕ) → AreDivided all one other → AreDivided (xs ++ all) one (xs ++ other)
others_behind [] all one other d = d
others_behind (x ∷ xs) all one other d = to_other (others_behind xs all one other d)

pub is_one : (all one other : List ℕ) → AreDivided all one other → IsPart one all
is_one _ _ _ no_more = no_net
is_one _ _ _ (to_one d) = kept (is_one _ _ _ d)
is_one _ _ _ (to_other d) = left_out (is_one _ _ _ d)

pub is_other : (all one other : List ℕ) → AreDivided all one other → IsPart other all
is_other _ _ _ no_more = no_net
is_other _ _ _ (to_one d) = left_out (is_other _ _ _ d)
is_other _ _ _ (to_other d) = kept (is_other _ _ _ d)

in_part : (some all : List ℕ) → IsPart some all → (n : ℕ) → Contains some n → Contains all n
in_part _ _ no_net n c = c
in_part _ _ (kept p) n (zero, l, e) = (zero, omega arith, e)
in_part _ _ (kept {n = m} {all = all} p) n (suc k, l, e) = Contains-append_right (m ∷ []) all n (in_part _ _ p n (k, omega (arith, l), e))
in_part _ _ (left_out {n = m} {all = all} p) n c = Contains-append_right (m ∷ []) all n (in_part _ _ p n c)

pub one_there : (all one other : List ℕ) → AreDivided all one other → (n : ℕ) → Contains one n → Contains all n
one_there all one other d = in_part one all (is_one all one other d)

pub each_there : (all one other : List ℕ) → AreDivided all one other → (n : ℕ) → Contains all n → Contains one n ⊎ Contains other n
each_there _ _ _ no_more n c = inl c
each_there _ _ _ (to_one d) n (zero, l, e) = inl (zero, omega arith, e)
each_there _ _ _ (to_one {n = m} {one = one} d) n (suc k, l, e) = elim (each_there _ _ _ d n (k, omega (arith, l), e)) [ inl a ↦ inl (Contains-append_right (m ∷ []) one n a) | inr b ↦ inr b ]
each_there _ _ _ (to_other d) n (zero, l, e) = inr (zero, omega arith, e)
each_there _ _ _ (to_other {n = m} {other = other} d) n (suc k, l, e) = elim (each_there _ _ _ d n (k, omega (arith, l), e)) [ inl a ↦ inl a | inr b ↦ inr (Contains-append_right (m ∷ []) other n b) ]

-- where all of them rise, nothing is in both
pub none_in_both : (from : ℕ) (all one other : List ℕ) → Rise from all → AreDivided all one other → (n : ℕ) → Contains one n → Contains other n → ⊥
none_in_both from _ _ _ r no_more n c d = (let l = c.1 in absurd (omega (arith, l)))
none_in_both from (m ∷ all) _ other r (to_one d) n (zero, l, e) c = (let up = above (suc m) all n r.1 (in_part other all (is_other _ _ _ d) n c) in omega (arith, up, e))
none_in_both from (m ∷ all) _ _ r (to_one d) n (suc k, l, e) c = none_in_both (suc m) _ _ _ r.1 d n (k, omega (arith, l), e) c
none_in_both from (m ∷ all) one _ r (to_other d) n c (zero, l, e) = (let up = above (suc m) all n r.1 (in_part one all (is_one _ _ _ d) n c) in omega (arith, up, e))
none_in_both from (m ∷ all) _ _ r (to_other d) n c (suc k, l, e) = none_in_both (suc m) _ _ _ r.1 d n c (k, omega (arith, l), e)
