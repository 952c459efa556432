-- Lists with what is handed on of them, one behind the other.
use Rattle.std.proofs.Common.{◌≡◌, ℕ, ◌+◌, List, [], ◌∷◌, ◌++◌, length, subst, arith}
use Rattle.sp_netlist.specs.Draft.{Draft}
use Rattle.sp_gates.specs.Grows.{Grows}
use Rattle.sp_core.specs.PlainCore.{PlainOp}
use Rattle.sp_op_nets.specs.declared.acted.ActedList.{ActedList}
use Rattle.sp_bound_nets.specs.Direct.{AreActedLists}
use Rattle.sp_bound_nets.proofs.Kept.{list_kept}

-- how many operations there are
abbrev pub all_length : List (List PlainOp) → ℕ
all_length [] = 0
all_length (ops ∷ lists) = length ops + all_length lists

pub lists_kept : (a b : Draft) → Grows a b → (n : ℕ) (lists : List (List PlainOp)) (acted : List ActedList) → AreActedLists a n lists acted → AreActedLists b n lists acted
lists_kept a b g n [] [] h = tt
lists_kept a b g n (ops ∷ lists) (x ∷ acted) h = (list_kept a b g n ops x h.0, lists_kept a b g (n + length ops) lists acted h.1)
lists_kept a b g n [] (x ∷ acted) h = absurd h
lists_kept a b g n (ops ∷ lists) [] h = absurd h

lists_join : (d : Draft) (n : ℕ) (xs ys : List (List PlainOp)) (acts others : List ActedList) → AreActedLists d n xs acts → AreActedLists d (n + all_length xs) ys others → AreActedLists d n (xs ++ ys) (acts ++ others)
lists_join d n [] ys [] others h more = (let z : n + 0 ≡ n = omega arith in subst (λ m. AreActedLists d m ys others) z more)
lists_join d n (ops ∷ xs) ys (x ∷ acts) others h more =
    let m : n + (length ops + all_length xs) ≡ (n + length ops) + all_length xs = omega arith in
    (h.0, lists_join d (n + length ops) xs ys acts others h.1 (subst (λ i. AreActedLists d i ys others) m more))
lists_join d n [] ys (x ∷ acts) others h more = absurd h
lists_join d n (ops ∷ xs) ys [] others h more = absurd h

-- lists behind others, where more was added
pub lists_behind : (mid new : Draft) → Grows mid new → (n m : ℕ) (xs ys : List (List PlainOp)) (acts others : List ActedList) → m ≡ n + all_length xs → AreActedLists mid n xs acts → AreActedLists new m ys others
    → AreActedLists new n (xs ++ ys) (acts ++ others)
lists_behind mid new g n m xs ys acts others is h more = lists_join new n xs ys acts others (lists_kept mid new g n xs acts h) (subst (λ i. AreActedLists new i ys others) is more)
