-- The nets of accesses, one operation after the other.
use Rattle.std.proofs.Common.{◌≡◌, ℕ, ◌+◌, true, false, List, [], ◌∷◌, ◌++◌, take, sym, ap, subst, ◌∙◌, append_assoc}
use Rattle.std.proofs.lemmas.List.{append-nil, take_more}
use Rattle.sp_netlist.specs.Draft.{Draft}
use Rattle.sp_pipe.specs.declared.part.PipeOp.{PipeOp}
use Rattle.sp_pipe.specs.Acts.{ActsAt, AreActs, none, passed, acted}
use Rattle.sp_pipe.specs.Right.{IsAt}
use Rattle.sp_pipe.specs.Values.{is_access}

module _ (d : Draft) (issue : ℕ) (all : List PipeOp) where
  acts_more : (op : PipeOp) (enable : ℕ) (operands : List ℕ) → is_access op.act ≡ true → ActsAt d issue all op enable operands → (ops : List PipeOp) (nets : List ℕ) → AreActs d issue all ops nets → AreActs d issue all (ops ++ op ∷ []) (nets ++ enable ∷ operands)
  acts_more op enable operands e at [] _ none = subst (λ ns. AreActs d issue all (op ∷ []) ns) (ap (λ ns. enable ∷ ns) (append-nil operands)) (acted e at none)
  acts_more op enable operands e at (o ∷ ops) nets (passed f h) = passed f (acts_more op enable operands e at ops nets h)
  acts_more op enable operands e at (o ∷ ops) _ (acted {enable = first} {operands = firsts} {nets = nets} f was h) =
      subst (λ ns. AreActs d issue all (o ∷ (ops ++ op ∷ [])) ns) (ap (λ ns. first ∷ ns) (sym (append_assoc firsts nets (enable ∷ operands)))) (acted f was (acts_more op enable operands e at ops nets h))

  acts_passed : (op : PipeOp) → is_access op.act ≡ false → (ops : List PipeOp) (nets : List ℕ) → AreActs d issue all ops nets → AreActs d issue all (ops ++ op ∷ []) nets
  acts_passed op e [] _ none = passed e none
  acts_passed op e (o ∷ ops) nets (passed f h) = passed f (acts_passed op e ops nets h)
  acts_passed op e (o ∷ ops) _ (acted {nets = nets} f was h) = acted f was (acts_passed op e ops nets h)

  -- the next operation of all
  module _ (k : ℕ) (op : PipeOp) (at : IsAt all k op) (nets : List ℕ) (h : AreActs d issue all (take k all) nets) where
    one_more : take (k + 1) all ≡ take k all ++ op ∷ []
    one_more = take_more all k op at.within ∙ ap (λ o. take k all ++ o ∷ []) (at.is op)

    pub act_added : (enable : ℕ) (operands : List ℕ) → is_access op.act ≡ true → ActsAt d issue all op enable operands → AreActs d issue all (take (k + 1) all) ((nets ++ enable ∷ []) ++ operands)
    act_added enable operands e is =
        subst (λ os. AreActs d issue all os ((nets ++ enable ∷ []) ++ operands)) (sym one_more)
        (subst (λ ns. AreActs d issue all (take k all ++ op ∷ []) ns) (sym (append_assoc nets (enable ∷ []) operands)) (acts_more op enable operands e is (take k all) nets h))

    pub act_passed : is_access op.act ≡ false → AreActs d issue all (take (k + 1) all) nets
    act_passed e = subst (λ os. AreActs d issue all os nets) (sym one_more) (acts_passed op e (take k all) nets h)
