-- Lists one after another.
use Rattle.std.proofs.Common.{◌≡◌, ℕ, List, [], ◌∷◌, ◌++◌, Result, Ok, Err, ap, ◌∙◌, append-nil}
use Rattle.std.specs.Prelude.{OnOk}
use Rattle.std.proofs.lemmas.List.{append_assoc}
use Rattle.sp_reader.specs.PlainTree.{PlainIdent}
use Rattle.sp_reader.specs.PlainStatement.{PlainStmts}
use Rattle.sp_tree.specs.PlainProgram.{PlainMem}
use Rattle.sp_typed.specs.Declarations.{texts}
use Rattle.sp_check.specs.Lists.{Lists, joined, of_body, of_loop}

abbrev pub lists : List PlainMem → List (List ℕ) → List (List ℕ) → Lists
lists ms vs cs = record { mems = ms; vals = vs; counters = cs }

pub same_lists : (ms ns : List PlainMem) (vs ws cs ds : List (List ℕ)) → ms ≡ ns → vs ≡ ws → cs ≡ ds → lists ms vs cs ≡ lists ns ws ds
same_lists ms ns vs ws cs ds p q r = ap (λ x. lists x vs cs) p ∙ ap (λ x. lists ns x cs) q ∙ ap (lists ns ws) r

-- two bodies, or a statement and those after it
pub joined_twice : (a b c : Lists) → joined (joined a b) c ≡ joined a (joined b c)
joined_twice a b c = same_lists _ _ _ _ _ _ (append_assoc a.mems b.mems c.mems) (append_assoc a.vals b.vals c.vals) (append_assoc a.counters b.counters c.counters)

-- nothing more
pub joined_none : (a : Lists) → joined a (lists [] [] []) ≡ a
joined_none a = same_lists _ _ _ _ _ _ (append-nil a.mems) (append-nil a.vals) (append-nil a.counters)

-- a loop, by its counters and its body
pub joined_loop : (a : Lists) (binds : List PlainIdent) (ss : PlainStmts) → joined (record a { counters = a.counters ++ texts binds }) (of_body ss) ≡ joined a (of_loop binds ss)
joined_loop a binds ss = ap (lists _ _) (append_assoc a.counters (texts binds) _)

-- the values of an FSM
pub joined_turn : (a : List (List ℕ)) (x y z : List ℕ) (inner : List (List ℕ)) → (((a ++ x ∷ []) ++ y ∷ []) ++ inner) ++ z ∷ [] ≡ a ++ ((x ∷ (y ∷ inner)) ++ z ∷ [])
joined_turn a x y z inner = simp append_assoc

-- what a call that was all right left is the same, said otherwise
pub along : {A E : Type 0} (r : Result A E) (x y z : Lists) → y ≡ z → OnOk r (x ≡ y) → OnOk r (x ≡ z)
along (Ok a) x y z e h = h ∙ e
along (Err b) x y z e h = h
