-- Accesses of operations one after the other.
use Rattle.std.proofs.Common.{◌≡◌, ℕ, suc, ◌+◌, ◌-◌, ◌≤◌, true, false, List, [], ◌∷◌, ◌++◌, length, take, drop, slice_index_or, Option, Some, None, Result, Ok, Err, OnOk, refl, sym, ◌∙◌, ap, subst, arith}
use Rattle.std.proofs.lemmas.Bool.{true≢false}
use Rattle.std.proofs.lemmas.List.{append-nil, append_assoc}
use Rattle.sp_netlist.specs.Draft.{Draft}
use Rattle.sp_core.specs.declared.operation.Op.{Op}
use Rattle.sp_core.specs.Plain.{plain_op, plain_ops}
use Rattle.sp_pipe.specs.declared.part.PipeOp.{PipeOp}
use Rattle.sp_pipe.specs.Acts.{ActsAt, AreActs}
use Rattle.sp_pipe.specs.Acts as acts
use Rattle.sp_pipe.specs.Values.{is_access}
use Rattle.sp_access_nets.specs.declared.access.AccessNets.{AccessNets}
use Rattle.sp_access_nets.specs.Accesses.{is_some, AccessesNameMemories, IsAccessOf, AreAccesses, none, passed, acted, nets_of, AddAccesses}

-- the first of a list, and the others
abbrev pub others : {A : Type 0} → List A → List A
others xs = take (length xs - 1) (drop 1 xs)

all_taken : {A : Type 0} (xs : List A) → take (length xs) xs ≡ xs
all_taken [] = refl
all_taken (x ∷ xs) = ap (λ ys. x ∷ ys) (all_taken xs)

pub others_of : {A : Type 0} (x : A) (xs : List A) → others (x ∷ xs) ≡ xs
others_of x xs = ap (λ n. take n xs) (less (length xs)) ∙ all_taken xs
  where
    less : (n : ℕ) → suc n - 1 ≡ n
    less n = omega arith

first_of : {A : Type 0} (xs : List A) (o : A) → 1 ≤ length xs → xs ≡ slice_index_or xs 0 o ∷ others xs
first_of [] o lt = absurd (omega (arith, lt))
first_of (x ∷ xs) o lt = ap (λ ys. x ∷ ys) (sym (others_of x xs))

pub is_first : {A : Type 0} (xs : List A) (x : A) → 1 ≤ length xs → x ≡ slice_index_or xs 0 x → xs ≡ x ∷ others xs
is_first xs x lt e = first_of xs x lt ∙ ap (λ y. y ∷ others xs) (sym e)

pub others_less : {A : Type 0} (xs : List A) → 1 ≤ length xs → length (others xs) + 1 ≡ length xs
others_less [] lt = absurd (omega (arith, lt))
others_less (x ∷ xs) lt = (let e = ap length (others_of x xs) in omega (arith, e))

pub take_front : {A : Type 0} (xs ys : List A) → take (length xs) (xs ++ ys) ≡ xs
take_front [] ys = refl
take_front (x ∷ xs) ys = ap (λ zs. x ∷ zs) (take_front xs ys)

pub drop_front : {A : Type 0} (xs ys : List A) → drop (length xs) (xs ++ ys) ≡ ys
drop_front [] ys = refl
drop_front (x ∷ xs) ys = drop_front xs ys

module _ (d : Draft) (issue : ℕ) (all : List PipeOp) where
  acts_none : (nets : List ℕ) → AreActs d issue all [] nets → nets ≡ []
  acts_none _ acts.none = refl

  acts_behind : (p : PipeOp) (ps : List PipeOp) (nets : List ℕ) → is_access p.act ≡ false → AreActs d issue all (p ∷ ps) nets → AreActs d issue all ps nets
  acts_behind _ _ _ q (acts.passed f more) = more
  acts_behind _ _ _ q (acts.acted f own more) = absurd (true≢false (sym f ∙ q))

  -- the nets of an access, and those behind it
  pub record ActsFirst (p : PipeOp) (ps : List PipeOp) (nets : List ℕ) : Type 0 where
    pub enable : ℕ
    pub operands : List ℕ
    pub behind : List ℕ
    pub are : nets ≡ enable ∷ operands ++ behind
    pub own : ActsAt d issue all p enable operands
    pub more : AreActs d issue all ps behind

  acts_first : (p : PipeOp) (ps : List PipeOp) (nets : List ℕ) → is_access p.act ≡ true → AreActs d issue all (p ∷ ps) nets → ActsFirst p ps nets
  acts_first _ _ _ q (acts.passed f more) = absurd (true≢false (sym q ∙ f))
  acts_first _ _ _ q (acts.acted {op} {ops} {enable} {operands} {nets} f own more) = record { enable = enable; operands = operands; behind = nets; are = refl; own = own; more = more }

module _ (copy : (number : ℕ) → Option ℕ) (n : ℕ) where
  pub no_ops : (ops : List Op) (ps : List PipeOp) (nets : List ℕ) (before : List AccessNets) → length ops ≡ 0 → AddAccesses copy n (plain_ops ops) ps nets before before
  no_ops (op ∷ ops) ps nets before e = absurd (omega (arith, e))
  no_ops [] (p ∷ ps) nets before e = record { added = []; behind = sym (append-nil before); handed = λ d issue all l a. absurd l; nets_are = λ d issue all l a. absurd l }
  no_ops [] [] nets before e = record { added = []; behind = sym (append-nil before); handed = λ d issue all l a. none; nets_are = λ d issue all l a. acts_none d issue all nets a }

  pub no_placed : (ops : List Op) (ps : List PipeOp) (nets : List ℕ) (before : List AccessNets) → 1 ≤ length ops → length ps ≡ 0 → AddAccesses copy n (plain_ops ops) ps nets before before
  no_placed [] ps nets before lt e = absurd (omega (arith, lt))
  no_placed (op ∷ ops) (p ∷ ps) nets before lt e = absurd (omega (arith, e))
  no_placed (op ∷ ops) [] nets before lt e = record { added = []; behind = sym (append-nil before); handed = λ d issue all l a. absurd l; nets_are = λ d issue all l a. absurd l }

  -- an operation that names no memory is passed
  passes : (op : Op) (ops : List Op) (p : PipeOp) (ps : List PipeOp) (nets : List ℕ) (before after : List AccessNets) → op.mem ≡ None → AddAccesses copy (suc n) (plain_ops ops) ps nets before after
      → AddAccesses copy n (plain_ops (op ∷ ops)) (p ∷ ps) nets before after
  passes op ops p ps nets before after e rest = record {
    added = rest.added;
    behind = rest.behind;
    handed = λ d issue all l a. let quiet : is_access p.act ≡ false = sym l.0 ∙ ap is_some e in passed e quiet (rest.handed d issue all l.1 (acts_behind d issue all p ps nets quiet a));
    nets_are = λ d issue all l a. rest.nets_are d issue all l.1 (acts_behind d issue all p ps nets (sym l.0 ∙ ap is_some e) a);
  }

  -- an access takes its enable and so many operands
  module _ (op : Op) (ops : List Op) (p : PipeOp) (ps : List PipeOp) (m : ℕ) (is : op.mem ≡ Some m) where
    no_nets : (before : List AccessNets) → AddAccesses copy n (plain_ops (op ∷ ops)) (p ∷ ps) [] before before
    no_nets before = record {
      added = [];
      behind = sym (append-nil before);
      handed = λ d issue all l a. let f = acts_first d issue all p ps [] (sym l.0 ∙ ap is_some is) a in let e = ap length f.are in absurd (omega (arith, e));
      nets_are = λ d issue all l a. let f = acts_first d issue all p ps [] (sym l.0 ∙ ap is_some is) a in let e = ap length f.are in absurd (omega (arith, e));
    }

    added_one : (enable : ℕ) (nets : List ℕ) (a : AccessNets) (before after : List AccessNets) → IsAccessOf copy n (plain_op op) p a → a.enable ≡ enable → a.operands.items ≡ take (length p.args.items) nets
        → AddAccesses copy (suc n) (plain_ops ops) ps (drop (length p.args.items) nets) (before ++ a ∷ []) after → AddAccesses copy n (plain_ops (op ∷ ops)) (p ∷ ps) (enable ∷ nets) before after
    added_one enable nets a before after of_op enabled operands rest = record {
      added = a ∷ rest.added;
      behind = rest.behind ∙ append_assoc before (a ∷ []) rest.added;
      handed = λ d issue all l x. let loud = sym l.0 ∙ ap is_some is in of d issue all l.1 loud (acts_first d issue all p ps (enable ∷ nets) loud x);
      nets_are = λ d issue all l x. let loud = sym l.0 ∙ ap is_some is in whole d issue all l.1 (acts_first d issue all p ps (enable ∷ nets) loud x);
    }
      where
        k : ℕ
        k = length p.args.items

        tail_is : (d : Draft) (issue : ℕ) (all : List PipeOp) (f : ActsFirst d issue all p ps (enable ∷ nets)) → nets ≡ f.operands ++ f.behind
        tail_is d issue all f = ap (drop 1) f.are

        enable_is : (d : Draft) (issue : ℕ) (all : List PipeOp) (f : ActsFirst d issue all p ps (enable ∷ nets)) → a.enable ≡ f.enable
        enable_is d issue all f = enabled ∙ ap (λ ns. slice_index_or ns 0 enable) f.are

        operands_are : (d : Draft) (issue : ℕ) (all : List PipeOp) (f : ActsFirst d issue all p ps (enable ∷ nets)) → a.operands.items ≡ f.operands
        operands_are d issue all f = operands ∙ (ap (take k) (tail_is d issue all f) ∙ (ap (λ j. take j (f.operands ++ f.behind)) (sym f.own.taken.each) ∙ take_front f.operands f.behind))

        behind_is : (d : Draft) (issue : ℕ) (all : List PipeOp) (f : ActsFirst d issue all p ps (enable ∷ nets)) → drop k nets ≡ f.behind
        behind_is d issue all f = ap (drop k) (tail_is d issue all f) ∙ (ap (λ j. drop j (f.operands ++ f.behind)) (sym f.own.taken.each) ∙ drop_front f.operands f.behind)

        of : (d : Draft) (issue : ℕ) (all : List PipeOp) → AccessesNameMemories (plain_ops ops) ps → is_access p.act ≡ true → ActsFirst d issue all p ps (enable ∷ nets) → AreAccesses copy d issue all n (plain_ops (op ∷ ops)) (p ∷ ps) (a ∷ rest.added)
        of d issue all l loud f =
            acted loud of_op
            (subst (λ x. ActsAt d issue all p x a.operands.items) (sym (enable_is d issue all f)) (subst (λ x. ActsAt d issue all p f.enable x) (sym (operands_are d issue all f)) f.own))
            (rest.handed d issue all l (subst (AreActs d issue all ps) (sym (behind_is d issue all f)) f.more))

        whole : (d : Draft) (issue : ℕ) (all : List PipeOp) → AccessesNameMemories (plain_ops ops) ps → ActsFirst d issue all p ps (enable ∷ nets) → enable ∷ nets ≡ nets_of (a ∷ rest.added)
        whole d issue all l f =
            f.are
            ∙ (ap (λ x. x ∷ f.operands ++ f.behind) (sym (enable_is d issue all f))
            ∙ (ap (λ x. a.enable ∷ x ++ f.behind) (sym (operands_are d issue all f))
            ∙ ap (λ x. a.enable ∷ a.operands.items ++ x) (sym (behind_is d issue all f) ∙ rest.nets_are d issue all l (subst (AreActs d issue all ps) (sym (behind_is d issue all f)) f.more))))

-- the same of lists of which these are the first
module _ (copy : (number : ℕ) → Option ℕ) (n : ℕ) (ops : List Op) (ps : List PipeOp) (op : Op) (p : PipeOp) (ops_are : ops ≡ op ∷ others ops) (ps_are : ps ≡ p ∷ others ps) where
  back : (nets : List ℕ) (before after : List AccessNets) → AddAccesses copy n (plain_ops (op ∷ others ops)) (p ∷ others ps) nets before after → AddAccesses copy n (plain_ops ops) ps nets before after
  back nets before after a =
      subst (λ xs. AddAccesses copy n (plain_ops xs) ps nets before after) (sym ops_are)
      (subst (λ xs. AddAccesses copy n (plain_ops (op ∷ others ops)) xs nets before after) (sym ps_are) a)

  next : (k : ℕ) → k + 1 ≡ suc k
  next k = omega arith

  pub passed_adds : op.mem ≡ None → (nets : List ℕ) (before after : List AccessNets) → AddAccesses copy (n + 1) (plain_ops (others ops)) (others ps) nets before after → AddAccesses copy n (plain_ops ops) ps nets before after
  passed_adds e nets before after a = back nets before after (passes copy n op (others ops) p (others ps) nets before after e (subst (λ k. AddAccesses copy k (plain_ops (others ops)) (others ps) nets before after) (next n) a))

  pub no_nets_add : (m : ℕ) → op.mem ≡ Some m → (nets : List ℕ) (before : List AccessNets) → length nets ≡ 0 → AddAccesses copy n (plain_ops ops) ps nets before before
  no_nets_add m is [] before e = back [] before before (no_nets copy n op (others ops) p (others ps) m is before)
  no_nets_add m is (x ∷ xs) before e = absurd (omega (arith, e))

  pub acted_adds : (m : ℕ) → op.mem ≡ Some m → (nets : List ℕ) (enable : ℕ) → nets ≡ enable ∷ others nets → (a : AccessNets) (before after : List AccessNets) → IsAccessOf copy n (plain_op op) p a → a.enable ≡ enable
      → (count : ℕ) → count ≡ length p.args.items → a.operands.items ≡ take count (others nets)
      → (left : List ℕ) (middle : List AccessNets) → left ≡ drop count (others nets) → middle ≡ before ++ a ∷ [] → AddAccesses copy (n + 1) (plain_ops (others ops)) (others ps) left middle after
      → AddAccesses copy n (plain_ops ops) ps nets before after
  acted_adds m is nets enable nets_are a before after of_op enabled count count_is operands left middle left_is middle_is rest =
      subst (λ ns. AddAccesses copy n (plain_ops ops) ps ns before after) (sym nets_are)
      (back (enable ∷ others nets) before after
      (added_one copy n op (others ops) p (others ps) m is enable (others nets) a before after of_op enabled (operands ∙ ap (λ k. take k (others nets)) count_is)
      (subst (λ xs. AddAccesses copy (suc n) (plain_ops (others ops)) (others ps) xs (before ++ a ∷ []) after) (left_is ∙ ap (λ k. drop k (others nets)) count_is)
      (subst (λ xs. AddAccesses copy (suc n) (plain_ops (others ops)) (others ps) left xs after) middle_is
      (subst (λ k. AddAccesses copy k (plain_ops (others ops)) (others ps) left middle after) (next n) rest)))))

pub on_ok : {T E P Q : Type 0} (r : Result T E) → (P → Q) → OnOk r P → OnOk r Q
on_ok (Ok v) f p = f p
on_ok (Err e) f p = p
