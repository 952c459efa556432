-- Worked accesses.
use Rattle.std.proofs.Common.{◌≡◌, ℕ, suc, true, false, List, [], ◌∷◌, ◌++◌, length, take, drop, slice_index_or, Option, Some, None, refl, sym, ◌∙◌, ap}
use Rattle.std.proofs.lemmas.Bool.{true≢false}
use Rattle.sp_netlist.specs.Draft.{Draft}
use Rattle.sp_core.specs.PlainCore.{PlainOp}
use Rattle.sp_pipe.specs.declared.part.PipeOp.{PipeOp}
use Rattle.sp_pipe.specs.Acts.{ActsAt}
use Rattle.sp_pipe.specs.Values.{is_access}
use Rattle.sp_access_nets.specs.declared.access.AccessNets.{AccessNets}
use Rattle.sp_access_nets.specs.Accesses.{answer_in, nets_of, AccessesNameMemories, IsAccessOf, AreAccesses, none, passed, acted}
use Rattle.sp_access_nets.specs.Example.{three_ops, three_nets, three_copies, WorkedAccesses}
use Rattle.sp_access_nets.proofs.Adding.{take_front, drop_front}

module _ (copy : (number : ℕ) → Option ℕ) (d : Draft) (issue : ℕ) (all : List PipeOp) where
  skipped : (n : ℕ) (op : PlainOp) (ops : List PlainOp) (p : PipeOp) (ps : List PipeOp) (accesses : List AccessNets) → is_access p.act ≡ false → AreAccesses copy d issue all n (op ∷ ops) (p ∷ ps) accesses → AreAccesses copy d issue all (suc n) ops ps accesses
  skipped _ _ _ _ _ _ q (passed e f more) = more
  skipped _ _ _ _ _ _ q (acted f own acts more) = absurd (true≢false (sym f ∙ q))

  ended : (n : ℕ) (accesses : List AccessNets) → AreAccesses copy d issue all n [] [] accesses → accesses ≡ []
  ended _ _ none = refl

  record HasFirst (n : ℕ) (op : PlainOp) (ops : List PlainOp) (p : PipeOp) (ps : List PipeOp) (accesses : List AccessNets) : Type 0 where
    pub first : AccessNets
    pub others : List AccessNets
    pub are : accesses ≡ first ∷ others
    pub own : IsAccessOf copy n op p first
    pub acts : ActsAt d issue all p first.enable first.operands.items
    pub more : AreAccesses copy d issue all (suc n) ops ps others

  has_first : (n : ℕ) (op : PlainOp) (ops : List PlainOp) (p : PipeOp) (ps : List PipeOp) (accesses : List AccessNets) → is_access p.act ≡ true → AreAccesses copy d issue all n (op ∷ ops) (p ∷ ps) accesses → HasFirst n op ops p ps accesses
  has_first _ _ _ _ _ _ q (passed e f more) = absurd (true≢false (sym q ∙ f))
  has_first _ _ _ _ _ _ q (acted {n} {op} {ops} {p} {ps} {a} {accesses} f own acts more) = record { first = a; others = accesses; are = refl; own = own; acts = acts; more = more }

abbrev held : Option ℕ → ℕ
held (Some m) = m
held None = 0

-- two accesses of one operand and of two
record AreApart (e : ℕ) (xs : List ℕ) (f : ℕ) (ys : List ℕ) : Type 0 where
  pub e_is : e ≡ 5
  pub xs_are : xs ≡ 6 ∷ []
  pub f_is : f ≡ 7
  pub ys_are : ys ≡ 8 ∷ 10 ∷ []

apart : (e : ℕ) (xs : List ℕ) (f : ℕ) (ys : List ℕ) → length xs ≡ 1 → length ys ≡ 2 → three_nets ≡ e ∷ xs ++ (f ∷ ys ++ []) → AreApart e xs f ys
apart e xs f ys one two is =
    let behind : 6 ∷ 7 ∷ 8 ∷ 10 ∷ [] ≡ xs ++ (f ∷ ys ++ []) = ap (drop 1) is in
    let left : 7 ∷ 8 ∷ 10 ∷ [] ≡ f ∷ ys ++ [] = ap (drop 1) behind ∙ (ap (λ k. drop k (xs ++ (f ∷ ys ++ []))) (sym one) ∙ drop_front xs (f ∷ ys ++ [])) in
    let last : 8 ∷ 10 ∷ [] ≡ ys ++ [] = ap (drop 1) left in
    record {
      e_is = sym (ap (λ ns. slice_index_or ns 0 0) is);
      xs_are = sym (ap (take 1) behind ∙ (ap (λ k. take k (xs ++ (f ∷ ys ++ []))) (sym one) ∙ take_front xs (f ∷ ys ++ [])));
      f_is = sym (ap (λ ns. slice_index_or ns 0 0) left);
      ys_are = sym (ap (take 2) last ∙ (ap (λ k. take k (ys ++ [])) (sym two) ∙ take_front ys []));
    }

pub worked : WorkedAccesses
worked d issue all p q r accesses h acts handed nets =
    let quiet : false ≡ is_access p.act = sym (ap is_access h.given) in
    let loud_read : true ≡ is_access q.act = sym (ap is_access h.reads) in
    let loud_write : true ≡ is_access r.act = sym (ap is_access h.writes) in
    let names : AccessesNameMemories three_ops (p ∷ q ∷ r ∷ []) = (quiet, (loud_read, (loud_write, tt {0}))) in
    let read = has_first three_copies d issue all _ _ _ _ _ _ (sym loud_read) (skipped three_copies d issue all _ _ _ _ _ _ (sym quiet) (handed d issue all names acts)) in
    let write = has_first three_copies d issue all _ _ _ _ _ _ (sym loud_write) read.more in
    let both : accesses ≡ read.first ∷ write.first ∷ [] = read.are ∙ ap (λ xs. read.first ∷ xs) (write.are ∙ ap (λ xs. write.first ∷ xs) (ended three_copies d issue all _ _ write.more)) in
    let split =
    apart read.first.enable read.first.operands.items write.first.enable write.first.operands.items
    (read.acts.taken.each ∙ ap length h.place)
    (write.acts.taken.each ∙ ap length h.both)
    (nets d issue all names acts ∙ ap nets_of both) in
    let read_mem : read.first.mem ≡ 2 = sym (ap held read.own.mem) in
    let write_mem : write.first.mem ≡ 3 = sym (ap held write.own.mem) in
    record {
      read = read.first;
      write = write.first;
      both = both;
      reads = record {
        number_is = read.own.first;
        kind_is = read.own.kind;
        mem_is = read_mem;
        enable_is = split.e_is;
        operands_are = split.xs_are;
        copy_is = read.own.copied;
        answer_is = read.own.answered ∙ ap answer_in h.reads;
      };
      writes = record {
        number_is = write.own.first;
        kind_is = write.own.kind;
        mem_is = write_mem;
        enable_is = split.f_is;
        operands_are = split.ys_are;
        copy_is = write.own.copied;
        answer_is = write.own.answered ∙ ap answer_in h.writes;
      };
    }
