-- The declarations of a program's tree, before the block and in it.
use Rattle.std.proofs.Common.{◌≡◌, ℕ, zero, suc, ◌+◌, ◌≤◌, ◌<◌, Bool, true, false, if◌then◌else◌, List, [], ◌∷◌, ◌++◌, map, length, take, slice_index_or, get_or, Contains, All, filter, refl, sym, ap, ap₂, subst, ◌∙◌, inl, inr, append_assoc, length-append, take_all, arith}
use Rattle.std.specs.Prelude.{◌⊎◌}
use Rattle.std.proofs.lemmas.List.{map-append, take_more}
use Rattle.std.proofs.lemmas.List.Elements.{Contains-append_right, Contains-append_cases, All-get_or}
use Rattle.sp_words.specs.declared.kind.Kind.{Kind}
use Rattle.sp_words.specs.declared.kind.Kind.TheVariants.{Dram, ArgIn, ArgOut}
use Rattle.sp_reader.specs.PlainStatement as tree_of
use Rattle.sp_tree.specs.Counts.{is_port}
use Rattle.sp_tree.specs.Declarations.{IsDeclaration}
use Rattle.sp_tree.specs.Elements.{numbers_below}
use Rattle.sp_tree.specs.Invariant.{port_numbers, ports_of, port_of}
use Rattle.sp_tree.specs.Meaning.{numbers_of, is_arg, is_out, is_dram}
use Rattle.sp_tree.specs.PlainProgram.{PlainMem, PlainProgram, no_mem}
use Rattle.sp_tree.specs.Structure.{mems_declared, counter_numbers}
use Rattle.sp_tree.specs.Typing.{mem_at}
use Rattle.sp_printed.specs.StatementTrees.{IsPortTree, ArePortTrees}
use Rattle.sp_typed.specs.Declarations as typed
use Rattle.sp_retyped.specs.BareMems.{bare_mem}
use Rattle.std.proofs.lemmas.List.Elements.{All-head, All-tail}
use Rattle.sp_typed.specs.Declarations.{port_mem, ports_declared}
use Rattle.sp_retyped.specs.BareMems.{DeclarationsComeBack}
use Rattle.sp_retyped.proofs.Declared.{known_is, same_parts, no_dims, rank_at, start_at, joined, mems_back, vals_back, counters_back}

-- ---- places in a list

pub here : {A : Type 0} (before : List A) (x : A) (xs : List A) (d : A) → slice_index_or (before ++ x ∷ xs) (length before) d ≡ x
here [] x xs d = refl
here (y ∷ before) x xs d = here before x xs d

-- the elements at the numbers below a count are the first ones
first_ones : {A B : Type 0} (f : A → B) (xs : List A) (d : A) (n : ℕ) → n ≤ length xs → map (λ i. f (slice_index_or xs i d)) (numbers_below n) ≡ map f (take n xs)
first_ones f xs d zero low = refl
first_ones f xs d (suc n) low =
    let next : suc n ≡ n + 1 = omega arith in
    let more : take (suc n) xs ≡ take n xs ++ get_or xs n d ∷ [] = ap (λ k. take k xs) next ∙ take_more xs n d (omega (arith, low)) in
    map-append (λ i. f (slice_index_or xs i d)) (numbers_below n) (n ∷ [])
    ∙ ap (λ l. l ++ f (slice_index_or xs n d) ∷ []) (first_ones f xs d n (omega (arith, low)))
    ∙ sym (ap (map f) more ∙ map-append f (take n xs) (get_or xs n d ∷ []))

all_ones : {A B : Type 0} (f : A → B) (xs : List A) (d : A) → map (λ i. f (slice_index_or xs i d)) (numbers_below (length xs)) ≡ map f xs
all_ones f xs d = first_ones f xs d (length xs) (omega arith) ∙ ap (map f) (take_all (length xs) xs (omega arith))

unmapped : {A : Type 0} (xs : List A) → map (λ x. x) xs ≡ xs
unmapped [] = refl
unmapped (x ∷ xs) = ap (λ l. x ∷ l) (unmapped xs)

-- ---- ports

port_back : {m : PlainMem} {d : tree_of.PlainDecl} → IsPortTree m d → IsDeclaration m → bare_mem (port_mem d d.kind) ≡ bare_mem m
port_back {m} (IsPortTree.an_arg k text ty) d = same_parts text (sym k) (known_is ty) (no_dims m.dims (rank_at m ArgIn d k)) (sym (start_at m ArgIn d k))
port_back {m} (IsPortTree.an_out k text ty) d = same_parts text (sym k) (known_is ty) (no_dims m.dims (rank_at m ArgOut d k)) (sym (start_at m ArgOut d k))
port_back {m} (IsPortTree.a_dram k text ty) d = same_parts text (sym k) (known_is ty) refl (sym (start_at m Dram d k))

module _ (p : PlainProgram) where
  ports_back : (before ms : List PlainMem) {decls : List tree_of.PlainDecl} (first : ℕ) → p.mems ≡ before ++ ms → length before ≡ first → All IsDeclaration ms → ArePortTrees ms decls
      → map bare_mem (ports_declared decls) ≡ map (λ m. bare_mem (mem_at p m)) (numbers_of is_port first ms)
  ports_back before [] first is long all ArePortTrees.no_ports = refl
  ports_back before (m ∷ ms) {decls} first is long all (ArePortTrees.passed port rest) =
      let more = ports_back (before ++ m ∷ []) ms (suc first) (is ∙ sym (append_assoc before (m ∷ []) ms)) (omega (arith, long, length-append before (m ∷ []))) (All-tail IsDeclaration m ms all) rest in
      more ∙ ap (λ b. map (λ m. bare_mem (mem_at p m)) ((if b then first ∷ [] else []) ++ numbers_of is_port (suc first) ms)) (sym port)
  ports_back before (m ∷ ms) {decls} first is long all (ArePortTrees.more_ports port t rest) =
      let more = ports_back (before ++ m ∷ []) ms (suc first) (is ∙ sym (append_assoc before (m ∷ []) ms)) (omega (arith, long, length-append before (m ∷ []))) (All-tail IsDeclaration m ms all) rest in
      let there : mem_at p first ≡ m = ap (λ n. slice_index_or p.mems n no_mem) (sym long) ∙ ap (λ l. slice_index_or l (length before) no_mem) is ∙ here before m ms no_mem in
      let one = port_back t (All-head IsDeclaration m ms all) ∙ ap bare_mem (sym there) in
      ap₂ (λ x l. x ∷ l) one more ∙ ap (λ b. map (λ m. bare_mem (mem_at p m)) ((if b then first ∷ [] else []) ++ numbers_of is_port (suc first) ms)) (sym port)

-- ---- ports of memories without places

ports_of_bare : (ms : List PlainMem) → ports_of ms ≡ ports_of (map bare_mem ms)
ports_of_bare ms = λ i. record { args = kept is_arg ms i; outs = kept is_out ms i; drams = kept is_dram ms i }
  where
    kept : (is : Kind → Bool) (ms : List PlainMem) → map port_of (filter (λ m. is m.kind) ms) ≡ map port_of (filter (λ m. is m.kind) (map bare_mem ms))
    kept is [] = refl
    kept is (m ∷ ms) = go (is m.kind) refl (kept is ms)
      where
        go : (b : Bool) → is m.kind ≡ b → map port_of (filter (λ m. is m.kind) ms) ≡ map port_of (filter (λ m. is m.kind) (map bare_mem ms))
            → map port_of (filter (λ m. is m.kind) (m ∷ ms)) ≡ map port_of (filter (λ m. is m.kind) (map bare_mem (m ∷ ms)))
        go true e h = rw e (ap (λ l. port_of m ∷ l) h)
        go false e h = rw e h

pub below : (n x : ℕ) → Contains (numbers_below n) x → x < n
below zero x (i, lt, e) = absurd (omega (arith, lt))
below (suc n) x at = by (Contains-append_cases (numbers_below n) (n ∷ []) x at) (λ h. below n x h)
  where
    by : Contains (numbers_below n) x ⊎ Contains (n ∷ []) x → (Contains (numbers_below n) x → x < n) → x < suc n
    by (inl h) f = let low = f h in omega (arith, low)
    by (inr (zero, lt, e)) f = omega (arith, e)
    by (inr (suc i, lt, e)) f = absurd (omega (arith, lt))

pub declares_back : DeclarationsComeBack
declares_back p s h t =
    let right = λ (m : ℕ) (at : Contains (mems_declared p.body) m).
    let low = below (length p.mems) m (subst (λ ns. Contains ns m) h.mem_numbers (Contains-append_right (port_numbers p) (mems_declared p.body) m at)) in
    All-get_or IsDeclaration p.mems m no_mem low h.declarations in
    let mems = joined bare_mem (λ m. bare_mem (mem_at p m)) (ports_declared s.decls) (typed.mems_declared (tree_of.body s.body)) (port_numbers p) (mems_declared p.body)
    (ports_back p [] p.mems 0 refl refl h.declarations t.ports) (mems_back p t.block right)
    ∙ ap (map (λ m. bare_mem (mem_at p m))) h.mem_numbers ∙ all_ones bare_mem p.mems no_mem in
    record {
      mems = mems;
      vals = vals_back p t.block ∙ ap (map (λ v. slice_index_or p.vals v [])) h.val_numbers ∙ all_ones (λ x. x) p.vals [] ∙ unmapped p.vals;
      counters = counters_back p t.block ∙ ap (map (λ c. slice_index_or p.counters c [])) h.counter_numbers ∙ all_ones (λ x. x) p.counters [] ∙ unmapped p.counters;
      ports = ports_of_bare (ports_declared s.decls ++ typed.mems_declared (tree_of.body s.body)) ∙ ap ports_of mems ∙ sym (ports_of_bare p.mems) ∙ sym h.ports;
    }
