-- The ports of the core of a program: names that differ, each of its memory.
use Rattle.std.proofs.Common.{◌≡◌, ℕ, zero, suc, ◌+◌, ◌<◌, Bool, true, false, not, ◌||◌, cond, List, [], ◌∷◌, ◌++◌, refl, sym, ◌∙◌, ap, subst, arith, if◌then◌else◌}
use Rattle.std.proofs.lemmas.Bool.{false≢true, true≢false, eq-eqb, and_from, false_from_ne_true}
use Rattle.std.proofs.lemmas.Slice.Eq.{bytes_eq-Decides}
use Rattle.std.specs.List.{list_any}
use Rattle.std.specs.Prelude.{length, map, filter, slice_index_or, Contains}
use Rattle.std.specs.Str.{bytes_eq}
use Rattle.sp_words.specs.declared.kind.Kind.{Kind}
use Rattle.sp_words.specs.declared.kind.Kind.TheVariants.{Reg, Sram, Fifo, LineBuf, Dram, ArgIn, ArgOut}
use Rattle.sp_words.specs.Names.{IsName, reserved_words}
use Rattle.sp_words.specs.Ports.{PlainPort, PlainPorts}
use Rattle.sp_tree.specs.Counts.{is_port}
use Rattle.sp_tree.specs.Declarations.{HasRank, IsDeclaration}
use Rattle.sp_tree.specs.Invariant.{IsProgram, PortsFresh, port_of}
use Rattle.sp_tree.specs.Meaning as tree
use Rattle.sp_tree.specs.Meaning.{numbers_of}
use Rattle.sp_tree.specs.PlainProgram.{PlainMem, PlainProgram, no_mem}
use Rattle.sp_tree.specs.Typing.{Scope, with_mem, visible}
use Rattle.sp_core.specs.Meaning as core_meaning
use Rattle.sp_core.specs.MemoryRules.{is_port_name, are_port_names, names_of, are_ports_of, are_ports_right}
use Rattle.sp_core.specs.PlainCore as core
use Rattle.sp_sugar.specs.Core.{core_of}
use Rattle.sp_sugar.specs.Numbers.{is_off_dram, written_mem, written_mems}
use Rattle.sp_sugar.specs.Registers.{registers_in}
use Rattle.sp_sugar.specs.Uses.{no_more}
use Rattle.sp_sugar.proofs.KeepLemmas.{type_is}
use Rattle.sp_sugar.proofs.NumberLemmas.{either, written_kept, written_skipped}
use Rattle.sp_sugar.proofs.Registered.{are_registers_in}

found_among : (name : List ℕ) (xs : List (List ℕ)) → list_any (λ x. bytes_eq x name) xs ≡ true → Contains xs name
found_among name [] e = absurd (false≢true e)
found_among name (x ∷ xs) e = either (bytes_eq x name)
    (λ f. (0, omega arith, (bytes_eq-Decides x name).0 f))
    (λ f. let g = found_among name xs (ap (λ b. b || list_any (λ x. bytes_eq x name) xs) (sym f) ∙ e) in (suc g.0, omega (arith, g.1), g.2))

found_later : (name : List ℕ) (xs : List (List ℕ)) → list_any (λ x. bytes_eq name x) xs ≡ true → Contains xs name
found_later name [] e = absurd (false≢true e)
found_later name (x ∷ xs) e = either (bytes_eq name x)
    (λ f. (0, omega arith, sym ((bytes_eq-Decides name x).0 f)))
    (λ f. let g = found_later name xs (ap (λ b. b || list_any (λ x. bytes_eq name x) xs) (sym f) ∙ e) in (suc g.0, omega (arith, g.1), g.2))

name_is : (name : List ℕ) → IsName name → is_port_name name ≡ true
name_is name h = and_from _ _ h.letters (ap not (false_from_ne_true (list_any (λ word. bytes_eq word name) reserved_words) (λ e. h.free (found_among name reserved_words e))))

in_tail : (name x : List ℕ) (xs : List (List ℕ)) → Contains xs name → Contains (x ∷ xs) name
in_tail name x xs c = (suc c.0, omega (arith, c.1), c.2)

at_head : (name : List ℕ) (xs : List (List ℕ)) → Contains (name ∷ xs) name
at_head name xs = (0, omega arith, refl)

module _ (p : PlainProgram) (h : IsProgram p) (is : Kind → Bool) (ports : (k : Kind) → is k ≡ true → is_port k ≡ true) where
  abbrev names : List PlainMem → List (List ℕ)
  names l = names_of (map port_of (filter (λ m. is m.kind) l))

  abbrev Apart_names : Scope → List (List ℕ) → Type 0
  Apart_names scope xs = (name : List ℕ) → Contains xs name → Contains (visible p scope) name → ⊥

  abbrev kept_names : Bool → PlainMem → List PlainMem → List (List ℕ)
  kept_names b x l = names_of (map port_of (cond b (x ∷ filter (λ m. is m.kind) l) (filter (λ m. is m.kind) l)))

  Right_names : Scope → List (List ℕ) → Type 0
  Right_names scope xs = (are_port_names xs ≡ true) × Apart_names scope xs

  with_port : (first : ℕ) (x : PlainMem) (l : List PlainMem) (scope : Scope) → slice_index_or p.mems first no_mem ≡ x → IsName x.name → (Contains (visible p scope) (slice_index_or p.mems first no_mem).name → ⊥)
      → Right_names (with_mem scope first) (names l) → Right_names scope (names (x ∷ l))
  unfolding Right_names
  with_port first x l scope same named fresh rest = either (is x.kind)
      (λ e. subst (λ b. Right_names scope (kept_names b x l)) (sym e) (
        and_from _ _ (and_from _ _ (name_is x.name named) (ap not (false_from_ne_true (list_any (λ other. bytes_eq x.name other) (names l)) (λ f. rest.1 x.name (found_later x.name (names l) f) (0, omega arith, ap (λ (m : PlainMem). m.name) same))))) rest.0,
        apart,
      ))
      (λ e. subst (λ b. Right_names scope (kept_names b x l)) (sym e) (rest.0, λ name c v. rest.1 name c (in_tail name (slice_index_or p.mems first no_mem).name (visible p scope) v)))
    where
      apart : (name : List ℕ) → Contains (x.name ∷ names l) name → Contains (visible p scope) name → ⊥
      apart name (zero, lt, e) v = fresh (subst (λ n. Contains (visible p scope) n) (sym (ap (λ (m : PlainMem). m.name) same ∙ e)) v)
      apart name (suc k, lt, e) v = rest.1 name (k, omega arith, e) (in_tail name (slice_index_or p.mems first no_mem).name (visible p scope) v)

  -- the names of a part of the memories, whose ports are fresh where this is visible
  names_right : (first : ℕ) (l : List PlainMem) (scope : Scope) → ((j : ℕ) → j < length l → slice_index_or p.mems (first + j) no_mem ≡ slice_index_or l j no_mem) → ((j : ℕ) → j < length l → IsName (slice_index_or l j no_mem).name)
      → PortsFresh p scope (numbers_of is_port first l) → Right_names scope (names l)
  unfolding Right_names
  names_right first [] scope same named fresh = (refl, λ name c v. absurd (omega (arith, c.1)))
  names_right first (x ∷ l) scope same named fresh =
      let later : (j : ℕ) → j < length l → slice_index_or p.mems (suc first + j) no_mem ≡ slice_index_or l j no_mem = λ j lt. ap (λ n. slice_index_or p.mems n no_mem) {x = suc first + j} {y = first + suc j} (omega arith) ∙ same (suc j) (omega arith) in
      let here : slice_index_or p.mems first no_mem ≡ x = ap (λ n. slice_index_or p.mems n no_mem) {x = first} {y = first + 0} (omega arith) ∙ same 0 (omega arith) in
      either (is_port x.kind)
      (λ e. let f : PortsFresh p scope (first ∷ numbers_of is_port (suc first) l) = subst (λ b. PortsFresh p scope ((if b then first ∷ [] else []) ++ numbers_of is_port (suc first) l)) e fresh in
      with_port first x l scope here (named 0 (omega arith)) f.0 (names_right (suc first) l (with_mem scope first) later (λ j lt. named (suc j) (omega arith)) f.1))
      (λ e. let none : is x.kind ≡ false = false_from_ne_true (is x.kind) (λ f. true≢false (sym (ports x.kind f) ∙ e)) in
      subst (λ b. Right_names scope (kept_names b x l)) (sym none)
      (names_right (suc first) l scope later (λ j lt. named (suc j) (omega arith)) (subst (λ b. PortsFresh p scope ((if b then first ∷ [] else []) ++ numbers_of is_port (suc first) l)) e fresh)))

  pub all_names : are_port_names (names p.mems) ≡ true
  unfolding Right_names
  all_names = (names_right 0 p.mems (record { mems = []; vals = []; counters = [] }) (λ j lt. ap (λ n. slice_index_or p.mems n no_mem) {x = 0 + j} {y = j} (omega arith)) (λ j lt. (h.declarations j no_mem lt).name) h.port_names).0

-- arguments and outputs are the memories of their kind
module _ (is is_core : Kind → Bool) (same : (k : Kind) → is_core k ≡ is k) (off : (k : Kind) → is k ≡ true → tree.is_dram k ≡ false) (scalar : (k : Kind) (n : ℕ) → is k ≡ true → HasRank k n → n ≡ 0)
    (others : List core.PlainMem) (none : filter (λ (m : core.PlainMem). is_core m.kind) others ≡ []) where
  abbrev of_kind : List core.PlainMem → List core.PlainMem
  of_kind ms = filter (λ (m : core.PlainMem). is_core m.kind) ms

  abbrev ports_kept : List PlainMem → List PlainPort
  ports_kept l = map port_of (filter (λ (m : PlainMem). is m.kind) l)

  left_out : (x : PlainMem) (l : List PlainMem) → is x.kind ≡ false → of_kind (written_mems (x ∷ l) ++ others) ≡ of_kind (written_mems l ++ others)
  left_out x l e = either (is_off_dram x)
      (λ f. ap (λ ms. of_kind (ms ++ others)) (written_kept x l f) ∙ ap (λ b. cond b (written_mem x ∷ of_kind (written_mems l ++ others)) (of_kind (written_mems l ++ others))) (same x.kind ∙ e))
      (λ f. ap (λ ms. of_kind (ms ++ others)) (written_skipped x l f))

  taken_in : (x : PlainMem) (l : List PlainMem) → is x.kind ≡ true → of_kind (written_mems (x ∷ l) ++ others) ≡ written_mem x ∷ of_kind (written_mems l ++ others)
  taken_in x l e = ap (λ ms. of_kind (ms ++ others)) (written_kept x l (ap not (off x.kind e))) ∙ ap (λ b. cond b (written_mem x ∷ of_kind (written_mems l ++ others)) (of_kind (written_mems l ++ others))) (same x.kind ∙ e)

  ports_match : (l : List PlainMem) → ((j : ℕ) → j < length l → IsDeclaration (slice_index_or l j no_mem)) → are_ports_of (ports_kept l) (of_kind (written_mems l ++ others)) ≡ true
  ports_match [] h = subst (λ ms. are_ports_of [] ms ≡ true) (sym none) refl
  ports_match (x ∷ l) h = either (is x.kind)
      (λ e. subst (λ b. are_ports_of (map port_of (cond b (x ∷ filter (λ (m : PlainMem). is m.kind) l) (filter (λ (m : PlainMem). is m.kind) l))) (of_kind (written_mems (x ∷ l) ++ others)) ≡ true) (sym e)
      (subst (λ ms. are_ports_of (port_of x ∷ ports_kept l) ms ≡ true) (sym (taken_in x l e))
      (and_from _ _ (and_from _ _ ((bytes_eq-Decides x.name x.name).1 refl) (and_from _ _ (type_is x.ty) (eq-eqb (length x.dims) 0 (scalar x.kind (length x.dims) e (h 0 (omega arith)).rank)))) (ports_match l (λ j lt. h (suc j) (omega arith))))))
      (λ e. subst (λ b. are_ports_of (map port_of (cond b (x ∷ filter (λ (m : PlainMem). is m.kind) l) (filter (λ (m : PlainMem). is m.kind) l))) (of_kind (written_mems (x ∷ l) ++ others)) ≡ true) (sym e)
      (subst (λ ms. are_ports_of (ports_kept l) ms ≡ true) (sym (left_out x l e)) (ports_match l (λ j lt. h (suc j) (omega arith)))))

no_registers : (f : core.PlainMem → Bool) (l : List core.PlainMem) → ((j : ℕ) → f (slice_index_or l j core.no_mem) ≡ false) → filter f l ≡ []
no_registers f [] h = refl
no_registers f (x ∷ l) h = ap (λ b. cond b (x ∷ filter f l) (filter f l)) (h 0) ∙ no_registers f l (λ j. h (suc j))

same_arg : (k : Kind) → core_meaning.is_arg k ≡ tree.is_arg k
same_arg Reg = refl
same_arg Sram = refl
same_arg Fifo = refl
same_arg LineBuf = refl
same_arg Dram = refl
same_arg ArgIn = refl
same_arg ArgOut = refl

arg_port : (k : Kind) → tree.is_arg k ≡ true → is_port k ≡ true
arg_port Reg e = absurd (false≢true e)
arg_port Sram e = absurd (false≢true e)
arg_port Fifo e = absurd (false≢true e)
arg_port LineBuf e = absurd (false≢true e)
arg_port Dram e = absurd (false≢true e)
arg_port ArgIn e = refl
arg_port ArgOut e = absurd (false≢true e)

arg_chip : (k : Kind) → tree.is_arg k ≡ true → tree.is_dram k ≡ false
arg_chip Reg e = absurd (false≢true e)
arg_chip Sram e = absurd (false≢true e)
arg_chip Fifo e = absurd (false≢true e)
arg_chip LineBuf e = absurd (false≢true e)
arg_chip Dram e = absurd (false≢true e)
arg_chip ArgIn e = refl
arg_chip ArgOut e = absurd (false≢true e)

arg_scalar : (k : Kind) (n : ℕ) → tree.is_arg k ≡ true → HasRank k n → n ≡ 0
arg_scalar Reg n e r = absurd (false≢true e)
arg_scalar Sram n e r = absurd (false≢true e)
arg_scalar Fifo n e r = absurd (false≢true e)
arg_scalar LineBuf n e r = absurd (false≢true e)
arg_scalar Dram n e r = absurd (false≢true e)
arg_scalar ArgIn n e r = r
arg_scalar ArgOut n e r = absurd (false≢true e)

same_out : (k : Kind) → core_meaning.is_out k ≡ tree.is_out k
same_out Reg = refl
same_out Sram = refl
same_out Fifo = refl
same_out LineBuf = refl
same_out Dram = refl
same_out ArgIn = refl
same_out ArgOut = refl

out_port : (k : Kind) → tree.is_out k ≡ true → is_port k ≡ true
out_port Reg e = absurd (false≢true e)
out_port Sram e = absurd (false≢true e)
out_port Fifo e = absurd (false≢true e)
out_port LineBuf e = absurd (false≢true e)
out_port Dram e = absurd (false≢true e)
out_port ArgIn e = absurd (false≢true e)
out_port ArgOut e = refl

out_chip : (k : Kind) → tree.is_out k ≡ true → tree.is_dram k ≡ false
out_chip Reg e = absurd (false≢true e)
out_chip Sram e = absurd (false≢true e)
out_chip Fifo e = absurd (false≢true e)
out_chip LineBuf e = absurd (false≢true e)
out_chip Dram e = absurd (false≢true e)
out_chip ArgIn e = absurd (false≢true e)
out_chip ArgOut e = refl

out_scalar : (k : Kind) (n : ℕ) → tree.is_out k ≡ true → HasRank k n → n ≡ 0
out_scalar Reg n e r = absurd (false≢true e)
out_scalar Sram n e r = absurd (false≢true e)
out_scalar Fifo n e r = absurd (false≢true e)
out_scalar LineBuf n e r = absurd (false≢true e)
out_scalar Dram n e r = absurd (false≢true e)
out_scalar ArgIn n e r = absurd (false≢true e)
out_scalar ArgOut n e r = r

dram_port : (k : Kind) → tree.is_dram k ≡ true → is_port k ≡ true
dram_port Reg e = absurd (false≢true e)
dram_port Sram e = absurd (false≢true e)
dram_port Fifo e = absurd (false≢true e)
dram_port LineBuf e = absurd (false≢true e)
dram_port Dram e = refl
dram_port ArgIn e = absurd (false≢true e)
dram_port ArgOut e = absurd (false≢true e)

pub ports_right : (p : PlainProgram) → IsProgram p → are_ports_right (core_of p) ≡ true
unfolding core_of
ports_right p h = subst (λ (x : PlainPorts). are_ports_right (record (core_of p) { ports = x }) ≡ true) (sym h.ports)
    (and_from _ _ (and_from _ _ (all_names p h tree.is_arg arg_port) (and_from _ _ (all_names p h tree.is_out out_port) (all_names p h tree.is_dram dram_port)))
    (and_from _ _
    (ports_match tree.is_arg core_meaning.is_arg same_arg arg_chip arg_scalar (registers_in p.body no_more) (no_registers _ (registers_in p.body no_more) (are_registers_in (λ m. core_meaning.is_arg m.kind ≡ false) refl refl (λ ty. refl) (λ ty. refl) p.body no_more)) p.mems (λ j lt. h.declarations j no_mem lt))
    (ports_match tree.is_out core_meaning.is_out same_out out_chip out_scalar (registers_in p.body no_more) (no_registers _ (registers_in p.body no_more) (are_registers_in (λ m. core_meaning.is_out m.kind ≡ false) refl refl (λ ty. refl) (λ ty. refl) p.body no_more)) p.mems (λ j lt. h.declarations j no_mem lt))))
