-- The typed program of a program's tree is the program, but for places.
use Rattle.std.proofs.Common.{◌≡◌, ℕ, zero, suc, ◌+◌, Bool, if◌then◌else◌, List, [], ◌∷◌, ◌++◌, map, length, slice_index_or, Contains, All, refl, sym, ap, subst, ◌∙◌, inl, inr, append_assoc, append-nil, length-append, arith}
use Rattle.std.specs.Prelude.{◌⊎◌}
use Rattle.std.proofs.lemmas.List.Elements.{Contains-append_left, Contains-append_right, All-head, All-tail, All-get_or}
use Rattle.sp_words.specs.declared.kind.Kind.TheVariants.{ArgIn, ArgOut}
use Rattle.sp_reader.specs.PlainStatement as tree_of
use Rattle.sp_tree.specs.Counts.{is_port}
use Rattle.sp_tree.specs.Declarations.{IsDeclaration}
use Rattle.sp_tree.specs.Invariant.{PortsFresh, port_numbers, outer_scope}
use Rattle.sp_tree.specs.Meaning.{numbers_of}
use Rattle.sp_tree.specs.PlainProgram.{PlainMem, PlainProgram, no_mem}
use Rattle.sp_tree.specs.Structure.{mems_declared, vals_declared, counters_declared}
use Rattle.sp_tree.specs.Typing.{Scope, mem_at, visible, with_mem, IsFresh}
use Rattle.sp_printed.specs.StatementTrees.{IsPortTree, ArePortTrees}
use Rattle.sp_types.specs.Statements.{port}
use Rattle.sp_typed.specs.Declarations.{port_names, at_block}
use Rattle.sp_typed.specs.Named.{Meant, given}
use Rattle.sp_retyped.specs.BareBody.{ProgramsComeBack}
use Rattle.sp_retyped.specs.Shown.{Shown}
use Rattle.sp_retyped.proofs.Bodies.{Numbered, body_back, mem_shown, symbol_is}
use Rattle.sp_retyped.proofs.Declared.{no_dims, rank_at}
use Rattle.sp_retyped.proofs.Numbered.{IsRun, run_left, run_right, below_run}
use Rattle.sp_retyped.proofs.Ports.{here, below, declares_back}
use Rattle.sp_retyped.proofs.Scopes.{first_or_rest, one_more, at_first}
use Rattle.sp_retyped.proofs.Values.{type_is}

-- ---- elements

mapped : {A B : Type 0} (f : A → B) (xs : List A) (x : A) → Contains xs x → Contains (map f xs) (f x)
mapped f [] x (k, lt, e) = absurd (omega (arith, lt))
mapped f (y ∷ ys) x (zero, lt, e) = (0, omega arith, ap f e)
mapped f (y ∷ ys) x (suc k, lt, e) = one_more (f y) (map f ys) (f x) (mapped f ys x (k, omega (arith, lt), e))

from_mapped : {A B : Type 0} (f : A → B) (xs : List A) (y : B) → Contains (map f xs) y → (x : A) × Contains xs x × (f x ≡ y)
from_mapped f [] y (k, lt, e) = absurd (omega (arith, lt))
from_mapped f (x ∷ xs) y (zero, lt, e) = (x, at_first x xs, e)
from_mapped f (x ∷ xs) y (suc k, lt, e) = let r = from_mapped f xs y (k, omega (arith, lt), e) in (r.0, one_more x xs r.0 r.1, r.2)

-- ---- the ports, one after the other

abbrev pub with_all : Scope → List ℕ → Scope
with_all scope [] = scope
with_all scope (m ∷ ms) = with_all (with_mem scope m) ms

stays : (scope : Scope) (ms : List ℕ) (m : ℕ) → Contains scope.mems m → Contains (with_all scope ms).mems m
stays scope [] m at = at
stays scope (x ∷ ms) m at = stays (with_mem scope x) ms m (one_more x scope.mems m at)

joins : (scope : Scope) (ms : List ℕ) (m : ℕ) → Contains ms m → Contains (with_all scope ms).mems m
joins scope [] m (k, lt, e) = absurd (omega (arith, lt))
joins scope (x ∷ ms) m at = by (first_or_rest x ms m at) (λ h. joins (with_mem scope x) ms m h)
  where
    by : (x ≡ m) ⊎ Contains ms m → (Contains ms m → Contains (with_all (with_mem scope x) ms).mems m) → Contains (with_all (with_mem scope x) ms).mems m
    by (inl e) f = subst (λ y. Contains (with_all (with_mem scope x) ms).mems y) e (stays (with_mem scope x) ms x (at_first x scope.mems))
    by (inr h) f = f h

was : (scope : Scope) (ms : List ℕ) (m : ℕ) → Contains (with_all scope ms).mems m → Contains scope.mems m ⊎ Contains ms m
was scope [] m at = inl at
was scope (x ∷ ms) m at = by (was (with_mem scope x) ms m at)
  where
    first : (x ≡ m) ⊎ Contains scope.mems m → Contains scope.mems m ⊎ Contains (x ∷ ms) m
    first (inl e) = inr (subst (λ y. Contains (x ∷ ms) y) e (at_first x ms))
    first (inr h) = inl h

    by : Contains (x ∷ scope.mems) m ⊎ Contains ms m → Contains scope.mems m ⊎ Contains (x ∷ ms) m
    by (inl h) = first (first_or_rest x scope.mems m h)
    by (inr h) = inr (one_more x ms m h)

abbrev pub empty_scope : Scope
empty_scope = record { mems = []; vals = []; counters = [] }

module _ (p : PlainProgram) where
  pub port_shown : (scope : Scope) (names : List (List ℕ × Meant)) (m n : ℕ) {d : tree_of.PlainDecl} → Shown p scope names → IsPortTree (mem_at p m) d → IsDeclaration (mem_at p m) → m ≡ n → IsFresh p scope (mem_at p m).name
      → Shown p (with_mem scope m) (given names d.name.text (port d.kind) n)
  port_shown scope names m n shown (IsPortTree.an_arg {i = i} k text ty) d number fresh =
      mem_shown p scope (record { names = names; mems = 0; vals = 0; counters = 0 }) shown m n _ i.text text (symbol_is p (sym k) (type_is ty) (no_dims (mem_at p m).dims (rank_at (mem_at p m) ArgIn d k))) number fresh
  port_shown scope names m n shown (IsPortTree.an_out {i = i} k text ty) d number fresh =
      mem_shown p scope (record { names = names; mems = 0; vals = 0; counters = 0 }) shown m n _ i.text text (symbol_is p (sym k) (type_is ty) (no_dims (mem_at p m).dims (rank_at (mem_at p m) ArgOut d k))) number fresh
  port_shown scope names m n shown (IsPortTree.a_dram {i = i} k text ty) d number fresh =
      mem_shown p scope (record { names = names; mems = 0; vals = 0; counters = 0 }) shown m n _ i.text text (symbol_is p (sym k) (type_is ty) refl) number fresh

  ports_shown : (before ms : List PlainMem) {decls : List tree_of.PlainDecl} (first n : ℕ) (scope : Scope) (names : List (List ℕ × Meant)) → p.mems ≡ before ++ ms → length before ≡ first → All IsDeclaration ms → ArePortTrees ms decls
      → PortsFresh p scope (numbers_of is_port first ms) → IsRun n (numbers_of is_port first ms) → Shown p scope names → Shown p (with_all scope (numbers_of is_port first ms)) (port_names names n decls)
  ports_shown before [] first n scope names is long all ArePortTrees.no_ports fresh run shown = shown
  ports_shown before (m ∷ ms) {decls} first n scope names is long all (ArePortTrees.passed not_port rest) fresh run shown =
      let numbers = λ (b : Bool). (if b then first ∷ [] else []) ++ numbers_of is_port (suc first) ms in
      let more = ports_shown (before ++ m ∷ []) ms (suc first) n scope names (is ∙ sym (append_assoc before (m ∷ []) ms)) (omega (arith, long, length-append before (m ∷ []))) (All-tail IsDeclaration m ms all) rest
      (subst (λ b. PortsFresh p scope (numbers b)) not_port fresh) (subst (λ b. IsRun n (numbers b)) not_port run) shown in
      subst (λ b. Shown p (with_all scope (numbers b)) (port_names names n decls)) (sym not_port) more
  ports_shown before (m ∷ ms) first n scope names is long all (ArePortTrees.more_ports {d = d} {all = decls} a_port t rest) fresh run shown =
      let numbers = λ (b : Bool). (if b then first ∷ [] else []) ++ numbers_of is_port (suc first) ms in
      let fresh_here = subst (λ b. PortsFresh p scope (numbers b)) a_port fresh in
      let run_here = subst (λ b. IsRun n (numbers b)) a_port run in
      let there : mem_at p first ≡ m = ap (λ k. slice_index_or p.mems k no_mem) (sym long) ∙ ap (λ l. slice_index_or l (length before) no_mem) is ∙ here before m ms no_mem in
      let one = port_shown scope names first n shown (subst (λ x. IsPortTree x d) (sym there) t) (subst IsDeclaration (sym there) (All-head IsDeclaration m ms all)) run_here.0 fresh_here.0 in
      let next : suc n ≡ n + 1 = omega arith in
      let more = ports_shown (before ++ m ∷ []) ms (suc first) (n + 1) (with_mem scope first) (given names d.name.text (port d.kind) n) (is ∙ sym (append_assoc before (m ∷ []) ms)) (omega (arith, long, length-append before (m ∷ [])))
      (All-tail IsDeclaration m ms all) rest fresh_here.1 (subst (λ k. IsRun k (numbers_of is_port (suc first) ms)) next run_here.1) one in
      subst (λ b. Shown p (with_all scope (numbers b)) (port_names (given names d.name.text (port d.kind) n) (n + 1) decls)) (sym a_port) more

  pub ports_count : {ms : List PlainMem} {decls : List tree_of.PlainDecl} (first : ℕ) → ArePortTrees ms decls → length decls ≡ length (numbers_of is_port first ms)
  ports_count first ArePortTrees.no_ports = refl
  ports_count first (ArePortTrees.passed {rest = rest} not_port t) = ports_count (suc first) t ∙ ap (λ b. length ((if b then first ∷ [] else []) ++ numbers_of is_port (suc first) rest)) (sym not_port)
  ports_count first (ArePortTrees.more_ports {rest = rest} a_port t ts) = ap (λ n. suc n) (ports_count (suc first) ts) ∙ ap (λ b. length ((if b then first ∷ [] else []) ++ numbers_of is_port (suc first) rest)) (sym a_port)

  pub nothing_shown : Shown p empty_scope []
  unfolding Rattle.sp_typed.specs.Named.find
  nothing_shown = record {
    mem = λ m at. absurd (omega (arith, at.1));
    val = λ v ty at. absurd (omega (arith, at.1));
    counter_is = λ c at. absurd (omega (arith, at.1));
    fresh = λ name no. refl;
  }

  -- in another order
  pub in_order : (ms : List ℕ) (names : List (List ℕ × Meant)) → Shown p (with_all empty_scope ms) names → Shown p (record { mems = ms; vals = []; counters = [] }) names
  in_order ms names h = record {
    mem = λ m at. h.mem m (joins empty_scope ms m at);
    val = λ v ty at. absurd (omega (arith, at.1));
    counter_is = λ c at. absurd (omega (arith, at.1));
    fresh = λ name no. h.fresh name (λ at. no (back_there name at));
  }
    where
      plain : (ms : List ℕ) (scope : Scope) → scope.vals ≡ [] → scope.counters ≡ [] → visible p (with_all scope ms) ≡ map (λ m. (mem_at p m).name) (with_all scope ms).mems
      plain [] scope v c = ap (λ l. map (λ m. (mem_at p m).name) scope.mems ++ map (λ (v : ℕ × _). slice_index_or p.vals v.0 []) l ++ map (λ c. slice_index_or p.counters c []) scope.counters) v
          ∙ ap (λ l. map (λ m. (mem_at p m).name) scope.mems ++ [] ++ map (λ c. slice_index_or p.counters c []) l) c
          ∙ append-nil _ ∙ append-nil _
      plain (x ∷ ms) scope v c = plain ms (with_mem scope x) v c

      one_of : (m : ℕ) → Contains empty_scope.mems m ⊎ Contains ms m → Contains ms m
      one_of m (inl (k, lt, e)) = absurd (omega (arith, lt))
      one_of m (inr at) = at

      back_there : (name : List ℕ) → Contains (visible p (with_all empty_scope ms)) name → Contains (visible p (record { mems = ms; vals = []; counters = [] })) name
      back_there name at =
          let r = from_mapped (λ m. (mem_at p m).name) (with_all empty_scope ms).mems name (subst (λ l. Contains l name) (plain ms empty_scope refl refl) at) in
          let there = mapped (λ m. (mem_at p m).name) ms r.0 (one_of r.0 (was empty_scope ms r.0 r.1)) in
          Contains-append_left _ _ _ (Contains-append_left _ _ _ (subst (λ n. Contains (map (λ m. (mem_at p m).name) ms) n) r.2 there))

pub programs_back : ProgramsComeBack
programs_back p s h t =
    let run : IsRun 0 (port_numbers p ++ mems_declared p.body) = subst (IsRun 0) (sym h.mem_numbers) (below_run (length p.mems)) in
    let shown = in_order p (port_numbers p) (port_names [] 0 s.decls)
    (ports_shown p [] p.mems 0 0 empty_scope [] refl refl h.declarations t.ports h.port_names (run_left 0 (port_numbers p) (mems_declared p.body) run) (nothing_shown p)) in
    let right = λ (m : ℕ) (at : Contains (mems_declared p.body) m).
    let low = below (length p.mems) m (subst (λ ns. Contains ns m) h.mem_numbers (Contains-append_right (port_numbers p) (mems_declared p.body) m at)) in
    All-get_or IsDeclaration p.mems m no_mem low h.declarations in
    let count : 0 + length (port_numbers p) ≡ length s.decls = omega (arith, ports_count p 0 t.ports) in
    let numbered : Numbered (at_block s.decls) (mems_declared p.body) (vals_declared p.body) (counters_declared p.body) = record {
      mems_run = subst (λ n. IsRun n (mems_declared p.body)) count (run_right 0 (port_numbers p) (mems_declared p.body) run);
      vals_run = subst (IsRun 0) (sym h.val_numbers) (below_run (length p.vals));
      counters_run = subst (IsRun 0) (sym h.counter_numbers) (below_run (length p.counters));
    } in
    let block = body_back p t.block (outer_scope p) (at_block s.decls) shown h.typed right numbered in
    let d = declares_back p s h t in
    λ i. record { ports = d.ports i; mems = d.mems i; vals = d.vals i; counters = d.counters i; body = block i }
