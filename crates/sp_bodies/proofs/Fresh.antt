-- The registers that a body owns are made fresh.
use Rattle.std.proofs.Common.{◌≡◌, ℕ, zero, suc, ◌+◌, ◌-◌, ◌<◌, ◌≤◌, true, nat_lt, List, [], ◌∷◌, ◌++◌, Option, Some, refl, ◌∙◌, ap, subst, arith, length-append, if◌then◌else◌}
use Rattle.std.proofs.lemmas.Bool.{lt-ltb}
use Rattle.std.specs.Prelude.{length, slice_index_or, Contains}
use Rattle.sp_words.specs.declared.kind.Kind.TheVariants.{Reg, Dram}
use Rattle.sp_words.specs.Memory.{cells, fresh_of}
use Rattle.sp_tree.specs.PlainProgram.{PlainProgram}
use Rattle.sp_tree.specs.PlainStatement.{PlainStmts, stmt, no_stmt, more_stmt}
use Rattle.sp_tree.specs.Store as program_store
use Rattle.sp_core.specs.Declarations.{mem, dram}
use Rattle.sp_core.specs.PlainCore.{PlainMem, PlainCore, no_mem}
use Rattle.sp_core.specs.Scope.{plainly}
use Rattle.sp_core.specs.Sequential.{renew}
use Rattle.sp_core.specs.Step.{Step, went, pure, change, in_order, ◌>>=◌}
use Rattle.sp_core.specs.Store as store
use Rattle.sp_sugar.specs.Agreement.{HasMemories, View, IsAdded, Agree}
use Rattle.sp_sugar.specs.Numbers.{numbers_from}
use Rattle.sp_sugar.specs.Registers.{beside, inside, at_end, registers, owned_registers}
use Rattle.sp_sugar.specs.Uses.{Ending}
use Rattle.sp_sugar.proofs.MemoryLemmas.{changed_here}
use Rattle.sp_sugar.proofs.Registered.{are_registers}
use Rattle.sp_sugar.proofs.RunKeeps.{in_front, in_back}
use Rattle.sp_sugar.proofs.StepLemmas.{core_apart, then_on, same_core_answer, same_core_store}
use Rattle.sp_same.specs.Following.{AreSpare}
use Rattle.sp_same.proofs.EarlyStages.{further}
use Rattle.sp_same.proofs.Registers.{agree_cell, agree_kept}
use Rattle.sp_same.proofs.Renewed.{in_either}
use Rattle.sp_bodies.specs.Bodies.{AreDeclared}
use Rattle.sp_bodies.proofs.Owned.{cells_of_body, declared_left, declared_right}
use Rattle.sp_bodies.proofs.StageSteps.{cells_from, cells_number}
use Rattle.sp_bodies.proofs.Statements.{fewer_registers}

-- a step for the elements of two lists, one after the other
pub orders_append : {A B : Type 0} (g : A → Step B) (xs ys : List A) (al bs : List B) (t u v : store.Store) → in_order g xs t ≡ went al u → in_order g ys u ≡ went bs v → in_order g (xs ++ ys) t ≡ went (al ++ bs) v
unfolding in_order pure
orders_append g [] ys al bs t u v e f = ap (in_order g ys) (same_core_store [] al t u e) ∙ f ∙ ap (λ l. went (l ++ bs) v) (same_core_answer [] al t u e)
orders_append g (x ∷ xs) ys al bs t u v e f =
    let b = core_apart (g x) (λ first. ◌>>=◌ (in_order g xs) (λ others. pure (first ∷ others))) t al u e in
    let d = core_apart (in_order g xs) (λ others. pure (b.answer ∷ others)) b.store al u b.second in
    let more = orders_append g xs ys d.answer bs b.store u v (d.first ∙ ap (went d.answer) (same_core_store (b.answer ∷ d.answer) al d.store u d.second)) f in
    then_on (g x) (λ first. ◌>>=◌ (in_order g (xs ++ ys)) (λ others. pure (first ∷ others))) t b.answer b.store b.first
    ∙ then_on (in_order g (xs ++ ys)) (λ others. pure (b.answer ∷ others)) b.store (d.answer ++ bs) v more
    ∙ ap (λ l. went (l ++ bs) v) (same_core_answer (b.answer ∷ d.answer) al d.store u d.second)

-- a register
abbrev pub IsRegisterMem : PlainMem → Type 0
IsRegisterMem m = (m.kind ≡ Reg) × (m.dims ≡ [])

module _ (p : PlainProgram) (core : PlainCore) (h : HasMemories p core) (most : ℕ) where
  pub added_at : (n : ℕ) (ms : List PlainMem) (j : ℕ) → AreDeclared p core n ms → j < length ms → IsRegisterMem (slice_index_or ms j no_mem) → IsAdded p core (n + j)
  added_at n ms j g lt is =
      let f = g.1 j lt in
      let below : nat_lt (n + j) (length core.mems) ≡ true = lt-ltb (n + j) (length core.mems) f.0 in
      record {
        after = let a = g.0 in omega (arith, a);
        exists = f.0;
        is_kind = ap (λ b. if b then (mem core (n + j)).kind else Dram) below ∙ ap (λ (x : PlainMem). x.kind) f.1 ∙ is.0;
        has_none = ap (λ b. if b then (mem core (n + j)).dims else (dram core (n + j - length core.mems)).dims) below ∙ ap (λ (x : PlainMem). x.dims) f.1 ∙ is.1;
      }

  register_renews : (r : ℕ) (m : PlainMem) (t : store.Store) → mem core r ≡ m → m.kind ≡ Reg → renew core plainly most r t ≡ went tt (store.hold t r (cells (m.start ∷ [])))
  unfolding change
  register_renews r m t e k = ap (λ (x : PlainMem). went tt (store.hold t r (fresh_of x.kind x.dims x.start []))) e ∙ ap (λ x. went tt (store.hold t r (fresh_of x m.dims m.start []))) k

  -- registers from a number on
  abbrev pub Renewed : List ℕ → View → List (ℕ × Option ℕ) → program_store.Store → store.Store → Type 0
  Renewed ns view cs s t = (al : List (Unit {0})) × (u : store.Store) × (in_order (renew core plainly most) ns t ≡ went al u) × Agree p core (record view { registers = cs ++ view.registers }) [] s u

  renewed_from : (ms : List PlainMem) (n : ℕ) (view : View) (s : program_store.Store) (t : store.Store) → AreDeclared p core n ms → ((j : ℕ) → j < length ms → IsRegisterMem (slice_index_or ms j no_mem)) → AreSpare n (n + length ms) view → Agree p core view [] s t
      → Renewed (numbers_from n (length ms)) view (cells_from n ms) s t
  unfolding in_order pure
  renewed_from [] n view s t g are spare a = ([], t, refl, a)
  renewed_from (m ∷ ms) n view s t g are spare a =
      let is = are 0 (omega arith) in
      let here : IsAdded p core n = subst (IsAdded p core) {x = n + 0} {y = n} (omega arith) (added_at n (m ∷ ms) 0 g (omega arith) is) in
      let there : mem core n ≡ m = ap (mem core) {x = n} {y = n + 0} (omega arith) ∙ (g.1 0 (omega arith)).1 in
      let t1 : store.Store = store.hold t n (cells (m.start ∷ [])) in
      let one = agree_cell p core h view [] s t n m.start here (further n n (suc n) (n + length (m ∷ ms)) view (omega arith) (omega arith) spare) a in
      let view1 : View = record view { registers = (n, m.start) ∷ view.registers } in
      let two = agree_kept p core h view s t1 (n, m.start) (here, changed_here t n n (Some (cells (m.start ∷ []))) refl) one in
      let wide = further n (suc n) (n + length (m ∷ ms)) (n + length (m ∷ ms)) view (omega arith) (omega arith) spare in
      let others = renewed_from ms (suc n) view1 s t1 (declared_right p core n (suc n) (m ∷ []) ms (omega arith) g) (λ j lt. are (suc j) (omega (arith, lt)))
      (wide.0, λ x c k le lt e. not_one n m.start x view.registers c k le lt e (λ d. wide.1 x d k le (omega (arith, lt)) e)) two in (
        tt ∷ others.0,
        others.1,
        then_on (renew core plainly most n) (λ first. ◌>>=◌ (in_order (renew core plainly most) (numbers_from (suc n) (length ms))) (λ others. pure (first ∷ others))) t tt t1 (register_renews n m t there is.0)
            ∙ then_on (in_order (renew core plainly most) (numbers_from (suc n) (length ms))) (λ others. pure (tt ∷ others)) t1 others.0 others.1 others.2,
        fewer_registers p core h view (record view { registers = cells_from (suc n) ms ++ (n, m.start) ∷ view.registers }) (((n, m.start) ∷ cells_from (suc n) ms) ++ view.registers) [] s others.1 (λ x c. moved (cells_from (suc n) ms) (n, m.start) view.registers x c) others.3,
      )
    where
      not_one : (n : ℕ) (o : Option ℕ) (x : ℕ × Option ℕ) (xs : List (ℕ × Option ℕ)) → Contains ((n, o) ∷ xs) x → (k : ℕ) → suc n ≤ k → k < suc n + length ms → x.0 ≡ k → (Contains xs x → ⊥) → ⊥
      not_one n o x xs (zero, lt, i) k le lt2 e f = let q : n ≡ x.0 = ap (λ (y : ℕ × Option ℕ). y.0) i in omega (arith, q, e, le)
      not_one n o x xs (suc j, lt, i) k le lt2 e f = f (j, omega arith, i)

      moved : (xs : List (ℕ × Option ℕ)) (y : ℕ × Option ℕ) (ys : List (ℕ × Option ℕ)) (x : ℕ × Option ℕ) → Contains (y ∷ (xs ++ ys)) x → Contains (xs ++ y ∷ ys) x
      moved xs y ys x (zero, lt, e) = in_back xs (y ∷ ys) x (0, omega arith, e)
      moved xs y ys x (suc j, lt, e) = in_either xs ys x (j, omega arith, e) (λ d. in_front xs (y ∷ ys) x d) (λ d. in_back xs (y ∷ ys) x (suc d.0, omega (arith, d.1), d.2))

  -- those of a body
  pub body_renewed : (body : PlainStmts) (ending : Ending) (n : ℕ) (view : View) (s : program_store.Store) (t : store.Store) → AreDeclared p core n (registers body ending) → ((j : ℕ) → j < length (registers body ending) → IsRegisterMem (slice_index_or (registers body ending) j no_mem)) → AreSpare n (n + length (registers body ending)) view → Agree p core view [] s t
      → Renewed (owned_registers n body ending) view (cells_of_body n body ending) s t
  unfolding registers
  body_renewed no_stmt ending n view s t g are spare a = renewed_from (at_end ending) n view s t g are spare a
  body_renewed (more_stmt (stmt place k) rest) ending n view s t g are spare a =
      let b : List PlainMem = beside k rest ending in
      let i : List PlainMem = inside k in
      let r : List PlainMem = registers rest ending in
      let next : ℕ = n + length b + length i in
      let long : length ((b ++ i) ++ r) ≡ length b + length i + length r = omega (arith, length-append (b ++ i) r, length-append b i) in
      let first = renewed_from b n view s t (declared_left p core n b i (declared_left p core n (b ++ i) r g)) (λ j lt. subst IsRegisterMem (fronts b i r j lt) (are j (omega (arith, lt, long)))) (further n n (n + length b) (n + length ((b ++ i) ++ r)) view (omega arith) (omega (arith, long)) spare) a in
      let view1 : View = record view { registers = cells_from n b ++ view.registers } in
      let wide = further n next (next + length r) (n + length ((b ++ i) ++ r)) view (omega arith) (omega (arith, long)) spare in
      let others = body_renewed rest ending next view1 s first.1 (declared_right p core n next (b ++ i) r (omega (arith, length-append b i)) g) (λ j lt. subst IsRegisterMem (backs (b ++ i) r j) (are (length (b ++ i) + j) (omega (arith, lt, long, length-append b i))))
      (wide.0, λ x c j le lt e. in_either (cells_from n b) view.registers x c (λ d. let y = cells_number n b x d in omega (arith, y.1, e, le)) (λ d. wide.1 x d j le lt e)) first.3 in (
        first.0 ++ others.0,
        others.1,
        orders_append (renew core plainly most) (numbers_from n (length b)) (owned_registers next rest ending) first.0 others.0 t first.1 others.1 first.2 others.2,
        fewer_registers p core h view (record view { registers = cells_of_body next rest ending ++ (cells_from n b ++ view.registers) }) ((cells_from n b ++ cells_of_body next rest ending) ++ view.registers) [] s others.1
            (λ x c. in_either (cells_from n b ++ cells_of_body next rest ending) view.registers x c
            (λ d. in_either (cells_from n b) (cells_of_body next rest ending) x d (λ f. in_back (cells_of_body next rest ending) (cells_from n b ++ view.registers) x (in_front (cells_from n b) view.registers x f)) (λ f. in_front (cells_of_body next rest ending) (cells_from n b ++ view.registers) x f))
            (λ d. in_back (cells_of_body next rest ending) (cells_from n b ++ view.registers) x (in_back (cells_from n b) view.registers x d))) others.3,
      )
    where
      front : (xs ys : List PlainMem) (j : ℕ) → j < length xs → slice_index_or (xs ++ ys) j no_mem ≡ slice_index_or xs j no_mem
      front [] ys j lt = absurd (omega arith)
      front (x ∷ xs) ys zero lt = refl
      front (x ∷ xs) ys (suc j) lt = front xs ys j (omega arith)

      fronts : (xs ys zs : List PlainMem) (j : ℕ) → j < length xs → slice_index_or ((xs ++ ys) ++ zs) j no_mem ≡ slice_index_or xs j no_mem
      fronts xs ys zs j lt = front (xs ++ ys) zs j (omega (arith, lt, length-append xs ys)) ∙ front xs ys j lt

      backs : (xs ys : List PlainMem) (j : ℕ) → slice_index_or (xs ++ ys) (length xs + j) no_mem ≡ slice_index_or ys j no_mem
      backs [] ys j = ap (λ k. slice_index_or ys k no_mem) {x = 0 + j} {y = j} (omega arith)
      backs (x ∷ xs) ys j = ap (λ k. slice_index_or (x ∷ xs ++ ys) k no_mem) {x = suc (length xs) + j} {y = suc (length xs + j)} (omega arith) ∙ backs xs ys j

  -- all of them are registers
  pub are_all : (body : PlainStmts) (ending : Ending) (j : ℕ) → IsRegisterMem (slice_index_or (registers body ending) j no_mem)
  are_all body ending = are_registers IsRegisterMem (refl, refl) (refl, refl) (λ ty. (refl, refl)) (λ ty. (refl, refl)) body ending
