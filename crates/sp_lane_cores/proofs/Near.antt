-- Where the word of an expression stands in a run: after what stands before the run there is nothing, so a value that is used
-- stands at a place of the run, or at none.
use Rattle.std.proofs.Common.{◌≡◌, ℕ, ◌+◌, ◌<◌, ◌≤◌, Bool, true, false, ◌||◌, List, [], ◌∷◌, ◌++◌, length, Option, Some, None, refl, sym, ◌∙◌, ap, subst, arith, ◌==◌, if◌then◌else◌}
use Rattle.std.proofs.lemmas.Bool.{eqb-true, eq-eqb, true≢false}
use Rattle.std.proofs.lemmas.List.{length-append}
use Rattle.sp_words.specs.declared.types.Ty.{Ty}
use Rattle.sp_tree.specs.Expressions.{mem}
use Rattle.sp_tree.specs.PlainExpression.{PlainExpr, expr, literal, counter, value, get_reg, get_arg, get_sram, get_line, deq, one, two, shift, mux, cast, type_of}
use Rattle.sp_tree.specs.PlainProgram.{PlainMem}
use Rattle.sp_tree.specs.PlainStatement.{PlainStmtKind, PlainStmts, stmt, declare, name, set_reg, set_out, set_sram, enq, no_stmt, more_stmt}
use Rattle.sp_tree.specs.Tallies.{Tally, primitive}
use Rattle.sp_core.specs.PlainCore as core_tree
use Rattle.sp_core.specs.PlainCore.{PlainOp}
use Rattle.sp_core.specs.Sequential.{has_reset}
use Rattle.sp_core.specs.Store.{changed}
use Rattle.sp_sugar.specs.Numbers.{crossing_register}
use Rattle.sp_sugar.specs.Operations.{Code, write_op, source_code, code, codes}
use Rattle.sp_sugar.specs.Registers.{beside}
use Rattle.sp_sugar.specs.Runs.{Run, with_ops, next_code, with_computed, with_named, with_stmt, inner_run}
use Rattle.sp_sugar.specs.Stages.{first_of}
use Rattle.sp_sugar.specs.Uses.{uses, renamed, are_using, is_using, names_after, Ending, ending_uses, is_used_later, does_cross}
use Rattle.sp_sugar.specs.Values.{Source, at_place, in_register, constant, count, Sources}
use Rattle.sp_sugar.proofs.UseLemmas.{used, used_more, used_next, renamed_keeps, only, renamed_names, later_more, later_used}

-- at a place before this one, or at none
abbrev pub IsNear : ℕ → Source → Type 0
IsNear n (at_place k) = k < n
IsNear n (in_register r) = Unit {0}
IsNear n (constant w) = Unit {0}
IsNear n (count c) = Unit {0}

near_more : (n k : ℕ) (s : Source) → n ≤ k → IsNear n s → IsNear k s
near_more n k (at_place j) le h = omega (arith, le, h)
near_more n k (in_register r) le h = tt
near_more n k (constant w) le h = tt
near_more n k (count c) le h = tt

-- those that are needed
abbrev pub AreNear : (needed : ℕ → Bool) → ℕ → Sources → Type 0
AreNear needed n sources = (v : ℕ) → needed v ≡ true → IsNear n (sources v)

-- a value is found anew
pub changed_near : (n : ℕ) (sources : Sources) (w : ℕ) (s : Source) (v : ℕ) → (v ≡ w → IsNear n s) → ((v ≡ w → ⊥) → IsNear n (sources v)) → IsNear n (changed sources w s v)
changed_near n sources w s v f g = by (v == w) refl
  where
    by : (b : Bool) → (v == w) ≡ b → IsNear n (elim b as (λ _. Source) [ true ↦ s | false ↦ sources v ])
    by true e = f (eqb-true v w e)
    by false e = g (λ i. true≢false (sym (eq-eqb v w i) ∙ e))

-- the word of a bare expression
abbrev pub BareNear : ℕ → Sources → PlainExpr → Type 0
BareNear n sources (expr place ty (value v)) = IsNear n (sources v)
BareNear n sources _ = Unit {0}

pub bare_near : (n : ℕ) (sources : Sources) (e : PlainExpr) → AreNear (λ v. uses (only v) e) n sources → BareNear n sources e
bare_near n sources (expr place ty (value v)) h = h v (eq-eqb v v refl)
bare_near n sources (expr place ty (literal w)) h = tt
bare_near n sources (expr place ty (counter c)) h = tt
bare_near n sources (expr place ty (get_reg m)) h = tt
bare_near n sources (expr place ty (get_arg m)) h = tt
bare_near n sources (expr place ty (get_sram m is)) h = tt
bare_near n sources (expr place ty (get_line m r c)) h = tt
bare_near n sources (expr place ty (deq m)) h = tt
bare_near n sources (expr place ty (one op a)) h = tt
bare_near n sources (expr place ty (two op a b)) h = tt
bare_near n sources (expr place ty (shift left a by)) h = tt
bare_near n sources (expr place ty (mux c a b)) h = tt
bare_near n sources (expr place ty (cast a)) h = tt

source_near : (n : ℕ) (ty : Ty) (s : Source) → IsNear n s → (source_code n ty s).word < n + length (source_code n ty s).ops
source_near n ty (at_place k) h = omega (arith, h)
source_near n ty (in_register r) h = omega arith
source_near n ty (constant w) h = omega arith
source_near n ty (count c) h = omega arith

ending_near : (n : ℕ) (before : List PlainOp) (op : PlainOp) → n + length before < n + length (before ++ op ∷ [])
ending_near n before op = omega (arith, length-append before (op ∷ []))

module _ (mems : List PlainMem) where
  -- the word of an expression stands among its operations, or before them
  pub code_near : (sources : Sources) (n : ℕ) (e : PlainExpr) → BareNear n sources e → (code mems sources n e).word < n + length (code mems sources n e).ops
  unfolding code codes
  code_near sources n (expr place ty (literal w)) h = omega arith
  code_near sources n (expr place ty (counter c)) h = omega arith
  code_near sources n (expr place ty (value v)) h = source_near n ty (sources v) h
  code_near sources n (expr place ty (get_reg m)) h = omega arith
  code_near sources n (expr place ty (get_arg m)) h = omega arith
  code_near sources n (expr place ty (get_sram m is)) h = ending_near n (codes mems sources n is).ops _
  code_near sources n (expr place ty (get_line m r c)) h = ending_near n ((code mems sources n r).ops ++ (code mems sources (n + length (code mems sources n r).ops) c).ops) _
  code_near sources n (expr place ty (deq m)) h = omega arith
  code_near sources n (expr place ty (one op a)) h = ending_near n (code mems sources n a).ops _
  code_near sources n (expr place ty (two op a b)) h = ending_near n ((code mems sources n a).ops ++ (code mems sources (n + length (code mems sources n a).ops) b).ops) _
  code_near sources n (expr place ty (shift left a by)) h = ending_near n (code mems sources n a).ops _
  code_near sources n (expr place ty (mux c a b)) h =
      ending_near n ((code mems sources n c).ops ++ (code mems sources (n + length (code mems sources n c).ops) a).ops
      ++ (code mems sources (n + length (code mems sources n c).ops + length (code mems sources (n + length (code mems sources n c).ops) a).ops) b).ops) _
  code_near sources n (expr place ty (cast a)) h = ending_near n (code mems sources n a).ops _

  -- in the stage at hand, and in later ones
  abbrev pub HereNear : Run → PlainStmts → Ending → Type 0
  HereNear run rest ending = AreNear (λ v. used (only v) rest ending) (length run.ops) run.values.here

  abbrev pub LaterNear : Run → PlainStmts → Ending → Type 0
  LaterNear run rest ending = AreNear (λ v. is_used_later (only v) rest ending) 0 run.values.elsewhere

  module _ (place : ℕ) (k : PlainStmtKind) (rest : PlainStmts) (ending : Ending) where
    use_next : (v : ℕ) → used (only v) rest ending ≡ true → used (only v) (more_stmt (stmt place k) rest) ending ≡ true
    use_next v u = used_next (only v) place k rest ending (used_more rest ending (only v) (renamed (only v) k) (renamed_keeps (only v) k) u)

    grown : (run : Run) (ops : List PlainOp) → length run.ops ≤ length ops → HereNear run (more_stmt (stmt place k) rest) ending → HereNear (record run { ops = ops }) rest ending
    grown run ops le h v u = near_more (length run.ops) (length ops) (run.values.here v) le (h v (use_next v u))

  -- a value is named
  computed_near : (run : Run) (place v : ℕ) (e : PlainExpr) (r : Option ℕ) (rest : PlainStmts) (ending : Ending) → BareNear (length run.ops) run.values.here e → HereNear run (more_stmt (stmt place (name v e)) rest) ending
      → HereNear (with_computed mems run v e r) rest ending
  computed_near run place v e None rest ending b h u x =
      let c : Code = next_code mems run e in
      let long : length (run.ops ++ c.ops) ≡ length run.ops + length c.ops = length-append run.ops c.ops in
      changed_near (length (run.ops ++ c.ops)) run.values.here v (at_place c.word) u (λ i. let w = code_near run.values.here (length run.ops) e b in omega (arith, w, long))
      (λ i. near_more (length run.ops) (length (run.ops ++ c.ops)) (run.values.here u) (omega (arith, long)) (h u (use_next place (name v e) rest ending u x)))
  computed_near run place v e (Some r) rest ending b h u x =
      let c : Code = next_code mems run e in
      let put : PlainOp = write_op (type_of e) r (c.word ∷ []) in
      let long : length (run.ops ++ c.ops ++ put ∷ []) ≡ length run.ops + length c.ops + 1 = omega (arith, length-append (run.ops ++ c.ops) (put ∷ []), length-append run.ops c.ops) in
      changed_near (length (run.ops ++ c.ops ++ put ∷ [])) run.values.here v (at_place c.word) u (λ i. let w = code_near run.values.here (length run.ops) e b in omega (arith, w, long))
      (λ i. near_more (length run.ops) (length (run.ops ++ c.ops ++ put ∷ [])) (run.values.here u) (omega (arith, long)) (h u (use_next place (name v e) rest ending u x)))

  named_near : (run : Run) (place v : ℕ) (e : PlainExpr) (r : Option ℕ) (rest : PlainStmts) (ending : Ending) → HereNear run (more_stmt (stmt place (name v e)) rest) ending → HereNear (with_named mems run v e r) rest ending
  named_near run place v (expr at ty (literal w)) r rest ending h u x =
      changed_near (length run.ops) run.values.here v (constant w) u (λ i. tt) (λ i. h u (use_next place (name v (expr at ty (literal w))) rest ending u x))
  named_near run place v (expr at ty (counter c)) r rest ending h u x =
      changed_near (length run.ops) run.values.here v (count c) u (λ i. tt) (λ i. h u (use_next place (name v (expr at ty (counter c))) rest ending u x))
  named_near run place v (expr at ty (value y)) r rest ending h u x =
      changed_near (length run.ops) run.values.here v (run.values.here y) u
      (λ i. h y (used_next (only y) place (name v (expr at ty (value y))) rest ending (used_more rest ending (only v) (renamed (only y) (name v (expr at ty (value y)))) (renamed_names y v at ty) (subst (λ j. used (only j) rest ending ≡ true) i x))))
      (λ i. h u (use_next place (name v (expr at ty (value y))) rest ending u x))
  named_near run place v (expr at ty k) r rest ending h u x = computed_near run place v (expr at ty k) r rest ending tt h u x

  reset_near : (b : Bool) (run : Run) (op : PlainOp) (place m : ℕ) (rest : PlainStmts) (ending : Ending) → HereNear run (more_stmt (stmt place (declare m)) rest) ending → HereNear (if b then with_ops run (op ∷ []) else run) rest ending
  reset_near true run op place m rest ending h = grown place (declare m) rest ending run (run.ops ++ op ∷ []) (omega (arith, length-append run.ops (op ∷ []))) h
  reset_near false run op place m rest ending h = grown place (declare m) rest ending run run.ops (omega arith) h

  longer : (run : Run) (xs : List PlainOp) → length run.ops ≤ length (run.ops ++ xs)
  longer run xs = omega (arith, length-append run.ops xs)

  longer_twice : (run : Run) (xs ys : List PlainOp) → length run.ops ≤ length ((run.ops ++ xs) ++ ys)
  longer_twice run xs ys = omega (arith, length-append (run.ops ++ xs) ys, length-append run.ops xs)

  -- any statement
  pub here_near : (inner : Bool) (r : Option ℕ) (run : Run) (place : ℕ) (k : PlainStmtKind) (rest : PlainStmts) (ending : Ending) → HereNear run (more_stmt (stmt place k) rest) ending → HereNear (with_stmt mems inner r run k) rest ending
  here_near true r run place (declare m) rest ending h = reset_near (has_reset (mem mems m).kind (mem mems m).start) run _ place m rest ending h
  here_near true r run place (name v e) rest ending h = named_near run place v e r rest ending h
  here_near true r run place (set_reg m e) rest ending h = grown place (set_reg m e) rest ending run (run.ops ++ _) (longer run _) h
  here_near true r run place (set_out m e) rest ending h = grown place (set_out m e) rest ending run (run.ops ++ _) (longer run _) h
  here_near true r run place (set_sram m xs e) rest ending h = grown place (set_sram m xs e) rest ending run ((run.ops ++ (codes mems run.values.here (length run.ops) xs).ops) ++ _) (longer_twice run (codes mems run.values.here (length run.ops) xs).ops _) h
  here_near true r run place (enq m e) rest ending h = grown place (enq m e) rest ending run (run.ops ++ _) (longer run _) h
  here_near true r run place k rest ending h = grown place k rest ending run run.ops (omega arith) h
  here_near false r run place (name v e) rest ending h = named_near run place v e r rest ending h
  here_near false r run place (set_reg m e) rest ending h = grown place (set_reg m e) rest ending run (run.ops ++ _) (longer run _) h
  here_near false r run place (set_out m e) rest ending h = grown place (set_out m e) rest ending run (run.ops ++ _) (longer run _) h
  here_near false r run place (set_sram m xs e) rest ending h = grown place (set_sram m xs e) rest ending run ((run.ops ++ (codes mems run.values.here (length run.ops) xs).ops) ++ _) (longer_twice run (codes mems run.values.here (length run.ops) xs).ops _) h
  here_near false r run place (enq m e) rest ending h = grown place (enq m e) rest ending run (run.ops ++ _) (longer run _) h
  here_near false r run place k rest ending h = grown place k rest ending run run.ops (omega arith) h

  -- all statements of an inner body
  pub inner_near : (run : Run) (body : PlainStmts) (ending : Ending) → HereNear run body ending → HereNear (inner_run mems run body) no_stmt ending
  inner_near run no_stmt ending h = h
  inner_near run (more_stmt (stmt place k) rest) ending h = inner_near (with_stmt mems true None run k) rest ending (here_near true None run place k rest ending h)

  -- a value that has no register isn't used in later stages
  module _ (run : Run) (place n : ℕ) (rest : PlainStmts) (ending : Ending) where
    later_too : (k : PlainStmtKind) → LaterNear run (more_stmt (stmt place k) rest) ending → ((v : ℕ) → is_used_later (renamed (only v) k) rest ending ≡ true → is_used_later (only v) (more_stmt (stmt place k) rest) ending ≡ true)
        → (v : ℕ) → is_used_later (only v) rest ending ≡ true → IsNear 0 (run.values.elsewhere v)
    later_too k h f v u = h v (f v (later_more rest ending (only v) (renamed (only v) k) (renamed_keeps (only v) k) u))

    computed_later : (v : ℕ) (e : PlainExpr) (m : core_tree.PlainMem) (b : Bool) → does_cross v rest ending ≡ b → ((u : ℕ) → is_used_later (only u) rest ending ≡ true → IsNear 0 (run.values.elsewhere u))
        → LaterNear (with_computed mems run v e (first_of n (if b then m ∷ [] else []))) rest ending
    computed_later v e m true i h u x = changed_near 0 run.values.elsewhere v (in_register n) u (λ j. tt) (λ j. h u x)
    computed_later v e m false i h u x =
        changed_near 0 run.values.elsewhere v (at_place (next_code mems run e).word) u (λ j. absurd (true≢false (sym (subst (λ w. is_used_later (only w) rest ending ≡ true) j x) ∙ i))) (λ j. h u x)

    named_later : (v : ℕ) (e : PlainExpr) → LaterNear run (more_stmt (stmt place (name v e)) rest) ending → LaterNear (with_named mems run v e (first_of n (beside (name v e) rest ending))) rest ending
    named_later v (expr at ty (literal w)) h u x = changed_near 0 run.values.elsewhere v (constant w) u (λ i. tt) (λ i. later_too (name v (expr at ty (literal w))) h (λ w f. f) u x)
    named_later v (expr at ty (counter c)) h u x = changed_near 0 run.values.elsewhere v (count c) u (λ i. tt) (λ i. later_too (name v (expr at ty (counter c))) h (λ w f. f) u x)
    named_later v (expr at ty (value y)) h u x =
        changed_near 0 run.values.elsewhere v (run.values.elsewhere y) u
        (λ i. h y (later_more rest ending (only v) (renamed (only y) (name v (expr at ty (value y)))) (renamed_names y v at ty) (subst (λ j. is_used_later (only j) rest ending ≡ true) i x)))
        (λ i. later_too (name v (expr at ty (value y))) h (λ w f. f) u x)
    named_later v (expr at ty k) h u x = computed_later v (expr at ty k) (crossing_register ty) (does_cross v rest ending) refl (later_too (name v (expr at ty k)) h (λ w f. f)) u x

    -- a statement that is no controller and no transfer
    pub later_near : (k : PlainStmtKind) (t : Tally) → primitive k ≡ Some t → LaterNear run (more_stmt (stmt place k) rest) ending → LaterNear (with_stmt mems false (first_of n (beside k rest ending)) run k) rest ending
    later_near (declare m) t e h = later_too (declare m) h (λ v f. f)
    later_near (name v x) t e h = named_later v x h
    later_near (set_reg m x) t e h = later_too (set_reg m x) h (λ v f. f)
    later_near (set_out m x) t e h = later_too (set_out m x) h (λ v f. f)
    later_near (set_sram m xs x) t e h = later_too (set_sram m xs x) h (λ v f. f)
    later_near (enq m x) t e h = later_too (enq m x) h (λ v f. f)
    later_near _ t e h = absurd (none_apart t e)
      where
        none_apart : (t : Tally) → None ≡ Some t → ⊥
        none_apart t e = true≢false (ap (λ o. elim o as (λ _. Bool) [ None ↦ true | Some x ↦ false ]) e)

-- of three tests one of the last two, and the first one
last_of_three : (a b c : Bool) → (b || c) ≡ true → ((a || b) || c) ≡ true
last_of_three true b c e = refl
last_of_three false b c e = e

first_of_three : (a b c : Bool) → a ≡ true → ((a || b) || c) ≡ true
first_of_three true b c e = refl
first_of_three false b c e = absurd (true≢false (sym e))

-- at a controller or a transfer
module _ (elsewhere : Sources) (place : ℕ) (k : PlainStmtKind) (rest : PlainStmts) (ending : Ending) (none : primitive k ≡ None) (h : AreNear (λ v. is_used_later (only v) (more_stmt (stmt place k) rest) ending) 0 elsewhere) where
  all_later : (v : ℕ) → ((is_using (only v) k || are_using (only v) rest) || ending_uses (names_after (only v) rest) ending) ≡ true → IsNear 0 (elsewhere v)
  all_later v e = h v (ap (λ o. elim o as (λ _. Bool) [ Some t ↦ is_used_later (renamed (only v) k) rest ending | None ↦ (is_using (only v) k || are_using (only v) rest) || ending_uses (names_after (only v) rest) ending ]) none ∙ e)

  pub rest_near : AreNear (λ v. used (only v) rest ending) 0 elsewhere
  rest_near v u = all_later v (last_of_three (is_using (only v) k) (are_using (only v) rest) (ending_uses (names_after (only v) rest) ending) u)

  pub node_near : AreNear (λ v. is_using (only v) k) 0 elsewhere
  node_near v u = all_later v (first_of_three (is_using (only v) k) (are_using (only v) rest) (ending_uses (names_after (only v) rest) ending) u)

pub later_of : (sources : Sources) (rest : PlainStmts) (ending : Ending) → AreNear (λ v. used (only v) rest ending) 0 sources → AreNear (λ v. is_used_later (only v) rest ending) 0 sources
later_of sources rest ending h v u = h v (later_used rest ending (only v) u)
