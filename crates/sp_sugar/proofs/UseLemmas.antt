-- Which values are used: of a test that more values pass, more uses are told; and only the values that an expression uses
-- have to be visible for it.
use Rattle.std.proofs.Common.{◌≡◌, ℕ, zero, suc, Bool, true, false, not, ◌&&◌, ◌||◌, cond, List, [], ◌∷◌, refl, sym, ◌∙◌, ap, subst, arith, ◌==◌}
use Rattle.std.proofs.lemmas.Bool.{false≢true, eq-eqb, or_left, or_right, and_parts, and_from}
use Rattle.std.specs.Prelude.{filter, Contains}
use Rattle.sp_words.specs.declared.kind.Kind.{Kind}
use Rattle.sp_words.specs.declared.types.Ty.{Ty}
use Rattle.sp_tree.specs.PlainExpression.{PlainExpr, PlainExprKind, PlainExprs, expr, literal, counter, value, get_reg, get_arg, get_sram, get_line, deq, one, two, shift, mux, cast, no_expr, more_expr}
use Rattle.sp_tree.specs.PlainProgram.{PlainProgram}
use Rattle.sp_tree.specs.PlainStatement.{PlainSpan, single, range, PlainCounter, PlainStmtKind, PlainStmts, stmt, declare, name, set_reg, set_out, set_sram, enq, load_sram, load_line, store, gather, scatter, block, foreach, reduce, mem_reduce, fsm, branch, no_stmt, more_stmt}
use Rattle.sp_tree.specs.Typing.{Scope, IsMem, Typed, KindTyped, IndicesTyped}
use Rattle.sp_sugar.specs.Uses.{uses, kind_uses, some_use, counters_use, spans_use, is_bare, renamed, are_using, is_using, names_after, Ending, no_more, in_last_run, in_combination, ending_uses, is_used_later}

abbrev pub More : (ℕ → Bool) → (ℕ → Bool) → Type 0
More is js = (u : ℕ) → is u ≡ true → js u ≡ true

or_more : (a b c d : Bool) → (a ≡ true → c ≡ true) → (b ≡ true → d ≡ true) → (a || b) ≡ true → (c || d) ≡ true
or_more true b c d f g e = or_left c d (f refl)
or_more false b c d f g e = or_right c d (g e)

and_more : (a b c d : Bool) → (a ≡ true → c ≡ true) → (b ≡ true → d ≡ true) → (a && b) ≡ true → (c && d) ≡ true
and_more a b c d f g e = let both = and_parts a b e in and_from c d (f both.0) (g both.1)

module _ (is js : ℕ → Bool) (h : More is js) where
  mutual
    pub uses_more : (e : PlainExpr) → uses is e ≡ true → uses js e ≡ true
    uses_more (expr place ty k) e = kind_more k e

    kind_more : (k : PlainExprKind) → kind_uses is k ≡ true → kind_uses js k ≡ true
    kind_more (literal w) e = e
    kind_more (counter c) e = e
    kind_more (value v) e = h v e
    kind_more (get_reg m) e = e
    kind_more (get_arg m) e = e
    kind_more (get_sram m xs) e = some_more xs e
    kind_more (get_line m r c) e = or_more (uses is r) (uses is c) (uses js r) (uses js c) (uses_more r) (uses_more c) e
    kind_more (deq m) e = e
    kind_more (one op a) e = uses_more a e
    kind_more (two op a b) e = or_more (uses is a) (uses is b) (uses js a) (uses js b) (uses_more a) (uses_more b) e
    kind_more (shift left a by) e = uses_more a e
    kind_more (mux c a b) e = or_more (uses is c || uses is a) (uses is b) (uses js c || uses js a) (uses js b) (or_more (uses is c) (uses is a) (uses js c) (uses js a) (uses_more c) (uses_more a)) (uses_more b) e
    kind_more (cast a) e = uses_more a e

    some_more : (xs : PlainExprs) → some_use is xs ≡ true → some_use js xs ≡ true
    some_more no_expr e = e
    some_more (more_expr x xs) e = or_more (uses is x) (some_use is xs) (uses js x) (some_use js xs) (uses_more x) (some_more xs) e

  counters_more : (loops : List PlainCounter) → counters_use is loops ≡ true → counters_use js loops ≡ true
  counters_more [] e = e
  counters_more (c ∷ loops) e = or_more (uses is c.from || uses is c.until) (counters_use is loops) (uses js c.from || uses js c.until) (counters_use js loops)
      (or_more (uses is c.from) (uses is c.until) (uses js c.from) (uses js c.until) (uses_more c.from) (uses_more c.until)) (counters_more loops) e

  spans_more : (spans : List PlainSpan) → spans_use is spans ≡ true → spans_use js spans ≡ true
  spans_more [] e = e
  spans_more (single x ∷ spans) e = or_more (uses is x) (spans_use is spans) (uses js x) (spans_use js spans) (uses_more x) (spans_more spans) e
  spans_more (range a b par ∷ spans) e = or_more (uses is a || uses is b) (spans_use is spans) (uses js a || uses js b) (spans_use js spans)
      (or_more (uses is a) (uses is b) (uses js a) (uses js b) (uses_more a) (uses_more b)) (spans_more spans) e

  renamed_name : (w : ℕ) (x : PlainExpr) → More (renamed is (name w x)) (renamed js (name w x))
  renamed_name w (expr place ty (value v)) u e = or_more (is v && (u == w)) (is u) (js v && (u == w)) (js u) (and_more (is v) (u == w) (js v) (u == w) (h v) (λ f. f)) (h u) e
  renamed_name w (expr place ty k) u e = h u e

  renamed_more : (kind : PlainStmtKind) → More (renamed is kind) (renamed js kind)
  renamed_more (name w x) u e = renamed_name w x u e
  renamed_more _ u e = h u e

names_more : (body : PlainStmts) (is js : ℕ → Bool) → More is js → More (names_after is body) (names_after js body)
names_more no_stmt is js h = h
names_more (more_stmt (stmt place kind) rest) is js h = names_more rest (renamed is kind) (renamed js kind) (renamed_more is js h kind)

mutual
  pub are_using_more : (body : PlainStmts) (is js : ℕ → Bool) → More is js → are_using is body ≡ true → are_using js body ≡ true
  are_using_more no_stmt is js h e = e
  are_using_more (more_stmt (stmt place kind) rest) is js h e =
      or_more (is_using is kind) (are_using (renamed is kind) rest) (is_using js kind) (are_using (renamed js kind) rest) (is_using_more kind is js h) (are_using_more rest (renamed is kind) (renamed js kind) (renamed_more is js h kind)) e

  pub is_using_more : (kind : PlainStmtKind) (is js : ℕ → Bool) → More is js → is_using is kind ≡ true → is_using js kind ≡ true
  is_using_more (declare m) is js h e = e
  is_using_more (name v x) is js h e = and_more (not (is_bare x)) (uses is x) (not (is_bare x)) (uses js x) (λ f. f) (uses_more is js h x) e
  is_using_more (set_reg m x) is js h e = uses_more is js h x e
  is_using_more (set_out m x) is js h e = uses_more is js h x e
  is_using_more (set_sram m xs x) is js h e = or_more (some_use is xs) (uses is x) (some_use js xs) (uses js x) (some_more is js h xs) (uses_more is js h x) e
  is_using_more (enq m x) is js h e = uses_more is js h x e
  is_using_more (load_sram sram dram spans) is js h e = spans_more is js h spans e
  is_using_more (load_line line dram spans) is js h e = spans_more is js h spans e
  is_using_more (store dram spans sram) is js h e = spans_more is js h spans e
  is_using_more (gather sram dram places n) is js h e = uses_more is js h n e
  is_using_more (scatter dram places n sram) is js h e = uses_more is js h n e
  is_using_more (block style body) is js h e = are_using_more body is js h e
  is_using_more (foreach style loops body) is js h e = or_more (counters_use is loops) (are_using is body) (counters_use js loops) (are_using js body) (counters_more is js h loops) (are_using_more body is js h) e
  is_using_more (reduce style fold acc loops body x comb) is js h e =
      or_more (counters_use is loops || are_using is body) (uses (names_after is body) x) (counters_use js loops || are_using js body) (uses (names_after js body) x)
      (or_more (counters_use is loops) (are_using is body) (counters_use js loops) (are_using js body) (counters_more is js h loops) (are_using_more body is js h))
      (uses_more (names_after is body) (names_after js body) (names_more body is js h) x) e
  is_using_more (mem_reduce style acc loops body part comb) is js h e = or_more (counters_use is loops) (are_using is body) (counters_use js loops) (are_using js body) (counters_more is js h loops) (are_using_more body is js h) e
  is_using_more (fsm start tested test state body last next) is js h e =
      or_more (uses is start || uses is test || are_using is body) (uses is next) (uses js start || uses js test || are_using js body) (uses js next)
      (or_more (uses is start || uses is test) (are_using is body) (uses js start || uses js test) (are_using js body)
      (or_more (uses is start) (uses is test) (uses js start) (uses js test) (uses_more is js h start) (uses_more is js h test)) (are_using_more body is js h)) (uses_more is js h next) e
  is_using_more (branch test first second) is js h e =
      or_more (uses is test || are_using is first) (are_using is second) (uses js test || are_using js first) (are_using js second)
      (or_more (uses is test) (are_using is first) (uses js test) (are_using js first) (uses_more is js h test) (are_using_more first is js h)) (are_using_more second is js h) e

ending_more : (ending : Ending) (is js : ℕ → Bool) → More is js → ending_uses is ending ≡ true → ending_uses js ending ≡ true
ending_more no_more is js h e = e
ending_more (in_last_run x) is js h e = uses_more is js h x e
ending_more (in_combination x) is js h e = uses_more is js h x e

-- a value is used from here on, in whatever stage
abbrev pub used : (ℕ → Bool) → PlainStmts → Ending → Bool
used is rest ending = are_using is rest || ending_uses (names_after is rest) ending

pub used_more : (rest : PlainStmts) (ending : Ending) (is js : ℕ → Bool) → More is js → used is rest ending ≡ true → used js rest ending ≡ true
used_more rest ending is js h e = or_more (are_using is rest) (ending_uses (names_after is rest) ending) (are_using js rest) (ending_uses (names_after js rest) ending)
    (are_using_more rest is js h) (ending_more ending (names_after is rest) (names_after js rest) (names_more rest is js h)) e

pub used_next : (is : ℕ → Bool) (place : ℕ) (kind : PlainStmtKind) (rest : PlainStmts) (ending : Ending) → used (renamed is kind) rest ending ≡ true → used is (more_stmt (stmt place kind) rest) ending ≡ true
used_next is place kind rest ending e = or_more (are_using (renamed is kind) rest) (ending_uses (names_after (renamed is kind) rest) ending) (is_using is kind || are_using (renamed is kind) rest) (ending_uses (names_after (renamed is kind) rest) ending)
    (λ f. or_right (is_using is kind) (are_using (renamed is kind) rest) f) (λ f. f) e

pub used_here : (is : ℕ → Bool) (place : ℕ) (kind : PlainStmtKind) (rest : PlainStmts) (ending : Ending) → is_using is kind ≡ true → used is (more_stmt (stmt place kind) rest) ending ≡ true
used_here is place kind rest ending e = or_left (is_using is kind || are_using (renamed is kind) rest) (ending_uses (names_after (renamed is kind) rest) ending) (or_left (is_using is kind) (are_using (renamed is kind) rest) e)

-- a value keeps passing the test, and so does one that is named after it
pub renamed_keeps : (is : ℕ → Bool) (kind : PlainStmtKind) → More is (renamed is kind)
renamed_keeps is (name w x) u e = keeps x
  where
    keeps : (x : PlainExpr) → renamed is (name w x) u ≡ true
    keeps (expr place ty (value v)) = or_right (is v && (u == w)) (is u) e
    keeps (expr place ty k) = e
renamed_keeps is _ u e = e

abbrev pub only : ℕ → ℕ → Bool
only v u = u == v

pub renamed_names : (v w place : ℕ) (ty : Ty) → More (only w) (renamed (only v) (name w (expr place ty (value v))))
renamed_names v w place ty u e = or_left ((v == v) && (u == w)) (u == v) (and_from (v == v) (u == w) (eq-eqb v v refl) e)

pub later_more : (rest : PlainStmts) (ending : Ending) (is js : ℕ → Bool) → More is js → is_used_later is rest ending ≡ true → is_used_later js rest ending ≡ true
later_more no_stmt no_more is js h e = e
later_more no_stmt (in_last_run x) is js h e = e
later_more no_stmt (in_combination x) is js h e = uses_more is js h x e
later_more (more_stmt (stmt place (declare m)) rest) ending is js h e = later_more rest ending _ _ (renamed_more is js h (declare m)) e
later_more (more_stmt (stmt place (name v x)) rest) ending is js h e = later_more rest ending _ _ (renamed_more is js h (name v x)) e
later_more (more_stmt (stmt place (set_reg m x)) rest) ending is js h e = later_more rest ending _ _ (renamed_more is js h (set_reg m x)) e
later_more (more_stmt (stmt place (set_out m x)) rest) ending is js h e = later_more rest ending _ _ (renamed_more is js h (set_out m x)) e
later_more (more_stmt (stmt place (set_sram m xs x)) rest) ending is js h e = later_more rest ending _ _ (renamed_more is js h (set_sram m xs x)) e
later_more (more_stmt (stmt place (enq m x)) rest) ending is js h e = later_more rest ending _ _ (renamed_more is js h (enq m x)) e
later_more (more_stmt (stmt place kind) rest) ending is js h e =
    or_more (is_using is kind || are_using is rest) (ending_uses (names_after is rest) ending) (is_using js kind || are_using js rest) (ending_uses (names_after js rest) ending)
    (or_more (is_using is kind) (are_using is rest) (is_using js kind) (are_using js rest) (is_using_more kind is js h) (are_using_more rest is js h))
    (ending_more ending (names_after is rest) (names_after js rest) (names_more rest is js h)) e

-- what is used in a later stage is used
pub later_used : (rest : PlainStmts) (ending : Ending) (is : ℕ → Bool) → is_used_later is rest ending ≡ true → used is rest ending ≡ true
later_used no_stmt no_more is e = e
later_used no_stmt (in_last_run x) is e = absurd (false≢true e)
later_used no_stmt (in_combination x) is e = e
later_used (more_stmt (stmt place (declare m)) rest) ending is e = used_next is place (declare m) rest ending (later_used rest ending _ e)
later_used (more_stmt (stmt place (name v x)) rest) ending is e = used_next is place (name v x) rest ending (later_used rest ending _ e)
later_used (more_stmt (stmt place (set_reg m x)) rest) ending is e = used_next is place (set_reg m x) rest ending (later_used rest ending _ e)
later_used (more_stmt (stmt place (set_out m x)) rest) ending is e = used_next is place (set_out m x) rest ending (later_used rest ending _ e)
later_used (more_stmt (stmt place (set_sram m xs x)) rest) ending is e = used_next is place (set_sram m xs x) rest ending (later_used rest ending _ e)
later_used (more_stmt (stmt place (enq m x)) rest) ending is e = used_next is place (enq m x) rest ending (later_used rest ending _ e)
later_used (more_stmt (stmt place kind) rest) ending is e = e

pub kept_there : {X : Type 0} (f : X → Bool) (xs : List X) (x : X) → Contains xs x → f x ≡ true → Contains (filter f xs) x
kept_there f [] x c e = absurd (omega (arith, c.1))
kept_there {X = X} f (y ∷ xs) x (zero, lt, same) e = subst (λ b. Contains (cond b (y ∷ filter f xs) (filter f xs)) x) (sym (ap f same ∙ e)) (0, omega arith, same)
kept_there {X = X} f (y ∷ xs) x (suc j, lt, same) e =
    let g : Contains (filter f xs) x = kept_there f xs x (j, omega arith, same) e in
    choose (f y) g
  where
    choose : (b : Bool) → Contains (filter f xs) x → Contains (cond b (y ∷ filter f xs) (filter f xs)) x
    choose true g = (suc g.0, omega (arith, g.1), g.2)
    choose false g = g

kept_choice : {X : Type 0} (f : X → Bool) (xs : List X) (x y : X) → (Contains (filter f xs) x → Contains xs x × (f x ≡ true)) → (b : Bool) → f y ≡ b → Contains (cond b (y ∷ filter f xs) (filter f xs)) x → Contains (y ∷ xs) x × (f x ≡ true)
kept_choice {X = X} f xs x y h true e (zero, lt, same) = ((0, omega arith, same), ap f (sym same) ∙ e)
kept_choice {X = X} f xs x y h true e (suc j, lt, same) = let g = h (j, omega arith, same) in ((suc g.0.0, omega (arith, g.0.1), g.0.2), g.1)
kept_choice {X = X} f xs x y h false e c = let g = h c in ((suc g.0.0, omega (arith, g.0.1), g.0.2), g.1)

pub there_kept : {X : Type 0} (f : X → Bool) (xs : List X) (x : X) → Contains (filter f xs) x → Contains xs x × (f x ≡ true)
there_kept f [] x c = absurd (omega (arith, c.1))
there_kept {X = X} f (y ∷ xs) x c = kept_choice f xs x y (there_kept f xs x) (f y) refl c

-- an expression is typed where the values that it uses are visible
module _ (p : PlainProgram) (scope : Scope) (vals : List (ℕ × Ty)) where
  abbrev pub fewer : Scope
  fewer = record scope { vals = vals }

  abbrev Seen : ((ℕ → Bool) → Bool) → Type 0
  Seen test = (v : ℕ) (ty : Ty) → Contains scope.vals (v, ty) → test (only v) ≡ true → Contains vals (v, ty)

  mem_fewer : (m : ℕ) (K : Kind) (ty : Ty) → IsMem p scope m K ty → IsMem p fewer m K ty
  mem_fewer m K ty is = record { seen = is.seen; is_kind = is.is_kind; is_type = is.is_type }

  mutual
    pub typed_fewer : (e : PlainExpr) → Typed p scope e → Seen (λ is. uses is e) → Typed p fewer e
    typed_fewer (expr place ty k) t s = kind_fewer k ty t s

    kind_fewer : (k : PlainExprKind) (ty : Ty) → KindTyped p scope k ty → Seen (λ is. kind_uses is k) → KindTyped p fewer k ty
    kind_fewer (literal w) ty t s = t
    kind_fewer (counter c) ty t s = t
    kind_fewer (value v) ty t s = s v ty t (eq-eqb v v refl)
    kind_fewer (get_reg m) ty t s = mem_fewer m _ ty t
    kind_fewer (get_arg m) ty t s = mem_fewer m _ ty t
    kind_fewer (get_sram m xs) ty t s = (mem_fewer m _ ty t.0, t.1, rows_fewer xs t.2 s)
    kind_fewer (get_line m r c) ty t s = (mem_fewer m _ ty t.0, typed_fewer r t.1 (λ v ty c2 e. s v ty c2 (or_left (uses (only v) r) (uses (only v) c) e)), t.2, typed_fewer c t.3 (λ v ty c2 e. s v ty c2 (or_right (uses (only v) r) (uses (only v) c) e)), t.4)
    kind_fewer (deq m) ty t s = mem_fewer m _ ty t
    kind_fewer (one op a) ty t s = (typed_fewer a t.0 s, t.1)
    kind_fewer (two op a b) ty t s = (typed_fewer a t.0 (λ v ty c e. s v ty c (or_left (uses (only v) a) (uses (only v) b) e)), typed_fewer b t.1 (λ v ty c e. s v ty c (or_right (uses (only v) a) (uses (only v) b) e)), t.2, t.3)
    kind_fewer (shift left a by) ty t s = (typed_fewer a t.0 s, t.1, t.2, t.3)
    kind_fewer (mux c a b) ty t s = (
      typed_fewer c t.0 (λ v ty x e. s v ty x (or_left (uses (only v) c || uses (only v) a) (uses (only v) b) (or_left (uses (only v) c) (uses (only v) a) e))),
      t.1,
      typed_fewer a t.2 (λ v ty x e. s v ty x (or_left (uses (only v) c || uses (only v) a) (uses (only v) b) (or_right (uses (only v) c) (uses (only v) a) e))),
      t.3,
      typed_fewer b t.4 (λ v ty x e. s v ty x (or_right (uses (only v) c || uses (only v) a) (uses (only v) b) e)),
      t.5,
    )
    kind_fewer (cast a) ty t s = typed_fewer a t s

    pub rows_fewer : (xs : PlainExprs) → IndicesTyped p scope xs → Seen (λ is. some_use is xs) → IndicesTyped p fewer xs
    rows_fewer no_expr t s = tt
    rows_fewer (more_expr x xs) t s = (typed_fewer x t.0 (λ v ty c e. s v ty c (or_left (uses (only v) x) (some_use (only v) xs) e)), t.1, rows_fewer xs t.2 (λ v ty c e. s v ty c (or_right (uses (only v) x) (some_use (only v) xs) e)))
