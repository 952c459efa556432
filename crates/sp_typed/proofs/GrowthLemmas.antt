-- Names are only added in a body, so that those before it come back when they are cut to their length; and what a body
-- declares is counted.
use Rattle.std.proofs.Common.{◌≡◌, ℕ, ◌+◌, Bool, true, false, cond, List, [], ◌∷◌, ◌++◌, length, take, append-nil, append_assoc, is_some, refl, sym, ap, ◌∙◌, arith, add-zero, zero-add}
use Rattle.std.proofs.lemmas.List.{length-append, length-map}
use Rattle.std.proofs.Math.Seq.{take-append_seam}
use Rattle.sp_reader.specs.PlainTree.{PlainIdent, PlainExpr}
use Rattle.sp_types.specs.Statements.{port}
use Rattle.sp_reader.specs.PlainStatement.{PlainDecl, PlainStmtKind, PlainStmts, stmt, reg, sram, fifo, line_buffer, bind, fsm, branch, no_stmt, more_stmt}
use Rattle.sp_types.specs.Visible.{PlainSymbol, counter, value}
use Rattle.sp_words.specs.declared.types.Ty.{Ty}
use Rattle.std.specs.Prelude.{Some}
use Rattle.sp_typed.specs.Statements.{in_fsm}
use Rattle.sp_typed.specs.Declarations.{mems_declared, mems_in, vals_declared, vals_in, counters_declared, counters_in, texts, after, after_all, names_after, with_counters, in_loop, past_body, past_loop, past_turn, port_names}
use Rattle.sp_typed.specs.Named.{Meant, Here, find, given, give, past}
use Rattle.sp_typed.specs.Plain.{back_to}
use Rattle.sp_typed.proofs.CountLemmas.{same_count}

pub record Grows (s t : Here) (m v c : ℕ) : Type 0 where
  pub names : List (List ℕ × Meant)
  pub names_is : t.names ≡ s.names ++ names
  pub mems_is : t.mems ≡ s.mems + m
  pub vals_is : t.vals ≡ s.vals + v
  pub counters_is : t.counters ≡ s.counters + c

grows_on : (s t u : Here) (m v c m2 v2 c2 : ℕ) → Grows s t m v c → Grows t u m2 v2 c2 → Grows s u (m + m2) (v + v2) (c + c2)
grows_on s t u m v c m2 v2 c2 g h = record {
  names = g.names ++ h.names;
  names_is = h.names_is ∙ ap (λ ns. ns ++ h.names) g.names_is ∙ append_assoc s.names g.names h.names;
  mems_is = omega (arith, g.mems_is, h.mems_is);
  vals_is = omega (arith, g.vals_is, h.vals_is);
  counters_is = omega (arith, g.counters_is, h.counters_is);
}

pub record Longer (ns ms : List (List ℕ × Meant)) : Type 0 where
  pub more : List (List ℕ × Meant)
  pub is : ms ≡ ns ++ more

either_way : (b : Bool) (ns ms : List (List ℕ × Meant)) → Longer ns ms → Longer ns (cond b ns ms)
either_way true ns ms g = record { more = []; is = sym (append-nil ns) }
either_way false ns ms g = g

same : (ns : List (List ℕ × Meant)) → Longer ns ns
same ns = record { more = []; is = sym (append-nil ns) }

pub longer_given : (ns : List (List ℕ × Meant)) (name : List ℕ) (symbol : PlainSymbol) (n : ℕ) → Longer ns (given ns name symbol n)
unfolding given
longer_given ns name symbol n =
    either_way (is_some (find ns name)) ns (ns ++ (name, record { symbol = symbol; number = n }) ∷ []) (record { more = (name, record { symbol = symbol; number = n }) ∷ []; is = refl })

longer_on : (ns ms ls : List (List ℕ × Meant)) → Longer ns ms → Longer ms ls → Longer ns ls
longer_on ns ms ls g h = record { more = g.more ++ h.more; is = h.is ∙ ap (λ l. l ++ h.more) g.is ∙ append_assoc ns g.more h.more }

longer_counters : (ns : List (List ℕ × Meant)) (n : ℕ) (binds : List PlainIdent) → Longer ns (with_counters ns n binds)
longer_counters ns n [] = same ns
longer_counters ns n (i ∷ rest) = longer_on ns _ _ (longer_given ns i.text counter n) (longer_counters (given ns i.text counter n) (n + 1) rest)

longer_after : (here : Here) (kind : PlainStmtKind) → Longer here.names (names_after here kind)
longer_after here (reg i ty start) = longer_given here.names i.text _ _
longer_after here (sram i ty dims) = longer_given here.names i.text _ _
longer_after here (fifo i ty depth) = longer_given here.names i.text _ _
longer_after here (line_buffer i ty rows columns) = longer_given here.names i.text _ _
longer_after here (bind i e) = longer_given here.names i.text _ _
longer_after here _ = same here.names

grows_after : (here : Here) (kind : PlainStmtKind) → Grows here (after here kind) (length (mems_in 0 kind)) (length (vals_in kind)) (length (counters_in kind))
grows_after here kind =
    let l = longer_after here kind in
    record { names = l.more; names_is = l.is; mems_is = refl; vals_is = refl; counters_is = refl }

grows_same : (here : Here) → Grows here here 0 0 0
grows_same here = record { names = []; names_is = sym (append-nil here.names); mems_is = omega arith; vals_is = omega arith; counters_is = omega arith }

grows_by : (s t : Here) (m v c m2 v2 c2 : ℕ) → m ≡ m2 → v ≡ v2 → c ≡ c2 → Grows s t m v c → Grows s t m2 v2 c2
grows_by s t m v c m2 v2 c2 e f h g = record { names = g.names; names_is = g.names_is; mems_is = g.mems_is ∙ ap (λ n. s.mems + n) e; vals_is = g.vals_is ∙ ap (λ n. s.vals + n) f; counters_is = g.counters_is ∙ ap (λ n. s.counters + n) h }

pub grows_all : (here : Here) (ss : PlainStmts) → Grows here (after_all here ss) (length (mems_declared ss)) (length (vals_declared ss)) (length (counters_declared ss))
grows_all here no_stmt = grows_same here
grows_all here (more_stmt (stmt place kind) rest) =
    grows_by here _ _ _ _ _ _ _
    (ap (λ n. n + length (mems_declared rest)) (sym (same_count place kind)) ∙ sym (length-append (mems_in place kind) (mems_declared rest)))
    (sym (length-append (vals_in kind) (vals_declared rest))) (sym (length-append (counters_in kind) (counters_declared rest)))
    (grows_on here _ _ _ _ _ _ _ _ (grows_after here kind) (grows_all (after here kind) rest))

abbrev pub here_with : List (List ℕ × Meant) → ℕ → ℕ → ℕ → Here
here_with names m v c = record { names = names; mems = m; vals = v; counters = c }

pub back : (s t : Here) (m v c : ℕ) → Grows s t m v c → back_to (length s.names) t ≡ past s m v c
back s t m v c g =
    ap (λ ns. here_with (take (length s.names) ns) t.mems t.vals t.counters) g.names_is
    ∙ ap (λ ns. here_with ns t.mems t.vals t.counters) (take-append_seam s.names g.names)
    ∙ ap (λ n. here_with s.names n t.vals t.counters) g.mems_is
    ∙ ap (λ n. here_with s.names (s.mems + m) n t.counters) g.vals_is
    ∙ ap (λ n. here_with s.names (s.mems + m) (s.vals + v) n) g.counters_is

-- after a block, after a loop, and after the body of an FSM
pub back_body : (here : Here) (ss : PlainStmts) → back_to (length here.names) (after_all here ss) ≡ past_body here ss
back_body here ss = back here _ _ _ _ (grows_all here ss)

grows_loop : (here : Here) (binds : List PlainIdent) → Grows here (in_loop here binds) 0 0 (length binds)
grows_loop here binds =
    let l = longer_counters here.names here.counters binds in
    record { names = l.more; names_is = l.is; mems_is = omega arith; vals_is = omega arith; counters_is = refl }

pub back_loop : (here : Here) (binds : List PlainIdent) (ss : PlainStmts) → back_to (length here.names) (after_all (in_loop here binds) ss) ≡ past_loop here binds ss
back_loop here binds ss =
    let g = grows_on here _ _ _ _ _ _ _ _ (grows_loop here binds) (grows_all (in_loop here binds) ss) in
    let e : length binds + length (counters_declared ss) ≡ length (texts binds ++ counters_declared ss) =
    ap (λ n. n + length (counters_declared ss)) (sym (length-map binds (λ i. i.text))) ∙ sym (length-append (texts binds) (counters_declared ss)) in
    back here _ _ _ _ (grows_by here _ _ _ _ _ _ _ (zero-add _) (zero-add _) e g)

-- what is left by a mark
pub left : (s t w v : Here) (n : ℕ) → v ≡ back_to n w → n ≡ length s.names → w ≡ t → (u : Here) → back_to (length s.names) t ≡ u → v ≡ u
left s t w v n e f h u k = e ∙ ap (λ x. back_to x w) f ∙ ap (back_to (length s.names)) h ∙ k

-- binders one after the other
abbrev pub entered : Here → List PlainIdent → Here
entered here [] = here
entered here (i ∷ rest) = entered (here_with (given here.names i.text counter here.counters) here.mems here.vals (here.counters + 1)) rest

pub entered_is : (here : Here) (binds : List PlainIdent) → entered here binds ≡ in_loop here binds
entered_is here [] = ap (λ n. here_with here.names here.mems here.vals n) (sym (add-zero here.counters))
entered_is here (i ∷ rest) =
    let e : here.counters + 1 + length rest ≡ here.counters + length (i ∷ rest) = omega arith in
    entered_is (here_with (given here.names i.text counter here.counters) here.mems here.vals (here.counters + 1)) rest
    ∙ ap (λ n. here_with (with_counters (given here.names i.text counter here.counters) (here.counters + 1) rest) here.mems here.vals n) e

-- after a statement that declares nothing, a memory, and a value
pub none_after : (here : Here) → past here 0 0 0 ≡ here
none_after here =
    ap (λ n. here_with here.names n (here.vals + 0) (here.counters + 0)) (add-zero here.mems)
    ∙ ap (λ n. here_with here.names here.mems n (here.counters + 0)) (add-zero here.vals)
    ∙ ap (λ n. here_with here.names here.mems here.vals n) (add-zero here.counters)

pub mem_after : (here : Here) (names : List (List ℕ × Meant)) → here_with names (here.mems + 1) here.vals here.counters ≡ here_with names (here.mems + 1) (here.vals + 0) (here.counters + 0)
mem_after here names =
    ap (λ n. here_with names (here.mems + 1) n here.counters) (sym (add-zero here.vals))
    ∙ ap (λ n. here_with names (here.mems + 1) (here.vals + 0) n) (sym (add-zero here.counters))

pub val_after : (here : Here) (names : List (List ℕ × Meant)) → here_with names here.mems (here.vals + 1) here.counters ≡ here_with names (here.mems + 0) (here.vals + 1) (here.counters + 0)
val_after here names =
    ap (λ n. here_with names n (here.vals + 1) here.counters) (sym (add-zero here.mems))
    ∙ ap (λ n. here_with names (here.mems + 0) (here.vals + 1) n) (sym (add-zero here.counters))

-- after a name
pub back_given : (here : Here) (name : List ℕ) (symbol : PlainSymbol) (n : ℕ) → back_to (length here.names) (give here name symbol n) ≡ here
back_given here name symbol n =
    let l = longer_given here.names name symbol n in
    ap (λ ns. here_with (take (length here.names) ns) here.mems here.vals here.counters) l.is
    ∙ ap (λ ns. here_with ns here.mems here.vals here.counters) (take-append_seam here.names l.more)

grows_turn : (here : Here) (now : PlainIdent) (state : Ty) → Grows here (in_fsm here now state) 0 2 0
grows_turn here now state =
    let l = longer_given here.names now.text (value (Some state)) (here.vals + 1) in
    record { names = l.more; names_is = l.is; mems_is = refl; vals_is = refl; counters_is = refl }

pub back_turn : (here : Here) (now : PlainIdent) (state : Ty) (ss : PlainStmts) → back_to (length here.names) (after_all (in_fsm here now state) ss) ≡ past_turn here ss
back_turn here now state ss =
    let g = grows_on here _ _ _ _ _ _ _ _ (grows_turn here now state) (grows_all (in_fsm here now state) ss) in
    back here _ _ _ _ (grows_by here _ _ _ _ _ _ _ (zero-add _) refl (zero-add _) g)

-- declarations before the block, one after the other
abbrev pub with_each_port : Here → List PlainDecl → Here
with_each_port here [] = here
with_each_port here (d ∷ rest) = with_each_port (here_with (given here.names d.name.text (port d.kind) here.mems) (here.mems + 1) here.vals here.counters) rest

pub with_each_port_is : (here : Here) (decls : List PlainDecl) → with_each_port here decls ≡ here_with (port_names here.names here.mems decls) (here.mems + length decls) here.vals here.counters
with_each_port_is here [] = ap (λ n. here_with here.names n here.vals here.counters) (sym (add-zero here.mems))
with_each_port_is here (d ∷ rest) =
    let e : here.mems + 1 + length rest ≡ here.mems + length (d ∷ rest) = omega arith in
    with_each_port_is (here_with (given here.names d.name.text (port d.kind) here.mems) (here.mems + 1) here.vals here.counters) rest
    ∙ ap (λ n. here_with (port_names (given here.names d.name.text (port d.kind) here.mems) (here.mems + 1) rest) n here.vals here.counters) e

-- after a branch, and after an FSM
pub past_two : (here : Here) (test : PlainExpr) (first second : PlainStmts) → past_body (past_body here first) second ≡ after here (branch test first second)
past_two here test first second =
    let e : here.mems + length (mems_declared first) + length (mems_declared second) ≡ here.mems + length (mems_declared first ++ mems_declared second) = omega (arith, length-append (mems_declared first) (mems_declared second)) in
    let f : here.vals + length (vals_declared first) + length (vals_declared second) ≡ here.vals + length (vals_declared first ++ vals_declared second) = omega (arith, length-append (vals_declared first) (vals_declared second)) in
    let g : here.counters + length (counters_declared first) + length (counters_declared second) ≡ here.counters + length (counters_declared first ++ counters_declared second) = omega (arith, length-append (counters_declared first) (counters_declared second)) in
    ap (λ n. here_with here.names n (here.vals + length (vals_declared first) + length (vals_declared second)) (here.counters + length (counters_declared first) + length (counters_declared second))) e
    ∙ ap (λ n. here_with here.names (here.mems + length (mems_declared first ++ mems_declared second)) n (here.counters + length (counters_declared first) + length (counters_declared second))) f
    ∙ ap (λ n. here_with here.names (here.mems + length (mems_declared first ++ mems_declared second)) (here.vals + length (vals_declared first ++ vals_declared second)) n) g

pub past_fsm : (here : Here) (start : PlainExpr) (tested : PlainIdent) (test : PlainExpr) (now : PlainIdent) (ss : PlainStmts) (last : PlainIdent) (next : PlainExpr)
    → here_with here.names (here.mems + length (mems_declared ss)) (here.vals + (2 + length (vals_declared ss)) + 1) (here.counters + length (counters_declared ss)) ≡ after here (fsm start tested test now ss last next)
past_fsm here start tested test now ss last next =
    let e : here.vals + (2 + length (vals_declared ss)) + 1 ≡ here.vals + length (tested.text ∷ now.text ∷ vals_declared ss ++ last.text ∷ []) = omega (arith, length-append (vals_declared ss) (last.text ∷ [])) in
    ap (λ n. here_with here.names (here.mems + length (mems_declared ss)) n (here.counters + length (counters_declared ss))) e
