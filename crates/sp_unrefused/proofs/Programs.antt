-- A program's tree has no refusals.
use Rattle.std.proofs.Common.{◌≡◌, ℕ, suc, ◌+◌, Bool, if◌then◌else◌, List, [], ◌∷◌, ◌++◌, length, slice_index_or, Contains, All, refl, sym, ap, subst, ◌∙◌, append_assoc, length-append, arith}
use Rattle.std.proofs.lemmas.List.Elements.{Contains-append_right, All-head, All-tail, All-get_or}
use Rattle.sp_reader.specs.PlainStatement as tree_of
use Rattle.sp_tree.specs.Counts.{is_port}
use Rattle.sp_tree.specs.Declarations.{IsDeclaration}
use Rattle.sp_tree.specs.Invariant.{IsProgram, PortsFresh, port_numbers, outer_scope}
use Rattle.sp_tree.specs.Meaning.{numbers_of}
use Rattle.sp_tree.specs.PlainProgram.{PlainMem, PlainProgram, no_mem}
use Rattle.sp_tree.specs.Structure.{mems_declared, vals_declared, counters_declared}
use Rattle.sp_tree.specs.Typing.{Scope, mem_at, with_mem, IsFresh}
use Rattle.sp_printed.specs.StatementTrees.{IsPortTree, ArePortTrees, IsProgramTree}
use Rattle.sp_types.specs.Statements.{port, port_type, decls_refusals, declaration_refusals, with_ports, refusals}
use Rattle.sp_types.specs.Visible.{Visible, declare, nothing_visible}
use Rattle.sp_typed.specs.Declarations.{port_names, at_block}
use Rattle.sp_typed.specs.Named.{Meant, Here, given}
use Rattle.sp_retyped.proofs.Bodies.{Numbered}
use Rattle.sp_retyped.proofs.Names.{two_none}
use Rattle.sp_retyped.proofs.Numbered.{IsRun, run_left, run_right, below_run}
use Rattle.sp_retyped.proofs.Ports.{here, below}
use Rattle.sp_retyped.proofs.Programs.{with_all, empty_scope, port_shown, nothing_shown, in_order, ports_count}
use Rattle.sp_retyped.proofs.Quiet.{type_none}
use Rattle.sp_retyped.proofs.Scopes.{one_more}
use Rattle.sp_unrefused.specs.Placed.{Placed}
use Rattle.sp_unrefused.proofs.Places.{placed_next, twice_none}
use Rattle.sp_unrefused.proofs.Bodies.{body_right}

abbrev place_of : List (List ℕ × Meant) → Here
place_of names = record { names = names; mems = 0; vals = 0; counters = 0 }

module _ (p : PlainProgram) where
  -- one declaration before the block
  port_right : (scope : Scope) (seen : Visible) (names : List (List ℕ × Meant)) (m n : ℕ) {d : tree_of.PlainDecl} → Placed p scope (place_of names) seen [] → IsPortTree (mem_at p m) d → IsDeclaration (mem_at p m) → m ≡ n → IsFresh p scope (mem_at p m).name
      → (declaration_refusals seen d.name (port_type d.kind) ≡ []) × Placed p (with_mem scope m) (place_of (given names d.name.text (port d.kind) n)) (declare seen d.name.text (port d.kind)) []
  port_right scope seen names m n h (IsPortTree.an_arg {at = at} {i = i} {t = t} k text ty) d number fresh = (
    two_none _ _ (twice_none p scope (place_of names) seen [] h i _ text fresh) (type_none ty),
    placed_next p scope (with_mem scope m) (place_of names) (place_of (given names i.text (port (tree_of.arg_in t)) n)) seen [] h (mem_at p m).name i.text text fresh (port (tree_of.arg_in t)) (port (tree_of.arg_in t)) n refl refl
        (port_shown p scope names m n h.shown (IsPortTree.an_arg {at = at} {i = i} k text ty) d number fresh) (λ a at. one_more m scope.mems a at),
  )
  port_right scope seen names m n h (IsPortTree.an_out {at = at} {i = i} {t = t} k text ty) d number fresh = (
    two_none _ _ (twice_none p scope (place_of names) seen [] h i _ text fresh) (type_none ty),
    placed_next p scope (with_mem scope m) (place_of names) (place_of (given names i.text (port (tree_of.arg_out t)) n)) seen [] h (mem_at p m).name i.text text fresh (port (tree_of.arg_out t)) (port (tree_of.arg_out t)) n refl refl
        (port_shown p scope names m n h.shown (IsPortTree.an_out {at = at} {i = i} k text ty) d number fresh) (λ a at. one_more m scope.mems a at),
  )
  port_right scope seen names m n h (IsPortTree.a_dram {at = at} {i = i} {t = t} k text ty) d number fresh = (
    two_none _ _ (twice_none p scope (place_of names) seen [] h i _ text fresh) (type_none ty),
    placed_next p scope (with_mem scope m) (place_of names) (place_of (given names i.text (port (tree_of.dram t (mem_at p m).dims)) n)) seen [] h (mem_at p m).name i.text text fresh (port (tree_of.dram t (mem_at p m).dims)) (port (tree_of.dram t (mem_at p m).dims)) n refl refl
        (port_shown p scope names m n h.shown (IsPortTree.a_dram {at = at} {i = i} k text ty) d number fresh) (λ a at. one_more m scope.mems a at),
  )

  ports_right : (before ms : List PlainMem) {decls : List tree_of.PlainDecl} (first n : ℕ) (scope : Scope) (seen : Visible) (names : List (List ℕ × Meant)) → p.mems ≡ before ++ ms → length before ≡ first → All IsDeclaration ms → ArePortTrees ms decls
      → PortsFresh p scope (numbers_of is_port first ms) → IsRun n (numbers_of is_port first ms) → Placed p scope (place_of names) seen []
      → (decls_refusals seen decls ≡ []) × Placed p (with_all scope (numbers_of is_port first ms)) (place_of (port_names names n decls)) (with_ports seen decls) []
  ports_right before [] first n scope seen names is long all ArePortTrees.no_ports fresh run h = (refl, h)
  ports_right before (m ∷ ms) {decls} first n scope seen names is long all (ArePortTrees.passed not_port rest) fresh run h =
      let numbers = λ (b : Bool). (if b then first ∷ [] else []) ++ numbers_of is_port (suc first) ms in
      let more = ports_right (before ++ m ∷ []) ms (suc first) n scope seen names (is ∙ sym (append_assoc before (m ∷ []) ms)) (omega (arith, long, length-append before (m ∷ []))) (All-tail IsDeclaration m ms all) rest
      (subst (λ b. PortsFresh p scope (numbers b)) not_port fresh) (subst (λ b. IsRun n (numbers b)) not_port run) h in
      (more.0, subst (λ b. Placed p (with_all scope (numbers b)) (place_of (port_names names n decls)) (with_ports seen decls) []) (sym not_port) more.1)
  ports_right before (m ∷ ms) first n scope seen names is long all (ArePortTrees.more_ports {d = d} {all = decls} a_port t rest) fresh run h =
      let numbers = λ (b : Bool). (if b then first ∷ [] else []) ++ numbers_of is_port (suc first) ms in
      let fresh_here = subst (λ b. PortsFresh p scope (numbers b)) a_port fresh in
      let run_here = subst (λ b. IsRun n (numbers b)) a_port run in
      let there : mem_at p first ≡ m = ap (λ k. slice_index_or p.mems k no_mem) (sym long) ∙ ap (λ l. slice_index_or l (length before) no_mem) is ∙ here before m ms no_mem in
      let one = port_right scope seen names first n h (subst (λ x. IsPortTree x d) (sym there) t) (subst IsDeclaration (sym there) (All-head IsDeclaration m ms all)) run_here.0 fresh_here.0 in
      let next : suc n ≡ n + 1 = omega arith in
      let more = ports_right (before ++ m ∷ []) ms (suc first) (n + 1) (with_mem scope first) (declare seen d.name.text (port d.kind)) (given names d.name.text (port d.kind) n) (is ∙ sym (append_assoc before (m ∷ []) ms)) (omega (arith, long, length-append before (m ∷ [])))
      (All-tail IsDeclaration m ms all) rest fresh_here.1 (subst (λ k. IsRun k (numbers_of is_port (suc first) ms)) next run_here.1) one.1 in
      (two_none _ _ one.0 more.0, subst (λ b. Placed p (with_all scope (numbers b)) (place_of (port_names (given names d.name.text (port d.kind) n) (n + 1) decls)) (with_ports (declare seen d.name.text (port d.kind)) decls) []) (sym a_port) more.1)

  nothing_placed : Placed p empty_scope (place_of []) nothing_visible []
  nothing_placed = record { shown = nothing_shown p; same = refl; busy_is = refl; acc_seen = λ a at. at }

pub program_right : (p : PlainProgram) (s : tree_of.PlainSyntax) → IsProgram p → IsProgramTree p s → refusals s ≡ []
program_right p s h t =
    let run : IsRun 0 (port_numbers p ++ mems_declared p.body) = subst (IsRun 0) (sym h.mem_numbers) (below_run (length p.mems)) in
    let outer = ports_right p [] p.mems 0 0 empty_scope nothing_visible [] refl refl h.declarations t.ports h.port_names (run_left 0 (port_numbers p) (mems_declared p.body) run) (nothing_placed p) in
    let placed : Placed p (outer_scope p) (at_block s.decls) (with_ports nothing_visible s.decls) [] = record {
      shown = in_order p (port_numbers p) (port_names [] 0 s.decls) outer.1.shown;
      same = outer.1.same;
      busy_is = outer.1.busy_is;
      acc_seen = λ a at. absurd (omega (arith, at.1));
    } in
    let right = λ (m : ℕ) (at : Contains (mems_declared p.body) m).
    let low = below (length p.mems) m (subst (λ ns. Contains ns m) h.mem_numbers (Contains-append_right (port_numbers p) (mems_declared p.body) m at)) in
    All-get_or IsDeclaration p.mems m no_mem low h.declarations in
    let count : 0 + length (port_numbers p) ≡ length s.decls = omega (arith, ports_count p 0 t.ports) in
    let numbered : Numbered (at_block s.decls) (mems_declared p.body) (vals_declared p.body) (counters_declared p.body) = record {
      mems_run = subst (λ n. IsRun n (mems_declared p.body)) count (run_right 0 (port_numbers p) (mems_declared p.body) run);
      vals_run = subst (IsRun 0) (sym h.val_numbers) (below_run (length p.vals));
      counters_run = subst (IsRun 0) (sym h.counter_numbers) (below_run (length p.counters));
    } in
    two_none _ _ outer.0 (body_right p t.block (outer_scope p) (at_block s.decls) (with_ports nothing_visible s.decls) [] placed h.typed right numbered (λ a at. absurd (omega (arith, at.1))))
