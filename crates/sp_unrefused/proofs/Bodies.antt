-- The statements of a program's tree have no refusals.
use Rattle.std.proofs.Common.{◌≡◌, ℕ, suc, ◌+◌, Bool, true, false, List, [], ◌∷◌, ◌++◌, Contains, Some, is_some, IsTrue, refl, ap, subst, arith}
use Rattle.sp_words.specs.declared.kind.Kind.TheVariants.{Reg, Sram}
use Rattle.sp_words.specs.declared.kind.Style.{Style}
use Rattle.sp_words.specs.declared.types.Ty.TheVariants.{Bit}
use Rattle.sp_reader.specs.PlainTree as tree
use Rattle.sp_reader.specs.PlainStatement as tree_of
use Rattle.sp_tree.specs.declared.statement.Comb.{Comb}
use Rattle.sp_tree.specs.Footprint.{Names, BodyNames, StmtKindNames}
use Rattle.sp_tree.specs.PlainExpression.{PlainExpr, type_of}
use Rattle.sp_tree.specs.PlainProgram.{PlainProgram}
use Rattle.sp_tree.specs.PlainStatement as program
use Rattle.sp_tree.specs.Structure.{mems_declared, mems_in, vals_declared, vals_in, counters_declared, counters_in, counter_numbers}
use Rattle.sp_tree.specs.Typing.{Scope, StmtTyped, BodyTyped, mem_at, all_but, after, after_all, with_val, with_counters}
use Rattle.sp_printer.specs.Names.{names_in}
use Rattle.sp_printed.specs.Trees.{IsTree}
use Rattle.sp_printed.specs.LoopTrees.{IsHeadTree, IsCombTree}
use Rattle.sp_printed.specs.StatementTrees.{IsStmtTree, IsBodyTree}
use Rattle.sp_types.specs.Spans.{with_binds}
use Rattle.sp_types.specs.Statements as rule
use Rattle.sp_types.specs.Statements.{body_refusals, stmt_refusals, acc_inside, reduced, mem_reduced, with_state, state as state_of}
use Rattle.sp_types.specs.Types.{symbol_type}
use Rattle.sp_types.specs.Visible.{value, Visible, symbol_of}
use Rattle.sp_typed.specs.Declarations as typed
use Rattle.sp_typed.specs.Named.{Here, given}
use Rattle.sp_retyped.proofs.Bodies.{Numbered, first_part, second_part, right_left, right_right, numbered_after, body_lengths, in_loop_numbered, kept, own_end}
use Rattle.sp_retyped.proofs.Declared.{Right}
use Rattle.sp_retyped.proofs.Names.{two_none, three_none}
use Rattle.sp_retyped.proofs.Numbered.{IsRun, run_left}
use Rattle.sp_retyped.proofs.Parts.{binds_count}
use Rattle.sp_retyped.proofs.Scopes.{at_first}
use Rattle.sp_unrefused.specs.Placed.{Placed}
use Rattle.sp_unrefused.proofs.Places.{symbol_none, placed_after, placed_like, twice_none}
use Rattle.sp_unrefused.proofs.Simple.{four_none, comb_none, word_right, still_right, declare_right, reg_right, out_right, element_right, put_right, load_right, line_right, store_right, gather_right, scatter_right}
use Rattle.sp_unrefused.proofs.Ends.{one_besides, placed_loop, placed_acc, placed_end, own_fresh, own_named, with_counters_keeps}
use Rattle.sp_unrefused.proofs.Loops.{head_right, acc_right, symbol_type_is, state_is, placed_state, value_right, part_right}

module _ (p : PlainProgram) where
  -- a Reduce or a Fold whose body has no refusals
  reduce_right : (scope : Scope) (here : Here) (seen : Visible) (accs : List ℕ) → Placed p scope here seen accs → (s : Style) (fold : Bool) (acc : ℕ) (cs : List program.PlainCounter) (body : program.PlainStmts) (word : PlainExpr) (c : Comb) (head : tree_of.PlainHead) (ss : tree_of.PlainStmts) (i : tree.PlainIdent) (x : tree.PlainExpr) (y : tree_of.PlainComb)
      → IsHeadTree (names_in p) s cs head → i.text ≡ (mem_at p acc).name → IsTree (names_in p) word x → IsCombTree c y → StmtTyped p scope (program.reduce s fold acc cs body word c) → IsRun here.counters (counter_numbers cs)
      → ((a : ℕ) → Contains accs a → StmtKindNames (all_but p a) (program.reduce s fold acc cs body word c))
      → (there : Here) → Placed p (after_all (with_counters scope cs) body) there (rule.after_all (acc_inside seen head.binds i) ss) (accs ++ acc ∷ []) → body_refusals (acc_inside seen head.binds i) ss ≡ []
      → reduced seen head.counters head.binds i (body_refusals (acc_inside seen head.binds i) ss) (rule.after_all (acc_inside seen head.binds i) ss) x y ≡ []
  reduce_right scope here seen accs h s fold acc cs body word c head ss i x y head_is text t comb well run spares there end inner =
      three_none _ _ _
      (acc_right p scope here seen accs h Reg (type_of word) acc i s cs head text well.3 (λ a at. (spares a at).0) head_is well.1 (λ a at. (spares a at).1) run)
      inner
      (value_right p (after_all (with_counters scope cs) body) there (rule.after_all (acc_inside seen head.binds i) ss) (accs ++ acc ∷ []) end word x c y (symbol_type (symbol_of seen i.text))
      (symbol_type_is p scope here seen accs h Reg (type_of word) acc i text well.3 (λ a at. (spares a at).0)) t well.5
      (one_besides (λ a. Names (all_but p a) word) accs acc (λ a at. (spares a at).3) well.7) well.4 comb)

  mem_reduce_right : (scope : Scope) (here : Here) (seen : Visible) (accs : List ℕ) → Placed p scope here seen accs → (s : Style) (acc part : ℕ) (cs : List program.PlainCounter) (body : program.PlainStmts) (c : Comb) (head : tree_of.PlainHead) (ss : tree_of.PlainStmts) (i j : tree.PlainIdent) (y : tree_of.PlainComb) (place : ℕ)
      → IsHeadTree (names_in p) s cs head → i.text ≡ (mem_at p acc).name → j.text ≡ (mem_at p part).name → IsCombTree c y → StmtTyped p scope (program.mem_reduce s acc cs body part c) → IsRun here.counters (counter_numbers cs)
      → ((a : ℕ) → Contains accs a → StmtKindNames (all_but p a) (program.mem_reduce s acc cs body part c))
      → (there : Here) → Placed p (after_all (with_counters scope cs) body) there (rule.after_all (acc_inside seen head.binds i) ss) (accs ++ acc ∷ []) → body_refusals (acc_inside seen head.binds i) ss ≡ []
      → mem_reduced seen head.counters head.binds i (body_refusals (acc_inside seen head.binds i) ss) (rule.after_all (acc_inside seen head.binds i) ss) (tree.expr place (tree.name j false)) y ≡ []
  mem_reduce_right scope here seen accs h s acc part cs body c head ss i j y place head_is text inner_text comb well run spares there end inner =
      let loop = placed_loop p scope here seen accs head_is.binds_are well.1.binders run h in
      let ty = (mem_at p acc).ty in
      let outside = ap is_some (symbol_none p (with_counters scope cs) (typed.in_loop here head.binds) (with_binds seen head.binds) accs loop (mem_at p part).name j.text inner_text (own_fresh p (with_counters scope cs) body part well.2 well.6)) in
      four_none _ _ _ _
      (acc_right p scope here seen accs h Sram ty acc i s cs head text well.3 (λ a at. (spares a at).0) head_is well.1 (λ a at. (spares a at).2) run)
      inner
      (part_right p (after_all (with_counters scope cs) body) there (rule.after_all (acc_inside seen head.binds i) ss) (accs ++ acc ∷ []) end _ acc part i j ty outside text inner_text
      (record { seen = kept p (with_counters scope cs) body acc (with_counters_keeps p scope cs acc well.3.seen); is_kind = well.3.is_kind; is_type = refl })
      (record { seen = own_end p (with_counters scope cs) body part well.6; is_kind = well.7; is_type = well.8 }) well.9
      (one_besides (λ a. IsTrue (all_but p a part)) accs acc (λ a at. (spares a at).1) (own_named p (all_but p acc) body part well.5 well.6)))
      (comb_none (symbol_type (symbol_of seen i.text)) ty (symbol_type_is p scope here seen accs h Sram ty acc i text well.3 (λ a at. (spares a at).0)) well.4 comb)

  mutual
    pub body_right : {body : program.PlainStmts} {ss : tree_of.PlainStmts} → IsBodyTree (names_in p) body ss → (scope : Scope) (here : Here) (seen : Visible) (accs : List ℕ) → Placed p scope here seen accs → BodyTyped p scope body → Right p (mems_declared body)
        → Numbered here (mems_declared body) (vals_declared body) (counters_declared body) → ((a : ℕ) → Contains accs a → BodyNames (all_but p a) body) → body_refusals seen ss ≡ []
    body_right IsBodyTree.empty scope here seen accs h well r n spares = refl
    body_right (IsBodyTree.more {at = at} {s = s} {x = x} {rest = rest} t ts) scope here seen accs h well r n spares =
        let mine = right_left p (mems_in s) (mems_declared rest) r in
        let first = first_part (mems_in s) (mems_declared rest) (vals_in s) (vals_declared rest) (counters_in s) (counters_declared rest) n in
        two_none _ _ (stmt_right at t scope here seen accs h well.0 mine first (λ a k. (spares a k).0))
        (body_right ts (after scope s) (typed.after here x) (rule.after seen x) accs (placed_after p scope here seen accs t h well.0 mine first) well.1 (right_right p (mems_in s) (mems_declared rest) r) (numbered_after p here rest t mine n) (λ a k. (spares a k).1))

    stmt_right : {s : program.PlainStmtKind} {x : tree_of.PlainStmtKind} (place : ℕ) → IsStmtTree (names_in p) s x → (scope : Scope) (here : Here) (seen : Visible) (accs : List ℕ) → Placed p scope here seen accs → StmtTyped p scope s → Right p (mems_in s)
        → Numbered here (mems_in s) (vals_in s) (counters_in s) → ((a : ℕ) → Contains accs a → StmtKindNames (all_but p a) s) → stmt_refusals seen place x ≡ []
    stmt_right place (IsStmtTree.declared {m = m} t) scope here seen accs h well r n spares = declare_right p scope here seen accs h m place t well (r m (at_first m []))
    stmt_right place (IsStmtTree.bound {v = v} {e = e} {i = i} {x = x} text t) scope here seen accs h well r n spares =
        two_none _ _ (twice_none p scope here seen accs h i _ text well.0) (word_right p scope here seen accs h (state_of seen x) (state_is p scope here seen accs h t well.1) t well.1 spares)
    stmt_right place (IsStmtTree.reg_set {m = m} {e = e} {i = i} {x = x} text t) scope here seen accs h well r n spares = reg_right p scope here seen accs h m e i x place text t well spares
    stmt_right place (IsStmtTree.out_set {m = m} {e = e} {i = i} {x = x} text t) scope here seen accs h well r n spares = out_right p scope here seen accs h m e i x place text t well spares
    stmt_right place (IsStmtTree.sram_set {m = m} {indices = indices} {e = e} {i = i} {all = all} {x = x} text ts t) scope here seen accs h well r n spares = element_right p scope here seen accs h m indices e i all x place text ts t well spares
    stmt_right place (IsStmtTree.put {m = m} {e = e} {i = i} {x = x} text t) scope here seen accs h well r n spares = put_right p scope here seen accs h m e i x place text t well spares
    stmt_right place (IsStmtTree.sram_loaded {sram = sram} {dram = dram} {spans = spans} {i = i} {j = j} {all = all} text outer t) scope here seen accs h well r n spares = load_right p scope here seen accs h sram dram spans i j all place text outer t well spares
    stmt_right place (IsStmtTree.line_loaded {line = line} {dram = dram} {spans = spans} {i = i} {j = j} {all = all} text outer t) scope here seen accs h well r n spares = line_right p scope here seen accs h line dram spans i j all place text outer t well spares
    stmt_right place (IsStmtTree.stored {dram = dram} {sram = sram} {spans = spans} {i = i} {j = j} {all = all} outer text t) scope here seen accs h well r n spares = store_right p scope here seen accs h sram dram spans i j all place outer text t well spares
    stmt_right place (IsStmtTree.gathered {sram = sram} {dram = dram} {places = places} {e = e} {i = i} {j = j} {l = l} {x = x} text outer index t) scope here seen accs h well r n spares =
        gather_right p scope here seen accs h sram dram places e i j l x place text outer index t well spares
    stmt_right place (IsStmtTree.scattered {dram = dram} {places = places} {sram = sram} {e = e} {i = i} {j = j} {l = l} {x = x} outer index text t) scope here seen accs h well r n spares =
        scatter_right p scope here seen accs h dram places sram e i j l x place outer index text t well spares
    stmt_right place (IsStmtTree.blocked t) scope here seen accs h well r n spares = body_right t scope here seen accs h well r n spares
    stmt_right place (IsStmtTree.looped {s = s} {counters = cs} {body = body} {h = head} head_is t) scope here seen accs h well r n spares =
        let run = run_left here.counters (counter_numbers cs) (counters_declared body) n.counters_run in
        let numbered = in_loop_numbered p here head.binds (mems_declared body) (vals_declared body) (counter_numbers cs) (counters_declared body) (binds_count p head_is.binds_are) n in
        two_none _ _ (head_right p scope here seen accs h s cs head head_is well.1 (λ a k. (spares a k).0) run)
        (body_right t (with_counters scope cs) (typed.in_loop here head.binds) (with_binds seen head.binds) accs (placed_loop p scope here seen accs head_is.binds_are well.1.binders run h) well.2 r numbered (λ a k. (spares a k).1))
    stmt_right place (IsStmtTree.reduced {s = s} {acc = acc} {counters = cs} {body = body} {word = word} {c = c} {h = head} {ss = ss} {i = i} {x = x} {y = y} head_is text t w comb) scope here seen accs h well r n spares =
        let run = run_left here.counters (counter_numbers cs) (counters_declared body) n.counters_run in
        let numbered = in_loop_numbered p here head.binds (mems_declared body) (vals_declared body) (counter_numbers cs) (counters_declared body) (binds_count p head_is.binds_are) n in
        let inside = placed_acc p scope here seen accs acc i.text text well.3.seen head_is.binds_are well.1.binders run h in
        let end = placed_end p (with_counters scope cs) (typed.in_loop here head.binds) (acc_inside seen head.binds i) (accs ++ acc ∷ []) t inside well.2 r numbered in
        let inner = body_right t (with_counters scope cs) (typed.in_loop here head.binds) (acc_inside seen head.binds i) (accs ++ acc ∷ []) inside well.2 r numbered (one_besides (λ a. BodyNames (all_but p a) body) accs acc (λ a k. (spares a k).2) well.6) in
        reduce_right scope here seen accs h s false acc cs body word c head ss i x y head_is text w comb well run spares (typed.after_all (typed.in_loop here head.binds) ss) end inner
    stmt_right place (IsStmtTree.folded {s = s} {acc = acc} {counters = cs} {body = body} {word = word} {c = c} {h = head} {ss = ss} {i = i} {x = x} {y = y} head_is text t w comb) scope here seen accs h well r n spares =
        let run = run_left here.counters (counter_numbers cs) (counters_declared body) n.counters_run in
        let numbered = in_loop_numbered p here head.binds (mems_declared body) (vals_declared body) (counter_numbers cs) (counters_declared body) (binds_count p head_is.binds_are) n in
        let inside = placed_acc p scope here seen accs acc i.text text well.3.seen head_is.binds_are well.1.binders run h in
        let end = placed_end p (with_counters scope cs) (typed.in_loop here head.binds) (acc_inside seen head.binds i) (accs ++ acc ∷ []) t inside well.2 r numbered in
        let inner = body_right t (with_counters scope cs) (typed.in_loop here head.binds) (acc_inside seen head.binds i) (accs ++ acc ∷ []) inside well.2 r numbered (one_besides (λ a. BodyNames (all_but p a) body) accs acc (λ a k. (spares a k).2) well.6) in
        reduce_right scope here seen accs h s true acc cs body word c head ss i x y head_is text w comb well run spares (typed.after_all (typed.in_loop here head.binds) ss) end inner
    stmt_right place (IsStmtTree.mem_reduced {s = s} {acc = acc} {part = part} {at = at} {counters = cs} {body = body} {c = c} {h = head} {ss = ss} {i = i} {j = j} {y = y} head_is text t inner_text comb) scope here seen accs h well r n spares =
        let run = run_left here.counters (counter_numbers cs) (counters_declared body) n.counters_run in
        let numbered = in_loop_numbered p here head.binds (mems_declared body) (vals_declared body) (counter_numbers cs) (counters_declared body) (binds_count p head_is.binds_are) n in
        let inside = placed_acc p scope here seen accs acc i.text text well.3.seen head_is.binds_are well.1.binders run h in
        let end = placed_end p (with_counters scope cs) (typed.in_loop here head.binds) (acc_inside seen head.binds i) (accs ++ acc ∷ []) t inside well.2 r numbered in
        let inner = body_right t (with_counters scope cs) (typed.in_loop here head.binds) (acc_inside seen head.binds i) (accs ++ acc ∷ []) inside well.2 r numbered (one_besides (λ a. BodyNames (all_but p a) body) accs acc (λ a k. (spares a k).3) well.5) in
        mem_reduce_right scope here seen accs h s acc part cs body c head ss i j y at head_is text inner_text comb well run spares (typed.after_all (typed.in_loop here head.binds) ss) end inner
    stmt_right place (IsStmtTree.machine {start = start} {test = test} {next = next} {tested = tested} {state = state} {last = last} {body = body} {x = x} {i = i} {j = j} {l = l} {ss = ss} begin first until second t third following) scope here seen accs h well r n spares =
        let ty = type_of start in
        let same = state_is p scope here seen accs h begin well.0.0.0 in
        let at_test : Here = record here { names = given here.names i.text (value (Some ty)) tested } in
        let at_body : Here = record { names = given here.names j.text (value (Some ty)) state; mems = here.mems; vals = here.vals + 2; counters = here.counters } in
        let at_last : Here = record here { names = given here.names l.text (value (Some ty)) last } in
        let one = placed_state p scope here seen accs h tested i at_test begin well.0.0.0 first well.1 refl in
        let two = placed_state p scope here seen accs h state j at_body begin well.0.0.0 second well.3 refl in
        let three = placed_state p scope here seen accs h last l at_last begin well.0.0.0 third well.5 refl in
        let vals = vals_declared body in
        let vals_same : suc (suc here.vals) ≡ here.vals + 2 = omega arith in
        let numbered : Numbered at_body (mems_declared body) vals (counters_declared body) = record {
          mems_run = n.mems_run;
          vals_run = subst (λ k. IsRun k vals) vals_same (run_left (suc (suc here.vals)) vals (last ∷ []) n.vals_run.1.1);
          counters_run = n.counters_run;
        } in
        three_none _ _ _
        (two_none _ _ (still_right p scope here seen accs h (state_of seen x) ty same begin well.0 (λ a k. (spares a k).0))
        (two_none _ _ (twice_none p scope here seen accs h i _ first well.1) (still_right p (with_val scope tested ty) at_test (with_state seen x i) accs one (Some Bit) Bit refl until well.2 (λ a k. (spares a k).1))))
        (two_none _ _ (twice_none p scope here seen accs h j _ second well.3) (body_right t (with_val scope state ty) at_body (with_state seen x j) accs two well.4 r numbered (λ a k. (spares a k).2)))
        (two_none _ _ (twice_none p scope here seen accs h l _ third well.5) (still_right p (with_val scope last ty) at_last (with_state seen x l) accs three (state_of seen x) ty same following well.6 (λ a k. (spares a k).3)))
    stmt_right place (IsStmtTree.branched {first = first} {second = second} {ss = ss} c t u) scope here seen accs h well r n spares =
        let mine = right_left p (mems_declared first) (mems_declared second) r in
        let lengths = body_lengths p t mine in
        let numbered = second_part (mems_declared first) (mems_declared second) (vals_declared first) (vals_declared second) (counters_declared first) (counters_declared second) _ _ _ lengths.0 lengths.1 lengths.2 n in
        let there = placed_like p scope scope here (typed.past_body here ss) seen accs h refl h.shown (λ a at. at) in
        three_none _ _ _ (still_right p scope here seen accs h (Some Bit) Bit refl c well.0 (λ a k. (spares a k).0))
        (body_right t scope here seen accs h well.1 mine (first_part (mems_declared first) (mems_declared second) (vals_declared first) (vals_declared second) (counters_declared first) (counters_declared second) n) (λ a k. (spares a k).1))
        (body_right u scope (typed.past_body here ss) seen accs there well.2 (right_right p (mems_declared first) (mems_declared second) r) numbered (λ a k. (spares a k).2))
