-- What a walk adds, in turn, and that it stands.
use Rattle.std.proofs.Common.{◌≡◌, ℕ, zero, suc, ◌+◌, ◌<◌, List, [], ◌∷◌, ◌++◌, length, map, slice_index, slice_index_or, All, Option, append_assoc, refl, sym, ap, subst, ◌∙◌, arith}
use Rattle.std.proofs.lemmas.List.{append-nil, map-append}
use Rattle.std.proofs.lemmas.List.Elements.{All-append}
use Rattle.sp_netlist.specs.Draft.{Draft}
use Rattle.sp_gates.specs.Nets.{HasNet}
use Rattle.sp_core.specs.declared.node.CoreCounter.{CoreCounter}
use Rattle.sp_core.specs.declared.node.CoreSpan.{CoreSpan}
use Rattle.sp_core.specs.declared.operation.Op.{Op}
use Rattle.sp_core.specs.Plain.{plain_counter, plain_op, plain_ops, plain_span}
use Rattle.sp_core.specs.PlainCore.{PlainOp, PlainCounter, PlainSpan, single, range, PlainCore}
use Rattle.sp_mem.specs.Fits.{CopyFits}
use Rattle.sp_tree_events.specs.CopiesStanding.{CopyNets}
use Rattle.sp_copy_nets.specs.Numbers.{StandNumbers}
use Rattle.sp_copy_nets.specs.Table.{numbers_at}
use Rattle.sp_tree_handed.specs.declared.owners.Keeping.{Keeping}
use Rattle.sp_tree_handed.specs.declared.owners.LoopTurns.{LoopTurns}
use Rattle.sp_tree_handed.specs.declared.owners.Renewal.{Renewal}
use Rattle.sp_tree_handed.specs.Owners.{renewal, keeping}
use Rattle.sp_tree_handed.specs.Standing.{KeepingStands, AreOwnersStanding}
use Rattle.sp_tree_copies.specs.declared.numbers.LoopCopies.{LoopCopies}
use Rattle.sp_tree_copies.specs.declared.walk.Walk.{Walk}
use Rattle.sp_tree_copies.specs.Naming.{name_of, names_of, bound_names, span_names, transfer_names, renewed_by}
use Rattle.sp_tree_copies.specs.Walks.{Adds, AllStand, WalkStands}
use Rattle.sp_tree_copies.proofs.Tables.{net_fits, name_fits, stand_more}

pub adds_none : (a : Walk) → Adds [] [] [] 0 0 a a
adds_none a = record {
  names_are = sym (append-nil a.names.items);
  renewed_are = sym (append-nil a.renewed.items);
  kept_are = sym (append-nil a.kept.items);
  loops_are = omega arith;
  states_are = omega arith;
}

-- one behind the other
behind : {A : Type 0} (a b c xs ys : List A) → b ≡ a ++ xs → c ≡ b ++ ys → c ≡ a ++ (xs ++ ys)
behind a b c xs ys e f = f ∙ ap (λ l. l ++ ys) e ∙ append_assoc a xs ys

pub adds_join : (ns ms : List (Option ℕ)) (rs ss : List Renewal) (ks js : List Keeping) (l p m q : ℕ) (a b c : Walk) → Adds ns rs ks l m a b → Adds ms ss js p q b c → Adds (ns ++ ms) (rs ++ ss) (ks ++ js) (l + p) (m + q) a c
adds_join ns ms rs ss ks js l p m q a b c f g = record {
  names_are = behind a.names.items b.names.items c.names.items ns ms f.names_are g.names_are;
  renewed_are = behind a.renewed.items b.renewed.items c.renewed.items rs ss f.renewed_are g.renewed_are;
  kept_are = behind a.kept.items b.kept.items c.kept.items ks js f.kept_are g.kept_are;
  loops_are = (let x = f.loops_are in let y = g.loops_are in omega (arith, x, y));
  states_are = (let x = f.states_are in let y = g.states_are in omega (arith, x, y));
}

-- names alone
pub names_join : (ns ms : List (Option ℕ)) (a b c : Walk) → Adds ns [] [] 0 0 a b → Adds ms [] [] 0 0 b c → Adds (ns ++ ms) [] [] 0 0 a c
names_join ns ms a b c f g = adds_join ns ms [] [] [] [] 0 0 0 0 a b c f g

names_append : (around : CopyNets) (xs ys : List PlainOp) → names_of around (xs ++ ys) ≡ names_of around xs ++ names_of around ys
names_append around [] ys = refl
names_append around (x ∷ xs) ys = ap (λ l. name_of around x.mem ∷ l) (names_append around xs ys)

bounds_append : (around : CopyNets) (xs ys : List PlainCounter) → bound_names around (xs ++ ys) ≡ bound_names around xs ++ bound_names around ys
bounds_append around [] ys = refl
bounds_append around (x ∷ xs) ys =
    ap (λ l. names_of around x.from ++ (names_of around x.until ++ l)) (bounds_append around xs ys)
    ∙ ap (λ l. names_of around x.from ++ l) (sym (append_assoc (names_of around x.until) (bound_names around xs) (bound_names around ys)))
    ∙ sym (append_assoc (names_of around x.from) (names_of around x.until ++ bound_names around xs) (bound_names around ys))

spans_append : (around : CopyNets) (xs ys : List PlainSpan) → span_names around (xs ++ ys) ≡ span_names around xs ++ span_names around ys
spans_append around [] ys = refl
spans_append around (single ops ∷ xs) ys = ap (λ l. names_of around ops ++ l) (spans_append around xs ys) ∙ sym (append_assoc (names_of around ops) (span_names around xs) (span_names around ys))
spans_append around (range a b ∷ xs) ys =
    ap (λ l. names_of around a ++ (names_of around b ++ l)) (spans_append around xs ys)
    ∙ ap (λ l. names_of around a ++ l) (sym (append_assoc (names_of around b) (span_names around xs) (span_names around ys)))
    ∙ sym (append_assoc (names_of around a) (names_of around b ++ span_names around xs) (span_names around ys))

pub op_step : (around : CopyNets) (front next : List Op) (op : Op) (net : Option ℕ) (a b c : Walk) → next ≡ front ++ op ∷ [] → net ≡ name_of around op.mem → c.names.items ≡ b.names.items ++ net ∷ [] → c.renewed.items ≡ b.renewed.items → c.kept.items ≡ b.kept.items
    → c.loops ≡ b.loops → c.states ≡ b.states → Adds (names_of around (plain_ops front)) [] [] 0 0 a b → Adds (names_of around (plain_ops next)) [] [] 0 0 a c
op_step around front next op net a b c next_is net_is names renewed kept loops states h =
    subst (λ ns. Adds ns [] [] 0 0 a c) (sym (ap (λ l. names_of around (plain_ops l)) next_is ∙ ap (names_of around) (map-append plain_op front (op ∷ [])) ∙ names_append around (plain_ops front) (plain_op op ∷ [])))
    (names_join (names_of around (plain_ops front)) (name_of around op.mem ∷ []) a b c h (record {
      names_are = names ∙ ap (λ n. b.names.items ++ n ∷ []) net_is;
      renewed_are = renewed ∙ sym (append-nil b.renewed.items);
      kept_are = kept ∙ sym (append-nil b.kept.items);
      loops_are = (let e = loops in omega (arith, e));
      states_are = (let e = states in omega (arith, e));
    }))

pub op_stands : (d : Draft) (core : PlainCore) (around : List (Option ℕ)) (m net : Option ℕ) (b c : Walk) → net ≡ name_of (numbers_at around) m → c.names.items ≡ b.names.items ++ net ∷ [] → c.renewed.items ≡ b.renewed.items → c.kept.items ≡ b.kept.items
    → StandNumbers d around → WalkStands d core b → WalkStands d core c
op_stands d core around m net b c net_is names renewed kept stand h = record {
  names = subst (StandNumbers d) (sym names) (stand_more d b.names.items net h.names (subst (CopyFits d) (sym net_is) (name_fits d around m stand)));
  owners = subst (λ rs. AreOwnersStanding d core rs c.kept.items) (sym renewed) (subst (AreOwnersStanding d core b.renewed.items) (sym kept) h.owners);
  renewed = subst (All (λ (r : Renewal). CopyFits d r.copy)) (sym renewed) h.renewed;
  kept = subst (All (λ (k : Keeping). CopyFits d k.copy)) (sym kept) h.kept;
}

pub counter_step : (around : CopyNets) (front next : List CoreCounter) (counter : CoreCounter) (from until : List PlainOp) (a b m c : Walk) → next ≡ front ++ counter ∷ [] → from ≡ plain_ops counter.from.items → until ≡ plain_ops counter.until.items
    → Adds (bound_names around (map plain_counter front)) [] [] 0 0 a b → Adds (names_of around from) [] [] 0 0 b m → Adds (names_of around until) [] [] 0 0 m c → Adds (bound_names around (map plain_counter next)) [] [] 0 0 a c
counter_step around front next counter from until a b m c next_is from_is until_is h f g =
    subst (λ ns. Adds ns [] [] 0 0 a c) (sym (ap (λ l. bound_names around (map plain_counter l)) next_is ∙ ap (bound_names around) (map-append plain_counter front (counter ∷ [])) ∙ bounds_append around (map plain_counter front) (plain_counter counter ∷ [])
    ∙ ap (λ l. bound_names around (map plain_counter front) ++ (names_of around (plain_ops counter.from.items) ++ l)) (append-nil (names_of around (plain_ops counter.until.items)))))
    (names_join (bound_names around (map plain_counter front)) (names_of around (plain_ops counter.from.items) ++ names_of around (plain_ops counter.until.items)) a b c h
    (names_join (names_of around (plain_ops counter.from.items)) (names_of around (plain_ops counter.until.items)) b m c (subst (λ o. Adds (names_of around o) [] [] 0 0 b m) from_is f) (subst (λ o. Adds (names_of around o) [] [] 0 0 m c) until_is g)))

-- those of a span's ends, span by span
pub index_adds : (around : CopyNets) (span : PlainSpan) (ops own : List PlainOp) (a b : Walk) → span ≡ single ops → own ≡ ops → Adds (names_of around own) [] [] 0 0 a b → Adds (span_names around (span ∷ [])) [] [] 0 0 a b
index_adds around span ops own a b is own_is h =
    subst (λ v. Adds (span_names around (v ∷ [])) [] [] 0 0 a b) (sym is)
    (subst (λ ns. Adds ns [] [] 0 0 a b) (ap (names_of around) own_is ∙ sym (append-nil (names_of around ops))) h)

pub range_adds : (around : CopyNets) (span : PlainSpan) (first other own_first own_other : List PlainOp) (a b c : Walk) → span ≡ range first other → own_first ≡ first → own_other ≡ other
    → Adds (names_of around own_first) [] [] 0 0 a b → Adds (names_of around own_other) [] [] 0 0 b c → Adds (span_names around (span ∷ [])) [] [] 0 0 a c
range_adds around span first other own_first own_other a b c is first_is other_is f g =
    subst (λ v. Adds (span_names around (v ∷ [])) [] [] 0 0 a c) (sym is)
    (names_join (names_of around first) (names_of around other ++ []) a b c (subst (λ o. Adds (names_of around o) [] [] 0 0 a b) first_is f)
    (subst (λ ns. Adds ns [] [] 0 0 b c) (ap (names_of around) other_is ∙ sym (append-nil (names_of around other))) g))

pub span_step : (around : CopyNets) (front next : List CoreSpan) (span : CoreSpan) (a b c : Walk) → next ≡ front ++ span ∷ []
    → Adds (span_names around (map plain_span front)) [] [] 0 0 a b → Adds (span_names around (plain_span span ∷ [])) [] [] 0 0 b c → Adds (span_names around (map plain_span next)) [] [] 0 0 a c
span_step around front next span a b c next_is h f =
    subst (λ ns. Adds ns [] [] 0 0 a c) (sym (ap (λ l. span_names around (map plain_span l)) next_is ∙ ap (span_names around) (map-append plain_span front (span ∷ [])) ∙ spans_append around (map plain_span front) (plain_span span ∷ [])))
    (names_join (span_names around (map plain_span front)) (span_names around (plain_span span ∷ [])) a b c h f)

-- and behind them the net of a load's memory
pub load_adds : (around : CopyNets) (m : ℕ) (spans own : List CoreSpan) (net : Option ℕ) (a b c : Walk) → own ≡ spans → net ≡ around m → c.names.items ≡ b.names.items ++ net ∷ [] → c.renewed.items ≡ b.renewed.items → c.kept.items ≡ b.kept.items → c.loops ≡ b.loops → c.states ≡ b.states
    → Adds (span_names around (map plain_span own)) [] [] 0 0 a b → Adds (transfer_names around m (map plain_span spans)) [] [] 0 0 a c
load_adds around m spans own net a b c own_is net_is names renewed kept loops states h =
    names_join (span_names around (map plain_span spans)) (around m ∷ []) a b c (subst (λ l. Adds (span_names around (map plain_span l)) [] [] 0 0 a b) own_is h) (record {
      names_are = names ∙ ap (λ n. b.names.items ++ n ∷ []) net_is;
      renewed_are = renewed ∙ sym (append-nil b.renewed.items);
      kept_are = kept ∙ sym (append-nil b.kept.items);
      loops_are = (let e = loops in omega (arith, e));
      states_are = (let e = states in omega (arith, e));
    })

-- the next net of a state stands
all_end : {A : Type 0} (P : A → Type 0) (xs : List A) (x : A) → All P xs → P x → All P (xs ++ x ∷ [])
all_end P xs x h p = All-append P xs (x ∷ []) h (λ k y lt. one k y lt)
  where
    one : (k : ℕ) (y : _) → k < length (x ∷ []) → P (slice_index_or (x ∷ []) k y)
    one zero y lt = p
    one (suc k) y lt = absurd (omega (arith, lt))

pub keep_stands : (d : Draft) (core : PlainCore) (turns : List LoopTurns) (kept : List Keeping) (loops : List LoopCopies) (around : List (Option ℕ)) (at m : ℕ) (x : Keeping) (copy : Option ℕ) (b c : Walk) → at < length kept → x ≡ slice_index_or kept at x → copy ≡ numbers_at around m
    → c.names.items ≡ b.names.items → c.renewed.items ≡ b.renewed.items → c.kept.items ≡ b.kept.items ++ keeping x.mem x.done x.word copy ∷ []
    → AllStand core turns kept loops d → StandNumbers d around → WalkStands d core b → WalkStands d core c
keep_stands d core turns kept loops around at m x copy b c lt is copy_is names renewed kept_is all stand h =
    let one : KeepingStands d core x = subst (KeepingStands d core) (sym is) (all.handed.kept at x lt) in
    record {
      names = subst (StandNumbers d) (sym names) h.names;
      owners = subst (λ rs. AreOwnersStanding d core rs c.kept.items) (sym renewed) (subst (AreOwnersStanding d core b.renewed.items) (sym kept_is) (record {
        renewed = h.owners.renewed;
        kept = all_end (KeepingStands d core) b.kept.items (keeping x.mem x.done x.word copy) h.owners.kept (record { done = one.done; word = one.word });
      }));
      renewed = subst (All (λ (r : Renewal). CopyFits d r.copy)) (sym renewed) h.renewed;
      kept = subst (All (λ (k : Keeping). CopyFits d k.copy)) (sym kept_is) (all_end (λ (k : Keeping). CopyFits d k.copy) b.kept.items (keeping x.mem x.done x.word copy) h.kept (subst (CopyFits d) (sym copy_is) (net_fits d around m stand)));
    }

-- a loop's renewals, one by one
pub renewal_step : (first_by : ℕ → ℕ) (firsts : List ℕ) (coming : ℕ → CopyNets) (front next : List ℕ) (m : ℕ) (r : Renewal) (a b c : Walk) → next ≡ front ++ m ∷ [] → r ≡ renewal m (slice_index firsts (first_by m)) (coming (first_by m) m) → c.renewed.items ≡ b.renewed.items ++ r ∷ []
    → c.names.items ≡ b.names.items → c.kept.items ≡ b.kept.items → c.loops ≡ b.loops → c.states ≡ b.states → Adds [] (renewed_by first_by firsts coming front) [] 0 0 a b → Adds [] (renewed_by first_by firsts coming next) [] 0 0 a c
renewal_step first_by firsts coming front next m r a b c next_is r_is renewed names kept loops states h =
    subst (λ rs. Adds [] rs [] 0 0 a c) (sym (ap (renewed_by first_by firsts coming) next_is ∙ map-append (λ m. renewal m (slice_index firsts (first_by m)) (coming (first_by m) m)) front (m ∷ [])))
    (adds_join [] [] (renewed_by first_by firsts coming front) (renewal m (slice_index firsts (first_by m)) (coming (first_by m) m) ∷ []) [] [] 0 0 0 0 a b c h (record {
      names_are = names ∙ sym (append-nil b.names.items);
      renewed_are = renewed ∙ ap (λ x. b.renewed.items ++ x ∷ []) r_is;
      kept_are = kept ∙ sym (append-nil b.kept.items);
      loops_are = (let e = loops in omega (arith, e));
      states_are = (let e = states in omega (arith, e));
    }))

pub renewal_stands : (d : Draft) (core : PlainCore) (r : Renewal) (b c : Walk) → c.renewed.items ≡ b.renewed.items ++ r ∷ [] → c.names.items ≡ b.names.items → c.kept.items ≡ b.kept.items → HasNet d r.first 1 → CopyFits d r.copy → WalkStands d core b → WalkStands d core c
renewal_stands d core r b c renewed names kept first copy h = record {
  names = subst (StandNumbers d) (sym names) h.names;
  owners = subst (λ rs. AreOwnersStanding d core rs c.kept.items) (sym renewed) (subst (AreOwnersStanding d core (b.renewed.items ++ r ∷ [])) (sym kept) (record {
    renewed = all_end (λ (r : Renewal). HasNet d r.first 1) b.renewed.items r h.owners.renewed first;
    kept = h.owners.kept;
  }));
  renewed = subst (All (λ (r : Renewal). CopyFits d r.copy)) (sym renewed) (all_end (λ (r : Renewal). CopyFits d r.copy) b.renewed.items r h.renewed copy);
  kept = subst (All (λ (k : Keeping). CopyFits d k.copy)) (sym kept) h.kept;
}
