-- The stages of a loop but the one that combines, and what holds of them.
use Rattle.std.proofs.Common.{◌≡◌, ℕ, Bool, true, false, not, ◌&&◌, ◌||◌, List, [], ◌∷◌, ◌++◌, length, nat_lt, Option, None, Some, refl, sym, ◌∙◌, ap, subst}
use Rattle.std.proofs.lemmas.Bool.{and_parts, and_from}
use Rattle.sp_words.specs.declared.types.Ty.{Ty}
use Rattle.sp_core.specs.declared.operation.OpKind.{OpKind}
use Rattle.sp_core.specs.Around.{Around, within, is_port_kind, is_usable}
use Rattle.sp_core.specs.Declarations.{mem, is_among}
use Rattle.sp_core.specs.Footprint.{MayName, ListNames, StagesName}
use Rattle.sp_core.specs.OperationRules.{is_access, is_in_range, can, names_rightly, indices_of, is_mask, is_operation_right, are_operations_right_after, are_operations_right}
use Rattle.sp_core.specs.Typed.{Given, is_type, given_type, taken_types, give_all}
use Rattle.sp_core.specs.History.{History, Runs, no_run, masked_run, more_run}
use Rattle.sp_core.specs.Invariant.{owned_in, AreRight, IsRight}
use Rattle.sp_core.specs.PlainCore.{PlainOp, PlainCounter, PlainNode, PlainStages, no_stage, more_stage, PlainCore}
use Rattle.sp_core.specs.Scope.{plainly, is_some_live, Scope}
use Rattle.sp_core.specs.Sequential.{run, run_stages}
use Rattle.sp_core.specs.Step.{Step, went, pure, ◌>>=◌}
use Rattle.sp_core.specs.Store.{Store}
use Rattle.sp_lanes.specs.Unrolled.{node_in, nodes_in, combination_of}
use Rattle.sp_lanes.specs.Within.{Within}
use Rattle.sp_lane_rules.specs.Copies.{OwnInLanes}
use Rattle.sp_lane_rules.proofs.UnrolledPlaces.{among_both}
use Rattle.sp_lane_cores.specs.LanedMarks.{NoneCombines}
use Rattle.sp_lane_groups.proofs.LiveAlong.{answer_of, store_of}
use Rattle.sp_lane_groups.proofs.Renewed.{bind_known, bind_split}
use Rattle.sp_lane_groups.specs.PlainNodes.{IsNodePlain, AreStagesPlain}
use Rattle.sp_lane_trees.proofs.LanesAlike.{HasEnd, here, later}
use Rattle.sp_lane_trees.specs.ReductionsChanges.{StagesChange}
use Rattle.sp_lane_trees.specs.StagesLaws.{AreOfFirst}
use Rattle.sp_lane_groups.specs.InnersAlike.{own_stages, own_runs}
use Rattle.sp_lane_trees.specs.ReductionsReduction.{IsReduction, LastCombinesWord}

-- steps by a choice that is made
chosen_true : {A : Type 0} (b : Bool) (one other : Step A) (s : Store) → b ≡ true → (elim b as (λ _. Step A) [ true ↦ one | false ↦ other ]) s ≡ one s
chosen_true {A = A} b one other s e = ap (λ c. (elim c as (λ _. Step A) [ true ↦ one | false ↦ other ]) s) e

-- the stages of a lane are those
pub nodes_same : (order : List ℕ) (w : Within) (stages : PlainStages) → nodes_in order w (own_stages stages) ≡ nodes_in order w stages
unfolding nodes_in
nodes_same order w no_stage = refl
nodes_same order w (more_stage first last true node rest) = nodes_same order w rest
nodes_same order w (more_stage first last false node rest) = ap (λ ns. node_in order w node ∷ ns) (nodes_same order w rest)

-- what may be named before a combination: what the loop owns; or what is kept, isn't the combination's own, and is used outside
abbrev pub named_before : PlainCore → Around → (owned : List ℕ) → (is kept : ℕ → Bool) → ℕ → Bool
named_before core around owned is kept m = is_among m owned || (kept m && (is m && is_usable core around m))

-- what passes three tests passes a fourth
names_of : (core : PlainCore) (a b c d : ℕ → Bool) → ((m : ℕ) → a m ≡ true → b m ≡ true → c m ≡ true → d m ≡ true) → (ops : List PlainOp) → ListNames core a ops → ListNames core b ops → ListNames core c ops → ListNames core d ops
names_of core a b c d f [] h k l = tt
names_of core a b c d f (op ∷ ops) h k l = (one op.mem h.0 k.0 l.0, names_of core a b c d f ops h.1 k.1 l.1)
  where
    one : (m : Option ℕ) → MayName core a m → MayName core b m → MayName core c m → MayName core d m
    one None h k l = tt
    one (Some m) h k l = f m h k l

-- what operations name that are right may be used
usable_named : (core : PlainCore) (around : Around) (earlier : Given) (ops : List PlainOp) → are_operations_right_after core around earlier ops ≡ true → ListNames core (is_usable core around) ops
usable_named core around earlier [] e = tt
usable_named core around earlier (op ∷ ops) e =
    let a = and_parts (is_operation_right core around earlier op) (are_operations_right_after core around (earlier ++ given_type op.kind op.ty ∷ []) ops) e in
    let b = and_parts (is_in_range op.kind op.ty around && names_rightly core around op.kind op.ty op.mem) (give_all earlier op.args (taken_types op.kind op.ty (indices_of core around op.mem)) && is_mask core around earlier op.mask) a.0 in
    let n = and_parts (is_in_range op.kind op.ty around) (names_rightly core around op.kind op.ty op.mem) b.0 in
    (one op.kind op.ty op.mem n.1, usable_named core around (earlier ++ given_type op.kind op.ty ∷ []) ops a.1)
  where
    one : (kind : OpKind) (ty : Ty) (m : Option ℕ) → names_rightly core around kind ty m ≡ true → MayName core (is_usable core around) m
    one kind ty None e = tt
    one kind ty (Some m) e = (and_parts (is_access kind) (is_usable core around m) (and_parts (is_access kind && is_usable core around m) (can kind (mem core m).kind (mem core m).start && is_type ty (mem core m).ty) e).0).1

-- what may be used in a loop is owned by it, or may be used outside
usable_out : (core : PlainCore) (around : Around) (counters : List PlainCounter) (owned : List ℕ) (m : ℕ) → is_usable core (within around counters owned) m ≡ true → is_among m owned ≡ false → is_usable core around m ≡ true
usable_out core around counters owned m u i =
    let a = and_parts (nat_lt m (length core.mems)) (is_port_kind (mem core m).kind || is_among m (owned ++ around.owned)) u in
    and_from (nat_lt m (length core.mems)) (is_port_kind (mem core m).kind || is_among m around.owned) a.0
    (ap (λ b. is_port_kind (mem core m).kind || (b || is_among m around.owned)) (sym i) ∙ ap (λ b. is_port_kind (mem core m).kind || b) (sym (among_both m owned around.owned)) ∙ a.1)

pub front_named : (core : PlainCore) (around : Around) (owned : List ℕ) (counters : List PlainCounter) (is kept : ℕ → Bool) (ops : List PlainOp) → ListNames core is ops → ListNames core (λ m. is_among m owned || kept m) ops → are_operations_right core (within around counters owned) ops ≡ true
    → ListNames core (named_before core around owned is kept) ops
front_named core around owned counters is kept ops names own right =
    names_of core is (λ m. is_among m owned || kept m) (is_usable core (within around counters owned)) (named_before core around owned is kept) named ops names own (usable_named core (within around counters owned) [] ops right)
  where
    named : (m : ℕ) → is m ≡ true → (is_among m owned || kept m) ≡ true → is_usable core (within around counters owned) m ≡ true → named_before core around owned is kept m ≡ true
    named m i o u = by (is_among m owned) refl o
      where
        by : (b : Bool) → is_among m owned ≡ b → (b || kept m) ≡ true → (b || (kept m && (is m && is_usable core around m))) ≡ true
        by true j o = refl
        by false j o = and_from (kept m) (is m && is_usable core around m) o (and_from (is m) (is_usable core around m) i (usable_out core around counters owned m u j))

module _ (core : PlainCore) (owned : List ℕ) (is kept : ℕ → Bool) where
  pub none_combines : (stages : PlainStages) → LastCombinesWord core owned is kept stages → NoneCombines core (own_stages stages)
  none_combines no_stage h = tt
  none_combines (more_stage first last true node no_stage) h = tt
  none_combines (more_stage first last true node (more_stage f l c n rest)) h = absurd h
  none_combines (more_stage first last false node rest) h = none_combines rest h.2

  pub own_names : (stages : PlainStages) → LastCombinesWord core owned is kept stages → StagesName core is (own_stages stages)
  own_names no_stage h = tt
  own_names (more_stage first last true node no_stage) h = tt
  own_names (more_stage first last true node (more_stage f l c n rest)) h = absurd h
  own_names (more_stage first last false node rest) h = (h.0, own_names rest h.2)

  pub own_change : (stages : PlainStages) → LastCombinesWord core owned is kept stages → StagesChange core (λ m. not (kept m)) (own_stages stages)
  own_change no_stage h = tt
  own_change (more_stage first last true node no_stage) h = tt
  own_change (more_stage first last true node (more_stage f l c n rest)) h = absurd h
  own_change (more_stage first last false node rest) h = (h.1, own_change rest h.2)

  pub own_first : (stages : PlainStages) → LastCombinesWord core owned is kept stages → AreOfFirst stages → AreOfFirst (own_stages stages)
  own_first no_stage h f = tt
  own_first (more_stage first last true node no_stage) h f = tt
  own_first (more_stage first last true node (more_stage f l c n rest)) h k = absurd h
  own_first (more_stage first last false node rest) h f = (f.0, f.1, own_first rest h.2 f.2)

  pub own_right : (around : Around) (stages : PlainStages) (earlier : List ℕ) → LastCombinesWord core owned is kept stages → AreRight core around earlier stages → AreRight core around earlier (own_stages stages)
  own_right around no_stage earlier h r = tt
  own_right around (more_stage first last true node no_stage) earlier h r = tt
  own_right around (more_stage first last true node (more_stage f l c n rest)) earlier h r = absurd h
  own_right around (more_stage first last false node rest) earlier h r = (r.0, own_right around rest (earlier ++ owned_in node) h.2 r.1)

  pub own_lanes : (stages : PlainStages) → LastCombinesWord core owned is kept stages → OwnInLanes stages → OwnInLanes (own_stages stages)
  own_lanes no_stage h o = tt
  own_lanes (more_stage first last true node no_stage) h o = tt
  own_lanes (more_stage first last true node (more_stage f l c n rest)) h o = absurd h
  own_lanes (more_stage first last false node rest) h o = (o.0, own_lanes rest h.2 o.1)

  -- the one that combines: what it is, and that it is right by what stands around
  pub record Last (around : Around) (stages : PlainStages) : Type 0 where
    pub node : PlainNode
    pub combines : combination_of stages ≡ Some node
    pub reduces : IsReduction core owned is kept node
    pub earlier : List ℕ
    pub right : IsRight core around earlier node
    pub plain : IsNodePlain node

  pub last_of : (around : Around) (stages : PlainStages) (earlier : List ℕ) → LastCombinesWord core owned is kept stages → AreRight core around earlier stages → AreStagesPlain stages → Last around stages
  last_of around no_stage earlier h r p = absurd h
  last_of around (more_stage first last true node no_stage) earlier h r p = record { node = node; combines = refl; reduces = h; earlier = earlier; right = r.0; plain = p.0 }
  last_of around (more_stage first last true node (more_stage f l c n rest)) earlier h r p = absurd h
  last_of around (more_stage first last false node rest) earlier h r p =
      let x : Last around rest = last_of around rest (earlier ++ owned_in node) h.2 r.1 p.1 in
      record { node = x.node; combines = x.combines; reduces = x.reduces; earlier = x.earlier; right = x.right; plain = x.plain }

  -- a run of all stages is one of the others, and then one of the combination
  pub record Parted (turns : ℕ) (stages : PlainStages) (live : ℕ → Bool) (scope : Scope) (s after : Store) (whole : Runs) : Type 0 where
    pub runs : Runs
    pub between : Store
    pub own : run_stages core plainly turns (own_stages stages) live scope s ≡ went runs between
    pub node : PlainNode
    pub combines : combination_of stages ≡ Some node
    pub history : History
    pub ran : run core plainly turns node scope between ≡ went history after
    pub runs_are : own_runs stages whole ≡ runs
    pub ended : HasEnd stages whole node history

  pub parted : (turns : ℕ) (live : ℕ → Bool) (scope : Scope) → live 0 ≡ true → (stages : PlainStages) → LastCombinesWord core owned is kept stages → AreOfFirst stages → (s after : Store) (r : Runs) → run_stages core plainly turns stages live scope s ≡ went r after
      → Parted turns stages live scope s after r
  unfolding run_stages pure
  parted turns live scope on no_stage h firsts s after r ran = absurd h
  parted turns live scope on (more_stage f e true node (more_stage f2 e2 c2 n2 rest)) h firsts s after r ran = absurd h
  parted turns live scope on (more_stage f e true node no_stage) h firsts s after r ran =
      let is_on : is_some_live live f e ≡ true = ap (λ x. is_some_live live x e) firsts.0 ∙ ap (is_some_live live 0) firsts.1 ∙ on in
      let rest : Step Runs = run_stages core plainly turns no_stage live scope in
      let goes : (run core plainly turns node scope >>= (λ h. rest >>= (λ others. pure (more_run h others)))) s ≡ went r after =
      sym (chosen_true (is_some_live live f e) (run core plainly turns node scope >>= (λ h. rest >>= (λ others. pure (more_run h others)))) (rest >>= (λ others. pure (masked_run others))) s is_on) ∙ ran in
      let one = bind_split (run core plainly turns node scope) (λ h. rest >>= (λ others. pure (more_run h others))) s after r goes in
      let two = bind_split rest (λ others. pure (more_run one.0 others)) one.1 after r one.3 in
      record {
        runs = no_run;
        between = s;
        own = refl;
        node = node;
        combines = refl;
        history = one.0;
        ran = one.2 ∙ ap (λ u. went one.0 u) (ap (store_of s) two.2 ∙ ap (store_of s) two.3);
        runs_are = subst (λ q. own_runs (more_stage f e true node no_stage) q ≡ no_run) (ap (answer_of r) two.3) refl;
        ended = subst (λ q. HasEnd (more_stage f e true node no_stage) q node one.0) (ap (answer_of r) two.3) here;
      }
  parted turns live scope on (more_stage f e false node rest) h firsts s after r ran =
      let is_on : is_some_live live f e ≡ true = ap (λ x. is_some_live live x e) firsts.0 ∙ ap (is_some_live live 0) firsts.1 ∙ on in
      let goes : (run core plainly turns node scope >>= (λ h. run_stages core plainly turns rest live scope >>= (λ others. pure (more_run h others)))) s ≡ went r after =
      sym (chosen_true (is_some_live live f e) (run core plainly turns node scope >>= (λ h. run_stages core plainly turns rest live scope >>= (λ others. pure (more_run h others))))
      (run_stages core plainly turns rest live scope >>= (λ others. pure (masked_run others))) s is_on) ∙ ran in
      let one = bind_split (run core plainly turns node scope) (λ h. run_stages core plainly turns rest live scope >>= (λ others. pure (more_run h others))) s after r goes in
      let two = bind_split (run_stages core plainly turns rest live scope) (λ others. pure (more_run one.0 others)) one.1 after r one.3 in
      let x : Parted turns rest live scope one.1 two.1 two.0 = parted turns live scope on rest h.2 firsts.2 one.1 two.1 two.0 two.2 in
      record {
        runs = more_run one.0 x.runs;
        between = x.between;
        own = chosen_true (is_some_live live f e) (run core plainly turns node scope >>= (λ h. run_stages core plainly turns (own_stages rest) live scope >>= (λ others. pure (more_run h others))))
            (run_stages core plainly turns (own_stages rest) live scope >>= (λ others. pure (masked_run others))) s is_on
            ∙ bind_known (run core plainly turns node scope) (λ h. run_stages core plainly turns (own_stages rest) live scope >>= (λ others. pure (more_run h others))) s one.1 one.0 one.2
            ∙ bind_known (run_stages core plainly turns (own_stages rest) live scope) (λ others. pure (more_run one.0 others)) one.1 x.between x.runs x.own;
        node = x.node;
        combines = x.combines;
        history = x.history;
        ran = x.ran ∙ ap (λ u. went x.history u) (ap (store_of after) two.3);
        runs_are = subst (λ q. own_runs (more_stage f e false node rest) q ≡ more_run one.0 x.runs) (ap (answer_of r) two.3) (ap (λ z. more_run one.0 z) x.runs_are);
        ended = subst (λ q. HasEnd (more_stage f e false node rest) q x.node x.history) (ap (answer_of r) two.3) (later x.ended);
      }
