-- What holds of each transfer of one direction in a tree: what follows of it, and what holds of a transfer is known by what stands for it in a
-- list, and by its number.
use Rattle.std.proofs.Common.{◌≡◌, ℕ, zero, suc, ◌+◌, true, false, List, [], ◌∷◌, ◌++◌, length, refl, sym, ap, subst, inl, inr, arith}
use Rattle.std.specs.List.{Contains}
use Rattle.std.proofs.lemmas.List.Elements.{Contains-append_cases, Contains-append_left, Contains-append_right}
use Rattle.sp_netlist.specs.declared.parts.Child.{Child}
use Rattle.sp_netlist.specs.Signals.{Signals}
use Rattle.sp_core.specs.Around.{Near}
use Rattle.sp_core.specs.Numbering.{counters_size, spans_size, node_count, number_count}
use Rattle.sp_core.specs.PlainCore.{PlainSpan, PlainNode, PlainStages, inner, outer, fsm, branch, load, store, sparse, no_stage, more_stage, PlainCore}
use Rattle.sp_plan.specs.PlainPlan.{PlainPlan, node_plan}
use Rattle.sp_time.specs.Beats.{slot_at}
use Rattle.sp_machine.specs.Timeline.{slots_of}
use Rattle.sp_machine.specs.Transfers.{Delays}
use Rattle.sp_node_runs.specs.BodiesGiven.{Nets}
use Rattle.sp_node_runs.specs.BodiesLaws.{own_near}
use Rattle.sp_node_runs.specs.BodiesSpans.{SpanNets}
use Rattle.sp_tree_runs.specs.BodiesScoped.{Scoped, scoped_sides, scoped_bodies, scoped_stages}
use Rattle.sp_tree_circuits.specs.Answers.{EachTransfer, EachInStages}
use Rattle.sp_tree_circuits.specs.Circuits.{slot_nets, Circuit, StageCircuits}
use Rattle.sp_tree_handed.specs.declared.moves.Direction.{Direction}
use Rattle.sp_tree_handed.specs.declared.moves.Direction.TheVariants.{Load, Store}
use Rattle.sp_dram_words.specs.Moves.{Move, loads, stores, NodeMoves, StagesMove}
use Rattle.sp_stored_cores.specs.Moves.{node_of, move_of, OfBoth, OneAlone, OneIf, MovesAre, StagesMoveSo}

none_there : {E : Type 0} (a : E) → Contains [] a → ⊥
none_there a c = let l = c.1 in omega (arith, l)

one_there : {E : Type 0} (a b : E) → Contains (b ∷ []) a → b ≡ a
one_there a b (zero, l, e) = e
one_there a b (suc k, l, e) = absurd (omega (arith, l))

-- the DRAM and the memory of a move
abbrev dram_in : Move → ℕ
dram_in (loads r m) = r
dram_in (stores r m) = r

abbrev mem_in : Move → ℕ
mem_in (loads r m) = m
mem_in (stores r m) = m

module _ {E : Type 0} where
  -- of an element in two lists
  pub of_both : (One Other : List E → Type 0) (list : List E) (h : OfBoth One Other list) (a : E) {R : Type 0} → Contains list a → ((Contains h.one a) → R) → ((Contains h.other a) → R) → R
  of_both One Other list h a there left right = elim (Contains-append_cases h.one h.other a (subst (λ ls. Contains ls a) h.are there)) [
    | inl own ↦ left own
    | inr later ↦ right later
  ]

  -- of one transfer, which may be of the direction in hand
  leaf_gives : (way own : Direction) (P R : E → Type 0) (list : List E) → (own ≡ way → (a : E) → P a → R a) → OneIf way own P list → OneIf way own R list
  leaf_gives Load Load P R list f h = record { access = h.access; are = h.are; is = f refl h.access h.is }
  leaf_gives Load Store P R list f h = h
  leaf_gives Store Load P R list f h = h
  leaf_gives Store Store P R list f h = record { access = h.access; are = h.are; is = f refl h.access h.is }

  leaf_access : (way own : Direction) (P : E → Type 0) (list : List E) (a : E) {R : Type 0} → OneIf way own P list → Contains list a → (own ≡ way → P a → R) → R
  leaf_access Load Load P list a h there f = f refl (subst P (one_there a h.access (subst (λ ls. Contains ls a) h.are there)) h.is)
  leaf_access Load Store P list a h there f = absurd (none_there a (subst (λ ls. Contains ls a) h there))
  leaf_access Store Load P list a h there f = absurd (none_there a (subst (λ ls. Contains ls a) h there))
  leaf_access Store Store P list a h there f = f refl (subst P (one_there a h.access (subst (λ ls. Contains ls a) h.are there)) h.is)

  -- it is the one of a number, if it is the move that stands there
  load_number : (way : Direction) (P : (r m : ℕ) → E → Type 0) (list : List E) (q m r l : ℕ) → OneIf way Load (P r l) list → move_of way q m ≡ loads r l → OneAlone (P q m) list
  load_number Load P list q m r l h e = subst (λ y. OneAlone (P y m) list) (sym (ap dram_in e)) (subst (λ y. OneAlone (P r y) list) (sym (ap mem_in e)) h)
  load_number Store P list q m r l h e = absurd (cc)

  store_number : (way : Direction) (P : (r m : ℕ) → E → Type 0) (list : List E) (q m r l : ℕ) → OneIf way Store (P r l) list → move_of way q m ≡ stores r l → OneAlone (P q m) list
  store_number Load P list q m r l h e = absurd (cc)
  store_number Store P list q m r l h e = subst (λ y. OneAlone (P y m) list) (sym (ap dram_in e)) (subst (λ y. OneAlone (P r y) list) (sym (ap mem_in e)) h)

module _ (core : PlainCore) (plan : PlainPlan) (delays : Delays) (s : Signals) where
  abbrev OfTransfer : Type 1
  OfTransfer = PlainNode → (node n : ℕ) → List Scoped → Child → List SpanNets → Type 0

  abbrev OfMove : Type 0 → Type 1
  OfMove E = (r m : ℕ) (spans : List PlainSpan) (node n : ℕ) → List Scoped → Child → List SpanNets → E → Type 0

  -- what holds of each transfer of a direction, and what holds of all transfers, give what follows of both
  module _ {E : Type 0} (way : Direction) (P R : OfMove E) (Q : OfTransfer) (step : (r m : ℕ) (spans : List PlainSpan) (k n : ℕ) (qs : List Scoped) (c : Child) (nets : List SpanNets) (a : E) → P r m spans k n qs c nets a → Q (node_of way r m spans) k n qs c nets → R r m spans k n qs c nets a) where
    mutual
      pub both_give : (node : PlainNode) (near : List Near) (env : Nets) (k n : ℕ) (qs : List Scoped) (c : Child) (w : Circuit core plan s node near env k c) (list : List E)
          → MovesAre way core plan delays s P node near env k n qs c w list → EachTransfer core plan delays s Q node near env k n qs c w → MovesAre way core plan delays s R node near env k n qs c w list
      both_give (branch ops first second) near env k n qs c w list h e = record {
        one = h.one;
        other = h.other;
        are = h.are;
        first = both_give first near env (suc k) (n + length ops) (scoped_sides core plan delays ops k true qs) w.chosen w.one h.one h.first e.0;
        second = both_give second near env (suc k + node_count first) (n + (length ops + number_count first)) (scoped_sides core plan delays ops k false qs) w.left w.other h.other h.second e.1;
      }
      both_give (fsm start state ops node after) near env k n qs c w list h e = both_give node near env (suc k) (n + (length start + length ops)) (scoped_bodies core plan delays start ops after node k n qs) w.body w.goes list h e
      both_give (outer counters style owned stages) near env k n qs c w list h e =
          stages_give stages (own_near counters near) (suc k) (n + counters_size counters) 0 (λ i. slot_nets w.nets w.rows env counters (slot_at (slots_of (node_plan plan k)) i).slot) (λ i. scoped_stages core plan delays counters owned stages k n i qs) w.child w.parts list h e
      both_give (inner counters owned ops comb) near env k n qs c w list h e = h
      both_give (load r m spans) near env k n qs c w list h e = leaf_gives way Load (P r m spans k n qs c w.nets) (R r m spans k n qs c w.nets) list (λ same a p. step r m spans k n qs c w.nets a p (subst (λ d. Q (node_of d r m spans) k n qs c w.nets) same e)) h
      both_give (store r m spans) near env k n qs c w list h e = leaf_gives way Store (P r m spans k n qs c w.nets) (R r m spans k n qs c w.nets) list (λ same a p. step r m spans k n qs c w.nets a p (subst (λ d. Q (node_of d r m spans) k n qs c w.nets) same e)) h
      both_give (sparse kind r m places spans count par) near env k n qs c w list h e = absurd h

      stages_give : (stages : PlainStages) (near : List Near) (j n i : ℕ) (nets : (stage : ℕ) → Nets) (qs : (stage : ℕ) → List Scoped) (child : (stage : ℕ) → Child) (w : StageCircuits core plan s stages near j i nets child) (list : List E)
          → StagesMoveSo way core plan delays s P stages near j n i nets qs child w list → EachInStages core plan delays s Q stages near j n i nets qs child w → StagesMoveSo way core plan delays s R stages near j n i nets qs child w list
      stages_give no_stage near j n i nets qs child w list h e = h
      stages_give (more_stage first last comb node rest) near j n i nets qs child w list h e = record {
        one = h.one;
        other = h.other;
        are = h.are;
        first = both_give node near (nets i) j n (qs i) (child i) w.0 h.one h.first e.0;
        second = stages_give rest near (j + node_count node) (n + number_count node) (suc i) nets qs child w.1 h.other h.second e.1;
      }

  -- what follows of each load and of each store holds of each transfer
  module _ {E F : Type 0} (P : OfMove E) (O : OfMove F) (Q : OfTransfer) (of_load : (r m : ℕ) (spans : List PlainSpan) (k n : ℕ) (qs : List Scoped) (c : Child) (nets : List SpanNets) (a : E) → P r m spans k n qs c nets a → Q (load r m spans) k n qs c nets)
      (of_store : (r m : ℕ) (spans : List PlainSpan) (k n : ℕ) (qs : List Scoped) (c : Child) (nets : List SpanNets) (a : F) → O r m spans k n qs c nets a → Q (store r m spans) k n qs c nets) where
    mutual
      pub transfers_follow : (node : PlainNode) (near : List Near) (env : Nets) (k n : ℕ) (qs : List Scoped) (c : Child) (w : Circuit core plan s node near env k c) (loading : List E) (storing : List F)
          → MovesAre Load core plan delays s P node near env k n qs c w loading → MovesAre Store core plan delays s O node near env k n qs c w storing → EachTransfer core plan delays s Q node near env k n qs c w
      transfers_follow (branch ops first second) near env k n qs c w loading storing h j = (
        transfers_follow first near env (suc k) (n + length ops) (scoped_sides core plan delays ops k true qs) w.chosen w.one h.one j.one h.first j.first,
        transfers_follow second near env (suc k + node_count first) (n + (length ops + number_count first)) (scoped_sides core plan delays ops k false qs) w.left w.other h.other j.other h.second j.second,
      )
      transfers_follow (fsm start state ops node after) near env k n qs c w loading storing h j = transfers_follow node near env (suc k) (n + (length start + length ops)) (scoped_bodies core plan delays start ops after node k n qs) w.body w.goes loading storing h j
      transfers_follow (outer counters style owned stages) near env k n qs c w loading storing h j =
          stages_follow stages (own_near counters near) (suc k) (n + counters_size counters) 0 (λ i. slot_nets w.nets w.rows env counters (slot_at (slots_of (node_plan plan k)) i).slot) (λ i. scoped_stages core plan delays counters owned stages k n i qs) w.child w.parts loading storing h j
      transfers_follow (inner counters owned ops comb) near env k n qs c w loading storing h j = tt
      transfers_follow (load r m spans) near env k n qs c w loading storing h j = of_load r m spans k n qs c w.nets h.access h.is
      transfers_follow (store r m spans) near env k n qs c w loading storing h j = of_store r m spans k n qs c w.nets j.access j.is
      transfers_follow (sparse kind r m places spans count par) near env k n qs c w loading storing h j = absurd h

      stages_follow : (stages : PlainStages) (near : List Near) (j n i : ℕ) (nets : (stage : ℕ) → Nets) (qs : (stage : ℕ) → List Scoped) (child : (stage : ℕ) → Child) (w : StageCircuits core plan s stages near j i nets child) (loading : List E) (storing : List F)
          → StagesMoveSo Load core plan delays s P stages near j n i nets qs child w loading → StagesMoveSo Store core plan delays s O stages near j n i nets qs child w storing → EachInStages core plan delays s Q stages near j n i nets qs child w
      stages_follow no_stage near j n i nets qs child w loading storing h o = tt
      stages_follow (more_stage first last comb node rest) near j n i nets qs child w loading storing h o = (
        transfers_follow node near (nets i) j n (qs i) (child i) w.0 h.one o.one h.first o.first,
        stages_follow rest near (j + node_count node) (n + number_count node) (suc i) nets qs child w.1 h.other o.other h.second o.second,
      )

  -- a transfer stands where the moves of its node do
  module _ {E : Type 0} (way : Direction) (P : OfMove E) (More : ℕ → Move → Type 0) where
    pub record Placed (r m : ℕ) (spans : List PlainSpan) (k n : ℕ) (qs : List Scoped) (c : Child) (nets : List SpanNets) (a : E) : Type 0 where
      pub is : P r m spans k n qs c nets a
      pub item : More (n + spans_size spans) (move_of way r m)

    mutual
      pub items_stand : (node : PlainNode) (near : List Near) (env : Nets) (k n : ℕ) (qs : List Scoped) (c : Child) (w : Circuit core plan s node near env k c) (list : List E) → ((x : ℕ) (v : Move) → NodeMoves node n x v → More x v)
          → MovesAre way core plan delays s P node near env k n qs c w list → MovesAre way core plan delays s Placed node near env k n qs c w list
      items_stand (branch ops first second) near env k n qs c w list into h = record {
        one = h.one;
        other = h.other;
        are = h.are;
        first = items_stand first near env (suc k) (n + length ops) (scoped_sides core plan delays ops k true qs) w.chosen w.one h.one (λ x v q. into x v (inl q)) h.first;
        second = items_stand second near env (suc k + node_count first) (n + (length ops + number_count first)) (scoped_sides core plan delays ops k false qs) w.left w.other h.other (λ x v q. into x v (inr q)) h.second;
      }
      items_stand (fsm start state ops node after) near env k n qs c w list into h =
          items_stand node near env (suc k) (n + (length start + length ops)) (scoped_bodies core plan delays start ops after node k n qs) w.body w.goes list into h
      items_stand (outer counters style owned stages) near env k n qs c w list into h =
          stage_items stages (own_near counters near) (suc k) (n + counters_size counters) 0 (λ i. slot_nets w.nets w.rows env counters (slot_at (slots_of (node_plan plan k)) i).slot) (λ i. scoped_stages core plan delays counters owned stages k n i qs) w.child w.parts list into h
      items_stand (inner counters owned ops comb) near env k n qs c w list into h = h
      items_stand (load r m spans) near env k n qs c w list into h =
          leaf_gives way Load (P r m spans k n qs c w.nets) (Placed r m spans k n qs c w.nets) list (λ same a p. record { is = p; item = subst (λ d. More (n + spans_size spans) (move_of d r m)) same (into (n + spans_size spans) (loads r m) (refl, refl)) }) h
      items_stand (store r m spans) near env k n qs c w list into h =
          leaf_gives way Store (P r m spans k n qs c w.nets) (Placed r m spans k n qs c w.nets) list (λ same a p. record { is = p; item = subst (λ d. More (n + spans_size spans) (move_of d r m)) same (into (n + spans_size spans) (stores r m) (refl, refl)) }) h
      items_stand (sparse kind r m places spans count par) near env k n qs c w list into h = absurd h

      stage_items : (stages : PlainStages) (near : List Near) (j n i : ℕ) (nets : (stage : ℕ) → Nets) (qs : (stage : ℕ) → List Scoped) (child : (stage : ℕ) → Child) (w : StageCircuits core plan s stages near j i nets child) (list : List E) → ((x : ℕ) (v : Move) → StagesMove stages n x v → More x v)
          → StagesMoveSo way core plan delays s P stages near j n i nets qs child w list → StagesMoveSo way core plan delays s Placed stages near j n i nets qs child w list
      stage_items no_stage near j n i nets qs child w list into h = h
      stage_items (more_stage first last comb node rest) near j n i nets qs child w list into h = record {
        one = h.one;
        other = h.other;
        are = h.are;
        first = items_stand node near (nets i) j n (qs i) (child i) w.0 h.one (λ x v q. into x v (inl q)) h.first;
        second = stage_items rest near (j + node_count node) (n + number_count node) (suc i) nets qs child w.1 h.other (λ x v q. into x v (inr q)) h.second;
      }

  -- a transfer is known by what stands for it
  pub record HasSuch {E : Type 0} (way : Direction) (P : OfMove E) (Has : ℕ → Move → Type 0) (a : E) : Type 0 where
    pub r : ℕ
    pub m : ℕ
    pub spans : List PlainSpan
    pub k : ℕ
    pub n : ℕ
    pub qs : List Scoped
    pub c : Child
    pub nets : List SpanNets
    pub stands : Has (n + spans_size spans) (move_of way r m)
    pub is : P r m spans k n qs c nets a

  -- and by its number
  pub record IsSuch {E : Type 0} (P : OfMove E) (list : List E) (x r m : ℕ) : Type 0 where
    pub a : E
    pub there : Contains list a
    pub spans : List PlainSpan
    pub k : ℕ
    pub n : ℕ
    pub qs : List Scoped
    pub c : Child
    pub nets : List SpanNets
    pub number : x ≡ n + spans_size spans
    pub is : P r m spans k n qs c nets a

  module _ {E : Type 0} (way : Direction) (P : OfMove E) (More : ℕ → Move → Type 0) (a : E) where
    abbrev Holds : (Has : ℕ → Move → Type 0) → Type 0
    Holds Has = (x : ℕ) (v : Move) → Has x v → More x v

    mutual
      pub by_access : (node : PlainNode) (near : List Near) (env : Nets) (k n : ℕ) (qs : List Scoped) (c : Child) (w : Circuit core plan s node near env k c) (list : List E)
          → Holds (NodeMoves node n) → MovesAre way core plan delays s P node near env k n qs c w list → Contains list a → HasSuch way P More a
      by_access (branch ops first second) near env k n qs c w list into h there =
          of_both _ _ list h a there
          (by_access first near env (suc k) (n + length ops) (scoped_sides core plan delays ops k true qs) w.chosen w.one h.one (λ x v q. into x v (inl q)) h.first)
          (by_access second near env (suc k + node_count first) (n + (length ops + number_count first)) (scoped_sides core plan delays ops k false qs) w.left w.other h.other (λ x v q. into x v (inr q)) h.second)
      by_access (fsm start state ops node after) near env k n qs c w list into h there =
          by_access node near env (suc k) (n + (length start + length ops)) (scoped_bodies core plan delays start ops after node k n qs) w.body w.goes list into h there
      by_access (outer counters style owned stages) near env k n qs c w list into h there =
          stage_access stages (own_near counters near) (suc k) (n + counters_size counters) 0 (λ i. slot_nets w.nets w.rows env counters (slot_at (slots_of (node_plan plan k)) i).slot) (λ i. scoped_stages core plan delays counters owned stages k n i qs) w.child w.parts list into h there
      by_access (inner counters owned ops comb) near env k n qs c w list into h there = absurd (none_there a (subst (λ ls. Contains ls a) h there))
      by_access (load r m spans) near env k n qs c w list into h there =
          leaf_access way Load (P r m spans k n qs c w.nets) list a h there
          (λ same p. record {
            r = r;
            m = m;
            spans = spans;
            k = k;
            n = n;
            qs = qs;
            c = c;
            nets = w.nets;
            stands = subst (λ d. More (n + spans_size spans) (move_of d r m)) same (into (n + spans_size spans) (loads r m) (refl, refl));
            is = p;
          })
      by_access (store r m spans) near env k n qs c w list into h there =
          leaf_access way Store (P r m spans k n qs c w.nets) list a h there
          (λ same p. record {
            r = r;
            m = m;
            spans = spans;
            k = k;
            n = n;
            qs = qs;
            c = c;
            nets = w.nets;
            stands = subst (λ d. More (n + spans_size spans) (move_of d r m)) same (into (n + spans_size spans) (stores r m) (refl, refl));
            is = p;
          })
      by_access (sparse kind r m places spans count par) near env k n qs c w list into h there = absurd h

      stage_access : (stages : PlainStages) (near : List Near) (j n i : ℕ) (nets : (stage : ℕ) → Nets) (qs : (stage : ℕ) → List Scoped) (child : (stage : ℕ) → Child) (w : StageCircuits core plan s stages near j i nets child) (list : List E)
          → Holds (StagesMove stages n) → StagesMoveSo way core plan delays s P stages near j n i nets qs child w list → Contains list a → HasSuch way P More a
      stage_access no_stage near j n i nets qs child w list into h there = absurd (none_there a (subst (λ ls. Contains ls a) h there))
      stage_access (more_stage first last comb node rest) near j n i nets qs child w list into h there =
          of_both _ _ list h a there (by_access node near (nets i) j n (qs i) (child i) w.0 h.one (λ x v q. into x v (inl q)) h.first)
          (stage_access rest near (j + node_count node) (n + number_count node) (suc i) nets qs child w.1 h.other (λ x v q. into x v (inr q)) h.second)

  module _ {E : Type 0} (way : Direction) (P : OfMove E) (x q m : ℕ) where
    among_first : (one other loading : List E) → loading ≡ one ++ other → IsSuch P one x q m → IsSuch P loading x q m
    among_first one other loading are h = record {
      a = h.a;
      there = subst (λ ls. Contains ls h.a) (sym are) (Contains-append_left one other h.a h.there);
      spans = h.spans;
      k = h.k;
      n = h.n;
      qs = h.qs;
      c = h.c;
      nets = h.nets;
      number = h.number;
      is = h.is;
    }

    among_second : (one other loading : List E) → loading ≡ one ++ other → IsSuch P other x q m → IsSuch P loading x q m
    among_second one other loading are h = record {
      a = h.a;
      there = subst (λ ls. Contains ls h.a) (sym are) (Contains-append_right one other h.a h.there);
      spans = h.spans;
      k = h.k;
      n = h.n;
      qs = h.qs;
      c = h.c;
      nets = h.nets;
      number = h.number;
      is = h.is;
    }

    such_alone : (spans : List PlainSpan) (k n : ℕ) (qs : List Scoped) (c : Child) (nets : List SpanNets) (list : List E) → x ≡ n + spans_size spans → OneAlone (P q m spans k n qs c nets) list → IsSuch P list x q m
    such_alone spans k n qs c nets list e h = record {
      a = h.access;
      there = subst (λ ls. Contains ls h.access) (sym h.are) (0, omega arith, refl);
      spans = spans;
      k = k;
      n = n;
      qs = qs;
      c = c;
      nets = nets;
      number = e;
      is = h.is;
    }

    mutual
      pub by_number : (node : PlainNode) (near : List Near) (env : Nets) (k n : ℕ) (qs : List Scoped) (c : Child) (w : Circuit core plan s node near env k c) (list : List E)
          → NodeMoves node n x (move_of way q m) → MovesAre way core plan delays s P node near env k n qs c w list → IsSuch P list x q m
      by_number (branch ops first second) near env k n qs c w list (inl there) h =
          among_first h.one h.other list h.are (by_number first near env (suc k) (n + length ops) (scoped_sides core plan delays ops k true qs) w.chosen w.one h.one there h.first)
      by_number (branch ops first second) near env k n qs c w list (inr there) h =
          among_second h.one h.other list h.are (by_number second near env (suc k + node_count first) (n + (length ops + number_count first)) (scoped_sides core plan delays ops k false qs) w.left w.other h.other there h.second)
      by_number (fsm start state ops node after) near env k n qs c w list there h =
          by_number node near env (suc k) (n + (length start + length ops)) (scoped_bodies core plan delays start ops after node k n qs) w.body w.goes list there h
      by_number (outer counters style owned stages) near env k n qs c w list there h =
          stage_number stages (own_near counters near) (suc k) (n + counters_size counters) 0 (λ i. slot_nets w.nets w.rows env counters (slot_at (slots_of (node_plan plan k)) i).slot) (λ i. scoped_stages core plan delays counters owned stages k n i qs) w.child w.parts list there h
      by_number (inner counters owned ops comb) near env k n qs c w list there h = absurd there
      by_number (load r l spans) near env k n qs c w list there h =
          such_alone spans k n qs c w.nets list there.0 (load_number way (λ y z. P y z spans k n qs c w.nets) list q m r l h there.1)
      by_number (store r l spans) near env k n qs c w list there h =
          such_alone spans k n qs c w.nets list there.0 (store_number way (λ y z. P y z spans k n qs c w.nets) list q m r l h there.1)
      by_number (sparse kind r l places spans count par) near env k n qs c w list there h = absurd there

      stage_number : (stages : PlainStages) (near : List Near) (j n i : ℕ) (nets : (stage : ℕ) → Nets) (qs : (stage : ℕ) → List Scoped) (child : (stage : ℕ) → Child) (w : StageCircuits core plan s stages near j i nets child) (list : List E)
          → StagesMove stages n x (move_of way q m) → StagesMoveSo way core plan delays s P stages near j n i nets qs child w list → IsSuch P list x q m
      stage_number no_stage near j n i nets qs child w list there h = absurd there
      stage_number (more_stage first last comb node rest) near j n i nets qs child w list (inl there) h =
          among_first h.one h.other list h.are (by_number node near (nets i) j n (qs i) (child i) w.0 h.one there h.first)
      stage_number (more_stage first last comb node rest) near j n i nets qs child w list (inr there) h =
          among_second h.one h.other list h.are (stage_number rest near (j + node_count node) (n + number_count node) (suc i) nets qs child w.1 h.other there h.second)
