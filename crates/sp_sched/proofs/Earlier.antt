-- In a core the operands and the mask of an operation stand before it.
use Rattle.std.proofs.Common.{◌≡◌, ℕ, zero, suc, ◌+◌, ◌-◌, ◌<◌, nat_lt, ◌&&◌, Bool, true, false, cond, List, [], ◌∷◌, ◌++◌, length, slice_index_or, Option, Some, None, refl, subst, length-append, arith}
use Rattle.sp_core.specs.Around.{Around, within}
use Rattle.sp_core.specs.Invariant.{is_right_here, IsRight, AreRight, owned_in}
use Rattle.sp_core.specs.NodeRules.{with_state, is_node_right}
use Rattle.sp_core.specs.Numbering.{node_count, number_count}
use Rattle.sp_core.specs.OperationRules.{are_operations_right_after, is_operation_right, is_in_range, names_rightly, indices_of, is_mask}
use Rattle.sp_core.specs.PlainCore.{PlainOp, PlainNode, PlainStages, inner, outer, fsm, branch, load, store, sparse, no_stage, more_stage, PlainCore}
use Rattle.sp_core.specs.Typed.{Given, given_type, gives, give_all, taken_types}
use Rattle.sp_plan.specs.Nodes.{Site, site_at, stage_site_at}
use Rattle.sp_plan.specs.Orders.{no_op}
use Rattle.sp_words.specs.declared.types.Ty.{Ty}

pub and_parts : (a b : Bool) → (a && b) ≡ true → (a ≡ true) × (b ≡ true)
and_parts true b h = (refl, h)
and_parts false b h = cc

abbrev pub AllBelow : ℕ → List ℕ → Type 0
AllBelow n [] = Unit {0}
AllBelow n (a ∷ rest) = (a < n) × AllBelow n rest

abbrev pub MaskBelow : ℕ → Option ℕ → Type 0
MaskBelow n None = Unit {0}
MaskBelow n (Some a) = a < n

gives-below : (e : Given) (p : ℕ) (ty : Ty) → gives e p ty ≡ true → p < length e
gives-below [] p ty h = cc
gives-below (x ∷ e) zero ty h = omega arith
gives-below (x ∷ e) (suc p) ty h = let rest = gives-below e p ty h in omega arith

all-below : (e : Given) (places : List ℕ) (types : List Ty) → give_all e places types ≡ true → AllBelow (length e) places
all-below e [] types h = tt
all-below e (p ∷ places) [] h = cc
all-below e (p ∷ places) (ty ∷ types) h =
    let parts = and_parts (gives e p ty) (give_all e places types) h in
    (gives-below e p ty parts.0, all-below e places types parts.1)

pub record IsEarlier (n : ℕ) (op : PlainOp) : Type 0 where
  pub args : AllBelow n op.args
  pub mask : MaskBelow n op.mask

module _ (core : PlainCore) where
  module _ (around : Around) where
    mask-below : (e : Given) (mask : Option ℕ) → is_mask core around e mask ≡ true → MaskBelow (length e) mask
    mask-below e None h = tt
    mask-below e (Some a) h = gives-below e a _ h

    one-earlier : (e : Given) (op : PlainOp) → is_operation_right core around e op ≡ true → IsEarlier (length e) op
    one-earlier e op h =
        let parts = and_parts (is_in_range op.kind op.ty around && names_rightly core around op.kind op.ty op.mem) _ h in
        let uses = and_parts (give_all e op.args (taken_types op.kind op.ty (indices_of core around op.mem))) (is_mask core around e op.mask) parts.1 in
        record { args = all-below e op.args _ uses.0; mask = mask-below e op.mask uses.1 }

    pub each-earlier : (e : Given) (ops : List PlainOp) → are_operations_right_after core around e ops ≡ true → (j n : ℕ) → n ≡ length e + j → j < length ops → IsEarlier n (slice_index_or ops j no_op)
    each-earlier e [] h j n is lt = absurd (omega arith)
    each-earlier e (op ∷ ops) h zero n is lt =
        let parts = and_parts (is_operation_right core around e op) _ h in
        let here : length e ≡ n = omega arith in
        subst (λ (k : ℕ). IsEarlier k op) here (one-earlier e op parts.0)
    each-earlier e (op ∷ ops) h (suc j) n is lt =
        let parts = and_parts (is_operation_right core around e op) _ h in
        each-earlier (e ++ given_type op.kind op.ty ∷ []) ops parts.1 j n (omega (arith, length-append e (given_type op.kind op.ty ∷ []))) (omega arith)

  pub record IsRightAt (node : PlainNode) : Type 0 where
    pub around : Around
    pub right : is_node_right core around node ≡ true

  here_right : (around : Around) (earlier : List ℕ) (node : PlainNode) → is_right_here core around earlier node ≡ true → IsRightAt node
  here_right around earlier node h = record { around = around; right = (and_parts (is_node_right core around node) _ h).0 }

  abbrev IsRightSite : Option Site → Type 0
  IsRightSite None = Unit {0}
  IsRightSite (Some s) = IsRightAt s.node

  either : (b : Bool) (x y : Option Site) → IsRightSite x → IsRightSite y → IsRightSite (cond b x y)
  either true x y a b = a
  either false x y a b = b

  -- what stands in a node that is right is right
  mutual
    right_at : (w n : ℕ) (streamed : Bool) (around : Around) (earlier : List ℕ) (node : PlainNode) → IsRight core around earlier node → IsRightSite (site_at w n streamed node)
    right_at zero n st around earlier (outer counters style owned stages) h = here_right around earlier (outer counters style owned stages) h.0
    right_at zero n st around earlier (fsm start state test body next) h = here_right around earlier (fsm start state test body next) h.0
    right_at zero n st around earlier (branch test first second) h = here_right around earlier (branch test first second) h.0
    right_at zero n st around earlier (inner counters owned ops comb) h = here_right around earlier (inner counters owned ops comb) h
    right_at zero n st around earlier (load r m spans) h = here_right around earlier (load r m spans) h
    right_at zero n st around earlier (store r m spans) h = here_right around earlier (store r m spans) h
    right_at zero n st around earlier (sparse kind r m places spans count par) h = here_right around earlier (sparse kind r m places spans count par) h
    right_at (suc k) n st around earlier (outer counters style owned stages) h = right_in_stages k _ _ (within around counters owned) (earlier ++ owned) stages h.1
    right_at (suc k) n st around earlier (fsm start state test body next) h = right_at k _ _ (with_state core around state) (earlier ++ state ∷ []) body h.1
    right_at (suc k) n st around earlier (branch test first second) h =
        either (nat_lt k (node_count first)) _ _ (right_at k (n + length test) false around earlier first h.1)
        (right_at (k - node_count first) ((n + length test) + number_count first) false around (earlier ++ owned_in first) second h.2)
    right_at (suc k) n st around earlier (inner counters owned ops comb) h = tt
    right_at (suc k) n st around earlier (load r m spans) h = tt
    right_at (suc k) n st around earlier (store r m spans) h = tt
    right_at (suc k) n st around earlier (sparse kind r m places spans count par) h = tt

    right_in_stages : (w n : ℕ) (streamed : Bool) (around : Around) (earlier : List ℕ) (stages : PlainStages) → AreRight core around earlier stages → IsRightSite (stage_site_at w n streamed stages)
    right_in_stages k n st around earlier no_stage h = tt
    right_in_stages k n st around earlier (more_stage first last comb node rest) h =
        either (nat_lt k (node_count node)) _ _ (right_at k n st around earlier node h.0)
        (right_in_stages (k - node_count node) (n + number_count node) st around (earlier ++ owned_in node) rest h.1)

  pub right_site : (w n : ℕ) (streamed : Bool) (around : Around) (earlier : List ℕ) (node : PlainNode) (s : Site) → IsRight core around earlier node → site_at w n streamed node ≡ Some s → IsRightAt s.node
  right_site w n st around earlier node s h e = subst IsRightSite e (right_at w n st around earlier node h)
