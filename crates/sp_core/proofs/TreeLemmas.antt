-- The plain value of a node, by its parts.
use Rattle.std.proofs.Common.{◌≡◌, ◌&&◌, ◌<◌, ◌+◌, ℕ, zero, suc, Bool, true, false, List, [], ◌∷◌, ◌++◌, map, Option, Some, None, is_some, Vec, Global, refl, sym, ◌∙◌, ap, arith}
use Rattle.std.proofs.Math.Decide.{dec_lt}
use Rattle.std.specs.List.{list_all}
use mathlib.Core.Former.{Count}
use Rattle.sp_words.specs.declared.kind.Style.{Style}
use Rattle.sp_core.specs.declared.node.CoreCounter.{CoreCounter}
use Rattle.sp_core.specs.declared.node.Stage.{Stage}
use Rattle.sp_core.specs.declared.node.Node.{Node, Outer, Outer', Row_of-Stage, end_of-Stage, more_of-Stage, items-the_row-Stage, items_hidden-the_row-Stage-0}
use Rattle.sp_core.specs.Around.{Around, lanes_of, within}
use Rattle.sp_core.specs.Elements.{numbers_below}
use Rattle.sp_core.specs.Invariant.{owned_in, or_else, is_right_here, unless, wrong_node, wrong_stage}
use Rattle.sp_core.specs.NodeRules.{are_counters_right, are_lanes_right, is_node_right}
use Rattle.sp_core.specs.Numbering.{node_count, node_count_in}
use Rattle.sp_core.specs.Plain.{plain_counter, plain_node, plain_stages, plain_stage_list}
use Rattle.sp_core.specs.PlainCore.{PlainCore, outer, more_stage}

abbrev row_of : Node → (n : Count) × Row_of-Stage n
row_of (Outer' counters style owned _ row) = (_, row)
row_of _ = (_, end_of-Stage)

plain_row : (n : _) (row : Row_of-Stage n) → plain_stages row ≡ plain_stage_list (items-the_row-Stage n row)
plain_row n end_of-Stage = refl
plain_row n (more_of-Stage first last comb node rest) = ap (more_stage first last comb (plain_node node)) (plain_row _ rest)

pub plain_node-Outer : (counters : Vec CoreCounter Global) (style : Style) (owned : Vec ℕ Global) (stages : Vec Stage Global) → plain_node (Outer counters style owned stages) ≡ outer (map plain_counter counters.items) style owned.items (plain_stage_list stages.items)
plain_node-Outer counters style owned stages =
    let row = row_of (Outer counters style owned stages) in
    ap (outer (map plain_counter counters.items) style owned.items) (plain_row row.0 row.1 ∙ ap plain_stage_list (items_hidden-the_row-Stage-0 stages))

pub outer_is_right : (core : PlainCore) (around : Around) (counters : Vec CoreCounter Global) (style : Style) (owned : Vec ℕ Global) (stages : Vec Stage Global) → is_node_right core around (plain_node (Outer counters style owned stages)) ≡ (are_counters_right core around (map plain_counter counters.items) && are_lanes_right (lanes_of (map plain_counter counters.items)) (plain_stage_list stages.items))
outer_is_right core around counters style owned stages = ap (is_node_right core around) (plain_node-Outer counters style owned stages)

pub outer_count : (counters : Vec CoreCounter Global) (style : Style) (owned : Vec ℕ Global) (stages : Vec Stage Global) → node_count (plain_node (Outer counters style owned stages)) ≡ 1 + node_count_in (plain_stage_list stages.items)
outer_count counters style owned stages = ap node_count (plain_node-Outer counters style owned stages)

unless_true : (b : Bool) (n : ℕ) (rest : Option ℕ) → b ≡ true → unless b n rest ≡ rest
unless_true true n rest e = refl
unless_true false n rest e = absurd (cc)

-- an outer that is right has its first wrong node among its stages
pub outer_wrong : (core : PlainCore) (around : Around) (earlier : List ℕ) (n : ℕ) (counters : Vec CoreCounter Global) (style : Style) (owned : Vec ℕ Global) (stages : Vec Stage Global)
    → is_right_here core around earlier (plain_node (Outer counters style owned stages)) ≡ true
    → wrong_node core around earlier n (plain_node (Outer counters style owned stages)) ≡ wrong_stage core (within around (map plain_counter counters.items) owned.items) (earlier ++ owned.items) (n + 1) (plain_stage_list stages.items)
outer_wrong core around earlier n counters style owned stages h =
    let e = plain_node-Outer counters style owned stages in
    ap (wrong_node core around earlier n) e
    ∙ unless_true (is_right_here core around earlier (outer (map plain_counter counters.items) style owned.items (plain_stage_list stages.items))) n _ (sym (ap (is_right_here core around earlier) e) ∙ h)

and_false : (b x y : Bool) → (x ≡ false → y ≡ false) → (b && x) ≡ false → (b && y) ≡ false
and_false true x y f e = f e
and_false false x y f e = refl

all_and : {A : Type 0} (p : A → Bool) (xs : List A) (x : A) → list_all p xs ≡ false → list_all p (xs ++ x ∷ []) ≡ false
all_and p [] x e = absurd (cc)
all_and p (y ∷ ys) x e = and_false (p y) (list_all p ys) (list_all p (ys ++ x ∷ [])) (all_and p ys x) e

and_last : (b x : Bool) → x ≡ false → (b && x) ≡ false
and_last true x e = e
and_last false x e = refl

last_fails : {A : Type 0} (p : A → Bool) (xs : List A) (x : A) → p x ≡ false → list_all p (xs ++ x ∷ []) ≡ false
last_fails p [] x e = ap (λ b. b && true) e
last_fails p (y ∷ ys) x e = and_last (p y) _ (last_fails p ys x e)

-- a test that fails of a number fails of all up to a greater one
pub below_fails : (p : ℕ → Bool) (n i : ℕ) → i < n → p i ≡ false → list_all p (numbers_below n) ≡ false
below_fails p zero i lt e = absurd (omega (arith, lt))
below_fails p (suc n) i lt e = elim (dec_lt i n) [
  | yes less ↦ all_and p (numbers_below n) n (below_fails p n i less e)
  | no ge ↦ let same : i ≡ n = omega (arith, lt, ge) in last_fails p (numbers_below n) n (ap p (sym same) ∙ e)
]

-- the stages of an outer, by equal parts
pub same_stages : (core : PlainCore) (n : ℕ) (x y : Around) (b c : List ℕ) (s t : List Stage) → x ≡ y → b ≡ c → s ≡ t → wrong_stage core x b n (plain_stage_list s) ≡ wrong_stage core y c n (plain_stage_list t)
same_stages core n x y b c s t e f g =
    ap (λ z. wrong_stage core z b n (plain_stage_list s)) e ∙ ap (λ z. wrong_stage core y z n (plain_stage_list s)) f ∙ ap (λ z. wrong_stage core y c n (plain_stage_list z)) g

-- a stage without a wrong node is passed
pub stage_passed : (core : PlainCore) (around : Around) (b c : List ℕ) (n m : ℕ) (stage : Stage) (rest : List Stage)
    → wrong_node core around b n (plain_node stage.node) ≡ None → c ≡ b ++ owned_in (plain_node stage.node) → m ≡ n + node_count (plain_node stage.node)
    → wrong_stage core around c m (plain_stage_list rest) ≡ wrong_stage core around b n (plain_stage_list (stage ∷ rest))
stage_passed core around b c n m stage rest e f g =
    ap (λ z. wrong_stage core around z m (plain_stage_list rest)) f
    ∙ ap (λ z. wrong_stage core around (b ++ owned_in (plain_node stage.node)) z (plain_stage_list rest)) g
    ∙ sym (ap (λ o. or_else o (wrong_stage core around (b ++ owned_in (plain_node stage.node)) (n + node_count (plain_node stage.node)) (plain_stage_list rest))) e)

pub none_left : (o : Option ℕ) → is_some o ≡ false → o ≡ None
none_left None e = refl
none_left (Some n) e = absurd (cc)
