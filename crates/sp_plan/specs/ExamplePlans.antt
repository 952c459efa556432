-- Plans of worked cores, worked out by hand, and which rules they keep.
use Rattle.std.specs.Prelude.{ℕ, pos, Bool, true, false, List, [], ◌∷◌, ◌++◌, replicate, length, Option, Some, None, codes}
use Rattle.std.specs.List.{list_all}
use Rattle.sp_affine.specs.Affine.{Affine}
use Rattle.sp_core.specs.declared.access.Meet.{Meet}
use Rattle.sp_core.specs.Elements.{numbers_below}
use Rattle.sp_core.specs.ExampleForms.{count, two, read, write, below, stages, mem_of, core, meet, form}
use Rattle.sp_core.specs.Forms.{PlainForms}
use Rattle.sp_core.specs.PlainCore.{PlainCore, inner, outer}
use Rattle.sp_plan.specs.Copies.{is_single, is_duplicated}
use Rattle.sp_plan.specs.Nodes.{NodeRule, holds_of_each}
use Rattle.sp_plan.specs.PlainPlan.{PlainMemPlan, PlainNodePlan, inner_plan, outer_plan, other_plan, PlainPlan}
use Rattle.sp_plan.specs.Validity.{kind_rule, is_scheme_right, group_rule, time_rule, slot_rule, copy_rule}
use Rattle.sp_words.specs.declared.kind.BinOp.TheVariants.{Add}
use Rattle.sp_words.specs.declared.kind.Kind.TheVariants.{Sram}
use Rattle.sp_words.specs.declared.kind.Style.TheVariants.{Pipe}
use Rattle.sp_words.specs.Types.{int_type}

abbrev pub plain_mem : (depth : ℕ) → PlainMemPlan
plain_mem d = record { scheme = None; depth = d; duplicates = 1 }

abbrev pub banked : (banks block : ℕ) → (alpha : List ℕ) → (depth duplicates : ℕ) → PlainMemPlan
banked n b alpha d k = record { scheme = Some (record { banks = n; block = b; alpha = alpha; hinge = 0 }); depth = d; duplicates = k }

abbrev pub in_turns : (depth duplicates : ℕ) → PlainMemPlan
in_turns d k = record { scheme = None; depth = d; duplicates = k }

abbrev pub timed : List ℕ → (ii latency : ℕ) → PlainNodePlan
timed times ii latency = inner_plan times ii latency false

abbrev pub plan_of : List PlainMemPlan → List PlainNodePlan → PlainPlan
plan_of mems nodes = record { mems = mems; nodes = nodes }

abbrev pub of_each : PlainCore → NodeRule → Bool
of_each core rule = holds_of_each rule 0 0 false core.root

abbrev pub of_mems : PlainCore → (ℕ → Bool) → Bool
of_mems core holds = list_all holds (numbers_below (length core.mems))

-- kinds, schemes, groups, times, slots, copies, what has one copy, and duplicates
abbrev pub verdicts : PlainCore → PlainForms → List Meet → PlainPlan → List Bool
verdicts core forms meets plan =
    of_each core (kind_rule core forms meets plan) ∷ of_mems core (is_scheme_right core forms meets plan) ∷
    of_each core (group_rule core forms meets plan) ∷ of_each core (time_rule core forms meets plan) ∷
    of_each core (slot_rule core forms meets plan) ∷ of_each core (copy_rule core forms meets plan) ∷
    of_mems core (is_single core plan) ∷ of_mems core (is_duplicated core plan) ∷ []

abbrev pub all_right : List Bool
all_right = replicate 8 true

abbrev pub no_forms : PlainForms
no_forms = record { forms = []; lengths = [] }

-- of the histogram, whose loop issues a group so often
abbrev pub histogram_plan : (times : List ℕ) → (ii : ℕ) → (duplicates : ℕ) → PlainPlan
histogram_plan times ii duplicates = plan_of
    (banked 1 1 (0 ∷ []) 1 1 ∷ banked 1 1 (0 ∷ []) 1 duplicates ∷ [])
    (outer_plan (0 ∷ 1 ∷ 2 ∷ 3 ∷ []) (0 ∷ 0 ∷ 0 ∷ 0 ∷ []) ∷ other_plan ∷ timed (0 ∷ 0 ∷ 0 ∷ []) 1 1 ∷ timed times ii 6 ∷ other_plan ∷ [])

-- of the two loops, one after the other
abbrev pub two_loops_meets : List Meet
two_loops_meets = meet 4 9 0 ∷ meet 12 14 0 ∷ []

abbrev pub two_loops_plan : PlainPlan
two_loops_plan = plan_of
    (plain_mem 1 ∷ banked 1 1 (0 ∷ []) 1 1 ∷ banked 1 1 (0 ∷ []) 1 1 ∷ [])
    (outer_plan (0 ∷ 1 ∷ 2 ∷ []) (0 ∷ 0 ∷ 0 ∷ []) ∷ timed (0 ∷ 0 ∷ 0 ∷ []) 1 1 ∷ timed (0 ∷ 0 ∷ 0 ∷ 0 ∷ 2 ∷ 3 ∷ []) 1 4 ∷ timed (0 ∷ 0 ∷ 2 ∷ []) 1 3 ∷ [])

-- of the dot product: lane l multiplies the elements at i + l
abbrev pub product_forms : (lane : ℕ) → List (Option (List Affine))
product_forms l = Some (form (pos 0 ∷ pos 1 ∷ []) (pos l) None ∷ []) ∷ Some (form (pos 0 ∷ pos 1 ∷ []) (pos l) None ∷ []) ∷ []

abbrev pub tile_form : List (Option (List Affine))
tile_form = Some (form (pos 1 ∷ []) (pos 0) None ∷ []) ∷ []

abbrev pub dot_product_forms : PlainForms
dot_product_forms = record {
  forms = tile_form ++ tile_form ++ product_forms 0 ++ product_forms 1 ++ product_forms 2 ++ product_forms 3;
  lengths = Some 16 ∷ Some 16 ∷ [];
}

abbrev pub dot_product_meets : List Meet
dot_product_meets =
    meet 6 16 0 ∷ meet 6 22 0 ∷ meet 6 28 0 ∷ meet 6 34 0 ∷ meet 11 18 0 ∷ meet 11 24 0 ∷ meet 11 30 0 ∷ meet 11 36 0 ∷
    meet 45 51 0 ∷ meet 51 45 1 ∷ meet 51 51 1 ∷ meet 46 49 0 ∷ meet 49 46 1 ∷ meet 49 49 1 ∷ meet 49 52 0 ∷
    meet 53 59 0 ∷ meet 54 57 0 ∷ meet 57 60 0 ∷ []

abbrev pub product_times : List ℕ
product_times = 0 ∷ 0 ∷ 0 ∷ 0 ∷ 0 ∷ 2 ∷ []

abbrev pub sum_times : List ℕ
sum_times = 4 ∷ 5 ∷ 4 ∷ 5 ∷ 0 ∷ 6 ∷ 7 ∷ 0 ∷ 7 ∷ 8 ∷ 9 ∷ 10 ∷ 0 ∷ 0 ∷ []

abbrev pub dot_product_plan : (alpha depth ii : ℕ) → (slots : List ℕ) → PlainPlan
dot_product_plan alpha depth ii slots = plan_of
    (plain_mem 1 ∷ plain_mem 1 ∷ banked 4 1 (alpha ∷ []) depth 1 ∷ banked 4 1 (1 ∷ []) 2 1 ∷ plain_mem 2 ∷ plain_mem 1 ∷ plain_mem 1 ∷ [])
    (outer_plan (0 ∷ 1 ∷ []) (0 ∷ 0 ∷ []) ∷ outer_plan slots (0 ∷ 0 ∷ 0 ∷ 0 ∷ []) ∷ other_plan ∷ other_plan ∷
    timed (product_times ++ product_times ++ product_times ++ product_times ++ sum_times) ii 11 ∷
    timed (0 ∷ 0 ∷ 1 ∷ 2 ∷ 3 ∷ 4 ∷ 0 ∷ 0 ∷ []) 1 5 ∷ timed (0 ∷ 1 ∷ []) 1 2 ∷ [])

-- of a register that one stage of a loop writes and the next one reads
abbrev pub register_meets : List Meet
register_meets = meet 3 5 0 ∷ meet 5 3 1 ∷ meet 8 11 0 ∷ []

abbrev pub register_plan : (slots chains : List ℕ) → PlainPlan
register_plan slots chains = plan_of
    (plain_mem 1 ∷ banked 1 1 (0 ∷ []) 1 1 ∷ [])
    (outer_plan (0 ∷ 1 ∷ []) (0 ∷ 0 ∷ []) ∷ outer_plan slots chains ∷ timed (0 ∷ 0 ∷ []) 1 1 ∷ timed (0 ∷ 0 ∷ 0 ∷ 1 ∷ 2 ∷ []) 1 3 ∷ other_plan ∷ [])

-- of stores in two lanes, whose slices meet
abbrev pub stores_plan : (chains : List ℕ) → (depth : ℕ) → PlainPlan
stores_plan chains depth = plan_of
    (banked 1 1 (0 ∷ []) depth 1 ∷ banked 1 1 (0 ∷ []) 2 1 ∷ [])
    (outer_plan (0 ∷ []) (0 ∷ []) ∷ outer_plan (0 ∷ 1 ∷ 0 ∷ 1 ∷ []) chains ∷ timed (0 ∷ 0 ∷ 0 ∷ []) 1 1 ∷ other_plan ∷ timed (0 ∷ 0 ∷ 0 ∷ []) 1 1 ∷ other_plan ∷ [])

-- of a DRAM that is copied in tiles; the load is 6 and the store 11
abbrev pub copied_plan : (slots : List ℕ) → (depth : ℕ) → PlainPlan
copied_plan slots depth = plan_of (banked 1 1 (0 ∷ []) depth 1 ∷ [])
    (outer_plan (0 ∷ []) (0 ∷ []) ∷ outer_plan slots (0 ∷ 0 ∷ []) ∷ other_plan ∷ other_plan ∷ [])

-- of a block of stages that FIFOs join
abbrev pub streamed_plan : (serial : Bool) → PlainPlan
streamed_plan serial = plan_of (replicate 5 (plain_mem 1))
    (outer_plan (0 ∷ 1 ∷ []) (0 ∷ 0 ∷ []) ∷ outer_plan [] [] ∷ inner_plan (0 ∷ 0 ∷ []) 1 1 serial ∷ inner_plan (0 ∷ 2 ∷ 2 ∷ 4 ∷ []) 5 5 true ∷
    inner_plan (0 ∷ 2 ∷ 3 ∷ 4 ∷ 5 ∷ 6 ∷ 7 ∷ 7 ∷ []) 8 8 true ∷ timed (0 ∷ 1 ∷ []) 1 2 ∷ [])

-- `o(i) = t(p(i)) + t(i)`, where t has no scheme
unfoldable pub looked_up : PlainCore
looked_up = core (mem_of (codes "t") Sram int_type (8 ∷ []) None ∷ mem_of (codes "p") Sram int_type (8 ∷ []) None ∷ mem_of (codes "o") Sram int_type (8 ∷ []) None ∷ []) []
    (outer [] Pipe (0 ∷ 1 ∷ 2 ∷ []) (stages (
    inner (below 0 8 1 1 ∷ []) [] (count 0 0 ∷ read 1 (0 ∷ []) ∷ read 0 (1 ∷ []) ∷ read 0 (0 ∷ []) ∷ two Add 2 3 ∷ write 2 (0 ∷ 4 ∷ []) ∷ []) None ∷
    [])))

abbrev pub looked_up_plan : PlainMemPlan → (times : List ℕ) → (ii latency : ℕ) → PlainPlan
looked_up_plan t times ii latency = plan_of (t ∷ banked 1 1 (0 ∷ []) 1 1 ∷ banked 1 1 (0 ∷ []) 1 1 ∷ [])
    (outer_plan (0 ∷ []) (0 ∷ []) ∷ timed times ii latency ∷ [])
