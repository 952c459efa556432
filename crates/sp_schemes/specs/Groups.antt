-- The groups of accesses that a scheme of a memory is to keep apart.
use Rattle.std.specs.Prelude.{ℕ, ◌+◌, pos, ◌==◌, Bool, true, false, ◌&&◌, not, List, [], ◌∷◌, ◌++◌, length, filter, flat_map, Option, Some, None, if◌then◌else◌}
use Rattle.std.specs.List.{list_any}
use Rattle.std.specs.Ordering.{int_eq}
use Rattle.sp_affine.specs.Affine.{Affine}
use Rattle.sp_core.specs.declared.node.SparseKind.{SparseKind}
use Rattle.sp_core.specs.declared.node.SparseKind.TheVariants.{WideLoad, WideStore}
use Rattle.sp_core.specs.Declarations.{mem}
use Rattle.sp_core.specs.Elements.{numbers_below}
use Rattle.sp_core.specs.Forms.{PlainForms}
use Rattle.sp_core.specs.Numbering.{counters_size, number_count}
use Rattle.sp_core.specs.PlainCore.{PlainNode, PlainStages, inner, outer, fsm, branch, load, store, sparse, no_stage, more_stage, PlainCore}
use Rattle.sp_plan.specs.Groups.{lane_place}
use Rattle.sp_schemes.specs.Accesses.{PlainUse, share, uses_in, are_one_group}
use Rattle.sp_words.specs.declared.kind.Kind.{Kind}
use Rattle.sp_words.specs.declared.kind.Kind.TheVariants.{LineBuf}

-- the row of a line buffer that an access is in, up to what all of a group share; other kinds have no rows
abbrev pub is_one_row : Kind → Option (List Affine) → Option (List Affine) → Bool
is_one_row LineBuf (Some (row ∷ f)) (Some (other ∷ g)) = int_eq row.constant other.constant
is_one_row kind f g = true

-- the forms of the indices that are banked: those of the columns of a line buffer, all of other kinds
abbrev pub banked_forms : Kind → Option (List Affine) → List Affine
banked_forms kind None = []
banked_forms LineBuf (Some (row ∷ f)) = f
banked_forms kind (Some f) = f

-- two by one port, of one row
abbrev pub go_together : Kind → PlainUse → PlainUse → Bool
go_together kind a b = share a b && is_one_row kind a.forms b.forms

abbrev pub flat : Kind → List PlainUse → List Affine
flat kind uses = flat_map (λ (u : PlainUse). banked_forms kind u.forms) uses

-- one group for each port and row, at its first use
abbrev pub groups_from : Kind → (earlier : List PlainUse) → List PlainUse → List (List Affine)
groups_from kind earlier [] = []
groups_from kind earlier (u ∷ rest) =
    (if list_any (go_together kind u) earlier then [] else flat kind (u ∷ filter (go_together kind u) rest) ∷ [])
    ++ groups_from kind (earlier ++ u ∷ []) rest

-- how many dimensions are banked: the columns of a line buffer, all of other kinds
abbrev pub banked_rank : Kind → (dims : ℕ) → ℕ
banked_rank LineBuf dims = 1
banked_rank kind dims = dims

-- a number, whatever the counters are
abbrev pub constant_form : ℕ → Affine
constant_form n = record { coefs = []; constant = pos n; symbol = None }

module _ (core : PlainCore) (forms : PlainForms) (m : ℕ) where
  -- the lanes of a wide transfer are at neighbours of the last dimension
  abbrev pub lanes_group : (rank par : ℕ) → List Affine
  lanes_group rank par = flat_map (λ l. lane_place core forms [] rank l) (numbers_below par)

  abbrev pub wide_groups : SparseKind → (rank par : ℕ) → List (List Affine)
  wide_groups WideLoad rank par = lanes_group rank par ∷ []
  wide_groups WideStore rank par = lanes_group rank par ∷ []
  wide_groups _ rank par = []

  -- of each body, by the number of the first operation
  abbrev mutual
    pub groups_in : (number : ℕ) → PlainNode → List (List Affine)
    groups_in n (inner counters owned ops comb) = groups_from (mem core m).kind [] (uses_in core forms m (n + counters_size counters) ops)
    groups_in n (outer counters style owned stages) = stage_groups (n + counters_size counters) stages
    groups_in n (fsm start state test body next) = groups_in (n + (length start + length test)) body
    groups_in n (branch test first second) = groups_in (n + length test) first ++ groups_in ((n + length test) + number_count first) second
    groups_in n (sparse kind r s places spans count par) = if s == m then wide_groups kind (length (mem core m).dims) par else []
    groups_in n _ = []

    pub stage_groups : (number : ℕ) → PlainStages → List (List Affine)
    stage_groups n no_stage = []
    stage_groups n (more_stage first last comb node rest) = groups_in n node ++ stage_groups (n + number_count node) rest

  -- whether the accesses of each body to one port are one group
  abbrev mutual
    pub are_grouped_in : (number : ℕ) → PlainNode → Bool
    are_grouped_in n (inner counters owned ops comb) = are_one_group (uses_in core forms m (n + counters_size counters) ops)
    are_grouped_in n (outer counters style owned stages) = are_stages_grouped (n + counters_size counters) stages
    are_grouped_in n (fsm start state test body next) = are_grouped_in (n + (length start + length test)) body
    are_grouped_in n (branch test first second) = are_grouped_in (n + length test) first && are_grouped_in ((n + length test) + number_count first) second
    are_grouped_in n _ = true

    pub are_stages_grouped : (number : ℕ) → PlainStages → Bool
    are_stages_grouped n no_stage = true
    are_stages_grouped n (more_stage first last comb node rest) = are_grouped_in n node && are_stages_grouped (n + number_count node) rest
