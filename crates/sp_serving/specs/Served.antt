-- Whether a scheme serves a memory in each body and wide transfer, as a test.
use Rattle.std.specs.Prelude.{◌≡◌, ℕ, ◌+◌, ◌==◌, Bool, true, ◌&&◌, ◌||◌, not, List, length, Option, Some}
use Rattle.std.specs.List.{list_all}
use Rattle.sp_affine.specs.Affine.{Affine}
use Rattle.sp_bank.specs.Banking.{Banking}
use Rattle.sp_core.specs.declared.node.SparseKind.{SparseKind}
use Rattle.sp_core.specs.declared.node.SparseKind.TheVariants.{WideLoad, WideStore}
use Rattle.sp_core.specs.Declarations.{mem}
use Rattle.sp_core.specs.Elements.{numbers_below}
use Rattle.sp_core.specs.Forms.{PlainForms, form_at}
use Rattle.sp_core.specs.Numbering.{counters_size, number_count}
use Rattle.sp_core.specs.PlainCore.{PlainOp, PlainNode, PlainStages, inner, outer, fsm, branch, sparse, no_stage, more_stage, PlainCore}
use Rattle.sp_plan.specs.Groups.{forms_by}
use Rattle.sp_plan.specs.Orders.{op_at}
use Rattle.sp_plan.specs.Ports.{is_one_mem, share_port}
use Rattle.sp_serving.specs.Apart.{are_kept, are_lanes_far}
use Rattle.sp_words.specs.declared.kind.Kind.{Kind}
use Rattle.sp_words.specs.declared.kind.Kind.TheVariants.{LineBuf}

-- how many dimensions a memory with banks has, and how many its scheme has
abbrev pub AreRanked : Kind → (dims rank : ℕ) → Type 0
AreRanked LineBuf dims rank = (dims ≡ 2) × (rank ≡ 1)
AreRanked kind dims rank = dims ≡ rank

module _ (core : PlainCore) (forms : PlainForms) (m : ℕ) (b : Banking) where
  abbrev pub known : (number : ℕ) → Option (List Affine)
  known n = forms_by core forms (length (mem core m).dims) (form_at core forms n)

  -- two operations of a body, of which the second one names the memory
  abbrev pub is_pair_kept : (number : ℕ) → List PlainOp → (second first : ℕ) → Bool
  is_pair_kept n ops j i = not (share_port core (op_at core ops i) (op_at core ops j)) || are_kept b (mem core m).kind (known (n + i)) (known (n + j))

  -- an operation, and all that stand before it in its body
  abbrev pub is_access_kept : (number : ℕ) → List PlainOp → ℕ → Bool
  is_access_kept n ops j = not (is_one_mem (op_at core ops j).mem (Some m)) || list_all (is_pair_kept n ops j) (numbers_below j)

  abbrev pub is_body_kept : (number : ℕ) → List PlainOp → Bool
  is_body_kept n ops = list_all (is_access_kept n ops) (numbers_below (length ops))

  abbrev pub is_wide_kept : SparseKind → (par : ℕ) → Bool
  is_wide_kept WideLoad par = are_lanes_far b (length (mem core m).dims) par
  is_wide_kept WideStore par = are_lanes_far b (length (mem core m).dims) par
  is_wide_kept _ par = true

  abbrev mutual
    pub is_served_in : (number : ℕ) → PlainNode → Bool
    is_served_in n (inner counters owned ops comb) = is_body_kept (n + counters_size counters) ops
    is_served_in n (outer counters style owned stages) = are_stages_served (n + counters_size counters) stages
    is_served_in n (fsm start state test body next) = is_served_in (n + (length start + length test)) body
    is_served_in n (branch test first second) = is_served_in (n + length test) first && is_served_in ((n + length test) + number_count first) second
    is_served_in n (sparse kind r s places spans count par) = not (s == m) || is_wide_kept kind par
    is_served_in n _ = true

    pub are_stages_served : (number : ℕ) → PlainStages → Bool
    are_stages_served n no_stage = true
    are_stages_served n (more_stage first last comb node rest) = is_served_in n node && are_stages_served (n + number_count node) rest
