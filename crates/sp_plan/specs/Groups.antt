-- Which accesses of an inner body form a group, and when a scheme keeps a group apart.
use Rattle.std.specs.Prelude.{◌≡◌, ℕ, ◌+◌, ◌-◌, ◌==◌, ◌<◌, pos, Bool, true, false, ◌&&◌, ◌||◌, not, IsTrue, List, [], ◌∷◌, ◌++◌, length, replicate, Option, Some, None, slice_index_or, if◌then◌else◌}
use Rattle.std.specs.List.{list_all}
use Rattle.sp_affine.specs.Affine.{Affine}
use Rattle.sp_affine.specs.Equality.{linear_parts_equal}
use Rattle.sp_bank.specs.Banking.{Banking}
use Rattle.sp_bank.specs.Separation.{AreApart, constants}
use Rattle.sp_core.specs.declared.node.SparseKind.{SparseKind}
use Rattle.sp_core.specs.declared.node.SparseKind.TheVariants.{WideLoad, WideStore}
use Rattle.sp_core.specs.Declarations.{mem}
use Rattle.sp_core.specs.Elements.{numbers_below}
use Rattle.sp_core.specs.Forms.{PlainForms, form_at}
use Rattle.sp_core.specs.Numbering.{counters_size, number_count}
use Rattle.sp_core.specs.PlainCore.{PlainOp, PlainNode, PlainStages, inner, outer, fsm, branch, sparse, no_stage, more_stage, PlainCore}
use Rattle.sp_plan.specs.Orders.{op_at}
use Rattle.sp_plan.specs.Ports.{share_port, is_serial, scheme_at}
use Rattle.sp_words.specs.declared.kind.Kind.{Kind}
use Rattle.sp_words.specs.declared.kind.Kind.TheVariants.{LineBuf}

-- the forms of the indices of two accesses differ in their constants alone
abbrev pub have_one_linear_part : List Affine → List Affine → Bool
have_one_linear_part [] [] = true
have_one_linear_part (f ∷ fs) (g ∷ gs) = linear_parts_equal f g && have_one_linear_part fs gs
have_one_linear_part _ _ = false

abbrev pub is_one_group : Option (List Affine) → Option (List Affine) → Bool
is_one_group (Some f) (Some g) = have_one_linear_part f g
is_one_group _ _ = false

-- rows of a line buffer are banked one by one, by their columns
abbrev pub Apart : Kind → Banking → (f g : List Affine) → Type 0
Apart LineBuf b (row ∷ f) (other ∷ g) = row.constant ≡ other.constant → AreApart b (constants f) (constants g)
Apart kind b f g = AreApart b (constants f) (constants g)

abbrev pub AreKeptApart : Kind → Option Banking → (f g : Option (List Affine)) → Type 0
AreKeptApart kind (Some b) (Some f) (Some g) = Apart kind b f g
AreKeptApart kind _ _ _ = Unit {0}

module _ (core : PlainCore) (forms : PlainForms) where
  -- the forms of the indices of an access, by its number: one for each dimension, or none
  abbrev pub forms_by : (rank : ℕ) → Option (List Affine) → Option (List Affine)
  forms_by rank None = None
  forms_by rank (Some f) = if length f == rank then Some f else None

  abbrev pub rank_of : Option ℕ → ℕ
  rank_of None = 0
  rank_of (Some m) = length (mem core m).dims

  abbrev pub kind_at : Option ℕ → Kind
  kind_at None = LineBuf
  kind_at (Some m) = (mem core m).kind

  abbrev pub known_forms : (number : ℕ) → PlainOp → Option (List Affine)
  known_forms n op = forms_by (rank_of op.mem) (form_at core forms n)

  module _ (schemes : List (Option Banking)) where
    -- two accesses of a body to one port of a memory with a scheme
    abbrev pub share_banks : List PlainOp → (i j : ℕ) → Bool
    share_banks ops i j = share_port core (op_at core ops i) (op_at core ops j) && not (is_serial schemes (op_at core ops i).mem)

    abbrev pub is_grouped : (number : ℕ) → List PlainOp → (second first : ℕ) → Bool
    is_grouped n ops j i = not (share_banks ops i j) || is_one_group (known_forms (n + i) (op_at core ops i)) (known_forms (n + j) (op_at core ops j))

    -- those are one group
    abbrev pub are_grouped : (number : ℕ) → List PlainOp → Bool
    are_grouped n ops = list_all (λ j. list_all (is_grouped n ops j) (numbers_below j)) (numbers_below (length ops))

    -- and the memory's scheme keeps them apart
    abbrev pub AreSeparated : (number : ℕ) → List PlainOp → Type 0
    AreSeparated n ops = (j i : ℕ) → j < length ops → i < j → IsTrue (share_banks ops i j) →
        AreKeptApart (kind_at (op_at core ops i).mem) (scheme_at schemes (op_at core ops i).mem) (known_forms (n + i) (op_at core ops i)) (known_forms (n + j) (op_at core ops j))

    -- the lanes of a wide transfer are at neighbours of the last dimension
    abbrev pub lane_place : (rank lane : ℕ) → List Affine
    lane_place rank l = replicate (rank - 1) (record { coefs = []; constant = pos 0; symbol = None }) ++ (record { coefs = []; constant = pos l; symbol = None }) ∷ []

    abbrev pub AreLanesApart : Option Banking → (rank par : ℕ) → Type 0
    AreLanesApart None rank par = Unit {0}
    AreLanesApart (Some b) rank par = (j i : ℕ) → j < par → i < j → AreApart b (constants (lane_place rank i)) (constants (lane_place rank j))

    abbrev pub IsWideSeparated : SparseKind → (mem par : ℕ) → Type 0
    IsWideSeparated WideLoad m par = AreLanesApart (slice_index_or schemes m None) (length (mem core m).dims) par
    IsWideSeparated WideStore m par = AreLanesApart (slice_index_or schemes m None) (length (mem core m).dims) par
    IsWideSeparated _ m par = Unit {0}

    -- in each node, by the number of its first operation
    abbrev mutual
      pub Separated : (number : ℕ) → PlainNode → Type 0
      Separated n (inner counters owned ops comb) = AreSeparated (n + counters_size counters) ops
      Separated n (outer counters style owned stages) = StagesSeparated (n + counters_size counters) stages
      Separated n (fsm start state test body next) = Separated (n + (length start + length test)) body
      Separated n (branch test first second) = Separated (n + length test) first × Separated ((n + length test) + number_count first) second
      Separated n (sparse kind r m places spans count par) = IsWideSeparated kind m par
      Separated n _ = Unit {0}

      pub StagesSeparated : (number : ℕ) → PlainStages → Type 0
      StagesSeparated n no_stage = Unit {0}
      StagesSeparated n (more_stage first last comb node rest) = Separated n node × StagesSeparated (n + number_count node) rest
