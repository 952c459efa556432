-- A branch in lanes.
use Rattle.std.proofs.Common.{◌≡◌, ℕ, Bool, true, false, ◌||◌, List, ◌++◌, refl, sym, ◌∙◌, ◌==◌}
use Rattle.std.proofs.lemmas.Bool.{and_parts, true≢false}
use Rattle.sp_words.specs.declared.types.Ty.TheVariants.{Bit}
use Rattle.sp_core.specs.Declarations.{is_among}
use Rattle.sp_core.specs.History.{Entry, History, last_word, branch_ran}
use Rattle.sp_core.specs.Invariant.{owned_in}
use Rattle.sp_core.specs.NodeRules.{is_node_right}
use Rattle.sp_core.specs.OperationRules.{are_operations_right}
use Rattle.sp_core.specs.Operations.{operations}
use Rattle.sp_core.specs.PlainCore.{PlainOp, PlainNode, branch, PlainCore}
use Rattle.sp_core.specs.Scope.{plainly, Scope}
use Rattle.sp_core.specs.Scope as scope
use Rattle.sp_core.specs.Sequential.{run}
use Rattle.sp_core.specs.Step.{Step, pure, ◌>>=◌}
use Rattle.sp_core.specs.Store.{Store}
use Rattle.sp_core.specs.Typed.{last_gives}
use Rattle.sp_fitting.specs.Laws.{ListsFit, NodesFit}
use Rattle.sp_lanes.specs.Order.{memory_order}
use Rattle.sp_lanes.specs.Unrolled.{unrolled, node_in}
use Rattle.sp_lanes.specs.Within.{ops_in}
use Rattle.sp_lane_groups.specs.RoomLaws.{PlacesHaveRoom}
use Rattle.sp_lane_rules.proofs.UnrolledPlaces.{among_both}
use Rattle.sp_lane_groups.specs.InnersAlike.{GoAlike, one_side, other_side}
use Rattle.sp_lane_groups.specs.InnersAlong.{LeavesBut}
use Rattle.sp_lane_groups.proofs.InnersFollows.{Followed, Follows, Same, pure_follows, bind_follows, bind_same, list_follows}
use Rattle.sp_lane_trees.specs.NodesLaws.{BranchesGo}
use Rattle.sp_lane_trees.proofs.NodesWhole.{node_follows, sides_follow}

-- what is in none of two lists
pub neither : (xs ys : List ℕ) (n : ℕ) → is_among n (xs ++ ys) ≡ false → (is_among n xs ≡ false) × (is_among n ys ≡ false)
neither xs ys n e = by (is_among n xs) (is_among n ys) (sym (among_both n xs ys) ∙ e)
  where
    by : (a b : Bool) → (a || b) ≡ false → (a ≡ false) × (b ≡ false)
    by true b e = absurd (true≢false e)
    by false b e = (refl, e)

-- what the side that is taken does goes alike, and so does the branch
abbrev Side : (first second : PlainNode) → Bool → History → History → Type 0
Side first second true h g = GoAlike first h g
Side first second false h g = GoAlike second h g

branch_alike : (test : List PlainOp) (first second : PlainNode) (es : List Entry) (b : Bool) (h g : History) → Side first second b h g → GoAlike (branch test first second) (branch_ran es b h) (branch_ran es b g)
branch_alike test first second es true h g r = one_side r
branch_alike test first second es false h g r = other_side r

pub branch_goes : (core : PlainCore) → ListsFit core → NodesFit core → PlacesHaveRoom core → BranchesGo core
unfolding run node_in
branch_goes core lists nodes room is owns turns around inside earlier w test first second h one two plain lanes agree s t after hist fits alike ran =
    let x : Followed core around w Left none_left both_left Related (run (unrolled core) scope.in_lanes turns (node_in (memory_order core) w (branch test first second)) lanes) t hist after =
    whole s t after hist fits alike ran in
    (x.answer, x.ended, x.ran, x.agree, x.left, x.related)
  where
    Left : Store → Store → Type 0
    Left = LeavesBut core around w (branch test first second)

    Related : History → History → Type 0
    Related = GoAlike (branch test first second)

    none_left : (t : Store) → Left t t
    none_left t n lt outer free = refl

    both_left : (t u v : Store) → Left t u → Left u v → Left t v
    both_left t u v f g n lt outer free = g n lt outer free ∙ f n lt outer free

    right : is_node_right core around (branch test first second) ≡ true
    right = (and_parts (is_node_right core around (branch test first second)) true h.right.0).0

    test_right : are_operations_right core around test ≡ true
    test_right = (and_parts (are_operations_right core around test) (last_gives test Bit) right).0

    in_first : (t ended : Store) → LeavesBut core around w first t ended → Left t ended
    in_first t ended f n lt outer free = f n lt outer (neither (owned_in (node_in (memory_order core) w first)) (owned_in (node_in (memory_order core) w second)) n free).0

    in_second : (t ended : Store) → LeavesBut core around w second t ended → Left t ended
    in_second t ended f n lt outer free = f n lt outer (neither (owned_in (node_in (memory_order core) w first)) (owned_in (node_in (memory_order core) w second)) n free).1

    tested : Follows core around w Left none_left both_left (Same core around w Left none_left both_left) (operations core plain test) (operations (unrolled core) lanes (ops_in w test))
    tested = list_follows core around w Left none_left both_left inside h.together h.copies (room is owns around w h.copies) plain lanes agree (λ u v l n lt outer free. l n outer) is.memories lists test h.plain.0 test_right

    whole : Follows core around w Left none_left both_left Related (run core plainly turns (branch test first second) plain) (run (unrolled core) scope.in_lanes turns (node_in (memory_order core) w (branch test first second)) lanes)
    whole =
        bind_same core around w Left none_left both_left Related (operations core plain test) (operations (unrolled core) lanes (ops_in w test))
        (λ es. (elim (last_word es == 1) as (λ _. Step History) [ true ↦ run core plainly turns first plain | false ↦ run core plainly turns second plain ]) >>= (λ h. pure (branch_ran es (last_word es == 1) h)))
        (λ es. (elim (last_word es == 1) as (λ _. Step History) [ true ↦ run (unrolled core) scope.in_lanes turns (node_in (memory_order core) w first) lanes | false ↦ run (unrolled core) scope.in_lanes turns (node_in (memory_order core) w second) lanes ]) >>= (λ h. pure (branch_ran es (last_word es == 1) h)))
        tested
        (λ es. bind_follows core around w Left none_left both_left (Side first second (last_word es == 1)) Related
        (elim (last_word es == 1) as (λ _. Step History) [ true ↦ run core plainly turns first plain | false ↦ run core plainly turns second plain ])
        (elim (last_word es == 1) as (λ _. Step History) [ true ↦ run (unrolled core) scope.in_lanes turns (node_in (memory_order core) w first) lanes | false ↦ run (unrolled core) scope.in_lanes turns (node_in (memory_order core) w second) lanes ])
        (λ h. pure (branch_ran es (last_word es == 1) h)) (λ h. pure (branch_ran es (last_word es == 1) h))
        (sides_follow core around w Left none_left both_left (Side first second) (last_word es == 1) (run core plainly turns first plain) (run core plainly turns second plain)
        (run (unrolled core) scope.in_lanes turns (node_in (memory_order core) w first) lanes) (run (unrolled core) scope.in_lanes turns (node_in (memory_order core) w second) lanes)
        (node_follows core around w Left none_left both_left nodes is.memories turns earlier first h.right.1 one in_first plain lanes agree)
        (node_follows core around w Left none_left both_left nodes is.memories turns (earlier ++ owned_in first) second h.right.2 two in_second plain lanes agree))
        (λ a b r. pure_follows core around w Left none_left both_left Related (branch_ran es (last_word es == 1) a) (branch_ran es (last_word es == 1) b) (branch_alike test first second es (last_word es == 1) a b r)))
