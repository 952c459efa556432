-- What the search for components keeps.
use Rattle.std.specs.Prelude.{◌≡◌, ◌≢◌, ℕ, ◌+◌, ◌-◌, ◌<◌, ◌≤◌, List, [], ◌∷◌, length, slice_index, slice_index_or, ◌⊎◌}
use Rattle.sp_graph.specs.declared.search.Mark.{Mark}
use Rattle.sp_graph.specs.declared.search.Mark.TheVariants.{Unseen, OnStack, Done}
use Rattle.sp_graph.specs.declared.search.Visit.{Visit}
use Rattle.sp_graph.specs.declared.search.Search.{Search}
use Rattle.sp_graph.specs.Edges.{targets_of, IsEdge, Path}

-- what is known of a node
abbrev pub mark_of : List Mark → ℕ → Mark
mark_of marks node = slice_index_or marks node Unseen

-- the number of a node that has one
abbrev pub number_of : Mark → ℕ
number_of Unseen = 0
number_of (OnStack place) = 0
number_of (Done number) = number

-- the visit of a node that the search came to just now
abbrev pub entered : ℕ → ℕ → Visit
entered node place = record { node = node; place = place; next = 0; low = place }

-- The node of the mark was seen, and doesn't stand below that place on the stack.
abbrev pub IsSeenFrom : ℕ → Mark → Type 0
IsSeenFrom low Unseen = ⊥
IsSeenFrom low (OnStack place) = low ≤ place
IsSeenFrom low (Done number) = Unit {0}

-- the node of the mark has a number up to this
abbrev pub IsDoneUpTo : ℕ → Mark → Type 0
IsDoneUpTo most Unseen = ⊥
IsDoneUpTo most (OnStack place) = ⊥
IsDoneUpTo most (Done number) = number ≤ most

-- What is known of a visit and of the nodes that stand on the stack from its own place up to a limit.
pub record IsVisit (graph : List (List ℕ)) (marks : List Mark) (stack : List ℕ) (visit : Visit) (limit : ℕ) : Type 0 where
  pub here : slice_index stack visit.place ≡ visit.node
  pub within : visit.place < limit
  pub low : visit.low ≤ visit.place
  -- they reach the visit's node, and it reaches the lowest place
  pub back : (place : ℕ) → visit.place ≤ place → place < limit → Path graph (slice_index stack place) visit.node
  pub to_low : Path graph visit.node (slice_index stack visit.low)
  -- the targets that were looked at were seen, and none of them stands below the lowest place
  pub looked : (k : ℕ) → k < visit.next → k < length (targets_of graph visit.node) → IsSeenFrom visit.low (mark_of marks (slice_index (targets_of graph visit.node) k))
  pub looked_above : (place to : ℕ) → visit.place < place → place < limit → IsEdge graph (slice_index stack place) to → IsSeenFrom visit.low (mark_of marks to)

-- the visits of a path, the last one first, divide the stack up to a limit among them
abbrev pub AreVisits : List (List ℕ) → List Mark → List ℕ → List Visit → ℕ → Type 0
AreVisits graph marks stack [] limit = limit ≡ 0
AreVisits graph marks stack (visit ∷ visits) limit = IsVisit graph marks stack visit limit × AreVisits graph marks stack visits visit.place

-- the weight of a node that wasn't seen, and 0 of any other
abbrev pub weight_at : Mark → ℕ → ℕ
weight_at Unseen weight = weight
weight_at (OnStack place) weight = 0
weight_at (Done number) weight = 0

-- the sum of the weights, from a node on
abbrev pub unseen : (ℕ → ℕ) → List Mark → ℕ → ℕ
unseen weight [] node = 0
unseen weight (mark ∷ marks) node = weight_at mark (weight node) + unseen weight marks (node + 1)

-- The marks and the stack say the same, and the components that have a number, so many of them, are right.
pub record AreMarked (graph : List (List ℕ)) (marks : List Mark) (stack : List ℕ) (count : ℕ) : Type 0 where
  pub each_node : length marks ≡ length graph
  pub on_stack : (place : ℕ) → place < length stack → mark_of marks (slice_index stack place) ≡ OnStack place
  pub placed : (node place : ℕ) → mark_of marks node ≡ OnStack place → (place < length stack) × (slice_index stack place ≡ node)
  -- a node of the stack reaches those above it
  pub forward : (low high : ℕ) → low ≤ high → high < length stack → Path graph (slice_index stack low) (slice_index stack high)
  -- an edge from a node with a number leads to one with no greater number, and equal numbers join nodes
  pub falling : (from to number : ℕ) → mark_of marks from ≡ Done number → IsEdge graph from to → IsDoneUpTo number (mark_of marks to)
  pub connected : (a b number : ℕ) → mark_of marks a ≡ Done number → mark_of marks b ≡ Done number → Path graph a b
  pub below : (node number : ℕ) → mark_of marks node ≡ Done number → number < count
  -- there are no more numbers than nodes
  pub room : count + length stack + unseen (λ _. 1) marks 0 ≤ length marks

-- What the search keeps. The path has its last visit first.
pub record IsSearch (graph : List (List ℕ)) (marks : List Mark) (stack : List ℕ) (visits : List Visit) (count : ℕ) : Type 0 where
  pub marked : AreMarked graph marks stack count
  pub divided : AreVisits graph marks stack visits (length stack)

-- the nodes of a list were given a number, and no others
pub record AreNumbered (marks after : List Mark) (nodes : List ℕ) (number : ℕ) : Type 0 where
  pub each_node : length after ≡ length marks
  pub numbered : (k : ℕ) → k < length nodes → mark_of after (slice_index nodes k) ≡ Done number
  pub others : (node : ℕ) → (mark_of after node ≡ mark_of marks node) ⊎ ((mark_of after node ≡ Done number) × ((k : ℕ) × (k < length nodes) × (slice_index nodes k ≡ node)))

-- what was seen stays seen
pub record SeenStays (marks after : List Mark) : Type 0 where
  pub seen : (node : ℕ) → mark_of marks node ≢ Unseen → mark_of after node ≢ Unseen

-- how often the targets of the path's visits are still looked at, and each visit left
abbrev pub left_of_visits : List (List ℕ) → List Visit → ℕ
left_of_visits graph [] = 0
left_of_visits graph (visit ∷ visits) = length (targets_of graph visit.node) - visit.next + 1 + left_of_visits graph visits

-- how many steps the search still takes at most until its path is empty
abbrev pub work_left : List (List ℕ) → List Mark → List Visit → ℕ
work_left graph marks visits = unseen (λ node. length (targets_of graph node) + 2) marks 0 + left_of_visits graph visits

-- the same two of the code's search, beside its path with its last visit first
abbrev pub IsSearching : List (List ℕ) → Search → List Visit → Type 0
IsSearching graph search visits = IsSearch graph search.marks.items search.stack.items visits search.count

abbrev pub steps_left : List (List ℕ) → Search → List Visit → ℕ
steps_left graph search visits = work_left graph search.marks.items visits
