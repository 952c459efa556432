-- A combination that stands once, after all lanes. Its first operator combines the word at a place of the body with the
-- accumulator; what comes after writes the combined word. Where the operator gives the same in whatever order it is done,
-- the words of the lanes are joined first, and their word takes the place of the one word. Else the accumulator is read
-- once and meets the word of each lane in order, each time by the operator and by a choice on the lane's mask.
use Rattle.std.specs.Prelude.{ℕ, suc, ◌+◌, ◌-◌, ◌==◌, Bool, true, false, nat_le, List, [], ◌∷◌, ◌++◌, map, take, drop, length, slice_index, Option, Some, None, option_map, if◌then◌else◌}
use Rattle.std.specs.List.{list_any}
use Rattle.sp_words.specs.declared.kind.BinOp.{BinOp}
use Rattle.sp_words.specs.declared.kind.BinOp.TheVariants.{Add}
use Rattle.sp_words.specs.declared.types.Ty.{Ty}
use Rattle.sp_words.specs.declared.types.Ty.TheVariants.{Bit}
use Rattle.sp_core.specs.declared.operation.OpKind.{OpKind}
use Rattle.sp_core.specs.declared.operation.OpKind.TheVariants.{Two, Mux}
use Rattle.sp_core.specs.PlainCore.{PlainOp}
use Rattle.sp_lanes.specs.Bodies.{Body, lane_bodies, all_ops, no_op}
use Rattle.sp_lanes.specs.Joined.{LaneWord, Round, is_balanced, lane_words, join_ops, rounds}
use Rattle.sp_lanes.specs.Within.{Within, ops_in}

-- the operator of a combination, its type, and the place of the word that it combines
pub record Meeting : Type 0 where
  pub operator : BinOp
  pub ty : Ty
  pub word : ℕ

abbrev pub no_meeting : Meeting
no_meeting = record { operator = Add; ty = Bit; word = 0 }

-- that of the first operator
abbrev pub meeting : List PlainOp → Meeting
meeting [] = no_meeting
meeting (op ∷ ops) = elim op.kind [
  | Two operator ↦ record { operator = operator; ty = op.ty; word = slice_index op.args 1 }
  | _ ↦ meeting ops
]

abbrev pub takes : (word : ℕ) → PlainOp → Bool
takes word op = list_any (λ a. a == word) op.args

-- how many operations there are up to the last one that takes a word
abbrev pub count_up_to : (word : ℕ) → List PlainOp → ℕ
count_up_to word [] = 0
count_up_to word (op ∷ ops) =
    if list_any (takes word) ops then suc (count_up_to word ops) else if takes word op then 1 else 0

abbrev pub is_choice : OpKind → Bool
is_choice Mux = true
is_choice _ = false

-- operations at other places
abbrev pub moved_op : (ℕ → ℕ) → PlainOp → PlainOp
moved_op place op = record op { args = map place op.args; mask = option_map place op.mask }

abbrev pub moved : (ℕ → ℕ) → List PlainOp → List PlainOp
moved place ops = map (moved_op place) ops

-- a place of the combination, which begins at the first one, by that of another word and of the operations before it
abbrev pub moved_place : (first at : ℕ) → (word to : ℕ) → (places : List ℕ) → ℕ → ℕ
moved_place first at word to places k =
    if k == word then to else if nat_le first k then at + (k - first) else slice_index places k

-- the accumulator at a place meets the words in order
abbrev pub met_ops : (counter : ℕ) → BinOp → Ty → (at left : ℕ) → List LaneWord → List PlainOp
met_ops counter operator ty at left [] = []
met_ops counter operator ty at left (w ∷ words) =
    join_ops counter operator ty at (elim w.mask [ Some mask ↦ mask | None ↦ 0 ]) left w.place ++ met_ops counter operator ty (at + 2) (at + 1) words

abbrev pub without_first : List LaneWord → List LaneWord
without_first [] = []
without_first (w ∷ words) = words

abbrev pub first_place : List LaneWord → ℕ
first_place [] = 0
first_place (w ∷ words) = w.place

abbrev pub first_places : List Body → List ℕ
first_places [] = []
first_places (b ∷ bodies) = b.places

abbrev pub last_op : List PlainOp → PlainOp
last_op ops = elim (drop (length ops - 1) ops) [
  | [] ↦ no_op
  | op ∷ rest ↦ op
]

-- by the last counter of the controller, the place at which the combination begins in the core, and the bodies before it
module _ (counter first : ℕ) (bodies : List Body) where
  -- after the joined words
  abbrev pub after_joined : (at : ℕ) → Meeting → List LaneWord → (combination : List PlainOp) → List PlainOp
  after_joined at m words combination =
      let joined : Round = rounds counter m.operator m.ty (length words) at words in
      let from : ℕ = at + length joined.ops in
      joined.ops ++ moved (moved_place first from m.word (first_place joined.words) (first_places bodies)) combination

  -- the combination's operations before, the words that meet what stands at a place one after the other, and what comes
  -- after: the word that stood at the end of the operations before stands where the last meeting is
  abbrev pub meeting_in_order : (at : ℕ) → Meeting → (here : ℕ → ℕ) → (before : List PlainOp) → (left : ℕ) → List LaneWord → (ended : ℕ) → (after : List PlainOp) → List PlainOp
  meeting_in_order at m here before left words ended after =
      let met : List PlainOp = met_ops counter m.operator m.ty (at + length before) left words in
      let stands : ℕ = at + length before + length met - 1 in
      moved here before ++ met ++ moved (λ k. if nat_le ended k then stands + (k - ended) else here k) after

  -- where the combination chooses between its own word and the accumulator's, lane 0 meets the accumulator there, and the
  -- other lanes follow; else each lane, lane 0 among them, meets what the combination's operator takes
  abbrev pub in_order : (at : ℕ) → Meeting → List LaneWord → (combination : List PlainOp) → List PlainOp
  in_order at m words combination =
      let count : ℕ = count_up_to m.word combination in
      let here : ℕ → ℕ = moved_place first at m.word (first_place words) (first_places bodies) in
      let last : PlainOp = last_op (take count combination) in
      if is_choice last.kind
      then meeting_in_order at m here (take count combination) (at + count - 1) (without_first words) (first + count - 1) (drop count combination)
      else meeting_in_order at m here (take (count - 1) combination) (here (slice_index last.args 0)) words (first + count - 1) (drop count combination)

  -- whatever the operator is
  abbrev pub combined : (combination : List PlainOp) → List PlainOp
  combined combination =
      let m : Meeting = meeting combination in
      let words : List LaneWord = lane_words 0 m.word bodies in
      let at : ℕ = length (all_ops bodies) in
      if is_balanced m.operator m.ty then after_joined at m words combination else in_order at m words combination

-- the bodies of lanes, and after them a combination that begins at a place of the core's list, if it has one
abbrev pub laned_ops : (counter : ℕ) → (in_lane : ℕ → Within) → (own : List ℕ) → (lanes : ℕ) → List PlainOp → (comb : Option ℕ) → List PlainOp
laned_ops counter in_lane own lanes ops None = all_ops (lane_bodies counter in_lane ops own lanes)
laned_ops counter in_lane own lanes ops (Some first) =
    let bodies : List Body = lane_bodies counter in_lane (take first ops) own lanes in
    all_ops bodies ++ combined counter first bodies (ops_in (in_lane 0) (drop first ops))
