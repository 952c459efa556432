-- How a slice is walked through: equations of nets over time, whatever the words of others.
use Rattle.std.specs.Prelude.{◌≡◌, ℕ, suc, Bool, true, ◌&&◌, not, pos, ◌+ℤ◌, int_lt, if◌then◌else◌, List, [], ◌∷◌}
use Rattle.sp_words.specs.Types.{int_type}
use Rattle.sp_words.specs.Words.{word_add, word_sub}
use Rattle.sp_netlist.specs.Signals.{Signals}
use Rattle.sp_gates.specs.Tested.{is_on}
use Rattle.sp_counters.specs.declared.part.Count.{Count}
use Rattle.sp_counters.specs.declared.part.Counter.{Counter}
use Rattle.sp_counters.specs.Counting.{number, low_number, CountsGroups}
use Rattle.sp_slices.specs.declared.part.Axis.{Axis}
use Rattle.sp_slices.specs.declared.part.Move.{Move}
use Rattle.sp_slices.specs.declared.part.Move.TheVariants.{One, Range}
use Rattle.sp_slices.specs.declared.part.Walk.{Walk}

-- the first index of a dimension, and the word past its last one
abbrev pub first_net : Move → ℕ
first_net (One i) = i
first_net (Range a b) = a

abbrev pub until_word : Signals → Move → (cycle : ℕ) → ℕ
until_word s (One i) t = word_add int_type (s.net t i) 1
until_word s (Range a b) t = s.net t b

-- a dimension's counter goes from the one up to the other by 1
pub record CountsMove (s : Signals) (m : Move) (c : Count) : Type 0 where
  pub from : c.from ≡ first_net m
  pub until : (t : ℕ) → s.net t c.until ≡ until_word s m t
  pub by : c.by ≡ 1
  pub par : c.par ≡ 1

pub data CountMoves (s : Signals) : List Move → List Count → Type 0 where
  no_move : CountMoves s [] []
  one_move : {m : Move} {c : Count} {moves : List Move} {counts : List Count} → CountsMove s m c → CountMoves s moves counts → CountMoves s (m ∷ moves) (c ∷ counts)

-- whether the index that stands is the last one of its dimension, and whether all are
abbrev pub is_ended : Signals → Counter → Axis → (cycle : ℕ) → Bool
is_ended s n a t = not (int_lt (number s n.value t +ℤ pos 1) (number s a.until t))

abbrev pub all_ended : Signals → List Counter → List Axis → (cycle : ℕ) → Bool
all_ended s (n ∷ counters) (a ∷ axes) t = is_ended s n a t && all_ended s counters axes t
all_ended s _ _ t = true

-- the nets of a dimension: its bounds are those of the last start
pub record FollowsAxis (s : Signals) (start : ℕ → Bool) (c : Count) (n : Counter) (a : Axis) : Type 0 where
  pub from : (t : ℕ) → number s a.from (suc t) ≡ (if start t then low_number s c.from t else number s a.from t)
  pub until : (t : ℕ) → number s a.until (suc t) ≡ (if start t then low_number s c.until t else number s a.until t)
  pub ended : (t : ℕ) → is_on s a.ended t ≡ is_ended s n a t
  pub offset : (t : ℕ) → s.net t a.offset ≡ word_sub int_type (s.net t n.value) (s.net t a.from)

pub data FollowAxes (s : Signals) (start : ℕ → Bool) : List Count → List Counter → List Axis → Type 0 where
  no_axis : FollowAxes s start [] [] []
  one_axis : {c : Count} {n : Counter} {a : Axis} {counts : List Count} {counters : List Counter} {axes : List Axis} → FollowsAxis s start c n a → FollowAxes s start counts counters axes
      → FollowAxes s start (c ∷ counts) (n ∷ counters) (a ∷ axes)

-- A slice is walked through: its counters go on at each step, and `last` is 1 where all indices are the last ones.
pub record WalksSlice (s : Signals) (start step : ℕ) (moves : List Move) (walk : Walk) : Type 0 where
  pub start_is : walk.counters.start ≡ start
  pub step_is : walk.counters.step ≡ step
  pub bounds : CountMoves s moves walk.counters.counters.items
  pub counts : CountsGroups s walk.counters walk.counted
  pub axes : FollowAxes s (is_on s start) walk.counters.counters.items walk.counted.counters.items walk.axes.items
  pub last : (t : ℕ) → is_on s walk.last t ≡ all_ended s walk.counted.counters.items walk.axes.items t

-- the words of counters
abbrev pub values_at : Signals → List Counter → (cycle : ℕ) → List ℕ
values_at s [] t = []
values_at s (n ∷ counters) t = s.net t n.value ∷ values_at s counters t

-- the nets that tell how far into each range a word is
abbrev pub more_offset : Move → Axis → List ℕ → List ℕ
more_offset (One i) a nets = nets
more_offset (Range from until) a nets = a.offset ∷ nets

abbrev pub offsets_of : List Move → List Axis → List ℕ
offsets_of (m ∷ moves) (a ∷ axes) = more_offset m a (offsets_of moves axes)
offsets_of _ _ = []
