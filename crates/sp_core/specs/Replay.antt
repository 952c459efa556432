-- What moments do to a store, and what each of them needs to find there.
use Rattle.std.specs.Prelude.{◌≡◌, ℕ, ◌<◌, List, [], ◌∷◌, length, Option, Some}
use Rattle.sp_words.specs.Memory.{Contents, cells}
use Rattle.sp_core.specs.Accesses.{word_in, with_word, with_newest, without_oldest, with_new_row}
use Rattle.sp_core.specs.Declarations.{kind_of, dims, room, fresh}
use Rattle.sp_core.specs.Events.{Act, reads, writes, puts, takes, resets, turns, Moment, touches, slices, renews, keeps}
use Rattle.sp_core.specs.PlainCore.{PlainCore}
use Rattle.sp_core.specs.Store.{Store, hold, queue_of}

module _ (core : PlainCore) where
  -- what an act needs to find
  abbrev pub Finds : (m : ℕ) → (indices : List ℕ) → Act → Option Contents → Type 0
  Finds m is (reads w) c = word_in (kind_of core m) (dims core m) is c ≡ Some w
  Finds m is (puts w) c = length (queue_of c) < room core m
  Finds m is (takes w) c = (rest : List ℕ) × (queue_of c ≡ w ∷ rest)
  Finds m is _ c = Unit {0}

  -- what stands after it
  abbrev pub after_act : (m : ℕ) → (indices : List ℕ) → Act → Store → Store
  after_act m is (reads w) s = s
  after_act m is (writes w) s = hold s m (with_word (kind_of core m) (dims core m) is w (s m))
  after_act m is (puts w) s = hold s m (with_newest w (s m))
  after_act m is (takes w) s = hold s m (without_oldest (s m))
  after_act m is resets s = hold s m (fresh core m)
  after_act m is turns s = hold s m (with_new_row (dims core m) (s m))

  abbrev pub FindsNow : Moment → Store → Type 0
  FindsNow (touches e) s = Finds e.mem e.indices e.act (s e.mem)
  FindsNow _ s = Unit {0}

  abbrev pub after_moment : Moment → Store → Store
  after_moment (touches e) s = after_act e.mem e.indices e.act s
  after_moment (slices slice) s = s
  after_moment (renews m) s = hold s m (fresh core m)
  after_moment (keeps m w) s = hold s m (cells (Some w ∷ []))

  -- each moment finds what it needs, one after the other; and what stands after all
  abbrev pub Happens : List Moment → Store → Type 0
  Happens [] s = Unit {0}
  Happens (m ∷ ms) s = FindsNow m s × Happens ms (after_moment m s)

  abbrev pub after_all : List Moment → Store → Store
  after_all [] s = s
  after_all (m ∷ ms) s = after_all ms (after_moment m s)
