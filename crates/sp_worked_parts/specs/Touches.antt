-- Lists of one and two accesses to copy 0.
use Rattle.std.specs.Prelude.{◌≡◌, ℕ, List, [], ◌∷◌, None}
use Rattle.sp_mem.specs.declared.part.Touch.{Touch}

pub record IsTouch (enable : ℕ) (index : List ℕ) (duplicate word : ℕ) (touch : Touch) : Type 0 where
  pub enable_is : touch.enable ≡ enable
  pub index_is : touch.index.items ≡ index
  pub copy_is : touch.copy ≡ None
  pub duplicate_is : touch.duplicate ≡ duplicate
  pub word_is : touch.word ≡ word

pub record IsOne (enable : ℕ) (index : List ℕ) (word : ℕ) (touches : List Touch) : Type 0 where
  pub touch : Touch
  pub are : touches ≡ touch ∷ []
  pub is : IsTouch enable index 0 word touch

-- each of a duplicate of its own
pub record AreTwo (enable : ℕ) (index : List ℕ) (word : ℕ) (second_index : List ℕ) (second_word : ℕ) (touches : List Touch) : Type 0 where
  pub first : Touch
  pub second : Touch
  pub are : touches ≡ first ∷ second ∷ []
  pub first_is : IsTouch enable index 0 word first
  pub second_is : IsTouch enable second_index 1 second_word second
