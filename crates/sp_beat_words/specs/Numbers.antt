-- The numbers of copies by which slots work on their groups, as functions of time.
use Rattle.std.specs.Prelude.{ℕ, zero, suc, ◌+◌, ◌-◌, ◌==◌, Bool, if◌then◌else◌}

-- copies are taken in turn
abbrev pub next_copy : (copies number : ℕ) → ℕ
next_copy copies n = if n == copies - 1 then 0 else n + 1

-- The copy of the group that a slot has. A start takes the last copy, and each first cycle of the slot the next one: so its first
-- group has copy 0.
unfoldable pub copy_number : (start first : ℕ → Bool) → (copies : ℕ) → (cycle : ℕ) → ℕ
copy_number start first copies zero = copies - 1
copy_number start first copies (suc t) =
    if start t then copies - 1 else (if first t then next_copy copies (copy_number start first copies t) else copy_number start first copies t)

-- the same, but in a first cycle already that of the group which comes
abbrev pub coming_number : (start first : ℕ → Bool) → (copies : ℕ) → (cycle : ℕ) → ℕ
coming_number start first copies t = if first t then next_copy copies (copy_number start first copies t) else copy_number start first copies t
