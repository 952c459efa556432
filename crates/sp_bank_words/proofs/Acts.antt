-- What an act, a moment and contents tell, where there are some; and the kinds of memories on the chip.
use Rattle.std.proofs.Common.{◌≡◌, ℕ, ◌<◌, Bool, true, false, cond, List, [], ◌∷◌, length, Option, Some, None, refl}
use Rattle.std.specs.Prelude.{nat_lt}
use Rattle.std.proofs.lemmas.Bool.{ltb-true}
use Rattle.sp_words.specs.declared.kind.Kind.{Kind}
use Rattle.sp_words.specs.declared.kind.Kind.TheVariants.{Sram, LineBuf, Dram}
use Rattle.sp_words.specs.Memory.{Contents, cells}
use Rattle.sp_core.specs.Declarations.{mem, kind_of}
use Rattle.sp_core.specs.Events.{Act, reads, writes, turns, resets, Moment, touches}
use Rattle.sp_core.specs.PlainCore.{PlainCore}

abbrev pub word_or : Option Contents → ℕ
word_or (Some (cells (Some w ∷ []))) = w
word_or c = 0

abbrev pub act_word : Act → ℕ
act_word (reads w) = w
act_word (writes w) = w
act_word a = 0

abbrev pub act_or : Option Act → Act
act_or None = resets
act_or (Some a) = a

abbrev pub moment_act : Option Moment → Act
moment_act (Some (touches e)) = e.act
moment_act m = resets

abbrev pub moment_indices : Option Moment → List ℕ
moment_indices (Some (touches e)) = e.indices
moment_indices m = []

abbrev pub is_turning : Act → Bool
is_turning turns = true
is_turning a = false

-- a memory of a kind that isn't a DRAM's stands on the chip
pub on_chip : (core : PlainCore) (m : ℕ) (kind : Kind) → (Dram ≡ kind → ⊥) → kind_of core m ≡ kind → ((mem core m).kind ≡ kind) × (m < length core.mems)
on_chip core m kind other h = go (nat_lt m (length core.mems)) refl h
  where
    go : (b : Bool) → nat_lt m (length core.mems) ≡ b → cond b (mem core m).kind Dram ≡ kind → ((mem core m).kind ≡ kind) × (m < length core.mems)
    go true q e = (e, ltb-true m (length core.mems) q)
    go false q e = absurd (other e)

pub sram_there : (core : PlainCore) (m : ℕ) → kind_of core m ≡ Sram → ((mem core m).kind ≡ Sram) × (m < length core.mems)
sram_there core m h = on_chip core m Sram (λ e. cc) h

pub lines_there : (core : PlainCore) (m : ℕ) → kind_of core m ≡ LineBuf → ((mem core m).kind ≡ LineBuf) × (m < length core.mems)
lines_there core m h = on_chip core m LineBuf (λ e. cc) h
