-- The worked numbers.
use mathlib.Core.Path.{fun_ext}
use Rattle.std.proofs.Common.{◌≡◌, ℕ, ◌==◌, Bool, true, false, ◌||◌, if◌then◌else◌, Some, None, refl, sym, ap, ◌∙◌}
use Rattle.sp_gates.specs.Tested.{is_on}
use Rattle.sp_mem.specs.Copies.{copy_at}
use Rattle.sp_beat_words.specs.Example.{start, first}
use Rattle.sp_beat_words.specs.Numbers.{copy_number}
use Rattle.sp_tree_events.specs.CopiesStanding.{AreNumbered}
use Rattle.sp_tree_events.specs.CopiesExample.{waves, in_stage, in_copy, WorkedStanding}

on_start : (t : ℕ) → is_on waves 0 t ≡ start t
on_start t = by (start t)
  where
    by : (b : Bool) → ((if b then 1 else 0) == 1) ≡ b
    by true = refl
    by false = refl

on_first : (t : ℕ) → is_on waves 1 t ≡ first t
on_first t = by (first t)
  where
    by : (b : Bool) → ((if b then 1 else 0) == 1) ≡ b
    by true = refl
    by false = refl

numbered : (t c : ℕ) → copy_number start first 2 t ≡ c → AreNumbered waves t in_stage (in_copy c)
numbered t c h m = by (m == 1)
  where
    by : (b : Bool) → copy_at waves t (if b || false then Some 2 else None) ≡ (if b then c else 0)
    by true = h
    by false = refl

pub worked : WorkedStanding
unfolding copy_number
worked = record {
  own = refl;
  other = refl;
  net = λ t. sym (ap (λ f. copy_number f (is_on waves 1) 2 t) (fun_ext on_start) ∙ ap (λ f. copy_number start f 2 t) (fun_ext on_first));
  outside = λ t m. refl;
  first_group = numbered 3 0 refl;
  second_group = numbered 6 1 refl;
}
