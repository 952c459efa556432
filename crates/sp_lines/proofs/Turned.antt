-- The turns of a copy, one more at a time, and the registers that count them.
use Rattle.std.proofs.Common.{◌≡◌, ℕ, zero, suc, ◌+◌, ◌*◌, ◌%◌, ◌^◌, ◌<◌, ◌≤◌, ◌⊎◌, inl, inr, Bool, true, false, ◌||◌, if◌then◌else◌, List, [], ◌∷◌, ◌++◌, length, take, slice_index, slice_index_or, refl, sym, ap, subst, ◌∙◌, arith, length-append}
use Rattle.std.proofs.lemmas.List.{take_more, get_or_append_left, get_or_push}
use Rattle.std.proofs.lemmas.Bool.{cases_lt}
use Rattle.std.proofs.lemmas.List.Elements.{All-nil, All-push}
use Rattle.sp_netlist.specs.Draft.{Draft}
use Rattle.sp_netlist.specs.Signals.{Signals, Holds}
use Rattle.sp_gates.specs.Grows.{Grows}
use Rattle.sp_gates.specs.Nets.{HasNet}
use Rattle.sp_gates.specs.Runs.{RunsOn}
use Rattle.sp_gates.specs.Tested.{is_on}
use Rattle.sp_gates.proofs.Running.{runs_earlier}
use Rattle.sp_mem.specs.declared.part.Fresh.{Fresh}
use Rattle.sp_mem.specs.Copies.{is_at}
use Rattle.sp_mem.proofs.Kept.{nets_kept}
use Rattle.sp_lines.specs.Turns.{row_after, is_turned, CountsTurns, AreTurns, row_of}
use Rattle.sp_lines.proofs.Turning.{after_below, number_below}

or_false : (b : Bool) → (b || false) ≡ b
or_false true = refl
or_false false = refl

or_joined : (a b c : Bool) → (a || (b || c)) ≡ ((a || b) || c)
or_joined true b c = refl
or_joined false b c = refl

module _ (s : Signals) (t copy : ℕ) where
  turn_last : (fs : List Fresh) (f : Fresh) → is_turned s t copy (fs ++ f ∷ []) ≡ (is_turned s t copy fs || is_at s t f.enable f.copy copy)
  turn_last [] f = or_false (is_at s t f.enable f.copy copy)
  turn_last (x ∷ fs) f = ap (λ b. is_at s t x.enable x.copy copy || b) (turn_last fs f) ∙ or_joined (is_at s t x.enable x.copy copy) (is_turned s t copy fs) (is_at s t f.enable f.copy copy)

  pub turn_more : (fs : List Fresh) (i : ℕ) (f : Fresh) → i < length fs → f ≡ slice_index_or fs i f → is_turned s t copy (take (i + 1) fs) ≡ (is_turned s t copy (take i fs) || is_at s t f.enable f.copy copy)
  turn_more fs i f l e = ap (is_turned s t copy) (take_more fs i f l ∙ ap (λ x. take i fs ++ x ∷ []) (sym e)) ∙ turn_last (take i fs) f

-- a register that takes the next row where rows turn
module _ (s : Signals) (rows : ℕ) (turns : List Fresh) (copy net next on : ℕ) (some : 1 ≤ rows) (holds : Holds (λ t. s.net t net) 0 (λ t. s.net t on) (λ t. s.net t next)) (asked : (t : ℕ) → is_on s on t ≡ is_turned s t copy turns)
    (step : (t : ℕ) → s.net t net < rows → s.net t next ≡ row_after rows (s.net t net) 1) where
  goes_from : (t : ℕ) → s.net t net < rows → s.net (suc t) net ≡ (if is_turned s t copy turns then row_after rows (s.net t net) 1 else s.net t net)
  goes_from t l = holds.1 t ∙ rw (asked t, step t l) refl

  moved_below : (b : Bool) (row : ℕ) → row < rows → (if b then row_after rows row 1 else row) < rows
  moved_below true row l = after_below rows row 1 l some
  moved_below false row l = l

  stays_below : (t : ℕ) → s.net t net < rows
  stays_below zero = let first = holds.0 in omega (arith, first, some)
  stays_below (suc t) =
      let was = stays_below t in
      let now = goes_from t was in
      let below = moved_below (is_turned s t copy turns) (s.net t net) was in
      omega (arith, now, below)

  pub counts : CountsTurns s rows turns copy net
  counts = record { begins = holds.0; below = stays_below; goes = λ t. goes_from t (stays_below t) }

pub turns_kept : (a b : Draft) (rows : ℕ) (turns : List Fresh) (copies : ℕ) (nets : List ℕ) → Grows a b → AreTurns a rows turns copies nets → AreTurns b rows turns copies nets
turns_kept a b rows turns copies nets g h = record {
  each = h.each;
  stand = nets_kept a b g 32 nets h.stand;
  count = λ s run. h.count s (runs_earlier a b s g run);
}

-- the gates of a row's number
pub number_is : (s : Signals) (t rows copies : ℕ) (nets : List ℕ) (copy row : ℕ) (number turn place first net : ℕ) → copies * rows < 2 ^ 32 → copy < copies → row < rows → s.net t (slice_index nets copy) < rows
    → number ≡ copy → turn ≡ s.net t (slice_index nets copy) → place ≡ row_after rows turn row → first ≡ number * rows % 2 ^ 32 → net ≡ (first + place) % 2 ^ 32 → net ≡ row_of s t rows nets copy row
number_is s t rows copies nets copy row number turn place first net few l m below e f g h k =
    let spot : place ≡ row_after rows (s.net t (slice_index nets copy)) row = g ∙ ap (λ x. row_after rows x row) f in
    let small = after_below rows (s.net t (slice_index nets copy)) row below (omega (arith, m)) in
    let within = number_below rows copy (row_after rows (s.net t (slice_index nets copy)) row) copies l small in
    let base : first ≡ copy * rows % 2 ^ 32 = h ∙ ap (λ x. x * rows % 2 ^ 32) e in
    omega (arith, k, spot, base, within, few)

pub no_turns : (d : Draft) (rows : ℕ) (turns : List Fresh) → AreTurns d rows turns 0 []
no_turns d rows turns = record { each = refl; stand = All-nil (λ net. HasNet d net 32); count = λ s run copy l. absurd (omega (arith, l)) }

pushed : (s : Signals) (rows : ℕ) (turns : List Fresh) (nets : List ℕ) (net n : ℕ) → length nets ≡ n → ((copy : ℕ) → copy < n → CountsTurns s rows turns copy (slice_index nets copy)) → CountsTurns s rows turns n net
    → (copy : ℕ) → copy < n + 1 → CountsTurns s rows turns copy (slice_index (nets ++ net ∷ []) copy)
pushed s rows turns nets net n each old new copy l = go (split l)
  where
    split : copy < n + 1 → (copy < n) ⊎ (copy ≡ n)
    split h = elim (cases_lt copy n) [ inl below ↦ inl below | inr above ↦ inr (omega (arith, h, above)) ]

    go : (copy < n) ⊎ (copy ≡ n) → CountsTurns s rows turns copy (slice_index (nets ++ net ∷ []) copy)
    go (inl below) = subst (CountsTurns s rows turns copy) (sym (get_or_append_left nets (net ∷ []) 0 copy (omega (arith, each, below)))) (old copy below)
    go (inr same) = subst (CountsTurns s rows turns copy) (sym (get_or_push nets net 0 copy (each ∙ sym same))) (subst (λ k. CountsTurns s rows turns k net) (sym same) new)

-- the register of one copy more
pub turns_more : (a b : Draft) (rows : ℕ) (turns : List Fresh) (k : ℕ) (nets : List ℕ) (net : ℕ) → Grows a b → AreTurns a rows turns k nets → HasNet b net 32 → ((s : Signals) → RunsOn s b.cells → CountsTurns s rows turns k net)
    → AreTurns b rows turns (k + 1) (nets ++ net ∷ [])
turns_more a b rows turns k nets net g h stands counts_too =
    let was = turns_kept a b rows turns k nets g h in
    let long = was.each in
    record {
      each = length-append nets (net ∷ []) ∙ omega (arith, long);
      stand = All-push (λ n. HasNet b n 32) nets net was.stand stands;
      count = λ s run copy l. pushed s rows turns nets net k h.each (was.count s run) (counts_too s run) copy l;
    }
