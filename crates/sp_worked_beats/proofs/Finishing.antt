-- A draft that was begun anew, and in which all nets are driven, can be finished.
use Rattle.std.proofs.Common.{◌≡◌, ℕ, ◌+◌, ◌<◌, Bool, true, false, ◌||◌, cond, List, [], ◌∷◌, ◌++◌, length, refl, ap, subst, ◌∙◌, arith}
use Rattle.std.specs.Prelude.{count_by}
use Rattle.std.specs.List.{list_any}
use Rattle.std.proofs.lemmas.List.Sums.{sum_by-append}
use Rattle.sp_netlist.specs.Cells.{PlainCell, done_cell}
use Rattle.sp_netlist.specs.Draft.{Draft, CanAdd, IsComplete, IsDraft, driver_count}
use Rattle.sp_netlist.specs.Rules.{is_done}
use Rattle.sp_gates.specs.Grows.{Fills}
use Rattle.sp_gates.specs.Nets.{HasNet, IsOpen}
use Rattle.sp_gates.proofs.Growing.{complete}

none_counts : (cells : List PlainCell) → list_any is_done cells ≡ false → count_by is_done cells ≡ 0
none_counts [] h = refl
none_counts (x ∷ cells) h = by (is_done x) refl h (none_counts cells)
  where
    by : (b : Bool) → is_done x ≡ b → (b || list_any is_done cells) ≡ false → (list_any is_done cells ≡ false → count_by is_done cells ≡ 0) → count_by is_done (x ∷ cells) ≡ 0
    by true e h rest = absurd (cc)
    by false e h rest = let r = rest h in let one_if : Bool → ℕ = λ b. cond b 1 0 in let g : one_if (is_done x) ≡ 0 = ap one_if e in sum_by-append (λ y. cond (is_done y) 1 0) (x ∷ []) cells ∙ (omega (arith, r, g))

no_done : (begun d : Draft) → begun.cells ≡ [] → Fills begun d [] → count_by is_done d.cells ≡ 0
no_done begun d e f = ap (count_by is_done) (f.grows.stands ∙ ap (λ xs. xs ++ f.grows.added) e) ∙ none_counts f.grows.added f.grows.no_done

pub can_end : (begun d : Draft) (net : ℕ) → begun.cells ≡ [] → Fills begun d [] → HasNet d net 1 → CanAdd d (done_cell net)
can_end begun d net e f h = record { right = no_done begun d e f; drives_promised = tt; drives_new = tt; drives_apart = tt; reads_promised = (h.wide, tt); operands_ready = λ x. (h.ready, tt) }

pub finished : (begun d whole : Draft) (net : ℕ) → begun.promised ≡ [] → begun.cells ≡ [] → Fills begun d [] → IsDraft whole → whole.promised ≡ d.promised → whole.cells ≡ d.cells ++ done_cell net ∷ [] → ((n : ℕ) → driver_count whole.cells n ≡ driver_count d.cells n + 0) → IsComplete whole
finished begun d whole net none empty f draft same cells drivers =
    complete whole draft no_open (ap (count_by is_done) cells ∙ sum_by-append (λ x. cond (is_done x) 1 0) d.cells (done_cell net ∷ []) ∙ ap (λ n. n + 1) (no_done begun d empty f))
  where
    no_open : (n : ℕ) → IsOpen whole n → ⊥
    no_open n o =
        let within : n < length d.promised = subst (λ ps. n < length ps) same o.within in
        let undriven : driver_count d.cells n ≡ 0 = (let u = o.undriven in let v = drivers n in omega (arith, u, v)) in
        let first = (f.no_other n (record { within = within; undriven = undriven })).0 in
        let l : n < length begun.promised = first.within in
        let m : length begun.promised ≡ 0 = ap length none in
        omega (arith, l, m)
