-- A draft that begins with outputs alone, and in which all nets are driven, can be finished.
use Rattle.std.proofs.Common.{◌≡◌, ℕ, zero, suc, ◌+◌, ◌<◌, Bool, true, false, ◌||◌, cond, List, [], ◌∷◌, ◌++◌, length, Contains, Some, option_map, slice_get, slice_index, inl, refl, ap, subst, ◌∙◌, arith}
use Rattle.std.specs.Prelude.{count_by, codes, filter_map}
use Rattle.std.specs.List.{list_any}
use Rattle.std.proofs.lemmas.List.Sums.{sum_by-append}
use Rattle.sp_words.specs.Names.{IsName}
use Rattle.sp_words.specs.Types.{int_type}
use Rattle.sp_netlist.specs.Cells.{PlainCell, done_cell, out_cell}
use Rattle.sp_netlist.specs.Draft.{Draft, CanAdd, IsComplete, IsDraft, driver_count}
use Rattle.sp_netlist.specs.Rules.{is_done, out_name}
use Rattle.sp_gates.specs.Grows.{Builds}
use Rattle.sp_gates.specs.Nets.{Awaits, HasNet, IsOpen}
use Rattle.sp_gates.proofs.Growing.{complete, Awaits-stays}
use Rattle.sp_mem.proofs.Waiting.{awaits_open}
use Rattle.sp_taps.specs.Wires.{Promises}

none_counts : (cells : List PlainCell) → list_any is_done cells ≡ false → count_by is_done cells ≡ 0
none_counts [] h = refl
none_counts (x ∷ cells) h = by (is_done x) refl h (none_counts cells)
  where
    by : (b : Bool) → is_done x ≡ b → (b || list_any is_done cells) ≡ false → (list_any is_done cells ≡ false → count_by is_done cells ≡ 0) → count_by is_done (x ∷ cells) ≡ 0
    by true e h rest = absurd (cc)
    by false e h rest = let r = rest h in let one_if : Bool → ℕ = λ b. cond b 1 0 in let g : one_if (is_done x) ≡ 0 = ap one_if e in sum_by-append (λ y. cond (is_done y) 1 0) (x ∷ []) cells ∙ (omega (arith, r, g))

no_done : (begun d : Draft) (nets : List ℕ) → count_by is_done begun.cells ≡ 0 → Builds begun d nets → count_by is_done d.cells ≡ 0
no_done begun d nets none f =
    let rest = none_counts f.grows.added f.grows.no_done in
    let sum = sum_by-append (λ x. cond (is_done x) 1 0) begun.cells f.grows.added in
    ap (count_by is_done) f.grows.stands ∙ sum ∙ omega (arith, none, rest)

pub can_end : (begun d : Draft) (nets : List ℕ) (net : ℕ) → count_by is_done begun.cells ≡ 0 → Builds begun d nets → HasNet d net 1 → CanAdd d (done_cell net)
can_end begun d nets net none f h = record { right = no_done begun d nets none f; drives_promised = tt; drives_new = tt; drives_apart = tt; reads_promised = (h.wide, tt); operands_ready = λ x. (h.ready, tt) }

pub finished : (begun d whole : Draft) (nets : List ℕ) (net : ℕ) → count_by is_done begun.cells ≡ 0 → ((n : ℕ) → IsOpen begun n → Contains nets n) → Builds begun d nets → IsDraft whole → whole.promised ≡ d.promised
    → whole.cells ≡ d.cells ++ done_cell net ∷ [] → ((n : ℕ) → driver_count whole.cells n ≡ driver_count d.cells n + 0) → IsComplete whole
finished begun d whole nets net none stands f draft same cells drivers =
    complete whole draft no_open (ap (count_by is_done) cells ∙ sum_by-append (λ x. cond (is_done x) 1 0) d.cells (done_cell net ∷ []) ∙ ap (λ n. n + 1) (no_done begun d nets none f))
  where
    no_open : (n : ℕ) → IsOpen whole n → ⊥
    no_open n o =
        let within : n < length d.promised = subst (λ ps. n < length ps) same o.within in
        let undriven : driver_count d.cells n ≡ 0 = (let u = o.undriven in let v = drivers n in omega (arith, u, v)) in
        let before = f.no_other n (record { within = within; undriven = undriven }) in
        before.1 (stands n before.0)

-- an output may be added, where its name is a name, and new
pub can_output : (d : Draft) (name : List ℕ) (net : ℕ) → IsName name → (Contains (filter_map out_name d.cells) name → ⊥) → HasNet d net 32 → CanAdd d (out_cell name net int_type)
can_output d name net is fresh h = record { right = (is, fresh); drives_promised = tt; drives_new = tt; drives_apart = tt; reads_promised = (h.wide, tt); operands_ready = λ x. (h.ready, tt) }

pub promised_net : (d : Draft) (net : ℕ) → slice_get d.promised net ≡ Some (32, true) → HasNet d net 32
promised_net d net e = record { wide = ap (option_map (λ (p : ℕ × Bool). p.0)) e; ready = inl (ap (option_map (λ (p : ℕ × Bool). p.1)) e) }

pub no_name : (cells : List PlainCell) (name : List ℕ) → filter_map out_name cells ≡ [] → Contains (filter_map out_name cells) name → ⊥
no_name cells name e c = let k = subst (λ xs. Contains xs name) e c in let l = k.1 in absurd (omega (arith, l))

pub other_name : (cells : List PlainCell) → filter_map out_name cells ≡ codes "y" ∷ [] → Contains (filter_map out_name cells) (codes "z") → ⊥
other_name cells e c = go (subst (λ xs. Contains xs (codes "z")) e c)
  where
    go : Contains (codes "y" ∷ []) (codes "z") → ⊥
    go (zero, l, same) = let first : 121 ≡ 122 = ap (λ (xs : List ℕ). slice_index xs 0) same in absurd (omega (arith, first))
    go (suc k, l, same) = absurd (omega (arith, l))

-- a net of an output, where all nets and cells are known
pub out_awaits : (d : Draft) (promised : List (ℕ × Bool)) (cells : List PlainCell) (net known : ℕ) → d.promised ≡ promised → d.cells ≡ cells → net ≡ known → slice_get promised known ≡ Some (32, true) → driver_count cells known ≡ 0 → Awaits d net 32
out_awaits d promised cells net known e f g h k =
    let stands : slice_get d.promised net ≡ Some (32, true) = ap (λ ps. slice_get ps net) e ∙ ap (slice_get promised) g ∙ h in
    record {
      wide = ap (option_map (λ (p : ℕ × Bool). p.0)) stands;
      kept = ap (option_map (λ (p : ℕ × Bool). p.1)) stands;
      undriven = ap (λ cs. driver_count cs net) f ∙ ap (driver_count cells) g ∙ k;
    }

pub one_open : (promised : List (ℕ × Bool)) (y n : ℕ) → length promised ≡ 1 → y ≡ 0 → n < length promised → Contains (y ∷ []) n
one_open promised y n long e l = (0, omega arith, omega (arith, long, e, l))

pub two_open : (promised : List (ℕ × Bool)) (y z n : ℕ) → length promised ≡ 2 → y ≡ 0 → z ≡ 1 → n < length promised → Contains (y ∷ z ∷ []) n
two_open promised y z zero long e f l = (0, omega arith, omega (arith, e))
two_open promised y z (suc zero) long e f l = (1, omega arith, omega (arith, f))
two_open promised y z (suc (suc n)) long e f l = absurd (omega (arith, long, l))

-- a net that awaits its driver still does where others were promised
pub awaits_promises : (a b : Draft) (nets : List ℕ) (net : ℕ) → Promises a b nets → Awaits a net 32 → Awaits b net 32
awaits_promises a b nets net p h = Awaits-stays a b net 32 p.grows (p.still_open net (awaits_open a net 32 h)) h
