-- The requests of takes.
use Rattle.std.proofs.Common.{◌≡◌, ℕ, zero, suc, ◌+◌, ◌*◌, ◌≤◌, List, [], ◌∷◌, flat_map, slice_index_or, All, refl, sym, ap, subst, ◌∙◌, arith}
use Rattle.std.specs.List.{AllZip}
use Rattle.sp_netlist.specs.Draft.{Draft}
use Rattle.sp_netlist.specs.Signals.{Signals}
use Rattle.sp_gates.specs.Nets.{Awaits}
use Rattle.sp_gates.specs.Grows.{Grows, Fills}
use Rattle.sp_gates.specs.Runs.{RunsOn}
use Rattle.sp_gates.proofs.Running.{runs_earlier}
use Rattle.sp_mem.specs.declared.part.Touch.{Touch}
use Rattle.sp_mem.specs.Copies.{copy_at}
use Rattle.sp_mem.specs.Fits.{words_of as touch_words, AreApart as TouchesApart}
use Rattle.sp_mem.proofs.Waiting.{awaits_kept, awaits_beside}
use Rattle.sp_taps.specs.declared.store.Store.{Store}
use Rattle.sp_taps.specs.Wires.{AreWires, wires_of}
use Rattle.sp_requests.specs.declared.part.Request.{Request}
use Rattle.sp_requests.proofs.Zips.{zip_kept, zip_at, zip_long}
use Rattle.sp_requests.proofs.Kept.{fits_kept}
use Rattle.sp_banked.specs.Readers.{ReaderFits, RunsReader, words_of, AreApart}
use Rattle.sp_banked.proofs.Asked.{no_wire}
use Rattle.sp_queue_copies.proofs.Lists.{touches_kept}
use Rattle.sp_queue.specs.declared.part.Queue.{Queue}
use Rattle.sp_words.specs.Types.{width_of}
use Rattle.sp_queue.specs.Takes.{IsTake, TakesFit, RunsTakes}

take_kept : (a b : Draft) (g : Grows a b) (none : ℕ) (touch : Touch) (r : Request) → IsTake a none touch r → IsTake b none touch r
take_kept a b g none touch r h = record { fits = fits_kept a b g r h.fits; word = h.word; duplicate = h.duplicate; bank = h.bank; copy = λ s run. h.copy s (runs_earlier a b s g run) }

pub takes_stay : (a b : Draft) (none : ℕ) (touches : List Touch) (rs : List Request) → Grows a b → AllZip (IsTake a none) touches rs → AllZip (IsTake b none) touches rs
takes_stay a b none touches rs g h = zip_kept (IsTake a none) (IsTake b none) touches rs (take_kept a b g none) h

pub take_words : (d : Draft) (none : ℕ) (touches : List Touch) (rs : List Request) → AllZip (IsTake d none) touches rs → words_of rs ≡ touch_words touches
take_words d none [] [] is = refl
take_words d none [] (r ∷ rs) is = absurd is
take_words d none (w ∷ ws) [] is = absurd is
take_words d none (w ∷ ws) (r ∷ rs) is = ap (λ x. x ∷ words_of rs) is.0.word ∙ ap (λ xs. w.word ∷ xs) (take_words d none ws rs is.1)

within_row : (duplicate copies count : ℕ) → duplicate ≡ 0 → count ≡ copies → duplicate * copies + copies ≤ count
within_row duplicate copies count e f = let m = ap (λ n. n * copies) e in omega (arith, m, f)

pub takers_fit : (d : Draft) (none width copies count : ℕ) (touches : List Touch) (rs : List Request) → AllZip (IsTake d none) touches rs → All (λ r. Awaits d r.word width) touches → count ≡ copies → All (ReaderFits d width count copies) rs
takers_fit d none width copies count [] [] is waits e k q m = absurd (omega (arith, m))
takers_fit d none width copies count [] (r ∷ rs) is waits e k q m = absurd is
takers_fit d none width copies count (w ∷ ws) [] is waits e k q m = absurd is
takers_fit d none width copies count (w ∷ ws) (r ∷ rs) is waits e zero q m = record {
  fits = is.0.fits;
  word = subst (λ n. Awaits d n width) (sym is.0.word) (waits 0 w (omega arith));
  within = within_row r.duplicate copies count is.0.duplicate e;
}
takers_fit d none width copies count (w ∷ ws) (r ∷ rs) is waits e (suc k) q m = takers_fit d none width copies count ws rs is.1 (λ j x l. waits (suc j) x (omega (arith, l))) e k q (omega (arith, m))

apart_at : (d : Draft) (none : ℕ) (w : Touch) (touches : List Touch) (rs : List Request) → AllZip (IsTake d none) touches rs → TouchesApart touches → AreApart rs
apart_at d none w touches rs is apart i k r m n same =
    let long = zip_long (IsTake d none) touches rs is in
    let first = zip_at (IsTake d none) touches rs i w r is (omega (arith, long, m, n)) in
    let second = zip_at (IsTake d none) touches rs k w r is (omega (arith, long, n)) in
    apart i k w m (omega (arith, long, n)) (sym first.word ∙ same ∙ second.word)

pub takers_apart : (d : Draft) (none : ℕ) (touches : List Touch) (rs : List Request) → AllZip (IsTake d none) touches rs → TouchesApart touches → AreApart rs
takers_apart d none [] [] is apart = λ i k r m n. absurd (omega (arith, n))
takers_apart d none [] (r ∷ rs) is apart = absurd is
takers_apart d none (w ∷ ws) rs is apart = apart_at d none w (w ∷ ws) rs is apart

module _ (d : Draft) (none : ℕ) (s : Signals) (run : RunsOn s d.cells) (off : (t : ℕ) → s.net t none ≡ 0) (copies : ℕ) (stores : List Store) where
  one_runs : (touch : Touch) (r : Request) → IsTake d none touch r → RunsReader s stores copies 1 r → RunsTakes s copies stores touch
  one_runs touch r is reads t l other =
      let c = copy_at s t touch.copy in
      let row : r.duplicate * copies + (c * 1 + 0) ≡ c = (let m = ap (λ n. n * copies) is.duplicate in omega (arith, m)) in
      ap (s.net (suc (suc t))) (sym is.word)
      ∙ reads t c 0 (omega arith) (omega (arith, l)) (is.copy s run t) (ap (s.net t) is.bank ∙ off t) other
      ∙ ap (λ n. s.net (suc t) (slice_index_or stores n other).found) row

  pub takers_run : (touches : List Touch) (rs : List Request) → AllZip (IsTake d none) touches rs → All (RunsReader s stores copies 1) rs → All (RunsTakes s copies stores) touches
  takers_run [] rs is reads k q m = absurd (omega (arith, m))
  takers_run (w ∷ ws) [] is reads k q m = absurd is
  takers_run (w ∷ ws) (r ∷ rs) is reads zero q m = one_runs w r is.0 (reads 0 r (omega arith))
  takers_run (w ∷ ws) (r ∷ rs) is reads (suc k) q m = takers_run ws rs is.1 (λ j x l. reads (suc j) x (omega (arith, l))) k q (omega (arith, m))

pub takes_fit_kept : (a b : Draft) (part : Queue) → Fills a b [] → TakesFit a part → TakesFit b part
takes_fit_kept a b part f h = record { takes = touches_kept a b f.grows part.takes.items h.takes; found = λ k r m. awaits_kept a b _ _ f (h.found k r m); apart = h.apart }

-- while the ports of banks are driven
pub takes_fit_beside : (a b : Draft) (part : Queue) (stores : List Store) → Fills a b (flat_map wires_of stores) → All (AreWires a (width_of part.ty)) stores → TakesFit a part → TakesFit b part
takes_fit_beside a b part stores f wires h = record {
  takes = touches_kept a b f.grows part.takes.items h.takes;
  found = λ k r m. awaits_beside a b _ _ (flat_map wires_of stores) f (no_wire a (width_of part.ty) (width_of part.ty) stores _ wires (h.found k r m)) (h.found k r m);
  apart = h.apart;
}
